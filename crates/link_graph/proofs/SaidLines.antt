-- A whole schedule text: its first line at fault, and the one thing that it says.
use Rattle.std.proofs.Common.{◌≡◌, ◌≢◌, ℕ, ◌+◌, ◌<◌, List, [], ◌∷◌, ◌++◌, length, get_or, drop, map, All, Option, Some, None, refl, sym, ap, subst, ◌∙◌, append_assoc, arith, inl, inr}
use Rattle.std.specs.Prelude.{codes, IfSome, IsSome}
use Rattle.std.proofs.lemmas.Bool.{cases_lt}
use Rattle.std.specs.Fmt.{decimal}
use Rattle.std.proofs.lemmas.Fmt.{decimal_injective}
use Rattle.std.proofs.lemmas.List.{append-nil, append_cancel_left, length-append, length-map}
use Rattle.std.proofs.lemmas.List.Elements.{All-nil, All-cons, All-append, All-head, All-tail}
use Rattle.batch.specs.Text.{IsNumber, line_feed}
use Rattle.link_graph.specs.declared.schedule_fault.ScheduleFault.{ScheduleFault}
use Rattle.link_graph.specs.declared.schedule_fault.ScheduleFault.TheVariants.{Line, NoMemory}
use Rattle.link_graph.specs.declared.link.End.{End}
use Rattle.link_graph.specs.declared.link.Link.{Link}
use Rattle.batch.specs.declared.limits.TheConstants.{MAX_MODULES}
use Rattle.link_graph.specs.Certificates.{Naming, naming, IsNaming}
use Rattle.link_graph.specs.ScheduleText.{CertifiedSettings, said, CanName, CanSay, Says, settings_line, setting_line, busiest_line, named_line, naming_lines, certificate_lines, said_lines, text_of}
use Rattle.link_graph.specs.ScheduleFaults.{HasFirstLine, IsLine, Begins, AreSaid, AreCounted, AreCertified, IsFirstBadLine, IsFaultOf, IsFaultBelow}
use Rattle.link_graph.proofs.LineBreaks.{first_of, goes_on, one_list}
use Rattle.link_graph.proofs.LinkLines.{All-behind, word_lacks, numbers_injective, link_parts, one_end, one_module}
use Rattle.link_graph.proofs.Parts.{bad_line, cut_short, bad_after, bad_same, behind, fault_after, one_read, settings_line_within, setting_lines_within, busiest_line_within, named_line_within}
use Rattle.link_graph.proofs.CountedLines.{certified_there, certified_back, same_behind}
use Rattle.link_graph.proofs.CertificateLines.{none_line}

-- ---- the first line

begins_said : Begins AreSaid []
begins_said =
    record {
      more = said_lines (said [] None);
      wanted =
          record {
            says = said [] None;
            can_say = record {
              settings_fit = record { count = omega arith; transfers = All-nil (All IsNumber) };
              names_fit =
                  tt;
              link_named = tt;
            };
            spelled = refl;
          };
    }

pub no_first_line : (text : List ℕ) → IsLine text → IsFirstBadLine text 1
no_first_line text within = cut_short AreSaid text within begins_said (λ _ a. absurd (omega (arith, ap length a.spelled)))

pub bad_first_line : (text line rest : List ℕ) → HasFirstLine text line rest → ((n : ℕ) → IsNumber n → line ≢ settings_line n) → IsFirstBadLine text 1
bad_first_line text line rest read none =
    bad_line AreSaid text line rest read begins_said
    (λ more a. none (length a.says.settings) a.can_say.settings_fit.count (ap (λ (ls : List (List ℕ)). get_or ls 0 []) a.spelled))

pub one_count : (n m : ℕ) → IsNumber n → IsNumber m → settings_line n ≡ settings_line m → n ≡ m
one_count n m fn fm same = decimal_injective n m (omega arith) (omega arith) (append_cancel_left (codes "settings ") (decimal n) (decimal m) same)

said_there : (count : ℕ) (lines : List (List ℕ)) → AreCounted count lines → AreSaid (settings_line count ∷ lines)
said_there count lines a = record {
  says = a.says;
  can_say = a.can_say;
  spelled = ap (λ (n : ℕ). settings_line n ∷ lines) (sym a.counted) ∙ ap (λ (ls : List (List ℕ)). settings_line (length a.says.settings) ∷ ls) a.spelled;
}

said_back : (count : ℕ) (lines : List (List ℕ)) → IsNumber count → AreSaid (settings_line count ∷ lines) → AreCounted count lines
said_back count lines fits a = record {
  says = a.says;
  can_say = a.can_say;
  counted = one_count (length a.says.settings) count a.can_say.settings_fit.count fits (sym (ap (λ (ls : List (List ℕ)). get_or ls 0 []) a.spelled));
  spelled = ap (drop 1) a.spelled;
}

-- a fault after the first line is one of the text
pub counted_fault : (text line rest : List ℕ) (count : ℕ) (fault : ScheduleFault) → HasFirstLine text line rest → IsNumber count × (line ≡ settings_line count)
    → IsFaultBelow 1 (AreCounted count) rest fault → IsFaultOf text fault
counted_fault text line rest count (Line n) read counted f =
    rw f.1 (bad_after AreSaid (settings_line count ∷ []) text rest f.0 (All-cons IsLine (settings_line count) [] (settings_line_within count counted.0)
    (All-nil IsLine)) (one_read text (settings_line count) rest (headed text line rest count read.1 counted.1))
    (bad_same (AreCounted count) (behind (settings_line count ∷ []) AreSaid) rest f.0 (said_there count) (λ lines a. said_back count lines counted.0 a) f.2))
  where
    headed : (bytes first more : List ℕ) (n : ℕ) → bytes ≡ first ++ line_feed ∷ more → first ≡ settings_line n → bytes ≡ settings_line n ++ line_feed ∷ more
    headed bytes first more n parts is = parts ∙ ap (λ (l : List ℕ). l ++ line_feed ∷ more) is
counted_fault text line rest count NoMemory read counted f = record {
  count = count;
  is_number = counted.0;
  behind = rest;
  headed = read.1 ∙ ap (λ (l : List ℕ). l ++ line_feed ∷ rest) counted.1;
  keeps = f;
}

-- and so is a fault after the settings
pub certified_fault : (text line rest : List ℕ) (count : ℕ) (lists : List (List ℕ)) (after : List ℕ) (fault : ScheduleFault) → HasFirstLine text line rest
    → IsNumber count × (line ≡ settings_line count) → length lists ≡ count → All (All IsNumber) lists → rest ≡ text_of (map setting_line lists) ++ after
    → IsFaultBelow (count + 1) AreCertified after fault → IsFaultOf text fault
certified_fault text line rest count lists after fault read counted long fit spelled f =
    counted_fault text line rest count fault read counted
    (fault_after (AreCounted count) AreCertified (map setting_line lists) 1 (count + 1) rest after fault (setting_lines_within lists fit) spelled
    (omega (arith, length-map lists setting_line)) (λ lines a. certified_there count lists lines counted.0 long fit a)
    (λ lines a. certified_back count lists lines long a) f)

-- ---- what a text says

-- the lines of what can be said hold no line feed
certificate_lines_within : (certificate : Option Naming) → CanName certificate → All IsLine (certificate_lines certificate)
certificate_lines_within None fits = All-nil IsLine
certificate_lines_within (Some named) fits = by_link named.link fits.in_rack
  where
    by_link : (link : Option Link) → IfSome link (λ l. l.«module» < MAX_MODULES) → All IsLine (naming_lines link named.transfers)
    by_link None low = All-cons IsLine none_line [] (word_lacks line_feed none_line refl) (All-nil IsLine)
    by_link (Some link) low = All-cons IsLine (busiest_line link) (named_line named.transfers ∷ []) (busiest_line_within link low)
        (All-cons IsLine (named_line named.transfers) [] (named_line_within named.transfers fits.transfers) (All-nil IsLine))

said_lines_within : (s : CertifiedSettings) → CanSay s → All IsLine (said_lines s)
said_lines_within s can = All-cons IsLine (settings_line (length s.settings)) (map setting_line s.settings ++ certificate_lines s.certificate)
    (settings_line_within (length s.settings) can.settings_fit.count) (All-append IsLine (map setting_line s.settings) (certificate_lines s.certificate)
    (setting_lines_within s.settings can.settings_fit.transfers) (certificate_lines_within s.certificate can.names_fit))

one_settings : (a b : List (List ℕ)) (x y : List (List ℕ)) → All (All IsNumber) a → All (All IsNumber) b → length a ≡ length b → map setting_line a ++ x
    ≡ map setting_line b ++ y → a ≡ b
one_settings [] [] x y fa fb long same = refl
one_settings [] (t ∷ b) x y fa fb long same = absurd (omega arith)
one_settings (s ∷ a) [] x y fa fb long same = absurd (omega arith)
one_settings (s ∷ a) (t ∷ b) x y fa fb long same =
    let line : setting_line s ≡ setting_line t = ap (λ (ls : List (List ℕ)). get_or ls 0 []) same in
    let first : s ≡ t = numbers_injective s t (All-head (All IsNumber) s a fa) (All-head (All IsNumber) t b fb) (ap (drop 7) line) in
    let rest = one_settings a b x y (All-tail (All IsNumber) s a fa) (All-tail (All IsNumber) t b fb) (omega arith) (ap (drop 1) same) in
    ap (λ (h : List ℕ). h ∷ a) first ∙ ap (λ (l : List (List ℕ)). t ∷ l) rest

one_link : (a b : Link) → a.«module» < MAX_MODULES → b.«module» < MAX_MODULES → busiest_line a ≡ busiest_line b → a ≡ b
one_link a b la lb same =
    let after_word = append_cancel_left (codes "busiest link ") _ _ (sym (link_parts a) ∙ same ∙ link_parts b) in
    let end = one_end a.end b.end _ _ after_word in
    let number = one_module a.«module» b.«module» (omega arith) (omega arith) end.1 in
    ap (λ (e : End). record { end = e; «module» = a.«module» }) end.0 ∙ ap (λ (m : ℕ). record { end = b.end; «module» = m }) number

first_same : (xs ys : List (List ℕ)) → xs ≡ ys → get_or xs 0 [] ≡ get_or ys 0 []
first_same xs ys e = ap (λ (ls : List (List ℕ)). get_or ls 0 []) e

-- none is named without a link
none_without : (ts : List ℕ) → (0 < length ts → IsSome {T = Link} None) → ts ≡ []
none_without [] some = refl
none_without (t ∷ ts) some = let bad = some (omega arith) in absurd cc

one_naming : (x y : Option Link) (ts us : List ℕ) → IfSome x (λ l. l.«module» < MAX_MODULES) → IfSome y (λ l. l.«module» < MAX_MODULES) → All IsNumber ts
    → All IsNumber us → (0 < length ts → IsSome x) → (0 < length us → IsSome y) → naming_lines x ts ≡ naming_lines y us → naming x ts ≡ naming y us
one_naming None None ts us lx ly ft fu st su same = ap (naming None) (none_without ts st ∙ sym (none_without us su))
one_naming None (Some m) ts us lx ly ft fu st su same = absurd (omega (arith, ap length same))
one_naming (Some l) None ts us lx ly ft fu st su same = absurd (omega (arith, ap length same))
one_naming (Some l) (Some m) ts us lx ly ft fu st su same =
    let link = one_link l m lx ly (first_same _ _ same) in
    let transfers = numbers_injective ts us ft fu (ap (drop 5) (first_same _ _ (ap (drop 1) same))) in
    ap (λ (k : Link). naming (Some k) ts) link ∙ ap (naming (Some m)) transfers

some_lines : (named : Naming) → certificate_lines (Some named) ≡ [] → ⊥
some_lines named same = by_link named.link same
  where
    by_link : (link : Option Link) → naming_lines link named.transfers ≡ [] → ⊥
    by_link None e = omega (arith, ap length e)
    by_link (Some link) e = omega (arith, ap length e)

one_certificate : (a b : Option Naming) → CanName a → CanName b → IfSome a IsNaming → IfSome b IsNaming → certificate_lines a ≡ certificate_lines b → a ≡ b
one_certificate None None fa fb ia ib same = refl
one_certificate None (Some b) fa fb ia ib same = absurd (some_lines b (sym same))
one_certificate (Some a) None fa fb ia ib same = absurd (some_lines a same)
one_certificate (Some a) (Some b) fa fb ia ib same =
    ap Some (one_naming a.link b.link a.transfers b.transfers fa.in_rack fb.in_rack fa.transfers fb.transfers ia.both.1 ib.both.1 same)

-- a text says one thing
pub one_said : (text : List ℕ) (a b : CertifiedSettings) → Says text a → Says text b → a ≡ b
one_said text a b sa sb =
    let lines : said_lines a ≡ said_lines b = one_list (said_lines a) (said_lines b) (said_lines_within a sa.can_say) (said_lines_within b sb.can_say)
    (sym sa.spelled ∙ sb.spelled) in
    let count = one_count (length a.settings) (length b.settings) sa.can_say.settings_fit.count sb.can_say.settings_fit.count (first_same _ _ lines) in
    let after_first : map setting_line a.settings ++ certificate_lines a.certificate ≡ map setting_line b.settings ++ certificate_lines b.certificate =
    ap (drop 1) lines in
    let settings = one_settings a.settings b.settings _ _ sa.can_say.settings_fit.transfers sb.can_say.settings_fit.transfers count after_first in
    let certificate = one_certificate a.certificate b.certificate sa.can_say.names_fit sb.can_say.names_fit sa.can_say.link_named sb.can_say.link_named
    (same_behind (map setting_line a.settings) (map setting_line b.settings) _ _ (length-map a.settings setting_line ∙ count
    ∙ sym (length-map b.settings setting_line)) after_first) in
    ap (λ (x : List (List ℕ)). said x a.certificate) settings ∙ ap (said b.settings) certificate

-- ---- one first line at fault

-- where lines go on from those before a fault, there is none
no_fault_before : (text : List ℕ) (n : ℕ) (lines : List (List ℕ)) (other : List ℕ) (bad : IsFirstBadLine text n) → All IsLine lines → Begins AreSaid lines
    → text ≡ text_of lines ++ other → length bad.before < length lines → ⊥
no_fault_before text n lines other bad within begins parts less =
    let g = goes_on bad.before lines bad.rest other bad.within_lines within (omega arith) (sym bad.parts ∙ parts) in
    by_more g.more g.list g.text
  where
    shift : (a : List (List ℕ)) (l : List ℕ) (b c : List (List ℕ)) → (a ++ l ∷ b) ++ c ≡ (a ++ l ∷ []) ++ (b ++ c)
    shift a l b c = append_assoc a (l ∷ b) c ∙ sym (append_assoc a (l ∷ []) (b ++ c))

    by_more : (more : List (List ℕ)) → lines ≡ bad.before ++ more → bad.rest ≡ text_of more ++ other → ⊥
    by_more [] list rest = omega (arith, less, ap length list, length-append bad.before [])
    by_more (line ∷ more) list rest =
        let all_within : All IsLine (bad.before ++ line ∷ more) = subst (All IsLine) list within in
        bad.next_unwanted line (text_of more ++ other) (All-head IsLine line more (All-behind IsLine bad.before (line ∷ more) all_within))
        (rest ∙ first_of line more other)
        (record {
          more = more ++ begins.more;
          wanted =
              subst AreSaid (ap (λ (ls : List (List ℕ)). ls ++ begins.more) list ∙ shift bad.before line more begins.more) begins.wanted;
        })

pub says_or_faults : (text : List ℕ) (s : CertifiedSettings) (n : ℕ) → Says text s → IsFirstBadLine text n → ⊥
says_or_faults text s n says bad =
    let lines : List (List ℕ) = said_lines s in
    let within = said_lines_within s says.can_say in
    let whole : AreSaid lines = record { says = s; can_say = says.can_say; spelled = refl } in
    let parts : text ≡ text_of lines ++ [] = says.spelled ∙ sym (append-nil (text_of lines)) in
    elim (cases_lt (length bad.before) (length lines)) [
      | inl less ↦ no_fault_before text n lines [] bad within (record { more = []; wanted = subst AreSaid (sym (append-nil lines)) whole }) parts less
      | inr le ↦
          let g = goes_on lines bad.before [] bad.rest within bad.within_lines le (sym parts ∙ bad.parts) in
          let none = ends g.more bad.rest (sym g.text) in
          bad.unfinished none.1 (subst AreSaid (sym (g.list ∙ ap (λ (ls : List (List ℕ)). lines ++ ls) none.0 ∙ append-nil lines)) whole)
    ]
  where
    ends : (more : List (List ℕ)) (rest : List ℕ) → text_of more ++ rest ≡ [] → (more ≡ []) × (rest ≡ [])
    ends [] rest e = (refl, e)
    ends (line ∷ more) rest e = absurd (omega (arith, ap length (sym (first_of line more rest) ∙ e), length-append line (line_feed ∷ (text_of more ++ rest))))

pub one_bad_line : (text : List ℕ) (n m : ℕ) → IsFirstBadLine text n → IsFirstBadLine text m → n ≡ m
one_bad_line text n m p q =
    elim (cases_lt (length p.before) (length q.before)) [
      | inl less ↦ absurd (no_fault_before text n q.before q.rest p q.within_lines q.good q.parts less)
      | inr le ↦ elim (cases_lt (length q.before) (length p.before)) [
        | inl less ↦ absurd (no_fault_before text m p.before p.rest q p.within_lines p.good p.parts less)
        | inr ge ↦ omega (arith, p.number, q.number)
      ]
    ]
