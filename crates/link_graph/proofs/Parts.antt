-- The first line at fault of a text and of its parts.
use Rattle.std.proofs.Common.{◌≡◌, ◌≢◌, ℕ, ◌+◌, ◌<◌, List, [], ◌∷◌, ◌++◌, length, map, All, refl, sym, ap, subst, ◌∙◌, append_assoc, arith}
use Rattle.std.specs.Prelude.{codes}
use Rattle.std.specs.Fmt.{decimal}
use Rattle.std.proofs.lemmas.List.{length-append}
use Rattle.std.proofs.lemmas.List.Elements.{All-head, All-tail, All-nil, All-cons, All-append}
use Rattle.batch.specs.Text.{IsNumber, line_feed}
use Rattle.batch.specs.declared.limits.TheConstants.{MAX_MODULES}
use Rattle.link_graph.specs.declared.link.End.{End}
use Rattle.link_graph.specs.declared.link.End.TheVariants.{Zero, Three}
use Rattle.link_graph.specs.declared.link.Link.{Link}
use Rattle.link_graph.specs.declared.schedule_fault.ScheduleFault.{ScheduleFault}
use Rattle.link_graph.specs.declared.schedule_fault.ScheduleFault.TheVariants.{Line, NoMemory}
use Rattle.link_graph.specs.ScheduleText.{numbers, settings_line, setting_line, end_number, busiest_line, named_line, text_of}
use Rattle.link_graph.specs.ScheduleFaults.{HasFirstLine, IsLine, Begins, IsFirstBad, HasToKeep, IsFaultBelow}
use Rattle.link_graph.proofs.Texts.{text_of-append}
use Rattle.link_graph.proofs.LineBreaks.{no_break, one_line, first_of}
use Rattle.link_graph.proofs.LinkLines.{word_lacks, digits_lack, numbers_lack}

-- ---- any part

-- no line that stands at the front is wanted
pub bad_here : (P : List (List ℕ) → Type 0) (text : List ℕ) → Begins P [] → ((line after : List ℕ) (more : List (List ℕ)) → IsLine line → text ≡ line
    ++ line_feed ∷ after → P (line ∷ more) → ⊥) → (text ≡ [] → P [] → ⊥) → IsFirstBad P text 1
bad_here P text good unwanted unfinished = record {
  before = [];
  rest = text;
  parts = refl;
  within_lines = All-nil IsLine;
  number = refl;
  good = good;
  next_unwanted = λ line after within parts begins. unwanted line after begins.more within parts begins.wanted;
  unfinished = unfinished;
}

-- the line that stands at the front isn't wanted
pub bad_line : (P : List (List ℕ) → Type 0) (text line rest : List ℕ) → HasFirstLine text line rest → Begins P []
    → ((more : List (List ℕ)) → P (line ∷ more) → ⊥) → IsFirstBad P text 1
bad_line P text line rest read good unwanted = bad_here P text good
    (λ other after more within parts wanted. unwanted more
    (subst (λ (l : List ℕ). P (l ∷ more)) (one_line other line after rest within read.0 (sym parts ∙ read.1)).0 wanted))
    (λ empty. absurd (omega (arith, ap length (sym read.1 ∙ empty), length-append line (line_feed ∷ rest))))

-- no whole line stands there
pub cut_short : (P : List (List ℕ) → Type 0) (text : List ℕ) → IsLine text → Begins P [] → (text ≡ [] → P [] → ⊥) → IsFirstBad P text 1
cut_short P text within good unfinished = bad_here P text good (λ line after more inside parts. absurd (no_break text line after within parts)) unfinished

-- what a part wants after its first lines
abbrev pub behind : List (List ℕ) → (List (List ℕ) → Type 0) → List (List ℕ) → Type 0
behind ls P more = P (ls ++ more)

begins_after : (P : List (List ℕ) → Type 0) (ls lines : List (List ℕ)) → Begins (behind ls P) lines → Begins P (ls ++ lines)
begins_after P ls lines b = record { more = b.more; wanted = subst P (sym (append_assoc ls lines b.more)) b.wanted }

after_begins : (P : List (List ℕ) → Type 0) (ls lines : List (List ℕ)) → Begins P (ls ++ lines) → Begins (behind ls P) lines
after_begins P ls lines b = record { more = b.more; wanted = subst P (append_assoc ls lines b.more) b.wanted }

more_text : (text rest : List ℕ) (ls before : List (List ℕ)) (after : List ℕ) → text ≡ text_of ls ++ rest → rest ≡ text_of before ++ after → text
    ≡ text_of (ls ++ before) ++ after
more_text text rest ls before after parts more =
    parts ∙ ap (λ (x : List ℕ). text_of ls ++ x) more ∙ sym (append_assoc (text_of ls) (text_of before) after)
    ∙ ap (λ (x : List ℕ). x ++ after) (sym (text_of-append ls before))

-- the first fault of what stands after good lines is that of the whole
pub bad_after : (P : List (List ℕ) → Type 0) (ls : List (List ℕ)) (text rest : List ℕ) (m : ℕ) → All IsLine ls → text ≡ text_of ls ++ rest
    → IsFirstBad (behind ls P) rest m → IsFirstBad P text (length ls + m)
bad_after P ls text rest m within parts bad = record {
  before = ls ++ bad.before;
  rest = bad.rest;
  parts = more_text text rest ls bad.before bad.rest parts bad.parts;
  within_lines = All-append IsLine ls bad.before within bad.within_lines;
  number = omega (arith, bad.number, length-append ls bad.before);
  good = begins_after P ls bad.before bad.good;
  next_unwanted = λ line after inside more begins. bad.next_unwanted line after inside more
      (after_begins P ls (bad.before ++ line ∷ []) (subst (Begins P) (append_assoc ls bad.before (line ∷ [])) begins));
  unfinished = bad.unfinished;
}

-- two parts that want the same
pub bad_same : (P Q : List (List ℕ) → Type 0) (text : List ℕ) (m : ℕ) → ((lines : List (List ℕ)) → P lines → Q lines)
    → ((lines : List (List ℕ)) → Q lines → P lines) → IsFirstBad P text m → IsFirstBad Q text m
bad_same P Q text m there back bad = record {
  before = bad.before;
  rest = bad.rest;
  parts = bad.parts;
  within_lines = bad.within_lines;
  number = bad.number;
  good = record { more = bad.good.more; wanted = there (bad.before ++ bad.good.more) bad.good.wanted };
  next_unwanted = λ line after within parts begins. bad.next_unwanted line after within parts
      (record { more = begins.more; wanted = back ((bad.before ++ line ∷ []) ++ begins.more) begins.wanted });
  unfinished = λ empty whole. bad.unfinished empty (back bad.before whole);
}

pub keep_after : (P Q : List (List ℕ) → Type 0) (ls : List (List ℕ)) (text rest : List ℕ) → text ≡ text_of ls ++ rest
    → ((lines : List (List ℕ)) → Q lines → P (ls ++ lines)) → HasToKeep Q rest → HasToKeep P text
keep_after P Q ls text rest parts there k = record {
  before = ls ++ k.before;
  line = k.line;
  rest = k.rest;
  parts = more_text text rest ls k.before (k.line ++ k.rest) parts k.parts;
  good = subst (Begins P) (sym (append_assoc ls k.before (k.line ∷ [])))
      (begins_after P ls (k.before ++ k.line ∷ []) (record { more = k.good.more; wanted = there ((k.before ++ k.line ∷ []) ++ k.good.more) k.good.wanted }));
  kept = k.kept;
}

-- the same for either fault, where so many lines stand above
pub fault_after : (P Q : List (List ℕ) → Type 0) (ls : List (List ℕ)) (above lower : ℕ) (text rest : List ℕ) (fault : ScheduleFault) → All IsLine ls → text
    ≡ text_of ls ++ rest → lower ≡ above + length ls → ((lines : List (List ℕ)) → Q lines → P (ls ++ lines))
    → ((lines : List (List ℕ)) → P (ls ++ lines) → Q lines) → IsFaultBelow lower Q rest fault → IsFaultBelow above P text fault
fault_after P Q ls above lower text rest (Line n) within parts at there back f =
    (length ls + f.0, omega (arith, f.1, at), bad_after P ls text rest f.0 within parts (bad_same Q (behind ls P) rest f.0 there back f.2))
fault_after P Q ls above lower text rest NoMemory within parts at there back f = keep_after P Q ls text rest parts there f

-- one line that was read
pub one_read : (text line rest : List ℕ) → text ≡ line ++ line_feed ∷ rest → text ≡ text_of (line ∷ []) ++ rest
one_read text line rest parts = parts ∙ sym (first_of line [] rest)

-- ---- lines hold no line feed

pub settings_line_within : (n : ℕ) → IsNumber n → IsLine (settings_line n)
settings_line_within n fits = All-append (λ c. c ≢ line_feed) (codes "settings ") (decimal n) (word_lacks line_feed (codes "settings ") refl)
    (digits_lack line_feed n (omega arith) fits)

pub setting_line_within : (ts : List ℕ) → All IsNumber ts → IsLine (setting_line ts)
setting_line_within ts fit = All-append (λ c. c ≢ line_feed) (codes "setting") (numbers ts) (word_lacks line_feed (codes "setting") refl) (numbers_lack ts fit)

pub named_line_within : (ts : List ℕ) → All IsNumber ts → IsLine (named_line ts)
named_line_within ts fit = All-append (λ c. c ≢ line_feed) (codes "named") (numbers ts) (word_lacks line_feed (codes "named") refl) (numbers_lack ts fit)

end_fits : (link : Link) → IsNumber (end_number link.end)
end_fits link = by_end link.end
  where
    by_end : (end : End) → IsNumber (end_number end)
    by_end Zero = omega arith
    by_end Three = omega arith

pub busiest_line_within : (link : Link) → link.«module» < MAX_MODULES → IsLine (busiest_line link)
busiest_line_within link low =
    let P : ℕ → Type 0 = λ c. c ≢ line_feed in
    All-append P (codes "busiest link " ++ decimal (end_number link.end) ++ codes " module ") (decimal link.«module»)
    (All-append P (codes "busiest link " ++ decimal (end_number link.end)) (codes " module ")
    (All-append P (codes "busiest link ") (decimal (end_number link.end)) (word_lacks line_feed (codes "busiest link ") refl)
    (digits_lack line_feed (end_number link.end) (omega arith) (end_fits link)))
    (word_lacks line_feed (codes " module ") refl))
    (digits_lack line_feed link.«module» (omega arith) (omega arith))

pub setting_lines_within : (settings : List (List ℕ)) → All (All IsNumber) settings → All IsLine (map setting_line settings)
setting_lines_within [] fit = All-nil IsLine
setting_lines_within (s ∷ settings) fit = All-cons IsLine (setting_line s) (map setting_line settings)
    (setting_line_within s (All-head (All IsNumber) s settings fit)) (setting_lines_within settings (All-tail (All IsNumber) s settings fit))
