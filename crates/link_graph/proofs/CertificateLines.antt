-- The lines of a certificate part, after those of the settings.
use Rattle.std.proofs.Common.{inr, ◌≡◌, ◌≢◌, ℕ, ◌+◌, ◌<◌, List, [], ◌∷◌, ◌++◌, length, get_or, drop, All, Option, Some, None, refl, sym, ap, ◌∙◌, append_assoc, arith}
use Rattle.std.specs.Prelude.{codes, IfSome, IsSome}
use Rattle.std.proofs.lemmas.List.{append-nil, nil_from_length}
use Rattle.std.proofs.lemmas.List.Elements.{All-nil, All-cons}
use Rattle.batch.specs.Text.{IsNumber, line_feed}
use Rattle.batch.specs.declared.limits.TheConstants.{MAX_MODULES}
use Rattle.link_graph.specs.declared.link.Link.{Link}
use Rattle.link_graph.specs.declared.schedule_fault.ScheduleFault.{ScheduleFault}
use Rattle.link_graph.specs.declared.schedule_fault.ScheduleFault.TheVariants.{Line, NoMemory}
use Rattle.link_graph.specs.Certificates.{Naming, naming, IsNaming}
use Rattle.link_graph.specs.ScheduleText.{CanName, numbers, busiest_line, named_line, naming_lines, certificate_lines, text_of}
use Rattle.link_graph.specs.ScheduleFaults.{HasFirstLine, IsLine, Begins, IsFirstBad, AreCertified, AreNamed, IsFaultBelow, IsLineFault}
use Rattle.link_graph.proofs.Parts.{bad_here, bad_line, cut_short, behind, bad_after, fault_after, one_read, busiest_line_within}
use Rattle.link_graph.proofs.LinkLines.{numbers_injective}

-- `busiest none`
abbrev pub none_line : List ℕ
none_line = codes "busiest none"

lines_within : (line : List ℕ) → IsLine line → All IsLine (line ∷ [])
lines_within line within = All-cons IsLine line [] within (All-nil IsLine)

-- ---- the named transfers

pub naming_of : (link : Link) (ts : List ℕ) → 0 < length ts → IsNaming (naming (Some link) ts)
naming_of link ts some = record { both = (λ _. some, λ _. refl) }

begins_named : Begins AreNamed []
begins_named =
    record {
      more = named_line (0 ∷ []) ∷ [];
      wanted =
          record { transfers = 0 ∷ []; some = omega arith; fit = All-cons IsNumber 0 [] (omega arith) (All-nil IsNumber); spelled = refl };
    }

named_whole : AreNamed [] → ⊥
named_whole a = absurd (omega (arith, ap length a.spelled))

at_next : (above : ℕ) (P : List (List ℕ) → Type 0) (text : List ℕ) (n : ℕ) → n ≡ above + 1 → IsFirstBad P text 1 → IsFaultBelow above P text (Line n)
at_next above P text n at bad = (1, at, bad)

pub no_named_line : (above : ℕ) (text : List ℕ) → IsLine text → IsFaultBelow above AreNamed text (Line (above + 1))
no_named_line above text within = at_next above AreNamed text (above + 1) refl (cut_short AreNamed text within begins_named (λ _. named_whole))

pub bad_named_line : (above : ℕ) (text line rest : List ℕ) (fault : ScheduleFault) → HasFirstLine text line rest → IsLineFault (above + 1) (codes "named") line
    fault → IsFaultBelow above AreNamed text fault
bad_named_line above text line rest (Line n) read f =
    at_next above AreNamed text n f.0
    (bad_line AreNamed text line rest read begins_named (λ more a. f.1 a.transfers a.fit (ap (λ (ls : List (List ℕ)). get_or ls 0 []) a.spelled)))
bad_named_line above text line rest NoMemory read f = record {
  before = [];
  line = named_line f.transfers;
  rest = f.rest ++ line_feed ∷ rest;
  parts = read.1 ∙ ap (λ (x : List ℕ). x ++ line_feed ∷ rest) f.spelled ∙ append_assoc (named_line f.transfers) f.rest (line_feed ∷ rest);
  good = record { more = []; wanted = record { transfers = f.transfers; some = f.some; fit = f.fit; spelled = refl } };
  kept = (f.transfers, inr (refl, f.some));
}

-- at least one transfer is named
pub none_named : (above : ℕ) (text line rest ts : List ℕ) → HasFirstLine text line rest → line ≡ named_line ts → ts ≡ []
    → IsFaultBelow above AreNamed text (Line (above + 1))
none_named above text line rest ts read spelled empty =
    at_next above AreNamed text (above + 1) refl (bad_line AreNamed text line rest read begins_named (λ more a. bad more a))
  where
    bad : (more : List (List ℕ)) → AreNamed (line ∷ more) → ⊥
    bad more a =
        let line_is : line ≡ named_line a.transfers = ap (λ (ls : List (List ℕ)). get_or ls 0 []) a.spelled in
        let same : numbers [] ≡ numbers a.transfers = ap (drop 5) (sym (spelled ∙ ap named_line empty) ∙ line_is) in
        omega (arith, a.some, ap length (numbers_injective [] a.transfers (All-nil IsNumber) a.fit same))

-- nothing follows the named transfers
pub after_named : (above : ℕ) (text line rest ts : List ℕ) → HasFirstLine text line rest → All IsNumber ts → line ≡ named_line ts → 0 < length ts
    → 0 < length rest → IsFaultBelow above AreNamed text (Line (above + 2))
after_named above text line rest ts read fit spelled some more =
    (2, refl, bad_after AreNamed (line ∷ []) text rest 1 (lines_within line read.0) (one_read text line rest read.1) bad)
  where
    bad : IsFirstBad (behind (line ∷ []) AreNamed) rest 1
    bad = bad_here (behind (line ∷ []) AreNamed) rest
        (record { more = []; wanted = record { transfers = ts; some = some; fit = fit; spelled = ap (λ (l : List ℕ). l ∷ []) spelled } })
        (λ other after lines within parts a. absurd (omega (arith, ap length a.spelled)))
        (λ empty. absurd (omega (arith, ap length empty)))

-- ---- the whole part

-- the text is the one line that was read
pub one_text : (text line rest : List ℕ) → text ≡ line ++ line_feed ∷ rest → length rest ≡ 0 → text ≡ text_of (line ∷ [])
one_text text line rest parts empty = one_read text line rest parts ∙ ap (λ (x : List ℕ). text_of (line ∷ []) ++ x) (nil_from_length rest empty)
    ∙ append-nil (text_of (line ∷ []))

begins_certified : Begins AreCertified []
begins_certified = record { more = []; wanted = record { certificate = None; names_fit = tt; link_named = tt; spelled = refl } }

pub no_certificate_line : (above : ℕ) (text : List ℕ) → IsLine text → 0 < length text → IsFaultBelow above AreCertified text (Line (above + 1))
no_certificate_line above text within some = at_next above AreCertified text (above + 1) refl
    (cut_short AreCertified text within begins_certified (λ empty. absurd (omega (arith, ap length empty))))

-- the first line of a certificate part
first_certified : (line : List ℕ) (more : List (List ℕ)) (certificate : Option Naming) → CanName certificate → line ∷ more ≡ certificate_lines certificate
    → line ≢ none_line → ((link : Link) → link.«module» < MAX_MODULES → line ≢ busiest_line link) → ⊥
first_certified line more None fits spelled none other = absurd (omega (arith, ap length spelled))
first_certified line more (Some named) fits spelled none other = by_link named.link fits.in_rack spelled
  where
    first : (lines : List (List ℕ)) → line ∷ more ≡ lines → line ≡ get_or lines 0 []
    first lines e = ap (λ (ls : List (List ℕ)). get_or ls 0 []) e

    by_link : (link : Option Link) → IfSome link (λ l. l.«module» < MAX_MODULES) → line ∷ more ≡ naming_lines link named.transfers → ⊥
    by_link None low e = none (first _ e)
    by_link (Some link) low e = other link low (first _ e)

pub bad_certificate_line : (above : ℕ) (text line rest : List ℕ) → HasFirstLine text line rest → line ≢ none_line
    → ((link : Link) → link.«module» < MAX_MODULES → line ≢ busiest_line link) → IsFaultBelow above AreCertified text (Line (above + 1))
bad_certificate_line above text line rest read none other =
    at_next above AreCertified text (above + 1) refl
    (bad_line AreCertified text line rest read begins_certified (λ more a. first_certified line more a.certificate a.names_fit a.spelled none other))

differ : (x y : List ℕ) → get_or x 8 0 ≡ 108 → get_or y 8 0 ≡ 110 → x ≡ y → ⊥
differ x y p q same = let bytes : 108 ≡ 110 = sym p ∙ ap (λ (bs : List ℕ). get_or bs 8 0) same ∙ q in omega (arith, bytes)

-- `busiest none` ends a certificate part
behind_none : (other : List ℕ) (more : List (List ℕ)) (certificate : Option Naming) → none_line ∷ other ∷ more ≡ certificate_lines certificate → ⊥
behind_none other more None spelled = absurd (omega (arith, ap length spelled))
behind_none other more (Some named) spelled = by_link named.link spelled
  where
    by_link : (link : Option Link) → none_line ∷ other ∷ more ≡ naming_lines link named.transfers → ⊥
    by_link None e = absurd (omega (arith, ap length e))
    by_link (Some link) e = differ (busiest_line link) none_line refl refl (sym (ap (λ (ls : List (List ℕ)). get_or ls 0 []) e))

pub no_naming : IsNaming (naming None [])
no_naming = record { both = (λ h. absurd cc, λ less. absurd (omega (arith, less))) }

pub after_no_link : (above : ℕ) (text line rest : List ℕ) → HasFirstLine text line rest → line ≡ none_line → 0 < length rest
    → IsFaultBelow above AreCertified text (Line (above + 2))
after_no_link above text line rest read spelled more =
    (2, refl, bad_after AreCertified (line ∷ []) text rest 1 (lines_within line read.0) (one_read text line rest read.1) bad)
  where
    bad : IsFirstBad (behind (line ∷ []) AreCertified) rest 1
    bad = bad_here (behind (line ∷ []) AreCertified) rest
        (record {
          more = [];
          wanted = record {
            certificate = Some (naming None []);
            names_fit = record { in_rack = tt; transfers = All-nil IsNumber };
            link_named = no_naming;
            spelled = ap (λ (l : List ℕ). l ∷ []) spelled;
          };
        })
        (λ other after lines within parts a. behind_none other lines a.certificate (ap (λ (l : List ℕ). l ∷ other ∷ lines) (sym spelled) ∙ a.spelled))
        (λ empty. absurd (omega (arith, ap length empty)))

named_there : (link : Link) (lines : List (List ℕ)) → link.«module» < MAX_MODULES → AreNamed lines → AreCertified (busiest_line link ∷ lines)
named_there link lines low a = record {
  certificate = Some (naming (Some link) a.transfers);
  names_fit = record { in_rack = low; transfers = a.fit };
  link_named = naming_of link a.transfers a.some;
  spelled = ap (λ (ls : List (List ℕ)). busiest_line link ∷ ls) a.spelled;
}

named_back : (link : Link) (lines : List (List ℕ)) (certificate : Option Naming) → CanName certificate → IfSome certificate IsNaming → busiest_line link ∷ lines
    ≡ certificate_lines certificate → AreNamed lines
named_back link lines None fits is spelled = absurd (omega (arith, ap length spelled))
named_back link lines (Some named) fits is spelled = by_link named.link is.both.0 spelled
  where
    by_link : (other : Option Link) → (IsSome other → 0 < length named.transfers) → busiest_line link ∷ lines ≡ naming_lines other named.transfers
        → AreNamed lines
    by_link None some e = absurd (differ (busiest_line link) none_line refl refl (ap (λ (ls : List (List ℕ)). get_or ls 0 []) e))
    by_link (Some other) some e = record { transfers = named.transfers; some = some refl; fit = fits.transfers; spelled = ap (drop 1) e }

-- a fault of the named transfers is one of the part
pub named_fault : (above : ℕ) (text line rest : List ℕ) (link : Link) (fault : ScheduleFault) → HasFirstLine text line rest → (link.«module» < MAX_MODULES)
    × (line ≡ busiest_line link) → IsFaultBelow (above + 1) AreNamed rest fault → IsFaultBelow above AreCertified text fault
named_fault above text line rest link fault read named f =
    fault_after AreCertified AreNamed (busiest_line link ∷ []) above (above + 1) text rest fault
    (lines_within (busiest_line link) (busiest_line_within link named.0))
    (one_read text (busiest_line link) rest (read.1 ∙ ap (λ (l : List ℕ). l ++ line_feed ∷ rest) named.1)) refl
    (λ lines a. named_there link lines named.0 a) (λ lines a. named_back link lines a.certificate a.names_fit a.link_named a.spelled) f
