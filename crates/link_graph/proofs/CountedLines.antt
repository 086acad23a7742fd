-- The lines of the settings, after the line that counts them.
use Rattle.std.proofs.Common.{inl, ◌≡◌, ◌≢◌, ℕ, ◌+◌, ◌-◌, ◌<◌, ◌≤◌, List, [], ◌∷◌, ◌++◌, length, get_or, drop, map, replicate, All, None, refl, sym, ap, subst, ◌∙◌, append_assoc, arith}
use Rattle.std.specs.Prelude.{codes}
use Rattle.std.proofs.lemmas.List.{append-nil, length-append, length-map, length-replicate, map-append, map_push, get_or_at, get_or_append_left, get_or-map, drop_at, length_push}
use Rattle.std.proofs.lemmas.List.Elements.{All-nil, All-append, All-push, All-replicate, All-get_or}
use Rattle.batch.specs.Text.{IsNumber, line_feed}
use Rattle.link_graph.specs.declared.schedule_fault.ScheduleFault.{ScheduleFault}
use Rattle.link_graph.specs.declared.schedule_fault.ScheduleFault.TheVariants.{Line, NoMemory}
use Rattle.link_graph.specs.ScheduleText.{said, setting_line, certificate_lines, text_of}
use Rattle.link_graph.specs.ScheduleFaults.{HasFirstLine, IsLine, Begins, IsFirstBad, AreCounted, AreCertified, HasToKeep, IsFaultBelow, IsLineFault}
use Rattle.link_graph.proofs.Parts.{bad_line, cut_short, behind, bad_after, setting_lines_within}

-- the lines of these settings stand at the front of the text, and then the rest
pub record AreListed (text : List ℕ) (lists : List (List ℕ)) (rest : List ℕ) : Type 0 where
  pub fit : All (All IsNumber) lists
  pub spelled : text ≡ text_of (map setting_line lists) ++ rest

-- ---- what is wanted there

pub same_behind : (a b x y : List (List ℕ)) → length a ≡ length b → a ++ x ≡ b ++ y → x ≡ y
same_behind a b x y long same = sym (drop_at a x (length b) long) ∙ ap (drop (length b)) same ∙ drop_at b y (length b) refl

pub certified_there : (count : ℕ) (lists lines : List (List ℕ)) → IsNumber count → length lists ≡ count → All (All IsNumber) lists → AreCertified lines
    → AreCounted count (map setting_line lists ++ lines)
certified_there count lists lines fits counted fit c = record {
  says = said lists c.certificate;
  can_say = record { settings_fit = record { count = rw counted fits; transfers = fit }; names_fit = c.names_fit; link_named = c.link_named };
  counted = counted;
  spelled = ap (λ (x : List (List ℕ)). map setting_line lists ++ x) c.spelled;
}

pub certified_back : (count : ℕ) (lists lines : List (List ℕ)) → length lists ≡ count → AreCounted count (map setting_line lists ++ lines) → AreCertified lines
certified_back count lists lines counted c = record {
  certificate = c.says.certificate;
  names_fit = c.can_say.names_fit;
  link_named = c.can_say.link_named;
  spelled = same_behind (map setting_line lists) (map setting_line c.says.settings) lines (certificate_lines c.says.certificate)
      (omega (arith, length-map lists setting_line, length-map c.says.settings setting_line, c.counted)) c.spelled;
}

-- so many good settings are wanted, where there aren't more than counted
begins_settings : (count : ℕ) (lists : List (List ℕ)) → IsNumber count → All (All IsNumber) lists → length lists ≤ count
    → Begins (AreCounted count) (map setting_line lists)
begins_settings count lists fits fit le =
    let left : List (List ℕ) = replicate (count - length lists) [] in
    let long : length (lists ++ left) ≡ count = omega (arith, length-append lists left, length-replicate {A = List ℕ} (count - length lists) []) in
    record {
      more = map setting_line left;
      wanted = record {
        says = said (lists ++ left) None;
        can_say = record {
          settings_fit =
              record {
                count = rw long fits;
                transfers = All-append (All IsNumber) lists left fit
                    (All-replicate (All IsNumber) (count - length lists) [] (All-nil IsNumber));
              };
          names_fit = tt;
          link_named = tt;
        };
        counted = long;
        spelled = sym (map-append setting_line lists left) ∙ sym (append-nil (map setting_line (lists ++ left)));
      };
    }

begins_next : (count : ℕ) (lists : List (List ℕ)) → IsNumber count → All (All IsNumber) lists → length lists ≤ count
    → Begins (behind (map setting_line lists) (AreCounted count)) []
begins_next count lists fits fit le = let b = begins_settings count lists fits fit le in record { more = b.more; wanted = b.wanted }

-- where settings are left, the next line is that of a setting
next_is_setting : (count : ℕ) (lists : List (List ℕ)) (line : List ℕ) (more : List (List ℕ)) → length lists < count
    → ((ts : List ℕ) → All IsNumber ts → line ≢ setting_line ts) → AreCounted count (map setting_line lists ++ line ∷ more) → ⊥
next_is_setting count lists line more less none c =
    let settings : List (List ℕ) = c.says.settings in
    let k : ℕ = length lists in
    let within : k < length settings = omega (arith, c.counted) in
    let here : line ≡ get_or (map setting_line settings ++ certificate_lines c.says.certificate) k [] =
    sym (get_or_at (map setting_line lists) line more [] k (length-map lists setting_line)) ∙ ap (λ (ls : List (List ℕ)). get_or ls k []) c.spelled in
    let there = get_or_append_left (map setting_line settings) (certificate_lines c.says.certificate) [] k (omega (arith, length-map settings setting_line)) in
    none (get_or settings k []) (All-get_or (All IsNumber) settings k [] within c.can_say.settings_fit.transfers)
    (here ∙ there ∙ get_or-map setting_line settings k [] [] within)

-- where settings are left, the text isn't whole
settings_left : (count : ℕ) (lists : List (List ℕ)) → length lists < count → AreCounted count (map setting_line lists ++ []) → ⊥
settings_left count lists less c =
    omega (
      arith,
      less,
      c.counted,
      ap length c.spelled,
      length-append (map setting_line lists) [],
      length-append (map setting_line c.says.settings)
          (certificate_lines c.says.certificate),
      length-map lists setting_line,
      length-map c.says.settings setting_line,
    )

-- ---- faults

fault_here : (count : ℕ) (text : List ℕ) (lists : List (List ℕ)) (rest : List ℕ) (k n : ℕ) → AreListed text lists rest → length lists ≡ k → n ≡ k + 2
    → IsFirstBad (behind (map setting_line lists) (AreCounted count)) rest 1 → IsFaultBelow 1 (AreCounted count) text (Line n)
fault_here count text lists rest k n so_far counted at bad = (
  length (map setting_line lists) + 1,
  omega (arith, length-map lists setting_line),
  bad_after (AreCounted count) (map setting_line lists) text rest 1
      (setting_lines_within lists so_far.fit) so_far.spelled bad,
)

pub no_setting_line : (count : ℕ) (text : List ℕ) (lists : List (List ℕ)) (rest : List ℕ) (k n : ℕ) → IsNumber count → k < count → AreListed text lists rest
    → length lists ≡ k → n ≡ k + 2 → IsLine rest → IsFaultBelow 1 (AreCounted count) text (Line n)
no_setting_line count text lists rest k n fits less so_far counted at within =
    fault_here count text lists rest k n so_far counted
    at (cut_short (behind (map setting_line lists) (AreCounted count)) rest within (begins_next count lists fits so_far.fit (omega arith))
    (λ _. settings_left count lists (omega arith)))

keeps : (count : ℕ) (text : List ℕ) (lists : List (List ℕ)) (rest line after ts after_them : List ℕ) → IsNumber count → length lists < count
    → AreListed text lists rest → rest ≡ line ++ line_feed ∷ after → All IsNumber ts → line ≡ setting_line ts ++ after_them → HasToKeep (AreCounted count) text
keeps count text lists rest line after ts after_them fits less so_far parts fit spelled = record {
  before = map setting_line lists;
  line = setting_line ts;
  rest = after_them ++ line_feed ∷ after;
  parts = so_far.spelled ∙ ap (λ (x : List ℕ). text_of (map setting_line lists) ++ x) (parts ∙ ap (λ (x : List ℕ). x ++ line_feed ∷ after) spelled
      ∙ append_assoc (setting_line ts) after_them (line_feed ∷ after));
  good = subst (Begins (AreCounted count)) (map_push setting_line lists ts)
      (begins_settings count (lists ++ ts ∷ []) fits (All-push (All IsNumber) lists ts so_far.fit fit) (omega (arith, length_push lists ts)));
  kept = (ts, inl refl);
}

pub bad_setting_line : (count : ℕ) (text : List ℕ) (lists : List (List ℕ)) (rest line after : List ℕ) (k : ℕ) (fault : ScheduleFault) → IsNumber count
    → k < count → AreListed text lists rest → length lists ≡ k → HasFirstLine rest line after → IsLineFault (k + 2) (codes "setting") line fault
    → IsFaultBelow 1 (AreCounted count) text fault
bad_setting_line count text lists rest line after k (Line n) fits less so_far counted read f =
    fault_here count text lists rest k n so_far counted f.0 (bad_line (behind (map setting_line lists) (AreCounted count)) rest line after read
    (begins_next count lists fits so_far.fit (omega arith)) (λ more. next_is_setting count lists line more (omega arith) f.1))
bad_setting_line count text lists rest line after k NoMemory fits less so_far counted read f = keeps count text lists rest line after f.transfers f.rest fits
    (omega arith) so_far read.1 f.fit f.spelled

pub keeps_setting : (count : ℕ) (text : List ℕ) (lists : List (List ℕ)) (rest line after ts : List ℕ) (k : ℕ) → IsNumber count → k < count
    → AreListed text lists rest → length lists ≡ k → rest ≡ line ++ line_feed ∷ after → All IsNumber ts × (line ≡ setting_line ts)
    → HasToKeep (AreCounted count) text
keeps_setting count text lists rest line after ts k fits less so_far counted parts read = keeps count text lists rest line after ts [] fits (omega arith) so_far
    parts read.0 (read.1 ∙ sym (append-nil (setting_line ts)))
