-- The colour classes of a colouring, as the settings of a schedule.
use Rattle.std.specs.Prelude.{◌≡◌, ◌↔◌, ℕ, ◌-◌, ◌*◌, ◌<◌, ◌≤◌, List, [], ◌∷◌, ◌++◌, length, map}
use Rattle.std.specs.Prelude.{Option, Some, None, is_some, Bool, false, ◌==◌, nat_lt, cond, All}
use Rattle.std.specs.Prelude.{AllPairs, Any, Contains, slice_index, slice_index_or, slice_set}
use Rattle.link_graph.specs.Certificates.{AreDistinct}
use Rattle.link_graph.specs.Counts.{count_below}
use Rattle.link_graph.specs.Schedules.{times, IsScheduleOf}
use Rattle.alternating_path.specs.Colouring.{Colouring, colour_at, HasColour, AllPlaced}

-- settings, and how many insertions the table that they come from counted
pub record ColouredSettings : Type 0 where
  pub settings : List (List ℕ)
  pub inserted : ℕ

-- the setting holds just the transfers of one colour
pub record IsClassOf (colour : List (Option ℕ)) (setting : List ℕ) : Type 0 where
  pub c : ℕ
  pub just : (t : ℕ) → Contains setting t ↔ (colour_at colour t ≡ Some c)

-- The settings are the colour classes that hold something, each once. The numbers ascend in each,
-- and the least numbers of the settings ascend.
pub record AreClassesOf (colour : List (Option ℕ)) (settings : List (List ℕ)) : Type 0 where
  pub none_empty : All (λ setting. 0 < length setting) settings
  pub classes : All (IsClassOf colour) settings
  pub every : (t c : ℕ) → colour_at colour t ≡ Some c → Any (λ setting. Contains setting t) settings
  pub ascending : All (AllPairs (λ t u. t < u)) settings
  pub by_least : AllPairs (λ a b. slice_index a 0 < slice_index b 0) settings

-- each placed transfer stands once in the settings
abbrev pub EachStandsOnce : List (Option ℕ) → List (List ℕ) → Type 0
EachStandsOnce colour settings = (t : ℕ) → HasColour colour t → times t settings ≡ 1

-- where all transfers are placed, the settings are a schedule of the batch
abbrev pub ScheduleIfAll : Colouring → List (List ℕ) → Type 0
ScheduleIfAll s settings = AllPlaced s → IsScheduleOf s.batch settings

-- the lists, with t at the end of list k
abbrev pub with_pushed : List (List ℕ) → ℕ → ℕ → List (List ℕ)
with_pushed lists k t = slice_set lists k (slice_index_or lists k [] ++ t ∷ [])

-- whether a transfer has the colour c
abbrev pub is_colour : ℕ → Option ℕ → Bool
is_colour c None = false
is_colour c (Some d) = d == c

-- how many transfers have the colour c
abbrev pub class_size : List (Option ℕ) → ℕ → ℕ
class_size colour c = count_below (length colour) (λ t. is_colour c (colour_at colour t))

-- how many transfers have a colour
abbrev pub placed_count : List (Option ℕ) → ℕ
placed_count colour = count_below (length colour) (λ t. is_some (colour_at colour t))

-- no class is smaller than that of colour c, and those before it are larger
pub record IsSmallestClass (s : Colouring) (c : ℕ) : Type 0 where
  pub is_one : c < s.colours
  pub least : (d : ℕ) → d < s.colours → class_size s.colour c ≤ class_size s.colour d
  pub first : (d : ℕ) → d < c → class_size s.colour c < class_size s.colour d

-- a transfer's colour once the colour c is given up and those above it come one down
abbrev pub without_colour : ℕ → Option ℕ → Option ℕ
without_colour c None = None
without_colour c (Some d) = cond (d == c) None (Some (cond (nat_lt c d) (d - 1) d))

-- The first of the smallest classes is given up: its transfers are handed back, each once, and all
-- others keep their classes. They are at most the placed transfers, divided by the number of
-- colours.
pub record IsTakenBack (old new : Colouring) (back : List ℕ) : Type 0 where
  pub c : ℕ
  pub smallest : IsSmallestClass old c
  pub given : (t : ℕ) → Contains back t ↔ (colour_at old.colour t ≡ Some c)
  pub distinct : AreDistinct back
  pub rest : new
      ≡ record old { colours = old.colours - 1; colour = map (without_colour c) old.colour }
  pub few : length back * old.colours ≤ placed_count old.colour
