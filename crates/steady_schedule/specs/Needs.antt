-- Why a schedule changes the switch after a setting: something is over with that.
use Rattle.std.specs.Prelude.{◌≡◌, ℕ, ◌+◌, ◌<◌, List, [], length, true, false, Contains}
use Rattle.std.specs.Prelude.{slice_index_or}
use Rattle.batch.specs.declared.transfer.Transfer.{Transfer}
use Rattle.link_graph.specs.declared.link.Link.{Link}
use Rattle.link_graph.specs.Marks.{members}
use Rattle.link_graph.specs.Uses.{Uses}
use Rattle.steady_schedule.specs.Changes.{are_partners, join_same}

-- setting k
abbrev pub setting_at : List (List ℕ) → ℕ → List ℕ
setting_at settings k = slice_index_or settings k []

-- a transfer of the setting uses the link
abbrev pub IsUsed : List Transfer → List ℕ → Link → Type 0
IsUsed batch setting link = (t : ℕ) × Contains setting t × Uses batch t link

-- Something is over with setting k: it joins link 0 of a module u to link 3 of a module v, and no
-- later setting does; or it doesn't use some link, and each later setting does.
pub data IsOver (batch : List Transfer) (settings : List (List ℕ)) (k : ℕ) : Type 0 where
  pair_done : (u v : ℕ) → are_partners (members batch (setting_at settings k)) u v ≡ true
      → ((later : ℕ) → k < later → later < length settings
      → are_partners (members batch (setting_at settings later)) u v ≡ false)
      → IsOver batch settings k
  link_needed : (link : Link) → (IsUsed batch (setting_at settings k) link → ⊥)
      → ((later : ℕ) → k < later → later < length settings
      → IsUsed batch (setting_at settings later) link)
      → IsOver batch settings k

-- the switch changes after a setting only where something is over with that
abbrev pub ChangesAtNeed : List Transfer → List (List ℕ) → Type 0
ChangesAtNeed batch settings =
    (k : ℕ) → k + 1 < length settings
    → join_same batch (setting_at settings k) (setting_at settings (k + 1)) ≡ false
    → IsOver batch settings k
