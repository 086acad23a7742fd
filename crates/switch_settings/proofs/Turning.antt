-- What a switch is sent for a schedule turns it into that of each setting, one after the other.
use Rattle.std.proofs.Common.{◌≡◌, ◌<◌, ◌≤◌, ◌+◌, ℕ, zero, suc, List, [], ◌++◌, length, get_or, set, take, replicate, Option, None, Some, refl, sym, ap, ◌∙◌, subst, arith, add-one}
use Rattle.std.specs.Prelude.{All}
use Rattle.std.specs.List.{flat_map, range_with_len}
use Rattle.std.proofs.lemmas.List.{take_all, flat_map_more}
use Rattle.batch.specs.declared.limits.TheConstants.{MAX_MODULES}
use Rattle.batch.specs.declared.transfer.Transfer.{Transfer}
use Rattle.batch.specs.Batches.{IsBatch}
use Rattle.batch.specs.Overlap.{transfer_at}
use Rattle.batch.proofs.Lists.{range_more}
use Rattle.c004_commands.specs.declared.command.Command.{Command}
use Rattle.crossbar.specs.Pairs.{ArePairs, room_of, switch_of}
use Rattle.crossbar.specs.Switch.{Switch, after_all}
use Rattle.crossbar.specs.Wired.{links_of}
use Rattle.crossbar.specs.declared.board.BoardWiring.{BoardWiring}
use Rattle.crossbar.specs.declared.chip.Wiring.{Wiring}
use Rattle.crossbar.specs.declared.chip.Wiring.TheVariants.{Board}
use Rattle.crossbar.proofs.Carrying.{after_all-append}
use Rattle.crossbar.proofs.Changes.{change_law, setting_law}
use Rattle.link_graph.specs.Schedules.{IsScheduleOf}
use Rattle.link_graph.specs.Uses.{IsMatching}
use Rattle.switch_settings.specs.Racks.{HasModulesOf}
use Rattle.switch_settings.specs.Settings.{numbers_in, setting_pairs}
use Rattle.switch_settings.specs.Sending.{in_order, pairs_at, sent_for, sent_for_first}
use Rattle.switch_settings.specs.Laws.{SettingsTurn}
use Rattle.switch_settings.proofs.Joined.{IsTableOf, table_none, table_more, table_is_pairs, table_is_switch}
use Rattle.switch_settings.proofs.InOrder.{table_in_order}
use Rattle.switch_settings.proofs.Replies.{more_pairs}

-- numbers of a setting, and what is known of them
pub record Numbers (batch : List Transfer) (ts : List ℕ) : Type 0 where
  pub fits : IsBatch batch
  pub known : All (λ u. u < length batch) ts
  pub matching : IsMatching batch ts

-- they have a table
record Tabled (batch : List Transfer) (ts : List ℕ) : Type 0 where
  table : List (Option ℕ)
  is : IsTableOf batch ts table

tabled_first : (batch : List Transfer) (ts : List ℕ) (k : ℕ) → Numbers batch ts → k ≤ length ts → Tabled batch (take k ts)
tabled_first batch ts zero n le = record {
  table = replicate MAX_MODULES None;
  is = record { size = refl; sound = λ i r e. absurd (table_none batch MAX_MODULES i r e); whole = λ i r none. absurd none };
}
tabled_first batch ts (suc k) n le =
    let before = tabled_first batch ts k n (omega arith) in
    let x = transfer_at batch (get_or ts k 0) in
    let more = table_more batch ts k (get_or ts k 0) before.table x n.fits n.known n.matching (omega arith) refl refl before.is in
    record {
      table = set before.table x.initiator (Some x.responder);
      is = subst (λ (m : ℕ). IsTableOf batch (take m ts) (set before.table x.initiator (Some x.responder))) (add-one k) more;
    }

tabled : (batch : List Transfer) (ts : List ℕ) → Numbers batch ts → Tabled batch ts
tabled batch ts n = subst (Tabled batch) (take_all (length ts) ts (omega arith)) (tabled_first batch ts (length ts) n (omega arith))

-- in a rack that has the batch's modules they are pairs of that rack, and join what the setting's
-- transfers want joined
pub ordered_pairs : (m : ℕ) (batch : List Transfer) (ts : List ℕ) → Numbers batch ts → HasModulesOf m batch → ArePairs m (in_order (setting_pairs batch ts))
ordered_pairs m batch ts n has =
    let t = tabled batch ts n in
    subst (ArePairs m) (table_in_order batch ts t.table t.is n.known n.matching) (table_is_pairs m batch ts t.table t.is n.known n.matching has)

pub ordered_switch : (m : ℕ) (w : Wiring) (batch : List Transfer) (ts : List ℕ) → Numbers batch ts → HasModulesOf m batch → m ≤ room_of w
    → switch_of w (in_order (setting_pairs batch ts)) ≡ switch_of w (setting_pairs batch ts)
ordered_switch m w batch ts n has room =
    let t = tabled batch ts n in
    ap (switch_of w) (sym (table_in_order batch ts t.table t.is n.known n.matching)) ∙ table_is_switch m w batch ts t.table t.is n.known n.matching has room

-- ---- the settings of a schedule

-- a schedule of a batch, in a rack whose modules can be wired to a switch
record Given (batch : List Transfer) (settings : List (List ℕ)) (m : ℕ) (w : Wiring) : Type 0 where
  fits : IsBatch batch
  schedule : IsScheduleOf batch settings
  has : HasModulesOf m batch
  room : m ≤ room_of w

numbers_at : (batch : List Transfer) (settings : List (List ℕ)) (m : ℕ) (w : Wiring) (k : ℕ) → Given batch settings m w → k < length settings
    → Numbers batch (numbers_in settings k)
numbers_at batch settings m w k g lt = record { fits = g.fits; known = g.schedule.no_other k [] lt; matching = g.schedule.matchings k [] lt }

pairs_in : (batch : List Transfer) (settings : List (List ℕ)) (m : ℕ) (w : Wiring) (k : ℕ) → Given batch settings m w → k < length settings
    → ArePairs (room_of w) (pairs_at batch settings k)
pairs_in batch settings m w k g lt = more_pairs m (room_of w) (pairs_at batch settings k) g.room
    (ordered_pairs m batch (numbers_in settings k) (numbers_at batch settings m w k g lt) g.has)

-- one setting more
pub sent_more : (w : Wiring) (batch : List Transfer) (settings : List (List ℕ)) (k : ℕ) → sent_for_first w batch settings (k + 1)
    ≡ sent_for_first w batch settings k ++ sent_for w batch settings k
sent_more w batch settings k = ap (flat_map (sent_for w batch settings)) (range_more k)
    ∙ sym (flat_map_more (sent_for w batch settings) [] (range_with_len 0 k) k)

turned : (batch : List Transfer) (settings : List (List ℕ)) (m : ℕ) (w : Wiring) (s : Switch) (k : ℕ) → Given batch settings m w → k < length settings
    → after_all (sent_for_first w batch settings (k + 1)) s ≡ switch_of w (pairs_at batch settings k)
turned batch settings m w s zero g lt = ap (λ (cs : List Command). after_all cs s) (sent_more w batch settings zero)
    ∙ setting_law w s (pairs_at batch settings zero) (pairs_in batch settings m w zero g lt)
turned batch settings m w s (suc k) g lt =
    let below : k < length settings = omega arith in
    let before = subst (λ (n : ℕ). after_all (sent_for_first w batch settings n) s ≡ switch_of w (pairs_at batch settings k)) (add-one k)
    (turned batch settings m w s k g below) in
    ap (λ (cs : List Command). after_all cs s) (sent_more w batch settings (suc k))
    ∙ after_all-append (sent_for_first w batch settings (suc k)) (sent_for w batch settings (suc k)) s
    ∙ ap (after_all (sent_for w batch settings (suc k))) before
    ∙ change_law w (pairs_at batch settings k) (pairs_at batch settings (suc k)) (pairs_in batch settings m w k g below)
    (pairs_in batch settings m w (suc k) g lt)

pub settings_turn : SettingsTurn
settings_turn batch settings m w s k fits schedule has room lt =
    let g : Given batch settings m w = record { fits = fits; schedule = schedule; has = has; room = room } in
    turned batch settings m w s k g lt ∙ ordered_switch m w batch (numbers_in settings k) (numbers_at batch settings m w k g lt) has room
