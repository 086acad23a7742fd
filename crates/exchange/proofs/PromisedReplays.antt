-- The promise of `replay`.
use Rattle.std.proofs.Common.{◌≡◌, ℕ, List, Option, refl}
use Rattle.exchange.proofs.EndStatuses.{done_is, never_done}
use Rattle.exchange.specs.Promises as promise
use Rattle.exchange.specs.Promises.{HasReplayed, IsFirstWrongReplayed, IsRefusalLine}
use Rattle.plan_answers.specs.Refusals.{Printed}
use Rattle.plan_answers.specs.declared.limits.TheConstants.{DONE, REFUSED}
use Rattle.refusals.specs.declared.refusal.Refusal.TheVariants.{RecordHead}
use Rattle.record_replay.specs.ReplayAnswers.{of_record, IsReplayAnswer, led, no_head, other_head, rack_wrong, record_wrong, replayed}
use Rattle.record_replay.specs.declared.answering.Torn.{Torn}
use Rattle.record_replay.specs.declared.fault.RecordError.{RecordError}

module _ (shape : Option (List ℕ)) (text : List ℕ) (bytes : Option (List ℕ)) (first : Option ℕ) (printed : Printed) (told : Option RecordError)
    (torn : Option Torn) where
  pub replayed_so : printed.status ≡ DONE → IsReplayAnswer shape text bytes first printed told torn → HasReplayed shape text bytes first printed.text
  replayed_so status (replayed word body opening limit of rack on (led es end rest remade image_is done none so)) =
      record {
        word = word;
        opening = opening;
        body = body;
        limit = limit;
        history = es;
        left = end;
        rest = rest;
        of = of;
        rack = rack;
        on = on;
        right =
            remade;
        prints = image_is;
      }
  replayed_so status (replayed word body opening limit of rack on (record_wrong error said wrong behind refuses so none)) =
      absurd (never_done printed.status refuses.1.status status)
  replayed_so status (no_head none begins refuses) = absurd (never_done printed.status refuses.refuses.1.status status)
  replayed_so status (rack_wrong word refusal of wrong refuses so none) = absurd (never_done printed.status refuses.1.status status)
  replayed_so status (other_head word opening due of rack other line refuses) = absurd (never_done printed.status refuses.refuses.1.status status)

  pub unreplayed_so : printed.status ≡ REFUSED → IsReplayAnswer shape text bytes first printed told torn
      → IsRefusalLine (IsFirstWrongReplayed shape text bytes first) printed.text
  unreplayed_so status (replayed word body opening limit of rack on (led es end rest remade image_is done none so)) =
      absurd (done_is printed.status done status)
  unreplayed_so status (replayed word body opening limit of rack on (record_wrong error said wrong behind refuses so none)) =
      (of_record error.fault, promise.entry_wrong word body opening limit error of rack on wrong refl, refuses.1.line)
  unreplayed_so status (no_head none begins refuses) = (RecordHead, promise.no_head none begins refl, refuses.refuses.1.line)
  unreplayed_so status (rack_wrong word refusal of wrong refuses so none) = (refusal, promise.rack_wrong word of wrong, refuses.1.line)
  unreplayed_so status (other_head word opening due of rack other line refuses) =
      (RecordHead, promise.other_head word opening of rack other refl, refuses.refuses.1.line)
