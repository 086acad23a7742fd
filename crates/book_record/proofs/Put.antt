-- The replies of a legal history can be put.
use Rattle.std.proofs.Common.{List, [], ◌∷◌, All, refl, sym, subst}
use Rattle.std.proofs.lemmas.List.Elements.{All-nil, All-cons}
use Rattle.batch.specs.ShapeView.{IsShape}
use Rattle.module_memory.specs.Store.{Store}
use Rattle.batch_book.specs.Answering.{IsReplyTo}
use Rattle.batch_book.specs.declared.call.Call.{Call}
use Rattle.batch_book.specs.declared.call.Call.TheVariants.{Run}
use Rattle.batch_book.specs.declared.entry.Entry.{Entry}
use Rattle.batch_book.specs.declared.reply.Reply.{Reply}
use Rattle.batch_book.specs.declared.reply.Reply.TheVariants.{Ran}
use Rattle.batch_book.specs.Machine.{Machine, opened, IsMachineStep}
use Rattle.batch_book.specs.History.{IsReplay, IsSound}
use Rattle.batch_book.proofs.Answering.{answered, sound}
use Rattle.batch_book.proofs.OneReplay.{shape_stays}
use Rattle.batch_book.proofs.OwnPlans.{plans_stay}
use Rattle.book_record.specs.RecordText.{CanBePut}

abbrev Put : Entry → Type 0
Put e = CanBePut e.reply

pub has_room : (call : Call) (r : Reply) → IsReplyTo call r → CanBePut r
has_room (Run id) (Ran run settings words) is = is.few_words
has_room call (Ran run settings words) is = absurd is
has_room call r is = tt

sound_after : (m k : Machine) (e : Entry) → IsSound m → IsMachineStep m e.session e.call e.reply k → IsSound k
sound_after m k e is step = record {
  plans = plans_stay m (e ∷ []) k is.plans (k, step, refl);
  shape = subst IsShape (sym (shape_stays m (e ∷ []) k (k, step, refl))) is.shape;
}

all_put : (m : Machine) (es : List Entry) (n : Machine) → IsSound m → IsReplay m es n → All Put es
all_put m [] n is led = All-nil Put
all_put m (e ∷ es) n is led =
    All-cons Put e es (has_room e.call e.reply (answered m e.session e.call e.reply led.0 is led.1).fits)
    (all_put led.0 es n (sound_after m led.0 e is led.1) led.2)

pub can_be_put : (opening : Store) (es : List Entry) (n : Machine) → IsShape opening.shape → IsReplay (opened opening) es n
    → All (λ (e : Entry). CanBePut e.reply) es
can_be_put opening es n shape led = all_put (opened opening) es n (sound opening [] (opened opening) shape refl) led
