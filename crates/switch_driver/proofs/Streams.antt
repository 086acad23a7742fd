-- What passes over a stream to a switch goes on, byte by byte and command by command.
use Rattle.std.proofs.Common.{◌≡◌, ◌<◌, ◌+◌, ◌++◌, ◌∷◌, [], ℕ, List, length, take, get_or, Option, Result, Ok, Err, sym, ap, ◌∙◌, append_assoc, append-nil}
use Rattle.std.proofs.lemmas.List.{map-append}
use Rattle.std.proofs.lemmas.List.Concat.{flat_map-append}
use Rattle.std.specs.Prelude.{OnErr}
use Rattle.byte_streams.proofs.Carrying.{appends_then, appends_none, consumes_then, consumes_none}
use Rattle.std.specs.Io.KnownBytes.{Appends}
use Rattle.crossbar.proofs.Carrying.{take_more}
use Rattle.crossbar.specs.Traffic.{sent_byte, sent_to}
use Rattle.crossbar.specs.declared.chip.Chip.{Chip}
use Rattle.crossbar.specs.declared.traffic.Passing.{Passing}
use Rattle.switch_driver.specs.Streams.{where_sent, where_heard, bytes_sent, bytes_heard, StreamCarries}
use Rattle.switch_driver.specs.declared.stream.SwitchStream.{SwitchStream}

-- what holds at the error of a call that was left by `?`
pub at_err : {T E P : Type 0} (result : Result T E) → P → OnErr result P
at_err (Ok x) p = tt
at_err (Err e) p = p

-- ---- one after another

bytes_sent-append : (xs ys : List Passing) → bytes_sent (xs ++ ys) ≡ bytes_sent xs ++ bytes_sent ys
bytes_sent-append xs ys = flat_map-append (λ (p : Passing). where_sent p.direction p.byte) xs ys

bytes_heard-append : (xs ys : List Passing) → bytes_heard (xs ++ ys) ≡ bytes_heard xs ++ bytes_heard ys
bytes_heard-append xs ys = flat_map-append (λ (p : Passing). where_heard p.direction p.byte) xs ys

pub carried_none : {I O : Type 0} (contents : O → Option (List ℕ)) (remaining : I → Option (List ℕ)) (stream : SwitchStream I O) (before : List Passing)
    → StreamCarries contents remaining stream stream before before []
carried_none contents remaining stream before = record {
  written = appends_none (contents stream.writer);
  read = consumes_none (remaining stream.reader);
  noted = sym (append-nil before);
}

pub carried_then : {I O : Type 0} (contents : O → Option (List ℕ)) (remaining : I → Option (List ℕ)) (old mid new : SwitchStream I O)
    (before now after xs ys : List Passing) → StreamCarries contents remaining old mid before now xs → StreamCarries contents remaining mid new now after ys
    → StreamCarries contents remaining old new before after (xs ++ ys)
carried_then contents remaining old mid new before now after xs ys p q = record {
  written = rw (bytes_sent-append xs ys) (appends_then _ _ _ _ _ p.written q.written);
  read = rw (bytes_heard-append xs ys) (consumes_then _ _ _ _ _ p.read q.read);
  noted = q.noted ∙ ap (λ (ps : List Passing). ps ++ ys) p.noted ∙ append_assoc before xs ys;
}

-- a byte more was sent
pub sent_more : {I O : Type 0} (contents : O → Option (List ℕ)) (remaining : I → Option (List ℕ)) (chip : Chip) (bytes : List ℕ) (i : ℕ)
    (old : SwitchStream I O) (reader : I) (writer wrote : O) (before now after : List Passing) → i < length bytes
    → StreamCarries contents remaining old (record { reader = reader; writer = writer }) before now (sent_to chip (take i bytes))
    → Appends (contents writer) (contents wrote) (get_or bytes i 0 ∷ []) → after ≡ now ++ sent_byte chip (get_or bytes i 0) ∷ []
    → StreamCarries contents remaining old (record { reader = reader; writer = wrote }) before after (sent_to chip (take (i + 1) bytes))
sent_more contents remaining chip bytes i old reader writer wrote before now after lt so_far wrote_it noted =
    rw (take_more bytes i lt, map-append (sent_byte chip) (take i bytes) (get_or bytes i 0 ∷ []))
    (carried_then contents remaining old _ _ before now after _ _ so_far
    (record { written = wrote_it; read = consumes_none (remaining reader); noted = noted }))
