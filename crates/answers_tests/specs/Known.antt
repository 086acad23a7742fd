-- Clients of a host of whom all bytes are known.
use Rattle.std.specs.Prelude.{ℕ, List, [], Some, length, codes, option_map, is_none, slice_get}
use Rattle.std.specs.Borrow.{Bor}
use Rattle.session_answers.specs.HostAnswers.{KnownClients}

-- each says these bytes, holds nothing at first, and can be opened
abbrev pub known_clients : List (Bor (List ℕ)) → KnownClients
known_clients said =
    record {
      clients = length said;
      says = λ k. option_map (λ bytes. bytes.now) (slice_get said k);
      contains = λ _. Some [];
      named = λ _. codes "client";
      may_fail = λ k. is_none (slice_get said k);
    }
