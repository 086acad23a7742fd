use Rattle.std.proofs.Common.{◌≡◌, ◌++◌, map, take}
use Rattle.std.specs.List.{flat_map}
use Rattle.book_record.specs.Heads.{client_line}
use Rattle.book_record.proofs.head.head_text.Given as goal

abbrev pub invariant-loop-name : goal.invariant-loop-name
invariant-loop-name l =
    l.text.items ≡ l.initial.text.items ++ flat_map client_line (map (λ n. n.now) (take l.name-index l.names))
