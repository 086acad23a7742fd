-- The bytes that each chip is sent while one of them is sent commands.
use Rattle.std.proofs.Common.{◌≡◌, ◌++◌, ◌∷◌, [], ℕ, List, take, drop, refl, ap, ap₂, ◌∙◌}
use Rattle.std.proofs.lemmas.List.Concat.{flat_map-append}
use Rattle.c004_commands.specs.Commands.{row, text}
use Rattle.c004_commands.specs.declared.command.Command.{Command}
use Rattle.crossbar.specs.Switch.{enquiries}
use Rattle.crossbar.specs.Traffic.{sent_to, heard_from, conversed, only_to, byte_to, bytes_to}
use Rattle.crossbar.specs.declared.chip.Chip.{Chip}
use Rattle.crossbar.specs.declared.chip.Chip.TheVariants.{A, B}
use Rattle.crossbar.specs.declared.traffic.Passing.{Passing}

pub bytes_to-append : (chip : Chip) (xs ys : List Passing) → bytes_to chip (xs ++ ys) ≡ bytes_to chip xs ++ bytes_to chip ys
bytes_to-append chip xs ys = flat_map-append (λ (p : Passing). byte_to p.direction chip p.chip p.byte) xs ys

none_to : (chip at : Chip) → [] ≡ only_to chip at []
none_to A A = refl
none_to A B = refl
none_to B A = refl
none_to B B = refl

both_to : (chip at : Chip) (xs ys : List ℕ) → only_to chip at xs ++ only_to chip at ys ≡ only_to chip at (xs ++ ys)
both_to A A xs ys = refl
both_to A B xs ys = refl
both_to B A xs ys = refl
both_to B B xs ys = refl

sent_bytes : (chip at : Chip) (bytes : List ℕ) → bytes_to chip (sent_to at bytes) ≡ only_to chip at bytes
sent_bytes chip at [] = none_to chip at
sent_bytes chip at (byte ∷ bytes) = ap (λ (bs : List ℕ). only_to chip at (byte ∷ []) ++ bs) (sent_bytes chip at bytes) ∙ both_to chip at (byte ∷ []) bytes

heard_bytes : (chip at : Chip) (replies : List ℕ) → bytes_to chip (heard_from at replies) ≡ []
heard_bytes chip at [] = refl
heard_bytes chip at (reply ∷ replies) = heard_bytes chip at replies

-- they are those of the commands, and of no other chip
pub conversed_bytes : (chip at : Chip) (commands : List Command) (replies : List ℕ) → bytes_to chip (conversed at commands replies) ≡ only_to chip
    at (text commands)
conversed_bytes chip at [] replies = none_to chip at
conversed_bytes chip at (command ∷ commands) replies =
    let n = enquiries (command ∷ []) in
    let heard = heard_from at (take n replies) in
    let behind = conversed at commands (drop n replies) in
    bytes_to-append chip (sent_to at (row command)) (heard ++ behind)
    ∙ ap₂ (λ (xs ys : List ℕ). xs ++ ys) (sent_bytes chip at (row command))
    (bytes_to-append chip heard behind ∙ ap₂ (λ (xs ys : List ℕ). xs ++ ys) (heard_bytes chip at (take n replies))
    (conversed_bytes chip at commands (drop n replies)))
    ∙ both_to chip at (row command) (text commands)
