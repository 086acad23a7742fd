-- A conversation goes on command by command, and may break off.
use Rattle.std.proofs.Common.{◌≡◌, ◌≤◌, ◌+◌, ◌++◌, ◌∷◌, [], ℕ, List, length, take, drop, replicate, Option, Some, refl, sym, ap, ap₂, ◌∙◌, subst, append_assoc, append-nil, arith}
use Rattle.std.proofs.lemmas.List.{length-take-le, length-drop, length-append, length-replicate, map-append, take_all, take-append-le, drop-append-le}
use Rattle.c004_commands.proofs.Readings.{longer_text, one_reading}
use Rattle.c004_commands.specs.Commands.{row, Spells}
use Rattle.c004_commands.specs.declared.command.Command.{Command}
use Rattle.crossbar.proofs.Carrying.{nothing_come, enquiries-append, fewer_enquiries, spells_conversation, spells_whole}
use Rattle.crossbar.specs.Port.{IsConversation}
use Rattle.crossbar.specs.Switch.{enquiries}
use Rattle.crossbar.specs.Traffic.{sent_byte, sent_to, heard_from, conversed, HaveConversed, BreaksOff, IsConversationFront}
use Rattle.crossbar.specs.declared.chip.Chip.{Chip}
use Rattle.crossbar.specs.declared.traffic.Passing.{Passing}
use Rattle.switch_driver.proofs.Streams.{carried_none, carried_then}
use Rattle.switch_driver.specs.Streams.{StreamCarries, HasAsked, HasAskedInVain}
use Rattle.switch_driver.specs.declared.stream.SwitchStream.{SwitchStream}

-- ---- conversations one after another

pub conversed-append : (chip : Chip) (commands others : List Command) (replies more : List ℕ) → length replies ≡ enquiries commands
    → conversed chip (commands ++ others) (replies ++ more) ≡ conversed chip commands replies ++ conversed chip others more
conversed-append chip [] others [] more e = refl
conversed-append chip [] others (reply ∷ replies) more e = absurd (omega (arith, e))
conversed-append chip (command ∷ commands) others replies more e =
    let n = enquiries (command ∷ []) in
    let whole = enquiries-append (command ∷ []) commands in
    let few : n ≤ length replies = omega (arith, e, whole) in
    let rest : length (drop n replies) ≡ enquiries commands = omega (arith, e, whole, length-drop n replies) in
    ap₂ (λ (heard : List ℕ) (behind : List Passing). sent_to chip (row command) ++ (heard_from chip heard ++ behind)) (take-append-le n replies more few)
    (ap (conversed chip (commands ++ others)) (drop-append-le n replies more few) ∙ conversed-append chip commands others (drop n replies) more rest)
    ∙ ap (λ (ps : List Passing). sent_to chip (row command) ++ ps)
    (sym (append_assoc (heard_from chip (take n replies)) (conversed chip commands (drop n replies)) (conversed chip others more)))
    ∙ sym (append_assoc (sent_to chip (row command)) (heard_from chip (take n replies) ++ conversed chip commands (drop n replies))
    (conversed chip others more))

conversed_one : (chip : Chip) (command : Command) (reply : List ℕ) → length reply ≡ enquiries (command ∷ []) → conversed chip (command ∷ []) reply
    ≡ sent_to chip (row command) ++ heard_from chip reply
conversed_one chip command reply e =
    ap (λ (ps : List Passing). sent_to chip (row command) ++ ps) (append-nil (heard_from chip (take (enquiries (command ∷ [])) reply))
    ∙ ap (heard_from chip) (take_all (enquiries (command ∷ [])) reply (omega (arith, e))))

-- ---- fronts of a conversation

-- nothing is one
no_front : (chip : Chip) (commands : List Command) → IsConversationFront chip commands []
no_front chip commands = record { replies = replicate (enquiries commands) 0; rest = _; all = length-replicate {A = ℕ} (enquiries commands) 0; front = refl }

-- it is one of a longer conversation too
pub front_longer : (chip : Chip) (commands others : List Command) (more : List Passing) → IsConversationFront chip commands more
    → IsConversationFront chip (commands ++ others) more
unfolding no_front
front_longer chip commands others more f =
    let none = no_front chip others in
    record {
      replies = f.replies ++ none.replies;
      rest = f.rest ++ none.rest;
      all = omega (arith, length-append f.replies none.replies, f.all, none.all, enquiries-append commands others);
      front = conversed-append chip commands others f.replies none.replies f.all ∙ ap (λ (ps : List Passing). ps ++ none.rest) f.front
          ∙ append_assoc more f.rest none.rest;
    }

-- and after a conversation it is one of both
pub front_after : (chip : Chip) (commands others : List Command) (replies : List ℕ) (more : List Passing) → length replies ≡ enquiries commands
    → IsConversationFront chip others more → IsConversationFront chip (commands ++ others) (conversed chip commands replies ++ more)
front_after chip commands others replies more count f = record {
  replies = replies ++ f.replies;
  rest = f.rest;
  all = omega (arith, length-append replies f.replies, count, f.all, enquiries-append commands others);
  front = conversed-append chip commands others replies f.replies count ∙ ap (λ (ps : List Passing). conversed chip commands replies ++ ps) f.front
      ∙ sym (append_assoc (conversed chip commands replies) more f.rest);
}

-- a front of a command's bytes
front_of_row : (chip : Chip) (command : Command) (front left : List ℕ) → row command ≡ front ++ left → IsConversationFront chip (command ∷ [])
    (sent_to chip front)
unfolding no_front
front_of_row chip command front left are =
    let none = no_front chip (command ∷ []) in
    let heard = heard_from chip (take (enquiries (command ∷ [])) none.replies) ++ [] in
    record {
      replies = none.replies;
      rest = sent_to chip left ++ heard;
      all = none.all;
      front = ap (λ (ps : List Passing). ps ++ heard) (ap (sent_to chip) are ∙ map-append (sent_byte chip) front left)
          ∙ append_assoc (sent_to chip front) (sent_to chip left) heard;
    }

-- ---- what has passed so far

-- the commands that the bytes so far spell were sent, and replied to
pub record SoFar {I O : Type 0} (contents : O → Option (List ℕ)) (remaining : I → Option (List ℕ)) (chip : Chip) (come reader replies : List ℕ) (heard : ℕ)
    (old new : SwitchStream I O) (before after : List Passing) : Type 0 where
  pub commands : List Command
  pub spells : Spells come commands reader
  pub count : heard ≡ enquiries commands
  pub room : heard ≤ length replies
  pub carried : StreamCarries contents remaining old new before after (conversed chip commands (take heard replies))

pub none_so_far : {I O : Type 0} (contents : O → Option (List ℕ)) (remaining : I → Option (List ℕ)) (chip : Chip) (replies : List ℕ) (stream : SwitchStream I O)
    (before : List Passing) → SoFar contents remaining chip [] [] replies 0 stream stream before before
none_so_far contents remaining chip replies stream before = record {
  commands = [];
  spells = record { whole = refl; ports = tt; partial = nothing_come };
  count = refl;
  room = omega arith;
  carried = carried_none contents remaining stream before;
}

-- a byte that ends no command
pub quiet_more : {I O : Type 0} (contents : O → Option (List ℕ)) (remaining : I → Option (List ℕ)) (chip : Chip) (come more reader left replies : List ℕ)
    (heard : ℕ) (old new : SwitchStream I O) (before after : List Passing) (h : SoFar contents remaining chip come reader replies heard old new before after)
    → Spells more (h.commands ++ []) left → SoFar contents remaining chip more left replies heard old new before after
quiet_more contents remaining chip come more reader left replies heard old new before after h spells = record {
  commands = h.commands;
  spells = subst (λ (cs : List Command). Spells more cs left) (append-nil h.commands) spells;
  count = h.count;
  room = h.room;
  carried = h.carried;
}

-- a byte that ends a command, which is sent and replied to
pub asked_more : {I O : Type 0} (contents : O → Option (List ℕ)) (remaining : I → Option (List ℕ)) (chip : Chip) (command : Command)
    (come more reader left replies reply filled : List ℕ) (heard answered : ℕ) (old mid new : SwitchStream I O) (before now after : List Passing)
    (h : SoFar contents remaining chip come reader replies heard old mid before now) → Spells more (h.commands ++ command ∷ []) left
    → HasAsked contents remaining chip command reply mid new now after → answered ≡ heard + length reply → answered ≤ length filled
    → take answered filled ≡ take heard replies ++ reply → SoFar contents remaining chip more left filled answered old new before after
asked_more contents remaining chip command come more reader left replies reply filled heard answered old mid new before now after h spells asked count room
    filling = record {
      commands = h.commands ++ command ∷ [];
      spells = spells;
      count = omega (arith, count, h.count, asked.count, enquiries-append h.commands (command ∷ []));
      room = room;
      carried = subst (StreamCarries contents remaining old new before after)
          (ap (λ (ps : List Passing). conversed chip h.commands (take heard replies) ++ ps) (sym (conversed_one chip command reply asked.count))
          ∙ sym (conversed-append chip h.commands (command ∷ []) (take heard replies) reply (length-take-le heard replies h.room ∙ h.count))
          ∙ ap (conversed chip (h.commands ++ command ∷ [])) (sym filling))
          (carried_then contents remaining old mid new before now after _ _ h.carried asked.carried);
    }

-- the replies of the commands so far and of the next have room
pub fits : {I O : Type 0} (contents : O → Option (List ℕ)) (remaining : I → Option (List ℕ)) (chip : Chip) (command : Command)
    (bytes come more later reader left replies : List ℕ) (heard number : ℕ) (old new : SwitchStream I O) (before after : List Passing) → more ++ later ≡ bytes
    → (h : SoFar contents remaining chip come reader replies heard old new before after) → Spells more (h.commands ++ command ∷ []) left
    → IsConversation bytes number → heard + enquiries (command ∷ []) ≤ number
fits contents remaining chip command bytes come more later reader left replies heard number old new before after are h spells conversation =
    let fewer = fewer_enquiries more later (h.commands ++ command ∷ []) conversation.commands left [] spells
    (subst (λ (b : List ℕ). Spells b conversation.commands []) (sym are) (spells_conversation bytes number conversation)) in
    omega (arith, fewer, enquiries-append h.commands (command ∷ []), h.count, conversation.count)

-- ---- its end

-- all commands were sent, and replied to
pub all_conversed : {I O : Type 0} (contents : O → Option (List ℕ)) (remaining : I → Option (List ℕ)) (chip : Chip) (come bytes reader replies : List ℕ)
    (heard number : ℕ) (old new : SwitchStream I O) (before after : List Passing)
    → SoFar contents remaining chip come reader replies heard old new before after → come ≡ bytes → IsConversation bytes number → length replies ≡ number
    → HaveConversed chip bytes replies (Some before) (Some after)
all_conversed contents remaining chip come bytes reader replies heard number old new before after h all conversation len commands ports whole =
    let spells = spells_whole bytes commands ports whole in
    let same = (one_reading bytes h.commands commands reader [] (subst (λ (b : List ℕ). Spells b h.commands reader) all h.spells) spells).0 in
    let given = (one_reading bytes conversation.commands commands [] [] (spells_conversation bytes number conversation) spells).0 in
    let filled : length replies ≤ heard = omega (arith, ap enquiries same, ap enquiries given, h.count, conversation.count, len) in
    h.carried.noted ∙ ap₂ (λ (cs : List Command) (rs : List ℕ). before ++ conversed chip cs rs) same (take_all heard replies filled)

-- it broke off within a command
pub broke_within : {I O : Type 0} (contents : O → Option (List ℕ)) (remaining : I → Option (List ℕ)) (chip : Chip) (command : Command)
    (bytes come more later reader left replies : List ℕ) (heard : ℕ) (old mid new : SwitchStream I O) (before now after : List Passing) → bytes ≡ more ++ later
    → (h : SoFar contents remaining chip come reader replies heard old mid before now) → Spells more (h.commands ++ command ∷ []) left
    → HasAskedInVain contents remaining chip command mid new now after → BreaksOff chip bytes (Some before) (Some after)
broke_within contents remaining chip command bytes come more later reader left replies heard old mid new before now after are h spells vain all ports whole =
    let on = longer_text more later (h.commands ++ command ∷ []) all left [] spells
    (subst (λ (b : List ℕ). Spells b all []) are (spells_whole bytes all ports whole)) in (
      _,
      (carried_then contents remaining old mid new before now after _ _ h.carried vain.carried).noted,
      rw on.others_are
          (front_longer chip (h.commands ++ command ∷ []) on.later _
          (front_after chip h.commands (command ∷ []) (take heard replies) _ (length-take-le heard replies h.room ∙ h.count)
          (front_of_row chip command vain.front vain.left vain.bytes_are))),
    )

-- all was sent and heard, but not flushed
pub broke_after : {I O : Type 0} (contents : O → Option (List ℕ)) (remaining : I → Option (List ℕ)) (chip : Chip) (come bytes reader replies : List ℕ)
    (heard : ℕ) (old new : SwitchStream I O) (before after : List Passing)
    → SoFar contents remaining chip come reader replies heard old new before after → come ≡ bytes → BreaksOff chip bytes (Some before) (Some after)
broke_after contents remaining chip come bytes reader replies heard old new before after h all commands ports whole =
    let same = (one_reading bytes h.commands commands reader [] (subst (λ (b : List ℕ). Spells b h.commands reader) all h.spells)
    (spells_whole bytes commands ports whole)).0 in (
      _,
      h.carried.noted,
      rw (← same) (record { replies = take heard replies; rest = []; all = length-take-le heard replies h.room ∙ h.count; front = sym (append-nil _) }),
    )

-- nothing passed
pub none_passed : (chip : Chip) (bytes : List ℕ) (before : List Passing) → BreaksOff chip bytes (Some before) (Some before)
none_passed chip bytes before commands ports whole = ([], sym (append-nil before), no_front chip commands)
