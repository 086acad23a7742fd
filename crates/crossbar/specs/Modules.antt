-- The modules of a rack on the links of the switch. Which link each is on is this project's choice.
use Rattle.std.specs.Prelude.{◌≡◌, ◌+◌, ℕ, Some, IsTrue}
use Rattle.std.specs.FinMap as map
use Rattle.crossbar.specs.Switch.{Switch}
use Rattle.crossbar.specs.declared.switch.TheConstants.{JOINED_MODULES}

-- the switch link that link 0 of a module is on
abbrev pub link0 : ℕ → ℕ
link0 m = m

-- the switch link that link 3 of a module is on
abbrev pub link3 : ℕ → ℕ
link3 m = JOINED_MODULES + m

-- on one switch, link 0 of module m and link 3 of module n feed each other, and the switch is ready
pub record AreJoined (switch : Switch) (m n : ℕ) : Type 0 where
  pub ready : IsTrue switch.ready
  pub initiator_feeds : map.get switch.sources (link3 n) ≡ Some (link0 m)
  pub responder_feeds : map.get switch.sources (link0 m) ≡ Some (link3 n)

-- On two switches, link 0 of module m feeds link 3 of module n over the first, link 3 of module n
-- feeds link 0 of module m over the second, and both are ready. Link 0 and link 3 of a module have
-- its number on both.
pub record AreJoinedWide (a b : Switch) (m n : ℕ) : Type 0 where
  pub a_ready : IsTrue a.ready
  pub b_ready : IsTrue b.ready
  pub initiator_feeds : map.get a.sources n ≡ Some m
  pub responder_feeds : map.get b.sources m ≡ Some n
