-- What passes over the streams of a port to the switches of a rack, and what is noted of it.
use Rattle.std.specs.Prelude.{◌≡◌, ℕ, List, [], Bool, false, true, IsTrue, Option, Some, None}
use Rattle.crossbar.specs.declared.chip.Chip.{Chip}
use Rattle.crossbar.specs.declared.chip.Chip.TheVariants.{A, B}
use Rattle.crossbar.specs.declared.traffic.Passing.{Passing}
use Rattle.switch_driver.specs.Streams.{HasPassed}
use Rattle.switch_driver.specs.ComingUp.{CameUp}
use Rattle.switch_driver.specs.declared.port.StreamPort.{StreamPort}
use Rattle.switch_driver.specs.declared.port.SwitchLine.{SwitchLine}
use Rattle.switch_driver.specs.declared.stream.SwitchStream.{SwitchStream}

-- a line over a stream, whose switch hasn't come up
abbrev pub fresh_line : {I O : Type 0} → SwitchStream I O → SwitchLine I O
fresh_line stream = record { stream = stream; is_up = false }

abbrev pub fresh_second : {I O : Type 0} → Option (SwitchStream I O) → Option (SwitchLine I O)
fresh_second None = None
fresh_second (Some stream) = Some (fresh_line stream)

-- a port over streams, over which nothing has passed as yet
abbrev pub fresh_port : {I O : Type 0} → SwitchStream I O → Option (SwitchStream I O)
    → StreamPort I O
fresh_port a b =
    record {
      a = fresh_line a;
      b = fresh_second b;
      came_up = [];
      traffic = [];
      failed = 0;
      lost = None;
    }

-- What passed over a line: as its switch came up, unless it had come up before, and then in a
-- conversation.
pub record LineCarries {I O : Type 0} (contents : O → Option (List ℕ))
    (remaining : I → Option (List ℕ)) (old new : SwitchLine I O)
    (came_up comes_up before after : List Passing) : Type 0 where
  pub mid : SwitchStream I O
  pub came : HasPassed contents remaining old.stream mid came_up comes_up
  pub once : IsTrue old.is_up → (mid ≡ old.stream) × (comes_up ≡ came_up)
  pub went : HasPassed contents remaining mid new.stream before after
  -- unless it is up now, nothing passed then
  pub down : (IsTrue new.is_up → ⊥) → (new.stream ≡ mid) × (after ≡ before)

-- a switch came up, unless it had come up before
abbrev pub CameUpOnce : Chip → Bool → List Passing → List Passing → Type 0
CameUpOnce chip true before after = after ≡ before
CameUpOnce chip false before after = CameUp chip before after

-- a line says that its switch is up only where it came up, now or before
abbrev pub IsUpOnce : {I O : Type 0} → Chip → SwitchLine I O → SwitchLine I O → List Passing
    → List Passing → Type 0
IsUpOnce chip old new before after = IsTrue new.is_up → CameUpOnce chip old.is_up before after

-- the same of the second line, where there is one; else nothing passed
abbrev pub SecondCarries : {I O : Type 0} → (O → Option (List ℕ)) → (I → Option (List ℕ))
    → Option (SwitchLine I O) → Option (SwitchLine I O) → List Passing → List Passing
    → List Passing → List Passing → Type 0
SecondCarries contents remaining (Some old) (Some new) came_up comes_up before after =
    LineCarries contents remaining old new came_up comes_up before after
    × IsUpOnce B old new came_up comes_up
SecondCarries contents remaining None None came_up comes_up before after =
    (comes_up ≡ came_up) × (after ≡ before)
SecondCarries contents remaining (Some old) None came_up comes_up before after = ⊥
SecondCarries contents remaining None (Some new) came_up comes_up before after = ⊥

-- what a conversation with a chip leaves of the lines: this passed over that of the chip, and the
-- other is as it was
abbrev pub HasTried : {I O : Type 0} → (O → Option (List ℕ)) → (I → Option (List ℕ)) → Chip
    → StreamPort I O → StreamPort I O → Type 0
HasTried contents remaining A old new =
    LineCarries contents remaining old.a new.a old.came_up new.came_up old.traffic new.traffic
    × IsUpOnce A old.a new.a old.came_up new.came_up
    × (new.b ≡ old.b)
HasTried contents remaining B old new =
    SecondCarries contents remaining old.b new.b old.came_up new.came_up old.traffic new.traffic
    × (new.a ≡ old.a)

-- so did the second one, and now it has
abbrev pub SecondCameUp : {I O : Type 0} → Option (SwitchLine I O) → Option (SwitchLine I O)
    → List Passing → List Passing → Type 0
SecondCameUp (Some old) (Some new) before after =
    CameUpOnce B old.is_up before after × IsTrue new.is_up
SecondCameUp (Some old) None before after = ⊥
SecondCameUp None new before after = ⊥

-- so did the switch of the chip
abbrev pub PortCameUp : {I O : Type 0} → Chip → StreamPort I O → StreamPort I O → Type 0
PortCameUp A old new = CameUpOnce A old.a.is_up old.came_up new.came_up × IsTrue new.a.is_up
PortCameUp B old new = SecondCameUp old.b new.b old.came_up new.came_up
