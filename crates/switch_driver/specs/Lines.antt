-- What is told of a setting that stands, and what is waited for. The texts are this project's
-- choice.
use Rattle.std.specs.Prelude.{◌≡◌, ◌≢◌, ℕ, Bool, true, false, IsTrue, List, [], ◌∷◌, ◌++◌, codes}
use Rattle.std.specs.Prelude.{All, Option, Result, Ok, Err}
use Rattle.std.specs.Fmt.{decimal}
use Rattle.std.specs.List.{flat_map}
use Rattle.std.specs.Io.KnownBytes.{Appends, Consumes, IsAtEnd}
use Rattle.byte_streams.specs.Writing.{IsCutShort}
use Rattle.switch_driver.specs.declared.lines.LineObserver.{LineObserver}
use Rattle.switch_driver.specs.declared.drive_observer.Halt.{Halt}
use Rattle.switch_driver.specs.declared.drive_observer.Halt.TheVariants.{Left, Unheard, Untold}

-- a transfer's number after a space
abbrev pub number_word : ℕ → List ℕ
number_word t = codes " " ++ decimal t

-- `setting K`, and after it the numbers of its transfers
abbrev pub driven_line : ℕ → List ℕ → List ℕ
driven_line setting numbers =
    codes "setting " ++ decimal setting ++ flat_map number_word numbers ++ codes "\n"

-- Bytes were read: where it went well, one line with its line feed, and nothing after it; else all
-- that was left, in which no line ends.
pub record HasWaited (input_before input_after : Option (List ℕ)) (well : Bool) : Type 0 where
  pub came : List ℕ
  pub read : Consumes input_before input_after came
  pub ends :
      IsTrue well → (front : List ℕ) × All (λ b. b ≢ 10) front × (came ≡ front ++ 10 ∷ [])
  pub none : well ≡ false → All (λ b. b ≢ 10) came × IsAtEnd input_after

-- bytes were read in which no line ends, and no more could be read
pub record HasWaitedInVain (input_before input_after : Option (List ℕ)) : Type 0 where
  pub came : List ℕ
  pub read : Consumes input_before input_after came
  pub none : All (λ b. b ≢ 10) came

-- The line of a setting was told, and where one was waited for, a line was read, or the input
-- ended, or couldn't be read; or not all of the line could be told, and nothing was read. It is
-- told over the same loan.
abbrev pub HasToldLine : {I O : Type 0} → (I → Option (List ℕ)) → (O → Option (List ℕ)) → ℕ → List ℕ
    → Result (Unit {0}) Halt → LineObserver I O → LineObserver I O → Type 0
HasToldLine {I} {O} remaining contents setting numbers (Ok done) old new =
    Appends (contents old.out.now) (contents new.out.now) (driven_line setting numbers)
    × (new.out.ghost_name ≡ old.out.ghost_name)
    × (IsTrue old.waits → HasWaited (remaining old.input.now) (remaining new.input.now) true)
    × (old.waits ≡ false → new.input ≡ old.input)
    × (new.waits ≡ old.waits)
HasToldLine {I} {O} remaining contents setting numbers (Err Left) old new =
    Appends (contents old.out.now) (contents new.out.now) (driven_line setting numbers)
    × (new.out.ghost_name ≡ old.out.ghost_name)
    × IsTrue old.waits
    × HasWaited (remaining old.input.now) (remaining new.input.now) false
    × (new.waits ≡ old.waits)
HasToldLine {I} {O} remaining contents setting numbers (Err Unheard) old new =
    Appends (contents old.out.now) (contents new.out.now) (driven_line setting numbers)
    × (new.out.ghost_name ≡ old.out.ghost_name)
    × IsTrue old.waits
    × HasWaitedInVain (remaining old.input.now) (remaining new.input.now)
    × (new.waits ≡ old.waits)
HasToldLine {I} {O} remaining contents setting numbers (Err Untold) old new =
    IsCutShort (contents old.out.now) (contents new.out.now) (driven_line setting numbers)
    × (new.out.ghost_name ≡ old.out.ghost_name)
    × (new.input ≡ old.input)
    × (new.waits ≡ old.waits)

-- what is seen of them: the text that was told, and what is left of the input
pub record Dialogue : Type 0 where
  pub told : List ℕ
  pub left : Option (List ℕ)

-- What becomes of that where the line of a setting is told: it stands after the others, and where
-- one is waited for, a line was read, or the input ended, or couldn't be read; or, where it
-- couldn't be told, a front of it stands there, and nothing was read.
abbrev pub TellsLine : Bool → Dialogue → ℕ → List ℕ → Result (Unit {0}) Halt → Dialogue → Type 0
TellsLine waits old setting numbers (Ok done) new =
    (new.told ≡ old.told ++ driven_line setting numbers)
    × (IsTrue waits → HasWaited old.left new.left true)
    × (waits ≡ false → new.left ≡ old.left)
TellsLine waits old setting numbers (Err Left) new =
    (new.told ≡ old.told ++ driven_line setting numbers)
    × IsTrue waits
    × HasWaited old.left new.left false
TellsLine waits old setting numbers (Err Unheard) new =
    (new.told ≡ old.told ++ driven_line setting numbers)
    × IsTrue waits
    × HasWaitedInVain old.left new.left
TellsLine waits old setting numbers (Err Untold) new =
    (front missing : List ℕ) × (driven_line setting numbers ≡ front ++ missing)
    × (new.told ≡ old.told ++ front)
    × (new.left ≡ old.left)
