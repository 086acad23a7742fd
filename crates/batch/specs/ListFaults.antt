-- The first fault of a text that lists no things. The order of the faults is this project's choice.
use Rattle.std.specs.Prelude.{◌≡◌, ◌≢◌, ℕ, ◌<◌, ◌≤◌, ◌+◌, List, [], ◌++◌, length, All}
use Rattle.std.specs.List.{flat_map}
use Rattle.batch.specs.declared.limits.TheConstants.{MAX_TRANSFERS}
use Rattle.batch.specs.declared.fault.BatchFault.{BatchFault}
use Rattle.batch.specs.declared.fault.BatchFault.TheVariants.{Line, TooMany, NoModule, NoBlock}
use Rattle.batch.specs.declared.fault.BatchFault.TheVariants.{Count, NoMemory}
use Rattle.batch.specs.declared.transfer.Place.{Place}
use Rattle.batch.specs.ShapeView.{ShapeView}
use Rattle.batch.specs.Numbers.{IsNumber}
use Rattle.batch.specs.Lists.{Form, place_text, head, line, HasModules, HasBlocks, IsWithin}

-- a text can spell the place's numbers
abbrev pub CanSpell : Place → Type 0
CanSpell p = IsNumber p.«module» × IsNumber p.block

-- the text begins with a place that this byte ends
abbrev pub BeginsWithPlace : List ℕ → Place → ℕ → List ℕ → Type 0
BeginsWithPlace text p end after = CanSpell p × (text ≡ place_text p end ++ after)

-- the text begins with no such place
abbrev pub BeginsWithNoPlace : List ℕ → ℕ → Type 0
BeginsWithNoPlace text end = (p : Place) (after : List ℕ) → BeginsWithPlace text p end after → ⊥

module _ {Thing : Type 0} (form : Form Thing) where
  -- the text begins with the line that counts n things
  abbrev pub IsHeaded : List ℕ → ℕ → List ℕ → Type 0
  IsHeaded text n rest = IsNumber n × (text ≡ head form n ++ rest)

  -- the text begins with no such line
  abbrev pub HasNoHead : List ℕ → Type 0
  HasNoHead text = (n : ℕ) (rest : List ℕ) → IsHeaded text n rest → ⊥

  -- the text begins with the line that counts too many
  pub record AnnouncesTooMany (text : List ℕ) : Type 0 where
    pub n : ℕ
    pub rest : List ℕ
    pub headed : IsHeaded text n rest
    pub too_many : MAX_TRANSFERS < n

  -- a line can spell the thing's numbers
  abbrev pub IsSpellable : Thing → Type 0
  IsSpellable x = CanSpell (form.first x) × CanSpell (form.second x)

  -- the text begins with the line of a thing
  abbrev pub BeginsWithLine : List ℕ → Thing → List ℕ → Type 0
  BeginsWithLine text x after = IsSpellable x × (text ≡ line form x ++ after)

  -- the text begins with the line of no thing
  abbrev pub BeginsWithNoLine : List ℕ → Type 0
  BeginsWithNoLine text = (x : Thing) (after : List ℕ) → BeginsWithLine text x after → ⊥

  -- what is wrong with the first line
  abbrev pub IsHeadFault : List ℕ → BatchFault → Type 0
  IsHeadFault text (Line k) = (k ≡ 1) × HasNoHead text
  IsHeadFault text TooMany = AnnouncesTooMany text
  IsHeadFault text _ = ⊥

module _ {Thing : Type 0} (form : Form Thing) (shape : ShapeView) where
  -- the text begins with the line of a thing, a module of which the shape hasn't
  pub record NamesNoModule (text : List ℕ) : Type 0 where
    pub thing : Thing
    pub after : List ℕ
    pub begins : BeginsWithLine form text thing after
    pub missing : HasModules form shape thing → ⊥

  -- the text begins with the line of a thing whose modules the shape has, and a block of which it
  -- hasn't
  pub record NamesNoBlock (text : List ℕ) : Type 0 where
    pub thing : Thing
    pub after : List ℕ
    pub begins : BeginsWithLine form text thing after
    pub modules : HasModules form shape thing
    pub missing : HasBlocks form shape thing → ⊥

  -- what is wrong where the line of thing t should stand, which is line t + 2
  abbrev pub IsLineFault : ℕ → List ℕ → BatchFault → Type 0
  IsLineFault t rest Count = rest ≡ []
  IsLineFault t rest (Line k) = (k ≡ t + 2) × (rest ≢ []) × BeginsWithNoLine form rest
  IsLineFault t rest (NoModule k) = (k ≡ t) × NamesNoModule rest
  IsLineFault t rest (NoBlock k) = (k ≡ t) × NamesNoBlock rest
  IsLineFault t rest _ = ⊥

  -- The text announces n things, which is allowed. The lines of xs, the first of these, stand
  -- there, and then the rest. The shape has what they name.
  pub record IsGoodUpTo (text : List ℕ) (n : ℕ) (xs : List Thing) (rest : List ℕ) : Type 0 where
    pub allowed : n ≤ MAX_TRANSFERS
    pub at_most : length xs ≤ n
    pub within : All (IsWithin form shape) xs
    pub spelled : text ≡ head form n ++ (flat_map (line form) xs ++ rest)

  -- the first fault of the text: of its first line, of a line after good ones, or something that
  -- follows the last
  pub data IsFirstFault (text : List ℕ) (fault : BatchFault) : Type 0 where
    at_head : IsHeadFault form text fault → IsFirstFault text fault
    at_line : (n : ℕ) (xs : List Thing) (rest : List ℕ) → IsGoodUpTo text n xs rest
        → length xs < n → IsLineFault (length xs) rest fault → IsFirstFault text fault
    at_end : (n : ℕ) (xs : List Thing) (rest : List ℕ) → IsGoodUpTo text n xs rest → length xs ≡ n
        → rest ≢ [] → fault ≡ Count → IsFirstFault text fault

  -- The line of a thing stands in the text, as it should. Where there is none, reading needs no
  -- memory.
  pub record NeedsMemory (text : List ℕ) : Type 0 where
    pub n : ℕ
    pub xs : List Thing
    pub rest : List ℕ
    pub some : 0 < length xs
    pub good : IsGoodUpTo text n xs rest

-- a fault other than want of memory is so
abbrev pub ButForMemory : (BatchFault → Type 0) → BatchFault → Type 0
ButForMemory IsFault fault = fault ≢ NoMemory → IsFault fault

-- where the fault is want of memory, this is so
abbrev pub ForMemory : Type 0 → BatchFault → Type 0
ForMemory Needs fault = fault ≡ NoMemory → Needs
