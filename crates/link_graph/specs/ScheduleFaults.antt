-- The first line at fault of a text that says no schedule, and the texts that can't be read without
-- memory. This project's choice.
use Rattle.std.specs.Prelude.{◌≡◌, ◌≢◌, ℕ, ◌+◌, ◌<◌, ◌⊎◌, List, [], ◌∷◌, ◌++◌, length, map, All}
use Rattle.std.specs.Prelude.{Option, IfSome, codes, slice_index_or}
use Rattle.std.specs.Fmt.{decimal}
use Rattle.batch.specs.Text.{IsNumber, space, line_feed}
use Rattle.link_graph.specs.declared.link.End.{End}
use Rattle.link_graph.specs.declared.link.Link.{Link}
use Rattle.link_graph.specs.declared.schedule_fault.ScheduleFault.{ScheduleFault}
use Rattle.link_graph.specs.declared.schedule_fault.ScheduleFault.TheVariants.{Line, NoMemory}
use Rattle.link_graph.specs.Links.{IsInRack}
use Rattle.link_graph.specs.Certificates.{Naming, IsNaming}
use Rattle.link_graph.specs.ScheduleText.{CertifiedSettings, CanSay, CanName, said_lines, text_of}
use Rattle.link_graph.specs.ScheduleText.{numbers, settings_line, setting_line, end_number}
use Rattle.link_graph.specs.ScheduleText.{busiest_line, named_line, certificate_lines}

-- bytes within one line
abbrev pub IsLine : List ℕ → Type 0
IsLine line = All (λ c. c ≢ line_feed) line

-- lines that are wanted begin with these
pub record Begins (Wanted : List (List ℕ) → Type 0) (lines : List (List ℕ)) : Type 0 where
  pub more : List (List ℕ)
  pub wanted : Wanted (lines ++ more)

-- Line n of the text, counted from 1, is the first that isn't wanted in its place: the lines before
-- it are, and the line after them is not.
-- Where no whole line stands after them, as the last line feed is missing or the text ends too
-- early, that is line n too.
pub record IsFirstBad (Wanted : List (List ℕ) → Type 0) (text : List ℕ) (n : ℕ) : Type 0 where
  pub before : List (List ℕ)
  pub rest : List ℕ
  pub parts : text ≡ text_of before ++ rest
  pub within_lines : All IsLine before
  pub number : n ≡ length before + 1
  pub good : Begins Wanted before
  pub next_unwanted : (line after : List ℕ) → IsLine line → rest ≡ line ++ line_feed ∷ after
      → Begins Wanted (before ++ line ∷ []) → ⊥
  pub unfinished : rest ≡ [] → Wanted before → ⊥

-- the lines of a text that says something
pub record AreSaid (lines : List (List ℕ)) : Type 0 where
  pub says : CertifiedSettings
  pub can_say : CanSay says
  pub spelled : lines ≡ said_lines says

-- line n is the first that isn't wanted in a text that says something
abbrev pub IsFirstBadLine : List ℕ → ℕ → Type 0
IsFirstBadLine text n = IsFirstBad AreSaid text n

-- ---- the same after the first lines

-- lines that may stand after the line that counts the settings
pub record AreCounted (count : ℕ) (lines : List (List ℕ)) : Type 0 where
  pub says : CertifiedSettings
  pub can_say : CanSay says
  pub counted : length says.settings ≡ count
  pub spelled : lines ≡ map setting_line says.settings ++ certificate_lines says.certificate

-- lines that may stand after those of the settings
pub record AreCertified (lines : List (List ℕ)) : Type 0 where
  pub certificate : Option Naming
  pub names_fit : CanName certificate
  pub link_named : IfSome certificate IsNaming
  pub spelled : lines ≡ certificate_lines certificate

-- the line that may stand after that of the busiest link
pub record AreNamed (lines : List (List ℕ)) : Type 0 where
  pub transfers : List ℕ
  pub some : 0 < length transfers
  pub fit : All IsNumber transfers
  pub spelled : lines ≡ named_line transfers ∷ []

-- ---- want of memory

-- the line of a setting, or one that names transfers
abbrev pub IsKept : List ℕ → Type 0
IsKept line =
    (ts : List ℕ) × ((line ≡ setting_line ts) ⊎ ((line ≡ named_line ts) × (0 < length ts)))

-- after lines that are wanted, the front of a line stands that has to be kept
pub record HasToKeep (Wanted : List (List ℕ) → Type 0) (text : List ℕ) : Type 0 where
  pub before : List (List ℕ)
  pub line : List ℕ
  pub rest : List ℕ
  pub parts : text ≡ text_of before ++ (line ++ rest)
  pub good : Begins Wanted (before ++ line ∷ [])
  pub kept : IsKept line

-- The first line is good, and something after it has to be kept. Reading any other text needs no
-- memory.
pub record NeedsMemory (text : List ℕ) : Type 0 where
  pub count : ℕ
  pub is_number : IsNumber count
  pub behind : List ℕ
  pub headed : text ≡ settings_line count ++ line_feed ∷ behind
  pub keeps : HasToKeep (AreCounted count) behind

-- the fault of a text that says nothing, or want of memory
abbrev pub IsFaultOf : List ℕ → ScheduleFault → Type 0
IsFaultOf text (Line n) = IsFirstBadLine text n
IsFaultOf text NoMemory = NeedsMemory text

-- the same of a part of a text, above which so many lines stand
abbrev pub IsFaultBelow : ℕ → (List (List ℕ) → Type 0) → List ℕ → ScheduleFault → Type 0
IsFaultBelow above Wanted text (Line n) = (m : ℕ) × (n ≡ above + m) × IsFirstBad Wanted text m
IsFaultBelow above Wanted text NoMemory = HasToKeep Wanted text

-- a word, numbers after it, one at least, and then the rest
pub record BeginsWithNumbers (word line : List ℕ) : Type 0 where
  pub transfers : List ℕ
  pub rest : List ℕ
  pub some : 0 < length transfers
  pub fit : All IsNumber transfers
  pub spelled : line ≡ (word ++ numbers transfers) ++ rest

-- the line with this number isn't the word with numbers after it, or it begins so where memory was
-- wanted
abbrev pub IsLineFault : ℕ → List ℕ → List ℕ → ScheduleFault → Type 0
IsLineFault at word line (Line n) =
    (n ≡ at) × ((ts : List ℕ) → All IsNumber ts → line ≢ word ++ numbers ts)
IsLineFault at word line NoMemory = BeginsWithNumbers word line

-- ---- what the readers of the parts find

-- the text's first line, without its line feed, and what stands after it
abbrev pub HasFirstLine : List ℕ → List ℕ → List ℕ → Type 0
HasFirstLine text line rest = IsLine line × (text ≡ line ++ line_feed ∷ rest)

-- the number that the words begin with, after a space, and the rest, which is nothing or begins
-- with a space
abbrev pub HasFirstNumber : List ℕ → ℕ → List ℕ → Type 0
HasFirstNumber words n rest =
    IsNumber n × (words ≡ codes " " ++ decimal n ++ rest) × (slice_index_or rest 0 space ≡ space)

-- the words aren't numbers, one at least, each with a space before it
abbrev pub AreNoNumbers : List ℕ → Type 0
AreNoNumbers words = (t : ℕ) (ts : List ℕ) → IsNumber t → words ≢ numbers (t ∷ ts)

-- the line is the word, and then these numbers with a space before each
abbrev pub IsWordWithNumbers : List ℕ → List ℕ → List ℕ → Type 0
IsWordWithNumbers word line ts = All IsNumber ts × (line ≡ word ++ numbers ts)

-- the bytes don't begin with the number of an end
abbrev pub HasNoFirstEnd : List ℕ → Type 0
HasNoFirstEnd bytes = (end : End) (rest : List ℕ) → bytes ≢ decimal (end_number end) ++ rest

-- the line names no link of a module that a rack may have
abbrev pub NamesNoLink : List ℕ → Type 0
NamesNoLink line = (link : Link) → IsInRack link → line ≢ busiest_line link
