-- What `run` prints of a run that was completed. The texts are this project's choice.
use Rattle.std.specs.Prelude.{◌≡◌, ℕ, ◌*◌, List, [], ◌++◌, Bool, true, false, Option, Some, None}
use Rattle.std.specs.Prelude.{if◌then◌else◌, codes, length}
use Rattle.std.specs.Global.{Vec}
use Rattle.std.specs.Fmt.{decimal}
use Rattle.std.specs.List.{flat_map, range_with_len}
use Rattle.batch.specs.declared.transfer.Place.{Place}
use Rattle.batch.specs.declared.transfer.Transfer.{Transfer}
use Rattle.batch.specs.Held.{is_written}
use Rattle.module_memory.specs.Store.{Store, block_of}
use Rattle.setting_runner.specs.LineBits.{bits_of}
use Rattle.line_words.specs.HexWords.{hex8}
use Rattle.plan_answers.specs.declared.source.Planning.TheVariants.{Plain, Steady}
use Rattle.plan_answers.specs.declared.source.ScheduleSource.{ScheduleSource}
use Rattle.plan_answers.specs.declared.source.ScheduleSource.TheVariants.{Plan, Text}
use Rattle.steady_schedule.specs.Changes.{changes}

-- `ran settings S words X bits Y`
abbrev pub ran_line : ℕ → ℕ → List ℕ
ran_line settings words =
    codes "ran settings " ++ decimal settings
    ++ (codes " words "
    ++ (decimal words ++ (codes " bits " ++ (decimal (bits_of words) ++ codes "\n"))))

-- words, with a space before each
abbrev pub words_text : List ℕ → List ℕ
words_text words = flat_map (λ word. codes " " ++ hex8 word) words

-- `block M B`
abbrev pub block_head : Place → List ℕ
block_head p = codes "block " ++ decimal p.«module» ++ (codes " " ++ decimal p.block)

-- that, and the words of the block
abbrev pub block_line : Store → Place → List ℕ
block_line s p = block_head p ++ words_text (block_of s p) ++ codes "\n"

-- what is said of a block of a module: its line, where the batch writes it
abbrev pub block_text : List Transfer → Store → ℕ → ℕ → List ℕ
block_text batch s m b =
    let p : Place = record { «module» = m; block = b } in
    if is_written batch p then block_line s p else []

-- what is said of the blocks of a module, in their order
abbrev pub module_text : List Transfer → Store → ℕ → List ℕ
module_text batch s m = flat_map (block_text batch s m) (range_with_len 0 s.shape.blocks)

-- the words of each block that was written, by module and then by block
abbrev pub blocks_text : List Transfer → Store → List ℕ
blocks_text batch s = flat_map (module_text batch s) (range_with_len 0 s.shape.modules)

-- `changes N`, where it is told how often the switch changed
abbrev pub changes_text : Option ℕ → List ℕ
changes_text None = []
changes_text (Some changes) = codes "changes " ++ decimal changes ++ codes "\n"

-- how much was done, and then those words
abbrev pub report_of : List Transfer → ℕ → Option ℕ → Store → List ℕ
report_of batch settings changed s =
    ran_line settings (length batch * s.shape.words) ++ changes_text changed ++ blocks_text batch s

-- whether it is told how often the switch changed over a schedule from this source: not over a
-- plain plan
abbrev pub tells_changes : ScheduleSource (List ℕ) → Bool
tells_changes (Plan Plain) = false
tells_changes (Plan Steady) = true
tells_changes (Text schedule) = true

-- how often it changes over these settings, where that is told
abbrev pub told_changes : Bool → List Transfer → List (List ℕ) → Option ℕ
told_changes told batch settings = if told then Some (changes batch settings) else None

-- the report of a run of a schedule from this source
abbrev pub report_for : ScheduleSource (List ℕ) → List Transfer → List (List ℕ) → Store → List ℕ
report_for source batch settings s =
    report_of batch (length settings) (told_changes (tells_changes source) batch settings) s

-- these bytes were put at the end of a text
abbrev pub Adds : Vec ℕ → Vec ℕ → List ℕ → Type 0
Adds old new more = new.items ≡ old.items ++ more
