-- What is told, as far as it can be written.
use Rattle.std.proofs.Common.{ℕ, List, Option, Some, None, Result, Ok, Err, OnOk, OnErr, append-nil, IfSome, inl, refl, sym, []}
use Rattle.std.specs.Prelude.{String, option_map, string_bytes}
use Rattle.std.specs.Global.{Global}
use Rattle.std.specs.Io.KnownBytes.{Appends}
use Rattle.byte_streams.specs.Writing.{IsCutShort}
use Rattle.refusals.specs.declared.refusal.Refusal.TheVariants as refusal
use Rattle.named_files.specs.Notes.{unanswered, IsToldInPart, IsNoteOn, IsWholeLine}

-- the bytes of a line, if there is one
abbrev pub bytes_of_line : Option (String Global) → Option (List ℕ)
bytes_of_line note = option_map (λ line. string_bytes line) note

-- what is told of a file that can't be read, or isn't one that may be used
pub file_told : (r : Option (String Global)) → IfSome r (λ line. IsWholeLine (string_bytes line)) → IsNoteOn (unanswered refusal.File) (bytes_of_line r)
file_told None h = tt
file_told (Some text) h = record { refused = refl; of = inl (refusal.File, (λ e. cc), refl); whole = h }

-- as much of a line as could be written
pub begun : {T E : Type 0} (r : Result T E) (before after : Option (List ℕ)) (line : List ℕ) → OnOk r (Appends before after line)
    → OnErr r (IsCutShort before after line) → IsToldInPart before after line
begun (Ok x) before after line went cut = (line, [], sym (append-nil line), went)
begun (Err e) before after line went cut = (cut.front, cut.missing, cut.bytes_are, cut.appended)
