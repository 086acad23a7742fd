use Rattle.std.proofs.Common.{inr, ap}
use Rattle.std.specs.Prelude.{option_map, string_bytes}
use Rattle.named_files.proofs.notes.tell_note.Goals as goal

pub returns-in-Some : goal.returns-in-Some
returns-in-Some g c =
    inr (
      c.if-is_quiet.false,
      string_bytes c.in-Some.line,
      ap (option_map (λ line. string_bytes line)) c.in-Some.is,
      rw (c.as_bytes.ensures.value, c.as_str.ensures.value) at c.tell_line.ensures,
    )
