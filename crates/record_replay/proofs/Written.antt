-- What a stream's writer has got is a front of the whole record.
use Rattle.std.proofs.Common.{◌≡◌, ℕ, List, [], ◌++◌, length, sym, ap, ◌∙◌, append_assoc, append-nil, arith}
use Rattle.std.proofs.lemmas.List.{length-append, nil_from_length}
use Rattle.module_memory.specs.Images.{image_of}
use Rattle.module_memory.specs.Store.{Store}
use Rattle.batch_book.specs.declared.entry.Entry.{Entry}
use Rattle.book_record.specs.RecordText.{texts}
use Rattle.book_record.specs.Fronts.{last_lines}
use Rattle.book_record.specs.Heads.{head_of, record_of}
use Rattle.book_record.specs.Sums.{adler}
use Rattle.book_record.proofs.Streams.{texts_both}
use Rattle.record_replay.specs.SessionRecords.{StreamIsRecorded}

-- a record with more entries
pub record_append : (names : List (List ℕ)) (opening : Store) (es fs : List Entry) → record_of names opening (es ++ fs) ≡ record_of names opening es
    ++ texts (length es) fs
record_append names opening es fs =
    let head = head_of opening.shape (adler (image_of opening)) names in
    ap (λ (l : List ℕ). head ++ l) (texts_both es fs) ∙ sym (append_assoc head (texts 0 es) (texts (length es) fs))

pub stream_is_recorded : StreamIsRecorded
stream_is_recorded names was left text same w =
    let so_far = record_of names was.opening was.history in
    let all = record_of names left.opening left.history in
    let durable = record_of names left.opening left.durable in
    let last = last_lines (length left.history) in
    let has : text ≡ durable ++ w.front =
    w.appended ∙ sym (append_assoc so_far (texts (length was.history) w.added) w.front)
    ∙ ap (λ (l : List ℕ). l ++ w.front) (sym (record_append names was.opening was.history w.added) ∙ ap (record_of names was.opening) (sym w.stand)
    ∙ ap (λ (o : Store). record_of names o left.durable) (sym same)) in
    let cut : all ≡ text ++ w.missing =
    ap (record_of names left.opening) w.are ∙ record_append names left.opening left.durable w.waiting ∙ ap (λ (l : List ℕ). durable ++ l) w.cut
    ∙ sym (append_assoc durable w.front w.missing) ∙ ap (λ (l : List ℕ). l ++ w.missing) (sym has) in (
      record { rest = w.front; has = has; missing = w.missing ++ last; cut = ap (λ (l : List ℕ). l ++ last) cut ∙ append_assoc text w.missing last },
      λ stand end missing is. let none : w.waiting ≡ [] =
          nil_from_length w.waiting (omega (arith, ap length w.are, ap length stand, length-append left.durable w.waiting)) in
          let gone : w.front ++ w.missing ≡ [] = sym w.cut ∙ ap (texts (length left.durable)) none in
          let nothing : w.missing ≡ [] = nil_from_length w.missing (omega (arith, ap length gone, length-append w.front w.missing)) in
          record {
            rest = w.front ++ end;
            has = ap (λ (l : List ℕ). l ++ end) has ∙ append_assoc durable w.front end;
            missing = missing;
            cut = ap (λ (l : List ℕ). l ++ last) (cut ∙ ap (λ (l : List ℕ). text ++ l) nothing ∙ append-nil text) ∙ ap (λ (l : List ℕ). text ++ l) is
                ∙ sym (append_assoc text end missing);
          },
    )
