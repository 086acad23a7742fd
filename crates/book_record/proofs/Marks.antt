-- What bytes the lines of an entry have; the mark of a sum isn't one.
use Rattle.std.proofs.Common.{◌≡◌, ℕ, List, [], ◌∷◌, ◌++◌, ◌∙◌, All, length, take, codes, refl, ap, subst, append_assoc, arith, inl, inr}
use Rattle.std.specs.Fmt.{decimal}
use Rattle.std.specs.List.{flat_map}
use Rattle.std.proofs.lemmas.List.Elements.{All-append, All-cons, All-nil, All-push, All-take}
use Rattle.std.proofs.Math.Seq.{take-append_seam}
use Rattle.batch.specs.Text.{head, number, line, first_word, space, line_feed}
use Rattle.batch.specs.declared.transfer.Kind.{Kind}
use Rattle.batch.specs.declared.transfer.Kind.TheVariants.{Push}
use Rattle.batch.specs.declared.transfer.Transfer.{Transfer}
use Rattle.line_words.specs.HexWords.{hex8}
use Rattle.batch_book.specs.declared.entry.Entry.{Entry}
use Rattle.batch_book.specs.Told.{PlanlessCall, told}
use Rattle.batch_book.specs.declared.recorded_call.RecordedCall.TheVariants as recorded_call
use Rattle.book_record.specs.RecordText.{id_of, call_line, call_text, entry_lines, CanTell}
use Rattle.book_record.specs.Fronts.{IsLineByte, end_line}
use Rattle.book_record.specs.Sums.{HasNoMark, numbered, sum_at, sum_mark, sum_line, summed}
use Rattle.book_record.proofs.Feeds.{AreTold, IsOneLine, IsPlain, both, decimal_plain, fed, hex8_plain, line_told, numbered as words_and_number, plain_told, spaced, together, words}
use Rattle.book_record.proofs.Replies.{one_line}

kind_word : (k : Kind) → IsPlain (first_word k)
kind_word Push = words (codes "push ") refl
kind_word k = words (first_word k) refl

pub transfer_line : (t : Transfer) → IsOneLine (line t)
transfer_line t = record {
  words = (first_word t.kind ++ (number t.initiator space ++ number t.own_block space)) ++ (number t.responder space ++ decimal t.far_block);
  plain = both (both (kind_word t.kind) (both (spaced t.initiator) (spaced t.own_block))) (both (spaced t.responder) (decimal_plain t.far_block));
  are = simp append_assoc;
}

pub heading : (n : ℕ) → IsOneLine (head n)
heading n = record { words = codes "batch " ++ decimal n; plain = words_and_number (codes "batch ") n refl; are = simp append_assoc }

transfers_told : (ts : List Transfer) → AreTold (flat_map line ts)
transfers_told [] = record { each = All-nil _ }
transfers_told (t ∷ ts) = together (line_told (transfer_line t)) (transfers_told ts)

-- a call's line
pub call_plain : (c : PlanlessCall) → IsPlain (call_line c)
call_plain (recorded_call.Submit batch) = words_and_number (codes "batch ") (length batch) refl
call_plain (recorded_call.Fetch id) = words_and_number (codes "fetch ") id refl
call_plain (recorded_call.Settle id) = words_and_number (codes "settle ") id refl
call_plain (recorded_call.Run id) = words_and_number (codes "run ") id refl
call_plain (recorded_call.Show id) = words_and_number (codes "show ") id refl
call_plain (recorded_call.Discard id) = words_and_number (codes "drop ") id refl
call_plain (recorded_call.Peek «module» address) = both (both (words (codes "peek ") refl) (spaced «module»)) (hex8_plain address)
call_plain (recorded_call.Poke «module» address word) =
    both (words (codes "poke ") refl) (both (spaced «module») (both (hex8_plain address) (both (words (space ∷ []) refl) (hex8_plain word))))

call_told : (c : PlanlessCall) → AreTold (call_text c)
call_told (recorded_call.Submit batch) = together (line_told (heading (length batch))) (transfers_told batch)
call_told c = line_told (fed (call_plain c))

entry_told : (e : Entry) → CanTell e → AreTold (entry_lines e)
entry_told e can = together (plain_told (spaced e.session)) (together (call_told (told e.call)) (line_told (one_line (id_of (told e.call)) e.reply can.reply)))

pub told_unmarked : (e : Entry) → CanTell e → HasNoMark (entry_lines e)
told_unmarked e can k d less = ((entry_told e can).each k d less).1

pub told_lined : (e : Entry) → CanTell e → All IsLineByte (entry_lines e)
told_lined e can k d less = ((entry_told e can).each k d less).0

end_told : (n : ℕ) → AreTold (end_line n)
end_told n = together (plain_told (words (codes "end ") refl)) (line_told (fed (decimal_plain (numbered n))))

pub end_unmarked : (n : ℕ) → HasNoMark (end_line n)
end_unmarked n k d less = ((end_told n).each k d less).1

pub end_lined : (n : ℕ) → All IsLineByte (end_line n)
end_lined n k d less = ((end_told n).each k d less).0

-- ---- what is summed

summed_lined : (n : ℕ) (b : List ℕ) → All IsLineByte b → All IsLineByte (summed n b)
summed_lined n b lined =
    let digits = hex8 (sum_at n b) in
    All-append IsLineByte b (sum_line (sum_at n b)) lined
    (All-cons IsLineByte sum_mark (digits ++ line_feed ∷ []) (inr (omega arith, omega arith))
    (All-push IsLineByte digits line_feed (λ k d less. ((plain_told (hex8_plain (sum_at n b))).each k d less).0) (inl refl)))

-- a front of it
pub front_lined : (n : ℕ) (b front missing : List ℕ) → All IsLineByte b → summed n b ≡ front ++ missing → All IsLineByte front
front_lined n b front missing lined is =
    subst (All IsLineByte) (ap (take (length front)) is ∙ take-append_seam front missing)
    (All-take IsLineByte (length front) (summed n b) (summed_lined n b lined))
