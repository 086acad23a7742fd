-- What is recorded of the books that sessions leave is replayed to what these have.
use Rattle.std.proofs.Common.{◌≡◌, ◌⊎◌, ℕ, zero, suc, ◌+◌, ◌-◌, ◌<◌, ◌≤◌, List, [], ◌∷◌, ◌++◌, append_assoc, append-nil, length, get_or, map, All, Bool, false, Option, None, Some, refl, sym, ap, ◌∙◌}
use Rattle.std.proofs.Common.{subst, arith, inl, inr}
use Rattle.std.specs.Prelude.{unwrap_or}
use Rattle.std.specs.List.{AllByRecursion, range_with_len, sum_by}
use Rattle.std.proofs.lemmas.List.{append_cancel_left}
use Rattle.std.proofs.lemmas.List.Elements.{All-append, All-from_recursion, All-nil, All-weaker, recursion_from_All}
use Rattle.std.proofs.lemmas.List.FromFn.{get_or-range_with_len, length-range_with_len}
use Rattle.std.proofs.lemmas.List.Sums.{sum_by-cons}
use Rattle.std.proofs.lemmas.Simd.{map-map}
use Rattle.batch.specs.ShapeView.{ShapeView, IsShape}
use Rattle.batch.specs.ShapeText.{shape_text}
use Rattle.module_memory.specs.Images.{image_of}
use Rattle.module_memory.specs.Store.{Store}
use Rattle.batch_book.specs.declared.entry.Entry.{Entry}
use Rattle.batch_book.specs.History.{BookView, AreUnstopped, IsReplay, IsPrefix, new_book_view}
use Rattle.batch_book.specs.Machine.{Machine, opened}
use Rattle.batch_book.specs.Replies.{IsUnstopped}
use Rattle.batch_book.specs.Seats.{own}
use Rattle.batch_book.specs.Told.{told}
use Rattle.batch_book.proofs.Fronts.{front, starts, starts_same}
use Rattle.batch_book.proofs.OneReplay.{shape_stays}
use Rattle.exchange_limits.specs.declared.limits.TheConstants.{MAX_SESSIONS}
use Rattle.rack_answers.specs.Openings.{IsOfImageOrZeros, IsRackOf}
use Rattle.rack_answers.proofs.Openings.{rack_blocks}
use Rattle.book_record.specs.RecordText.{texts, CanSay, CanTell}
use Rattle.book_record.specs.Fronts.{last_lines}
use Rattle.book_record.specs.Heads.{AreNames, IsName, head_of, record_of, session_limit, whole_record}
use Rattle.book_record.specs.Sums.{adler}
use Rattle.book_record.proofs.Fronts.{each_front, end_is_no_entry, split}
use Rattle.book_record.proofs.Streams.{texts_both}
use Rattle.book_record.proofs.Sums.{sum_is_word}
use Rattle.record_replay.specs.Replays.{AreFewer, Ends, IsRemade}
use Rattle.record_replay.specs.Fetched.{AreOfLines}
use Rattle.record_replay.specs.SessionLaws.{SessionsAreTold, SessionsSay}
use Rattle.record_replay.proofs.Parts.{IsBelow, both_parts, replay_split}
use Rattle.record_replay.proofs.Others.{no_others}
use Rattle.record_replay.proofs.Steps.{steps_seen, tell_unstopped}
use Rattle.record_replay.proofs.Written.{record_append}
use Rattle.record_replay.specs.declared.answering.Torn.{Torn}
use Rattle.record_replay.specs.ReplayAnswers.{led, replayed, IsShapeOf, IsTornSo}
use Rattle.plan_answers.specs.Refusals.{Printed}
use Rattle.session_answers.specs.declared.ended_session.Ending.TheVariants.{Unopened, Served}
use Rattle.session_answers.specs.Frames.{Transcript}
use Rattle.session_answers.specs.Histories.{AreParts, HasAllEntries, HaveOneHistory, IsClosing, Part}
use Rattle.session_answers.specs.HostAnswers.{KnownClients, SessionEnd, HostedSession, IsHostedSession}
use Rattle.session_answers.specs.Serving.{HasItsScript, served, refused}
use Rattle.session_answers.specs.Sessions.{Beginning, beginning, IsServedSession}
use Rattle.record_replay.specs.SessionRecords.{CanGoOn, IsGivenShape, IsRecorded, IsReplayedInPart, IsReplayedTo, ServeIsReplayed, HostIsReplayed, TalkIsReplayed}

-- ---- the rack

-- the shape of a rack
its_shape : (extent : ShapeView) (image : Option (List ℕ)) (rack : Store) → IsOfImageOrZeros extent image rack → rack.shape ≡ extent
its_shape extent None rack words = ap (λ (s : Store). s.shape) words
its_shape extent (Some bytes) rack words = words.same_shape

-- the shape text that is given, or else that of the record's head
shape_is : (given : Option (List ℕ)) (shape : List ℕ) (image : Option (List ℕ)) (opening : Store) (names : List (List ℕ)) (file body : List ℕ)
    → IsGivenShape given shape → IsRackOf shape image opening → AreNames names (length names)
    → file ≡ head_of opening.shape (adler (image_of opening)) names ++ body → IsShapeOf given file shape
shape_is (Some text) shape image opening names file body same rack are head = sym same
shape_is None shape image opening names file body same rack are head = (
  record {
    shape = opening.shape;
    sum = adler (image_of opening);
    names = names;
    body = body;
    allowed = (rack_blocks shape image opening rack).0;
    word = sum_is_word (image_of opening);
    are = are;
    head = head;
  },
  rack.shape_read.spelled ∙ ap shape_text (sym (its_shape rack.extent image opening rack.words)),
)

-- ---- parts

abbrev session_of : Part → ℕ
session_of p = p.session

abbrev OfLines : List Part → Type 0
OfLines parts = AllByRecursion (λ p. AreOfLines p.asked) parts

-- they have as many entries as the history has of their sessions
own_total : (es : List Entry) (parts : List Part) → AllByRecursion (λ p. p.asked ≡ own p.session es) parts
    → sum_by (λ s. length (own s es)) (map session_of parts) ≡ sum_by (λ p. length p.asked) parts
own_total es [] are = refl
own_total es (p ∷ parts) are =
    sum_by-cons (λ (s : ℕ). length (own s es)) p.session (map session_of parts)
    ∙ ap (λ (l : List Entry). length l + sum_by (λ s. length (own s es)) (map session_of parts)) (sym are.0)
    ∙ ap (λ (k : ℕ). length p.asked + k) (own_total es parts are.1)
    ∙ sym (sum_by-cons (λ (q : Part). length q.asked) p parts)

own_lines : (es : List Entry) (parts : List Part) → AllByRecursion (λ p. p.asked ≡ own p.session es) parts → OfLines parts
    → AllByRecursion (λ s. AreOfLines (own s es)) (map session_of parts)
own_lines es [] are say = tt
own_lines es (p ∷ parts) are say = (subst AreOfLines are.0 say.0, own_lines es parts are.1 say.1)

in_range : (Q : ℕ → Type 0) (n s : ℕ) → AllByRecursion Q (range_with_len 0 n) → s < n → Q s
in_range Q n s all less =
    let at : get_or (range_with_len 0 n) s 0 ≡ s = omega (arith, get_or-range_with_len 0 n s 0 less) in
    subst Q at (All-from_recursion Q (range_with_len 0 n) all s 0 (omega (arith, less, length-range_with_len 0 n)))

-- all entries are those of sessions that are numbered from 0
parts_total : (es : List Entry) (parts : List Part) (n : ℕ) → HasAllEntries parts es → AreParts parts es → map session_of parts ≡ range_with_len 0 n
    → sum_by (λ s. length (own s es)) (range_with_len 0 n) ≡ length es
parts_total es parts n counted have numbers =
    subst (λ (ns : List ℕ). sum_by (λ s. length (own s es)) ns ≡ length es) numbers
    (own_total es parts (recursion_from_All (λ p. p.asked ≡ own p.session es) parts have) ∙ sym counted)

each_below : (n limit : ℕ) (es : List Entry) → n ≤ limit → AllByRecursion (λ e. e.session < n) es → All (IsBelow limit) es
each_below n limit es few each = All-weaker (λ e. e.session < n) (IsBelow limit) (λ e less. omega (arith, less, few)) es
    (All-from_recursion (λ e. e.session < n) es each)

-- a record can tell what such sessions asked, after other entries
parts_told : SessionsAreTold → (opening : Store) (earlier es : List Entry) (mid end : Machine) (parts : List Part) (n : ℕ)
    → IsReplay (opened opening) earlier mid → IsReplay mid es end → HasAllEntries parts es → AreParts parts es → AreUnstopped es
    → map session_of parts ≡ range_with_len 0 n → n ≤ 1000000000 → OfLines parts → All CanTell es
parts_told tell opening earlier es mid end parts n before legal counted have unstopped numbers few say =
    let are = recursion_from_All (λ p. p.asked ≡ own p.session es) parts have in
    let lines : AllByRecursion (λ s. AreOfLines (own s es)) (range_with_len 0 n) = subst (AllByRecursion (λ s. AreOfLines (own s es))) numbers
    (own_lines es parts are say) in
    tell opening earlier es mid end n before legal (parts_total es parts n counted have numbers) (omega (arith, few))
    (λ s less. in_range (λ s. AreOfLines (own s es)) n s lines less) unstopped

-- ---- the whole history

-- a record can tell it
all_told : SessionsAreTold → (loses : Bool) (opening : Store) (earlier : List Entry) (parts : List Part) (left : BookView) (n : ℕ)
    → HaveOneHistory loses opening earlier parts left → All CanTell earlier → map session_of parts ≡ range_with_len 0 n → n ≤ 1000000000 → OfLines parts
    → All CanTell left.history
all_told tell loses opening earlier parts left n one before numbers few say =
    let legal = replay_split (opened opening) earlier one.made left.machine (subst (λ (l : List Entry). IsReplay (opened opening) l left.machine) one.are
    one.replay) in
    let unstopped = (both_parts (λ e. IsUnstopped e.reply) earlier one.made (subst AreUnstopped one.are one.unstopped)).1 in
    let made = parts_told tell opening earlier one.made legal.0 left.machine parts n legal.1 legal.2 one.counted one.are_parts unstopped numbers few say in
    subst (All CanTell) (sym one.are) (All-append CanTell earlier one.made before made)

-- it is by sessions below this
all_below : (limit : ℕ) (loses : Bool) (opening : Store) (earlier : List Entry) (parts : List Part) (left : BookView) (n : ℕ)
    → HaveOneHistory loses opening earlier parts left → All (IsBelow limit) earlier → map session_of parts ≡ range_with_len 0 n → n ≤ limit
    → All (IsBelow limit) left.history
all_below limit loses opening earlier parts left n one before numbers few =
    let made = each_below n limit one.made few (no_others one.made n (parts_total one.made parts n one.counted one.are_parts numbers)) in
    subst (All (IsBelow limit)) (sym one.are) (All-append (IsBelow limit) earlier one.made before made)

-- its machine, from the words with which the book was opened
all_led : (loses : Bool) (opening : Store) (earlier : List Entry) (parts : List Part) (left : BookView) → HaveOneHistory loses opening earlier parts left
    → IsReplay (opened left.opening) left.history left.machine
all_led loses opening earlier parts left one = subst (λ (s : Store). IsReplay (opened s) left.history left.machine) (sym one.is_opening) one.replay

-- ---- what stands after the head

-- the first entries of the book's history are made again, all that stand among them, and then the
-- record ends
record Made (limit : ℕ) (names : List (List ℕ)) (book : BookView) (file : List ℕ) : Type 0 where
  body : List ℕ
  is : file ≡ head_of book.opening.shape (adler (image_of book.opening)) names ++ body
  front : List Entry
  has : IsPrefix book.durable front
  first : IsPrefix front book.history
  end : Machine
  rest : List ℕ
  legal : IsReplay (opened book.opening) front end
  remade : IsRemade limit body book.opening None front end rest

-- a front of the last lines ends a record
line_ends : (n : ℕ) (line missing : List ℕ) → last_lines n ≡ line ++ missing → Ends n line
line_ends n line [] is = inl (sym (append-nil line) ∙ sym is)
line_ends n line (b ∷ missing) is = inr (end_is_no_entry.0 n line (b ∷ missing) is (λ e. absurd cc))

-- these entries are made again, and there their text ends
made_again : (limit : ℕ) (opening : Store) (es : List Entry) (end : Machine) (rest : List ℕ) → All CanTell es → All (IsBelow limit) es
    → IsReplay (opened opening) es end → Ends (length es) rest → IsRemade limit (texts 0 es ++ rest) opening None es end rest
made_again limit opening es end rest can below legal ends = record {
  replayed = record { front = refl; each = can; sessions = below; steps = steps_seen (opened opening) es end (tell_unstopped es can) legal };
  ends = inr (tt, ends);
}

-- the text of the entries that stand, and a front of that of the others
cut_made : (limit : ℕ) (names : List (List ℕ)) (book : BookView) (file : List ℕ) (waiting : List Entry) (rest missing : List ℕ) → book.history ≡ book.durable
    ++ waiting → All CanTell book.history → All (IsBelow limit) book.history → IsReplay (opened book.opening) book.history book.machine
    → file ≡ record_of names book.opening book.durable ++ rest → texts (length book.durable) waiting ≡ rest ++ missing → Made limit names book file
cut_made limit names book file waiting rest missing are can below legal has cut =
    let head = head_of book.opening.shape (adler (image_of book.opening)) names in
    let durable = texts 0 book.durable in
    let parts = both_parts CanTell book.durable waiting (subst (All CanTell) are can) in
    let c = each_front (length book.durable) waiting rest missing parts.1 cut in
    let front = book.durable ++ c.whole in
    let all : book.history ≡ front ++ c.more = are ∙ ap (λ (l : List Entry). book.durable ++ l) c.are ∙ sym (append_assoc book.durable c.whole c.more) in
    let part = replay_split (opened book.opening) front c.more book.machine (subst (λ (l : List Entry). IsReplay (opened book.opening) l book.machine) all
    legal) in
    let text : durable ++ rest ≡ texts 0 front ++ c.rest =
    ap (λ (l : List ℕ). durable ++ l) c.read ∙ sym (append_assoc durable (texts (length book.durable) c.whole) c.rest)
    ∙ ap (λ (l : List ℕ). l ++ c.rest) (sym (texts_both book.durable c.whole)) in
    record {
      body = texts 0 front ++ c.rest;
      is = has ∙ append_assoc head durable rest ∙ ap (λ (l : List ℕ). head ++ l) text;
      front = front;
      has = starts book.durable front c.whole refl;
      first = starts front book.history c.more all;
      end = part.0;
      rest = c.rest;
      legal = part.1;
      remade =
          made_again limit book.opening front part.0 c.rest (All-append CanTell book.durable c.whole parts.0 c.each)
          (both_parts (IsBelow limit) front c.more (subst (All (IsBelow limit)) all below)).0 part.1 (inr c.torn);
    }

-- the text of all entries, and a front of the last lines
ended_made : (limit : ℕ) (names : List (List ℕ)) (book : BookView) (file line missing : List ℕ) → IsPrefix book.durable book.history → All CanTell book.history
    → All (IsBelow limit) book.history → IsReplay (opened book.opening) book.history book.machine
    → file ≡ record_of names book.opening book.history ++ line → last_lines (length book.history) ≡ line ++ missing → Made limit names book file
ended_made limit names book file line missing stand can below legal has cut =
    record {
      body = texts 0 book.history ++ line;
      is = has ∙ append_assoc (head_of book.opening.shape (adler (image_of book.opening)) names) (texts 0 book.history) line;
      front = book.history;
      has = stand;
      first = starts_same book.history book.history refl;
      end = book.machine;
      rest = line;
      legal = legal;
      remade = made_again limit book.opening book.history book.machine line can below legal (line_ends (length book.history) line missing cut);
    }

file_made : (limit : ℕ) (names : List (List ℕ)) (book : BookView) (file : List ℕ) → IsPrefix book.durable book.history → IsRecorded names book file
    → All CanTell book.history → All (IsBelow limit) book.history → IsReplay (opened book.opening) book.history book.machine → Made limit names book file
file_made limit names book file stand r can below legal =
    let more = front book.durable book.history stand in
    let durable = record_of names book.opening book.durable in
    let waiting = texts (length book.durable) more.0 in
    let last = last_lines (length book.history) in
    let all : record_of names book.opening book.history ≡ durable ++ waiting = ap (record_of names book.opening) more.1
    ∙ record_append names book.opening book.durable more.0 in
    let behind : waiting ++ last ≡ r.rest ++ r.missing =
    append_cancel_left durable (waiting ++ last) (r.rest ++ r.missing)
    (sym (append_assoc durable waiting last) ∙ ap (λ (l : List ℕ). l ++ last) (sym all) ∙ r.cut ∙ ap (λ (l : List ℕ). l ++ r.missing) r.has
    ∙ append_assoc durable r.rest r.missing) in
    elim (split waiting last r.rest r.missing behind) [
      | inl ended ↦ ended_made limit names book file ended.0 r.missing stand can below legal (r.has ∙ ap (λ (l : List ℕ). durable ++ l) ended.1
          ∙ sym (append_assoc durable waiting ended.0) ∙ ap (λ (l : List ℕ). l ++ ended.0) (sym all)) ended.2
      | inr cut ↦ cut_made limit names book file more.0 r.rest cut.0 more.1 can below legal r.has cut.2
    ]

-- ---- the answer

torn_where : (file : List ℕ) (n : ℕ) (rest : List ℕ) → Ends n rest → (t : Option Torn) × IsTornSo file None n rest t
torn_where file n rest (inl end) = (None, inr end)
torn_where file n rest (inr torn) = (Some (record { entries = n; offset = length file - length rest }), (tt, torn, refl, refl))

-- all were wanted
all_wanted : (n : ℕ) (E : Type 0) → (None ≡ Some n) ⊎ (AreFewer n None × E) → E
all_wanted n E (inl never) = absurd cc
all_wanted n E (inr ends) = ends.1

replayed_to : (shape : List ℕ) (image : Option (List ℕ)) (opening : Store) (names : List (List ℕ)) (file body : List ℕ) (es : List Entry) (end : Machine)
    (rest : List ℕ) → IsRackOf shape image opening → AreNames names (length names) → IsReplay (opened opening) es end
    → file ≡ head_of opening.shape (adler (image_of opening)) names ++ body → IsRemade (session_limit (length names)) body opening None es end rest
    → IsReplayedTo shape image opening es file
replayed_to shape image opening names file body es end rest rack are legal is remade =
    let torn = torn_where file (length es) rest (all_wanted (length es) (Ends (length es) rest) remade.ends) in
    record {
      each = remade.replayed.each;
      end = end;
      led = legal;
      answered = λ given same. (
        None,
        torn.0,
        replayed shape body opening (session_limit (length names)) (shape_is given shape image opening names file body same rack are is) rack
            (record { names = names; are = are; limited = refl; head = is })
            (led es end rest remade refl refl refl torn.1),
      );
    }

-- a limit has nine digits at most
limit_digits : (clients : ℕ) → clients ≤ MAX_SESSIONS → session_limit clients ≤ 1000000000
limit_digits zero few = omega arith
limit_digits (suc clients) few = omega (arith, few)

closing_replayed : SessionsAreTold → (shape : List ℕ) (image : Option (List ℕ)) (loses : Bool) (was left : BookView) (parts : List Part) (text : List ℕ)
    (failed : Bool) (printed : Printed) (names : List (List ℕ)) (file : List ℕ) (n : ℕ) → IsRackOf shape image was.opening → AreNames names (length names)
    → CanGoOn (length names) was → IsClosing loses was.opening was.history parts text failed printed left → IsRecorded names left file → map session_of parts
    ≡ range_with_len 0 n → n ≤ session_limit (length names) → OfLines parts → IsReplayedInPart shape image left file
closing_replayed tell shape image loses was left parts text failed printed names file n rack names_are on closed r numbers few say =
    let one = closed.one in
    let limit = session_limit (length names) in
    let nine = limit_digits (length names) names_are.few in
    let can = all_told tell loses was.opening was.history parts left n one on.told numbers (omega (arith, few, nine)) say in
    let below = all_below limit loses was.opening was.history parts left n one on.sessions numbers few in
    let made = file_made limit names left file one.front r can below (all_led loses was.opening was.history parts left one) in
    record {
      front = made.front;
      has_told = made.has;
      first = made.first;
      replayed = replayed_to shape image left.opening names file made.body made.front made.end made.rest
          (subst (IsRackOf shape image) (sym one.is_opening) rack) names_are made.legal made.is made.remade;
    }

no_names : AreNames [] 0
no_names = record { count = refl; few = omega arith; each = All-nil IsName; apart = λ i j d less within. absurd (omega (arith, within)) }

-- where none has a name, a record tells any session's entries
any_session : (es : List Entry) → All CanTell es → All (IsBelow (session_limit 0)) es
any_session es each = All-weaker CanTell (IsBelow (session_limit 0)) (λ e can. can.session) es each

-- the same where entries are never lost, and the whole record is written at the end
kept_replayed : SessionsAreTold → (shape : List ℕ) (image : Option (List ℕ)) (opening : Store) (parts : List Part) (text : List ℕ) (failed : Bool)
    (printed : Printed) (left : BookView) (n : ℕ) → IsRackOf shape image opening
    → IsClosing false opening [] parts text failed printed left → map session_of parts ≡ range_with_len 0 n → n ≤ 1000000000 → OfLines parts
    → IsReplayedTo shape image left.opening left.history (whole_record [] left.opening left.history)
kept_replayed tell shape image opening parts text failed printed left n rack closed numbers few say =
    let one = closed.one in
    let can = all_told tell false opening [] parts left n one (All-nil CanTell) numbers few say in
    let last = last_lines (length left.history) in
    let head = head_of left.opening.shape (adler (image_of left.opening)) [] in
    replayed_to shape image left.opening [] (whole_record [] left.opening left.history) (texts 0 left.history ++ last) left.history left.machine last
    (subst (IsRackOf shape image) (sym one.is_opening) rack) no_names (all_led false opening [] parts left one) (append_assoc head (texts 0 left.history) last)
    (made_again (session_limit 0) left.opening left.history left.machine last can (any_session left.history can) (all_led false opening [] parts left one)
    (inl refl))

-- ---- sessions

-- the shape of a rack stays
begins_with_shape : (clients : ℕ) (was : BookView) (loses : Bool) → CanGoOn clients was → IsShape was.opening.shape → IsShape (beginning loses was).shape
begins_with_shape clients was loses on allowed = subst IsShape (sym (shape_stays (opened was.opening) was.history was.machine on.led)) allowed

served_say : SessionsSay → (b : Beginning) (before after : Option (List ℕ)) (t : Transcript) → IsShape b.shape → IsServedSession b before after t
    → AreOfLines t.part.asked
served_say law b before after t valid is = law t.fault after is.seat _ is.read t.part.asked t.told (subst IsShape (sym is.is_new.shape_is) valid) is.ended

scripts_say : SessionsSay → (b : Beginning) (scripts : List (List ℕ)) (sessions : List Transcript) → IsShape b.shape → AllByRecursion (HasItsScript b scripts)
    sessions → OfLines (map (λ t. t.part) sessions)
scripts_say law b scripts [] valid each = tt
scripts_say law b scripts (t ∷ sessions) valid each =
    (served_say law b (Some each.0.0) (Some each.0.1) t valid each.0.3, scripts_say law b scripts sessions valid each.1)

one_book : (a b : BookView) → Some a ≡ Some b → b ≡ a
one_book a b is = sym (ap (λ (o : Option BookView). unwrap_or o a) is)

pub serve_is_replayed : SessionsSay → SessionsAreTold → ServeIsReplayed
serve_is_replayed law tell shape image scripts printed book (served opening rack all) few =
    let sessions = all.0 in
    let parts = map (λ (t : Transcript). t.part) sessions in
    let begun = beginning false (new_book_view opening) in
    let left = all.2 in
    subst (λ (a : BookView). IsReplayedTo shape image a.opening a.history (whole_record [] a.opening a.history)) (one_book book left all.3)
    (kept_replayed tell shape image opening parts _ _ printed left (length scripts) rack all.5 (map-map session_of (λ (t : Transcript). t.part) sessions
    ∙ all.1.numbers) (omega (arith, few))
    (scripts_say law begun scripts sessions (rack_blocks shape image opening rack).0 (recursion_from_All (HasItsScript begun scripts) sessions all.1.each)))
serve_is_replayed law tell shape image scripts printed book (refused _ _ _ is) few = absurd cc

none_say : AreOfLines []
none_say = record { calls = All-from_recursion (λ e. CanSay (told e.call)) [] tt; settle = tt }

hosted_say : SessionsSay → (b : Beginning) (g : KnownClients) (part : Part) (end : SessionEnd) → IsShape b.shape → IsHostedSession b g part end
    → AreOfLines part.asked
hosted_say law b g part Unopened valid is = subst AreOfLines (sym is.asked) none_say
hosted_say law b g part (Served fault closed) valid is = served_say law b (g.says part.session) is.rest (record { part = part; told = is.told; fault = fault })
    valid is.session

hosts_say : SessionsSay → (b : Beginning) (g : KnownClients) (sessions : List HostedSession) → IsShape b.shape
    → AllByRecursion (λ v. IsHostedSession b g v.part v.end) sessions → OfLines (map (λ v. v.part) sessions)
hosts_say law b g [] valid each = tt
hosts_say law b g (v ∷ sessions) valid each = (hosted_say law b g v.part v.end valid each.0, hosts_say law b g sessions valid each.1)

pub host_is_replayed : SessionsSay → SessionsAreTold → HostIsReplayed
host_is_replayed law tell shape image loses was left g ends printed names file rack are on all few r =
    let sessions = all.0 in
    let begun = beginning loses was in
    closing_replayed tell shape image loses was left (map (λ (v : HostedSession). v.part) sessions) _ _ printed names file g.clients rack are on all.3 r
    (map-map session_of (λ (v : HostedSession). v.part) sessions ∙ all.2.numbers) few
    (hosts_say law begun g sessions (begins_with_shape (length names) was loses on (rack_blocks shape image was.opening rack).0)
    (recursion_from_All (λ v. IsHostedSession begun g v.part v.end) sessions all.2.each))

-- one session always has a number
one_fits : (clients : ℕ) → 1 ≤ session_limit clients
one_fits zero = omega arith
one_fits (suc clients) = omega arith

pub talk_is_replayed : SessionsSay → SessionsAreTold → TalkIsReplayed
talk_is_replayed law tell shape image loses was left before after told printed names file rack are on all r =
    let t = all.0 in
    let begun = beginning loses was in
    closing_replayed tell shape image loses was left (t.part ∷ []) _ _ printed names file 1 rack are on all.4 r (ap (λ (s : ℕ). s ∷ []) all.1)
    (one_fits (length names))
    (served_say law begun before after t (begins_with_shape (length names) was loses on (rack_blocks shape image was.opening rack).0) all.3, tt)
