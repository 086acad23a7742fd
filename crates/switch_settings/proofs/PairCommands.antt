-- The commands of pairs and their bytes.
use Rattle.std.proofs.Common.{◌≡◌, ◌<◌, ◌≤◌, ◌+◌, ℕ, Bool, true, false, not, cond, zero, suc, List, [], ◌∷◌, ◌++◌, map, length, get_or, refl, sym, ap, ap₂, ◌∙◌, ◌*◌, arith, subst, append_assoc}
use Rattle.std.proofs.Common.{Option, Some, None}
use Rattle.std.specs.List.{AllByRecursion, list_any, range_with_len}
use Rattle.std.specs.Option.{IfSome}
use Rattle.c004_commands.specs.declared.command.Command.{Command}
use Rattle.c004_commands.specs.declared.command.Command.TheVariants.{Settle, Enquire}
use Rattle.c004_commands.specs.Commands.{row, text, AreCommands}
use Rattle.c004_commands.specs.declared.command.TheConstants.{LONGEST_COMMAND}
use Rattle.c004_commands.specs.declared.port.TheConstants.{PORTS}
use Rattle.c004_commands.proofs.Readings.{AreCommands-append}
use Rattle.crossbar.specs.Switch.{enquiries}
use Rattle.crossbar.specs.declared.chip.Wiring.{Wiring}
use Rattle.crossbar.specs.declared.chip.Wiring.TheVariants.{Both, Forth, Back, Board}
use Rattle.crossbar.specs.declared.switch.TheConstants.{JOINED_MODULES}
use Rattle.crossbar.specs.Wired.{links_of, unwired, link0_on, link3_on}
use Rattle.crossbar.specs.declared.board.BoardWiring.{BoardWiring}
use Rattle.crossbar.proofs.Boards.{are_wired, had}
use Rattle.switch_settings.specs.declared.bytes.TheConstants.{WIDE_CHANGE_BYTES}
use Rattle.crossbar.specs.Pairs.{ArePairs, room_of, is_pair, without, join, cut, setting, change}
use Rattle.switch_settings.specs.Pairs.{command_of, longest_setting, longest_change}
use Rattle.switch_settings.specs.Sending.{turning}
use Rattle.crossbar.specs.declared.pair.Pair.{Pair}
use Rattle.crossbar.proofs.Changes.{without_none}
use Rattle.switch_settings.specs.declared.bytes.PairChange.{PairChange}
use Rattle.switch_settings.specs.declared.bytes.PairChange.TheVariants.{Join, Cut}

pub pair_at : (m : ℕ) (ps : List Pair) (i : ℕ) (d : Pair) → ArePairs m ps → i < length ps → ((get_or ps i d).initiator < m) × ((get_or ps i d).responder < m)
pair_at m [] i d a h = absurd (omega arith)
pair_at m (p ∷ ps) zero d a h = (a.0, a.1)
pair_at m (p ∷ ps) (suc i) d a h = pair_at m ps i d a.4 (omega arith)

above : (m : ℕ) (p : Pair) (ps : List Pair) → AllByRecursion (λ q. p.initiator < q.initiator) ps → ArePairs m ps → p.initiator < m → length ps + p.initiator < m
above m p [] l a h = omega arith
above m p (q ∷ qs) l a h = let r = above m q qs a.2 a.4 a.0 in let s : p.initiator < q.initiator = l.0 in omega arith

-- initiators that ascend are few
pub pairs_few : (m : ℕ) (ps : List Pair) → ArePairs m ps → length ps ≤ m
pairs_few m [] a = omega arith
pairs_few m (p ∷ ps) a = let r = above m p ps a.2 a.4 a.0 in omega arith

-- the switch has the links that a board's modules are on
link0_had : (w : BoardWiring) (m : ℕ) → m < length (links_of w) → link0_on w m < PORTS
link0_had w m lt = (had (links_of w) m unwired w.own lt).0

link3_had : (w : BoardWiring) (m : ℕ) → m < length (links_of w) → link3_on w m < PORTS
link3_had w m lt = (had (links_of w) m unwired w.own lt).1

one_command : (way : PairChange) (w : Wiring) (p : Pair) → p.initiator < room_of w → p.responder < room_of w → AreCommands (command_of way w p ∷ [])
one_command Join Both p a b = ((omega arith, (omega arith, tt)), tt)
one_command Cut Both p a b = ((omega arith, (omega arith, tt)), tt)
one_command Join Forth p a b = ((a, (b, tt)), tt)
one_command Cut Forth p a b = ((b, tt), tt)
one_command Join Back p a b = ((b, (a, tt)), tt)
one_command Cut Back p a b = ((a, tt), tt)
one_command Join (Board w) p a b = (((link0_had w p.initiator a), (link3_had w p.responder b, tt)), tt)
one_command Cut (Board w) p a b = (((link0_had w p.initiator a), (link3_had w p.responder b, tt)), tt)

kept : (b : Bool) (way : PairChange) (w : Wiring) (p : Pair) (ps : List Pair) → p.initiator < room_of w → p.responder < room_of w
    → AreCommands (map (command_of way w) ps) → AreCommands (map (command_of way w) (cond b (p ∷ ps) ps))
kept true way w p ps a b r = ((one_command way w p a b).0, r)
kept false way w p ps a b r = r

way_commands : (way : PairChange) (w : Wiring) (others ps : List Pair) → ArePairs (room_of w) ps → AreCommands (map (command_of way w) (without others ps))
way_commands way w others [] a = tt
way_commands way w others (p ∷ ps) a = kept (not (list_any (is_pair p) others)) way w p (without others ps) a.0 a.1 (way_commands way w others ps a.4)

quiet_before : (way : PairChange) (w : Wiring) (ps : List Pair) (ds : List Command) → enquiries ds ≡ 0 → enquiries (map (command_of way w) ps ++ ds) ≡ 0
quiet_before way w [] ds h = h
quiet_before Join Both (p ∷ ps) ds h = quiet_before Join Both ps ds h
quiet_before Cut Both (p ∷ ps) ds h = quiet_before Cut Both ps ds h
quiet_before Join Forth (p ∷ ps) ds h = quiet_before Join Forth ps ds h
quiet_before Cut Forth (p ∷ ps) ds h = quiet_before Cut Forth ps ds h
quiet_before Join Back (p ∷ ps) ds h = quiet_before Join Back ps ds h
quiet_before Cut Back (p ∷ ps) ds h = quiet_before Cut Back ps ds h
quiet_before Join (Board w) (p ∷ ps) ds h = quiet_before Join (Board w) ps ds h
quiet_before Cut (Board w) (p ∷ ps) ds h = quiet_before Cut (Board w) ps ds h

pub setting_commands : (w : Wiring) (ps : List Pair) → ArePairs (room_of w) ps → AreCommands (setting w ps) × (enquiries (setting w ps) ≡ 0)
setting_commands w ps a =
    let joins = subst (λ (x : List Pair). AreCommands (map (join w) x)) (without_none ps) (way_commands Join w [] ps a) in
    ((tt, AreCommands-append (map (join w) ps) (Settle ∷ []) joins (tt, tt)), quiet_before Join w ps (Settle ∷ []) refl)

pub change_commands : (w : Wiring) (old new : List Pair) → ArePairs (room_of w) old → ArePairs (room_of w) new → AreCommands (change w old new)
    × (enquiries (change w old new) ≡ 0)
change_commands w old new a b =
    let joins = map (join w) (without old new) in (
      AreCommands-append (map (cut w) (without new old)) (joins ++ Settle ∷ []) (way_commands Cut w new old a)
          (AreCommands-append joins (Settle ∷ []) (way_commands Join w old new b) (tt, tt)),
      quiet_before Cut w (without new old) (joins ++ Settle ∷ []) (quiet_before Join w (without old new) (Settle ∷ []) refl),
    )

-- what turns a switch, from what stands if that is known
pub turning_commands : (w : Wiring) (standing : Option (List Pair)) (ps : List Pair) → IfSome standing (ArePairs (room_of w)) → ArePairs (room_of w) ps
    → AreCommands (turning w standing ps)
turning_commands w None ps k a = (setting_commands w ps a).0
turning_commands w (Some old) ps k a = (change_commands w old ps k a).0

pub text_append : (cs ds : List Command) → text (cs ++ ds) ≡ text cs ++ text ds
text_append [] ds = refl
text_append (c ∷ cs) ds = ap (λ t. row c ++ t) (text_append cs ds) ∙ sym (append_assoc (row c) (text cs) (text ds))

-- the bytes of a change, part by part
pub change_text : (w : Wiring) (old new : List Pair) (parted joined whole : List ℕ) → parted ≡ text (map (cut w) (without new old)) → joined ≡ parted
    ++ text (map (join w) (without old new)) → whole ≡ joined ++ 3 ∷ [] → whole ≡ text (change w old new)
change_text w old new parted joined whole a b c =
    let cuts = map (cut w) (without new old) in
    let joins = map (join w) (without old new) in
    c ∙ ap (λ t. t ++ 3 ∷ []) (b ∙ ap (λ t. t ++ text joins) a) ∙ append_assoc (text cuts) (text joins) (3 ∷ [])
    ∙ ap (λ t. text cuts ++ t) (sym (text_append joins (Settle ∷ []))) ∙ sym (text_append cuts (joins ++ Settle ∷ []))

-- the bytes of a setting, part by part
pub setting_text : (w : Wiring) (ps : List Pair) (begun joined whole : List ℕ) → begun ≡ 4 ∷ [] → joined ≡ begun ++ text (map (join w) (without [] ps)) → whole
    ≡ joined ++ 3 ∷ [] → whole ≡ text (setting w ps)
setting_text w ps begun joined whole a b c =
    c ∙ ap (λ t. t ++ 3 ∷ []) (b ∙ ap₂ (λ x y. x ++ text (map (join w) y)) a (without_none ps))
    ∙ ap (λ t. 4 ∷ t) (sym (text_append (map (join w) ps) (Settle ∷ [])))

-- ---- how many bytes they are

few_kept : (others ps : List Pair) → length (without others ps) ≤ length ps
few_kept others [] = omega arith
few_kept others (p ∷ ps) = fewer (not (list_any (is_pair p) others)) p (without others ps) (length ps) (few_kept others ps) where
  fewer : (b : Bool) (q : Pair) (qs : List Pair) (n : ℕ) → length qs ≤ n → length (cond b (q ∷ qs) qs) ≤ suc n
  fewer true q qs n h = omega arith
  fewer false q qs n h = omega arith

join_rows : (w : Wiring) (ps : List Pair) → length (text (map (join w) ps)) ≡ LONGEST_COMMAND * length ps
join_rows w [] = refl
join_rows Both (p ∷ ps) = omega (arith, join_rows Both ps)
join_rows Forth (p ∷ ps) = omega (arith, join_rows Forth ps)
join_rows Back (p ∷ ps) = omega (arith, join_rows Back ps)
join_rows (Board w) (p ∷ ps) = omega (arith, join_rows (Board w) ps)

cut_rows_both : (ps : List Pair) → length (text (map (cut Both) ps)) ≡ 3 * length ps
cut_rows_both [] = refl
cut_rows_both (p ∷ ps) = omega (arith, cut_rows_both ps)

cut_rows_forth : (ps : List Pair) → length (text (map (cut Forth) ps)) ≡ 2 * length ps
cut_rows_forth [] = refl
cut_rows_forth (p ∷ ps) = omega (arith, cut_rows_forth ps)

cut_rows_back : (ps : List Pair) → length (text (map (cut Back) ps)) ≡ 2 * length ps
cut_rows_back [] = refl
cut_rows_back (p ∷ ps) = omega (arith, cut_rows_back ps)

cut_rows_board : (w : BoardWiring) (ps : List Pair) → length (text (map (cut (Board w)) ps)) ≡ 3 * length ps
cut_rows_board w [] = refl
cut_rows_board w (p ∷ ps) = omega (arith, cut_rows_board w ps)

-- the joins of a setting, and a byte before and after them
pub joins_fit : (w : Wiring) (ps : List Pair) → ArePairs (room_of w) ps → length (text (map (join w) (without [] ps))) + 2 ≤ longest_setting w
joins_fit w ps a = omega (arith, join_rows w (without [] ps), few_kept [] ps, pairs_few (room_of w) ps a)

-- the cuts and the joins of a change, and a byte after them
pub change_fits : (w : Wiring) (old new : List Pair) → ArePairs (room_of w) old → ArePairs (room_of w) new
    → length (text (map (cut w) (without new old))) + length (text (map (join w) (without old new))) + 1 ≤ longest_change w
change_fits Both old new a b = omega (
  arith,
  cut_rows_both (without new old),
  few_kept new old,
  pairs_few JOINED_MODULES old a,
  join_rows Both (without old new),
  few_kept old new,
  pairs_few JOINED_MODULES new b,
)
change_fits Forth old new a b = omega (
  arith,
  cut_rows_forth (without new old),
  few_kept new old,
  pairs_few PORTS old a,
  join_rows Forth (without old new),
  few_kept old new,
  pairs_few PORTS new b,
)
change_fits Back old new a b = omega (
  arith,
  cut_rows_back (without new old),
  few_kept new old,
  pairs_few PORTS old a,
  join_rows Back (without old new),
  few_kept old new,
  pairs_few PORTS new b,
)
change_fits (Board w) old new a b =
    let most = length (links_of w) in
    omega (
      arith,
      cut_rows_board w (without new old),
      few_kept new old,
      pairs_few most old a,
      join_rows (Board w) (without old new),
      few_kept old new,
      pairs_few most new b,
    )

-- a board wires few modules
few_wired : (w : BoardWiring) → length (links_of w) ≤ JOINED_MODULES
few_wired w = (are_wired (links_of w) w.own).few

-- no switch is sent more for a setting
pub setting_bytes_fit : (w : Wiring) → longest_setting w ≤ WIDE_CHANGE_BYTES
setting_bytes_fit Both = omega arith
setting_bytes_fit Forth = omega arith
setting_bytes_fit Back = omega arith
setting_bytes_fit (Board w) = omega (arith, few_wired w)

pub change_bytes_fit : (w : Wiring) → longest_change w ≤ WIDE_CHANGE_BYTES
change_bytes_fit Both = omega arith
change_bytes_fit Forth = omega arith
change_bytes_fit Back = omega arith
change_bytes_fit (Board w) = omega (arith, few_wired w)

-- ---- the enquiries

range_push : (a n : ℕ) → range_with_len a (suc n) ≡ range_with_len a n ++ (a + n) ∷ []
range_push a zero = let e : a ≡ a + zero = omega arith in ap (λ x. x ∷ []) e
range_push a (suc n) = let e : a + 1 + n ≡ a + suc n = omega arith in ap (λ t. a ∷ t) (range_push (a + 1) n)
    ∙ ap (λ x. (a ∷ range_with_len (a + 1) n) ++ x ∷ []) e

map_push : (ns : List ℕ) (n : ℕ) → map Enquire (ns ++ n ∷ []) ≡ map Enquire ns ++ Enquire n ∷ []
map_push [] n = refl
map_push (m ∷ ns) n = ap (λ t. Enquire m ∷ t) (map_push ns n)

-- one enquiry more
pub enquiry_more : (n : ℕ) → text (map Enquire (range_with_len 0 (n + 1))) ≡ text (map Enquire (range_with_len 0 n)) ++ (2 ∷ n ∷ [])
enquiry_more n =
    let e : n + 1 ≡ suc n = omega arith in
    let z : 0 + n ≡ n = omega arith in
    ap (λ k. text (map Enquire (range_with_len 0 k))) e
    ∙ ap (λ ns. text (map Enquire ns)) (range_push 0 n ∙ ap (λ x. range_with_len 0 n ++ x ∷ []) z) ∙ ap text (map_push (range_with_len 0 n) n)
    ∙ text_append (map Enquire (range_with_len 0 n)) (Enquire n ∷ [])
