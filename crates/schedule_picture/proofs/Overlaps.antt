-- Cells that overlap are one: columns stand apart by their setting, halves of rows by their link,
-- and a setting uses a link once.
use Rattle.std.proofs.Common.{◌≡◌, ℕ, zero, suc, ◌+◌, ◌*◌, ◌<◌, ◌≤◌, mul-le-mul_right, suc-mul, inl, inr, Bool, true, List, [], Some, slice_get, refl, sym, ap, subst, ◌∙◌, arith}
use Rattle.std.specs.Prelude.{◌==◌, ◌||◌}
use Rattle.std.proofs.lemmas.Bool.{cases_eq, cases_order, eq-eqb}
use Rattle.std.proofs.Math.Bool.{or-true}
use Rattle.std.proofs.lemmas.List.Folds.{list_any_at}
use Rattle.std.proofs.lemmas.Option.{get_or_from_slice_get, slice_get_within}
use Rattle.batch.specs.Batches.{IsBatch}
use Rattle.batch.specs.declared.limits.TheConstants.{MAX_MODULES}
use Rattle.batch.specs.declared.transfer.Transfer.{Transfer}
use Rattle.link_graph.specs.declared.link.End.{End}
use Rattle.link_graph.specs.declared.link.End.TheVariants.{Zero, Three}
use Rattle.link_graph.specs.declared.link.Link.{Link}
use Rattle.link_graph.specs.Counts.{count_below, module_at}
use Rattle.link_graph.specs.Uses.{Uses, IsMatching}
use Rattle.link_graph.specs.Schedules.{IsScheduleOf}
use Rattle.link_graph.proofs.Sharing.{in_rack}
use Rattle.schedule_picture.specs.declared.layout.TheConstants.{HEAD_HEIGHT, NUMBERS_HEIGHT, ROW_HEIGHT, HALF_HEIGHT, INSET, CELL_WIDTH, CELL_HEIGHT}
use Rattle.schedule_picture.specs.declared.shown.ShownSettings.{ShownSettings}
use Rattle.schedule_picture.specs.Places.{takes_part, row_of, rack_modules, panel_of, panel_height, panel_place, row_place, half_place, column_place}
use Rattle.schedule_picture.specs.Cells.{cell_left, cell_top}
use Rattle.steady_schedule.specs.Bounds.{link_of}
use Rattle.schedule_picture.specs.Laws.{IsDrawnAt, NothingOverlaps}

same_column : (k l : ℕ) → panel_of k ≡ panel_of l → cell_left k < cell_left l + CELL_WIDTH → cell_left l < cell_left k + CELL_WIDTH → k ≡ l
unfolding column_place
same_column k l panel one other = omega (arith, panel)

same_half : (top r s : ℕ) (e f : End) → top + r * ROW_HEIGHT + half_place e + INSET < top + s * ROW_HEIGHT + half_place f + INSET + CELL_HEIGHT
    → top + s * ROW_HEIGHT + half_place f + INSET < top + r * ROW_HEIGHT + half_place e + INSET + CELL_HEIGHT → (r ≡ s) × (e ≡ f)
same_half top r s Zero Zero one other = (omega arith, refl)
same_half top r s Zero Three one other = absurd (omega arith)
same_half top r s Three Zero one other = absurd (omega arith)
same_half top r s Three Three one other = (omega arith, refl)

half_low : (e : End) → half_place e ≤ HALF_HEIGHT
half_low Zero = omega arith
half_low Three = omega arith

-- a cell ends above all panels that begin where its own ends, or below that
ends_above : (p q height rows r s : ℕ) (e f : End) → height ≡ NUMBERS_HEIGHT + rows * ROW_HEIGHT → r < rows → p + height ≤ q
    → HEAD_HEIGHT + p + NUMBERS_HEIGHT + r * ROW_HEIGHT + half_place e + INSET + CELL_HEIGHT
    ≤ HEAD_HEIGHT + q + NUMBERS_HEIGHT + s * ROW_HEIGHT + half_place f + INSET
ends_above p q height rows r s e f is less below = omega (arith, is, less, below, half_low e)

further : (height p q : ℕ) → p < q → p * height + height ≤ q * height
further height p q less = let more = mul-le-mul_right height less in omega (arith, more, suc-mul p height)

same_panel : (height rows p q r s : ℕ) (e f : End) → height ≡ NUMBERS_HEIGHT + rows * ROW_HEIGHT → r < rows → s < rows
    → HEAD_HEIGHT + p * height + NUMBERS_HEIGHT + r * ROW_HEIGHT + half_place e + INSET
    < HEAD_HEIGHT + q * height + NUMBERS_HEIGHT + s * ROW_HEIGHT + half_place f + INSET + CELL_HEIGHT
    → HEAD_HEIGHT + q * height + NUMBERS_HEIGHT + s * ROW_HEIGHT + half_place f + INSET
    < HEAD_HEIGHT + p * height + NUMBERS_HEIGHT + r * ROW_HEIGHT + half_place e + INSET + CELL_HEIGHT
    → p ≡ q
same_panel height rows p q r s e f is few less one other = elim (cases_order p q) [
  | inl same ↦ same
  | inr apart ↦ elim apart [
    | inl lt ↦ absurd (omega (arith, other, ends_above (p * height) (q * height) height rows r s e f is few (further height p q lt)))
    | inr lt ↦ absurd (omega (arith, one, ends_above (q * height) (p * height) height rows s r f e is less (further height q p lt)))
  ]
]

step_up : (p : ℕ → Bool) (n : ℕ) → p n ≡ true → count_below (suc n) p ≡ 1 + count_below n p
step_up p n up = rw up refl

-- a module that takes part has its row before those of all later ones
pub rows_grow : (p : ℕ → Bool) (m n : ℕ) → m < n → p m ≡ true → count_below m p < count_below n p
rows_grow p m zero lt up = absurd (omega arith)
rows_grow p m (suc n) lt up = elim (cases_eq m n) [
  | inl e ↦ omega (arith, step_up p n (ap p (sym e) ∙ up), ap (λ (i : ℕ). count_below i p) e)
  | inr ne ↦ omega (arith, rows_grow p m n (omega arith) up)
]

same_row : (batch : List Transfer) (m n : ℕ) → takes_part batch m ≡ true → takes_part batch n ≡ true → row_of batch m ≡ row_of batch n → m ≡ n
same_row batch m n here there rows = elim (cases_order m n) [
  | inl e ↦ e
  | inr other ↦ elim other [
    | inl lt ↦ absurd (omega (arith, rows_grow (takes_part batch) m n lt here))
    | inr lt ↦ absurd (omega (arith, rows_grow (takes_part batch) n m lt there))
  ]
]

touches : (x : Transfer) (e : End) → (x.initiator == module_at e x || x.responder == module_at e x) ≡ true
touches x Zero = rw (eq-eqb x.initiator x.initiator refl) refl
touches x Three = ap (λ (b : Bool). x.initiator == x.responder || b) (eq-eqb x.responder x.responder refl) ∙ or-true (x.initiator == x.responder)

pub has_row : (batch : List Transfer) (t : ℕ) (x : Transfer) (e : End) → slice_get batch t ≡ Some x → takes_part batch (module_at e x) ≡ true
has_row batch t x e at =
    let test = λ (y : Transfer). y.initiator == module_at e x || y.responder == module_at e x in
    list_any_at test batch t x (slice_get_within batch t x at) (ap test (get_or_from_slice_get batch t x x at) ∙ touches x e)

uses_own : (batch : List Transfer) (t : ℕ) (x : Transfer) (e : End) → slice_get batch t ≡ Some x → Uses batch t (link_of e (module_at e x))
uses_own batch t x Zero at = (x, at, inl refl)
uses_own batch t x Three at = (x, at, inr refl)

-- two positions of a matching whose transfers use one link are one
same_position : (batch : List Transfer) (setting : List ℕ) (i j t u : ℕ) (link : Link) → IsMatching batch setting → slice_get setting i ≡ Some t
    → slice_get setting j ≡ Some u → Uses batch t link → Uses batch u link → i ≡ j
same_position batch setting i j t u link matching one other uses used =
    let here = get_or_from_slice_get setting i t 0 one in
    let there = get_or_from_slice_get setting j u 0 other in
    let uses_here = subst (λ (n : ℕ). Uses batch n link) (sym here) uses in
    let uses_there = subst (λ (n : ℕ). Uses batch n link) (sym there) used in
    elim (cases_order i j) [
      | inl e ↦ e
      | inr apart ↦ elim apart [
        | inl lt ↦ absurd ((matching i j 0 lt (slice_get_within setting j u other)).none_common link uses_here uses_there)
        | inr lt ↦ absurd ((matching j i 0 lt (slice_get_within setting i t one)).none_common link uses_there uses_here)
      ]
    ]

matching_at : (batch : List Transfer) (settings : List (List ℕ)) (k : ℕ) (setting : List ℕ) → slice_get settings k ≡ Some setting → IsScheduleOf batch settings
    → IsMatching batch setting
matching_at batch settings k setting here s = subst (λ (q : List ℕ). IsMatching batch q) (get_or_from_slice_get settings k setting [] here)
    (s.matchings k [] (slice_get_within settings k setting here))

-- cells of one setting in the half of one link stand at one position
one_cell : (batch : List Transfer) (settings : List (List ℕ)) (shown : ShownSettings) (l i j : ℕ) (x y : Transfer) (e : End) → IsScheduleOf batch settings
    → IsDrawnAt batch settings shown l i x → IsDrawnAt batch settings shown l j y → module_at e x ≡ module_at e y → i ≡ j
one_cell batch settings shown l i j x y e s here there same =
    let setting : there.setting ≡ here.setting = cc (here.in_schedule, there.in_schedule) in
    let at = subst (λ (q : List ℕ). slice_get q j ≡ Some there.number) setting there.in_setting in
    let used = subst (λ (m : ℕ). Uses batch there.number (link_of e m)) (sym same) (uses_own batch there.number y e there.in_batch) in
    same_position batch here.setting i j here.number there.number (link_of e (module_at e x))
    (matching_at batch settings (shown.first + l) here.setting here.in_schedule s) here.in_setting at (uses_own batch here.number x e here.in_batch) used

-- the row of a transfer's module is one of a panel's
row_within : (batch : List Transfer) (t : ℕ) (x : Transfer) (e : End) → IsBatch batch → slice_get batch t ≡ Some x
    → row_of batch (module_at e x) < row_of batch rack_modules
unfolding rack_modules
row_within batch t x e fits at =
    rows_grow (takes_part batch) (module_at e x) MAX_MODULES (in_rack batch t (link_of e (module_at e x)) fits (uses_own batch t x e at)) (has_row batch t x e at)

pub overlapping : NothingOverlaps
unfolding row_place panel_place panel_height
overlapping batch settings shown fits s k i x e l j y f here there over =
    let rows = row_of batch rack_modules in
    let panel = same_panel (NUMBERS_HEIGHT + rows * ROW_HEIGHT) rows (panel_of k) (panel_of l) (row_of batch (module_at e x)) (row_of batch (module_at f y)) e f refl
    (row_within batch here.number x e fits here.in_batch) (row_within batch there.number y f fits there.in_batch) over.not_below over.not_above in
    let column = same_column k l panel over.not_right over.not_left in
    let there_now = subst (λ (n : ℕ). IsDrawnAt batch settings shown n j y) (sym column) there in
    let below = subst (λ (n : ℕ). cell_top batch k x e < cell_top batch n y f + CELL_HEIGHT) (sym column) over.not_below in
    let above = subst (λ (n : ℕ). cell_top batch n y f < cell_top batch k x e + CELL_HEIGHT) (sym column) over.not_above in
    let half = same_half (panel_place batch (panel_of k) + NUMBERS_HEIGHT) (row_of batch (module_at e x)) (row_of batch (module_at f y)) e f below above in
    let same = same_row batch (module_at e x) (module_at f y) (has_row batch here.number x e here.in_batch) (has_row batch there.number y f there.in_batch)
    half.0 in
    let same_end = subst (λ (g : End). module_at e x ≡ module_at g y) (sym half.1) same in
    (column, one_cell batch settings shown k i j x y e s here there_now same_end, half.1)
