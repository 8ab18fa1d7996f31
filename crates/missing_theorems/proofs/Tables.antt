-- A table of an accepted sheet: its lines nest, its grid is sound and its rows of boxes tile the columns; its entries are cells and fillers, each cell
-- once.
use Rattle.std.specs.Prelude.{Err, Ok}
use mathlib.Core.Path.{◌≡◌, refl, sym, ap, ◌∙◌}
use mathlib.Core.Bool.{Bool, true, false, cond}
use mathlib.Core.List.{List, [], ◌∷◌, map}
use Prim.Native.Nat.{ℕ, zero, suc, ◌+◌, ◌-◌, ◌≤◌, ◌<◌}
use native.Mathlib.Nat.{not-suc-le-zero, le_of_suc-le-suc}
use native.Mathlib.Numerals.{add-one}
use native.Mathlib.Omega.{arith}
use lib.Dec.{eqb}
use lib.ListN.{length, get_or, drop, length-map, get_or-map}
use lib.Seq.{get_or-drop}
use borrow.Author.Tests.{eq-eqb}
use Rattle.common.specs.Refusals.{Check, passes}
use Rattle.common.proofs.All.{all_drop, at_all}
use Rattle.kinds.specs.Kinds.{kind_number, table_kind, cell_kind}
use Rattle.records.specs.NodeRecord.{no_node}
use Rattle.records.specs.declared.NodeRecord.{NodeRecord}
use Rattle.sheet.specs.Sheet.{sheet_checks, sheet_lines}
use Rattle.sheet.specs.inner.Reading.{reading_of}
use Rattle.common.proofs.Tests.{both}
use Rattle.sheet.proofs.First.{first_passes, passes_append, accepted_passes}
use Rattle.columns.specs.Boxes.{Box, box, flat}
use Rattle.columns.specs.inner.Boxes.{TilesAll}
use Rattle.columns.proofs.Listed.{none}
use Rattle.resolved_rows.specs.Cells.{rows_under}
use Rattle.resolved_rows.specs.Listed.{table_rows}
use Rattle.grid.specs.Grid.{Entry, entry, shown_line, entries_of, table_checks, tables_checks}
use Rattle.grid.specs.Facts.{Sound, cell_owners, CellOf}
use Rattle.grid.specs.Judging.{Lined}
use Rattle.grid.proofs.CellLines.{Rises}
use Rattle.grid.proofs.GridCells.{IsCell, entries_cells}
use Rattle.grid.proofs.GridFacts.{held_spanned, grid_tiles, sound_passes}
use Rattle.estimates.specs.Estimates.{MeasuredNode, unmeasured, box_of}
use Rattle.estimates.specs.inner.Cycle.{est_at, done_of}
use Rattle.estimates.proofs.Fillers.{flat_boxes}
use Rattle.grid_bounds.specs.inner.Sheets.{Nests}
use Rattle.grid_bounds.proofs.CellKinds.{cell_kind_lem}
use Rattle.table_layout.proofs.Cells.{cells_rise}
use Rattle.sheet_load.specs.Opening.{nodes_of}
use Rattle.sheet_load.specs.inner.Opened.{Apt}
use Rattle.sheet_load.proofs.Answers.{table_apt}
use Rattle.sheet_load.proofs.Ready.{nodes_lined, nodes_nest}
use Rattle.table_layout.specs.inner.Grids.{Fits}
use Rattle.table_layout.proofs.Boxes.{tiles_of_grid}
use Rattle.sheet_figures.specs.Figures.{table_at, rows_at, columns_at, boxes_at}
use Rattle.sheet_figures.specs.Calls.{every_table}
use Rattle.missing_theorems.specs.Missing.{TableIn, entry_total, cell_at, entry_at}
use Rattle.missing_theorems.proofs.Fits.{measured_fits}

-- ---- the checks of the tables

-- those of the table in line u, where the lines from line t on follow
pub table_passes : (t : ℕ) (ls : List NodeRecord) (i u : ℕ) → t + i ≡ u → i < length ls → kind_number (get_or ls i no_node).kind ≡ table_kind → passes (tables_checks t ls) ≡ true
    → passes (table_checks u (rows_under (get_or ls i no_node).depth u (drop (suc i) ls))) ≡ true
unfolding tables_checks
table_passes t [] i u e h k p = absurd (not-suc-le-zero h)
table_passes t (l ∷ ls) zero u e h k p =
    let z : t ≡ u = omega arith in
    let q : passes (table_checks t (rows_under l.depth t ls)) ≡ true =
    (both (passes (table_checks t (rows_under l.depth t ls))) (passes (tables_checks (suc t) ls))
    (sym (passes_append (table_checks t (rows_under l.depth t ls)) (tables_checks (suc t) ls)) ∙ (rw (eq-eqb (kind_number l.kind) table_kind k) at p))).0 in
    rw z at q
table_passes t (l ∷ ls) (suc i) u e h k p =
    table_passes (suc t) ls i u (omega arith) (le_of_suc-le-suc h) k
    (both (passes own) (passes (tables_checks (suc t) ls)) (sym (passes_append own (tables_checks (suc t) ls)) ∙ p)).1
  where
    own : List Check
    own = cond (eqb (kind_number l.kind) table_kind) (table_checks t (rows_under l.depth t ls)) []

-- ---- cells by their lines

abbrev filling : Entry
filling = entry 0 true 0 0

abbrev nth : List Entry → ℕ → Entry
nth es k = get_or es k filling

-- an entry that is a cell stands later than every line before them all
above : (m : ℕ) (es : List Entry) (k : ℕ) → Rises m (cell_owners es) → k < length es → (nth es k).filler ≡ false → m < (nth es k).owner
unfolding cell_owners
above m [] k r h f = absurd (not-suc-le-zero h)
above m (e ∷ es) zero r h f = (rw f at r).0
above m (e ∷ es) (suc k) r h f = go e.filler r (λ n q. above n es k q (le_of_suc-le-suc h) f)
  where
    go : (b : Bool) → Rises m (cond b (cell_owners es) (e.owner ∷ cell_owners es)) → ((n : ℕ) → Rises n (cell_owners es) → n < (nth es k).owner) → m < (nth es k).owner
    go true q ih = ih m q
    go false q ih = omega (arith, q.0, ih e.owner q.1)

-- so two that are the same cell are one entry
apart : (m : ℕ) (es : List Entry) (k l : ℕ) → Rises m (cell_owners es) → k < length es → l < length es
    → (nth es k).filler ≡ false → (nth es l).filler ≡ false → (nth es k).owner ≡ (nth es l).owner → k ≡ l
unfolding cell_owners
apart m [] k l r h g a b o = absurd (not-suc-le-zero h)
apart m (e ∷ es) zero zero r h g a b o = refl
apart m (e ∷ es) zero (suc l) r h g a b o = absurd (omega (arith, above e.owner es l (rw a at r).1 (le_of_suc-le-suc g) b))
apart m (e ∷ es) (suc k) zero r h g a b o = absurd (omega (arith, above e.owner es k (rw b at r).1 (le_of_suc-le-suc h) a))
apart m (e ∷ es) (suc k) (suc l) r h g a b o =
    ap suc (go e.filler r (λ n q. apart n es k l q (le_of_suc-le-suc h) (le_of_suc-le-suc g) a b o))
  where
    go : (b : Bool) → Rises m (cond b (cell_owners es) (e.owner ∷ cell_owners es)) → ((n : ℕ) → Rises n (cell_owners es) → k ≡ l) → k ≡ l
    go true q ih = ih m q
    go false q ih = ih e.owner q.1

-- what a listing shows of an entry
shown_cell : (e : Entry) → 1 ≤ shown_line e → (e.filler ≡ false) × (shown_line e ≡ e.owner)
shown_cell e = go e.filler
  where
    go : (b : Bool) → 1 ≤ cond b 0 e.owner → (b ≡ false) × (cond b 0 e.owner ≡ e.owner)
    go true h = absurd (not-suc-le-zero h)
    go false h = (refl, refl)

shown_filler : (e : Entry) → (e.filler ≡ false → 1 ≤ e.owner) → shown_line e ≡ 0 → e.filler ≡ true
shown_filler e = go e.filler
  where
    go : (b : Bool) → (b ≡ false → 1 ≤ e.owner) → cond b 0 e.owner ≡ 0 → b ≡ true
    go true c h = refl
    go false c h = absurd (omega (arith, c refl))

-- the box of a filler, and of a cell
box_filler : (t : ℕ) (rest : List MeasuredNode) (e : Entry) → e.filler ≡ true → box_of t rest e ≡ box e.first e.span 0 0
unfolding box_of
box_filler t rest e f = rw f

box_cell : (t : ℕ) (rest : List MeasuredNode) (e : Entry) → e.filler ≡ false → (box_of t rest e).least ≡ (get_or rest (e.owner - suc t) unmeasured).est.least
unfolding box_of
box_cell t rest e f = rw f

-- ---- a table of an accepted sheet

module _ {s : List ℕ} {line : ℕ} (w : TableIn s line) where
  abbrev ks : List NodeRecord
  ks = nodes_of s

  abbrev t : ℕ
  t = line - 1

  abbrev es : List Entry
  es = entries_of (rows_at s line)

  passed : (passes (sheet_checks s) ≡ true) × (passes (every_table s) ≡ true)
  passed = both (passes (sheet_checks s)) (passes (every_table s)) (sym (passes_append (sheet_checks s) (every_table s)) ∙ accepted_passes _ w.accepted)

  reads : reading_of s ≡ Ok (length (sheet_lines s))
  unfolding reading_of
  reads = first_passes Err (Ok (length (sheet_lines s))) (sheet_checks s) passed.0

  lined : Lined ks
  lined = nodes_lined s (length (sheet_lines s)) reads

  pub nests : Nests ks
  nests = nodes_nest s (length (sheet_lines s)) reads

  apt : Apt ks line
  apt = table_apt ks line w.table

  within : t < length ks
  within = omega (arith, apt.from_one, apt.within)

  sound : Sound (table_at s line)
  unfolding table_rows
  sound =
      sound_passes (table_at s line) (t + 1)
      (rw (← add-one t) at (table_passes 1 ks t (t + 1) (omega arith) within apt.kind passed.1))

  -- its rows of boxes tile its columns, and no box is wider at the least than in full
  pub tiles : (wrap : ℕ) → TilesAll (columns_at s line) (boxes_at s line wrap)
  tiles wrap =
      tiles_of_grid line (drop line (done_of wrap ks)) (columns_at s line) (rows_at s line)
      (grid_tiles (table_at s line) sound (held_spanned ks t))
      (all_drop Fits line (done_of wrap ks) (measured_fits wrap 1 ks))

  -- ---- its entries

  module _ (wrap : ℕ) where
    abbrev rest : List MeasuredNode
    rest = drop line (done_of wrap ks)

    boxes_are : flat (boxes_at s line wrap) ≡ map (box_of line rest) es
    boxes_are = flat_boxes line rest (rows_at s line)

    pub total_is : length (flat (boxes_at s line wrap)) ≡ entry_total s line
    total_is = ap length boxes_are ∙ length-map es (box_of line rest)

    entry_is : (k : ℕ) → entry_at s line wrap k ≡ box_of line rest (nth es k)
    unfolding box_of
    entry_is k = ap (λ (bs : List Box). get_or bs k none) boxes_are ∙ get_or-map (box_of line rest) es k filling

  cell_is : (k : ℕ) → cell_at s line k ≡ shown_line (nth es k)
  cell_is k = get_or-map shown_line es k filling

  cells : (k : ℕ) → k < entry_total s line → (nth es k).filler ≡ false → (1 ≤ (nth es k).owner) × CellOf ks t ((nth es k).owner - 1)
  cells k h = at_all (IsCell ks t) filling es k (entries_cells lined t within) h

  -- an entry that is a cell
  module _ (k : ℕ) (h : k < entry_total s line) (p : 1 ≤ cell_at s line k) where
    real : (nth es k).filler ≡ false
    real = (shown_cell (nth es k) (rw (cell_is k) at p)).0

    owner : cell_at s line k ≡ (nth es k).owner
    owner = cell_is k ∙ (shown_cell (nth es k) (rw (cell_is k) at p)).1

    cell_of : CellOf ks t (cell_at s line k - 1)
    cell_of = rw owner (cells k h real).1

    pub cell_within : cell_at s line k - 1 < length ks
    cell_within = cell_of.within

    pub is_cell : kind_number (get_or ks (cell_at s line k - 1) no_node).kind ≡ cell_kind
    is_cell = cell_kind_lem ks lined.step nests t (cell_at s line k - 1) cell_of apt.kind

    -- its least width is that of its line
    pub cell_least : (wrap : ℕ) → (entry_at s line wrap k).least ≡ (est_at (done_of wrap ks) (cell_at s line k - 1)).least
    cell_least wrap =
        let n : line + ((nth es k).owner - suc line) ≡ cell_at s line k - 1 = omega (arith, owner, cell_of.before, apt.from_one) in
        ap (λ (b : Box). b.least) (entry_is wrap k)
        ∙ box_cell line (rest wrap) (nth es k) real
        ∙ ap (λ (m : MeasuredNode). m.est.least) (get_or-drop line (done_of wrap ks) ((nth es k).owner - suc line) unmeasured)
        ∙ ap (λ (i : ℕ). (est_at (done_of wrap ks) i).least) n

  pub once : (k l : ℕ) → k < entry_total s line → l < entry_total s line → 1 ≤ cell_at s line k → cell_at s line k ≡ cell_at s line l → k ≡ l
  once k l h g p e =
      let q : 1 ≤ cell_at s line l = omega arith in
      apart (t + 1) es k l (cells_rise lined within) h g (real k h p) (real l g q) (sym (owner k h p) ∙ e ∙ owner l g q)

  pub filler_empty : (wrap k : ℕ) → k < entry_total s line → cell_at s line k ≡ 0
      → ((entry_at s line wrap k).size ≡ 0) × ((entry_at s line wrap k).least ≡ 0)
  filler_empty wrap k h e =
      let q = entry_is wrap k ∙ box_filler line (rest wrap) (nth es k) (shown_filler (nth es k) (λ q. (cells k h q).0) (sym (cell_is k) ∙ e)) in
      (ap (λ (b : Box). b.size) q, ap (λ (b : Box). b.least) q)
