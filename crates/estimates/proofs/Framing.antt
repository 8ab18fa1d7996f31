-- The turns of `table`: a body, a row or a cell that holds nothing, a cell with all below it, and the end, where its cells are measured and spread
-- over its columns.
use mathlib.Core.Path.{◌≡◌, sym, ap, ◌∙◌}
use mathlib.Core.Bool.{Bool, false}
use mathlib.Core.List.{List}
use Prim.Native.Nat.{ℕ, suc, ◌+◌, ◌-◌, ◌≤◌, ◌<◌}
use native.Mathlib.Omega.{arith}
use native.Mathlib.Decide.{dec_lt, ℕ_discrete}
use lib.ListN.{length, get_or, set, drop, get_or-map}
use lib.Seq.{get_or-drop}
use Rattle.records.specs.declared.RowEnd.{RowEnd}
use Rattle.records.specs.declared.Entry as declared
use Rattle.common.specs.Lists.{sum}
use Rattle.common.specs.Limits.{max_position}
use Rattle.common.proofs.All.{all_weaken}
use Rattle.text.specs.declared.Estimate.{Estimate}
use Rattle.kinds.specs.Kinds.{kind_number, table_kind, cell_kind}
use Rattle.records.specs.declared.NodeRecord.{NodeRecord}
use Rattle.columns.specs.Boxes.{Box}
use Rattle.resolved_rows.specs.Listed.{table_rows}
use Rattle.grid_positions.specs.Positions.{all_rows, entry_count}
use Rattle.grid.specs.Grid as grid
use Rattle.grid.specs.Grid.{Entry, grid_of, columns_of}
use Rattle.grid.specs.Facts.{Sound, CellOf}
use Rattle.grid.specs.Judging.{Lined}
use Rattle.grid.proofs.GridFacts.{grid_columns}
use Rattle.grid.proofs.GridCells.{IsCell, entries_cells, held_owners}
use Rattle.estimates.specs.Estimates.{estimate, none, unmeasured, est_of, estimates, Children}
use Rattle.estimates.specs.inner.Sheet.{Sheet, line_at}
use Rattle.estimates.specs.Meets.{Bounded}
use Rattle.estimates.specs.inner.Meets.{CellsMeasured}
use Rattle.estimates.specs.inner.Spread.{spread_cells, tabled_by, entry_boxes, records_at, TableFiguresPre, Tabulated}
use Rattle.estimates.specs.inner.Cycle.{NodeReady, Ends, Passed, IsFilledPost, Holder, BelowTablePost, NodeMeets, CellPost, est_at, done_of, held_at, weight, size_in, sizes_of, sizes_from}
use Rattle.estimates.specs.declared.Part.{Part}
use Rattle.estimates.proofs.Laws.{cells_stop, cells_skip, cells_cell}
use Rattle.estimates.proofs.ByKind.{body_est, row_est, table_est, holder_est, cell_plain}
use Rattle.estimates.proofs.Fillers.{spread_sizes}
use Rattle.estimates.proofs.Made.{figured}
use Rattle.estimates.proofs.Nesting.{Framed, framed}
use Rattle.estimates.proofs.Weighing.{weight_more, fits}
use Rattle.estimates.proofs.Tabling.{tabled_small}
use Rattle.estimates.proofs.Passing.{step, stored, begin}
use Rattle.estimates.proofs.Children.{cell_start, cell_end, meets}

-- at line i: the cells passed weigh no more than the lines passed
pub record TableLoop (wrap : ℕ) (ls : List NodeRecord) (b c : List Estimate) (at i : ℕ) : Type 0 where
  pub passed : Passed ls (done_of wrap ls) b c at (at + 1) i
  pub next : Ends ls ((line_at ls at).depth + 3) i
  pub frame : (k : ℕ) → at < k → k < i → Framed (line_at ls at).depth (line_at ls k).depth (kind_number (line_at ls k).kind)
  pub small : sizes_from wrap ls (line_at ls at).depth (at + 1) + weight ls (at + 1) ≤ sizes_from wrap ls (line_at ls at).depth i + weight ls i

module _ {wrap : ℕ} {ls : List NodeRecord} {b : List Estimate} {at : ℕ} (w : Sheet ls) where
  module _ (t : kind_number (line_at ls at).kind ≡ table_kind) {c : List Estimate} {i : ℕ} (l : TableLoop wrap ls b c at i) (h : i < length ls)
      (u : (line_at ls at).depth < (line_at ls i).depth) where
    framed_here : Framed (line_at ls at).depth (line_at ls i).depth (kind_number (line_at ls i).kind)
    framed_here = framed w at i l.passed.after h t u l.passed.deeper l.frame

    -- the depth of a cell
    cell_depth : kind_number (line_at ls i).kind ≡ cell_kind → (line_at ls i).depth ≡ (line_at ls at).depth + 3
    cell_depth e = go (ℕ_discrete (line_at ls i).depth ((line_at ls at).depth + 1)) (ℕ_discrete (line_at ls i).depth ((line_at ls at).depth + 2))
      where
        go : Dec ((line_at ls i).depth ≡ (line_at ls at).depth + 1) → Dec ((line_at ls i).depth ≡ (line_at ls at).depth + 2)
            → (line_at ls i).depth ≡ (line_at ls at).depth + 3
        go (yes x) y = absurd (omega (arith, framed_here.body x))
        go (no x) (yes y) = absurd (omega (arith, framed_here.row y))
        go (no x) (no y) = omega (arith, l.next h)

    -- any other line is a body or a row
    frame_est : (kind_number (line_at ls i).kind ≡ cell_kind → ⊥) → ((line_at ls i).depth ≤ (line_at ls at).depth + 2) × (none ≡ est_at (done_of wrap ls) i)
    frame_est e = go (ℕ_discrete (line_at ls i).depth ((line_at ls at).depth + 1)) (ℕ_discrete (line_at ls i).depth ((line_at ls at).depth + 2))
      where
        go : Dec ((line_at ls i).depth ≡ (line_at ls at).depth + 1) → Dec ((line_at ls i).depth ≡ (line_at ls at).depth + 2)
            → ((line_at ls i).depth ≤ (line_at ls at).depth + 2) × (none ≡ est_at (done_of wrap ls) i)
        go (yes x) y = (omega arith, body_est wrap ls i h (framed_here.body x))
        go (no x) (yes y) = (omega arith, row_est wrap ls i h (framed_here.row y))
        go (no x) (no y) = absurd (e (framed_here.cell (omega (arith, l.next h))))

    -- the kinds known so far, with line i and deeper lines after it
    frame_on : (r : ℕ) → ((k : ℕ) → i < k → k < r → (line_at ls at).depth + 3 < (line_at ls k).depth)
        → (k : ℕ) → at < k → k < r → Framed (line_at ls at).depth (line_at ls k).depth (kind_number (line_at ls k).kind)
    frame_on r deep k p q = go (dec_lt k i) (dec_lt i k)
      where
        go : Dec (k < i) → Dec (i < k) → Framed (line_at ls at).depth (line_at ls k).depth (kind_number (line_at ls k).kind)
        go (yes x) y = l.frame k p x
        go (no x) (yes y) =
            let d = deep k y q in
            record { body = λ e. absurd (omega arith); row = λ e. absurd (omega arith); cell = λ e. absurd (omega arith) }
        go (no x) (no y) = let e : k ≡ i = omega arith in rw e framed_here

    pub table_cell : kind_number (line_at ls i).kind ≡ cell_kind → Holder (line_at ls i)
    table_cell e = record { leaf = rw e; table = omega arith; body = omega arith; row = omega arith }

    pub table_again : {c' c'' : List Estimate} {p : Part} → kind_number (line_at ls i).kind ≡ cell_kind → CellPost wrap ls c c' i p → c'' ≡ set c' i (estimate p.size p.least 0)
        → TableLoop wrap ls b c'' at p.after
    unfolding sum
    table_again {p = p} e m s =
        let d = cell_depth e in
        let f : estimate p.size p.least 0 ≡ est_at (done_of wrap ls) i
        = ap (λ (x : Children). estimate x.est.size x.est.least 0) m.held
        ∙ cell_plain (line_at ls i) (held_at wrap ls i) e
        ∙ holder_est wrap ls i h (table_cell e) in
        let j : suc i - 1 ≡ i = omega arith in
        let z : size_in wrap ls (suc i) ≡ p.size = ap (λ (k : ℕ). (est_at (done_of wrap ls) k).size) j ∙ ap (λ (x : Estimate). x.size) (sym f) in
        let v = stored m.passed f (record { small = fits w (i + 1) p.after p.size m.passed.within m.small; least_size = m.least_size }) in
        let x = cells_cell ls (line_at ls at).depth i p.after v.after v.within d v.deeper in
        rw s
        (record {
          passed = step l.passed u v;
          next = λ q. omega (arith, m.ends q);
          frame = frame_on p.after (λ k y q. omega (arith, m.passed.deeper k y q));
          small = omega (arith, z, ap (sizes_of wrap ls) x, m.small, l.small, weight_more ls i);
        })

    -- a body's line or a row's
    table_frame : (kind_number (line_at ls i).kind ≡ cell_kind → ⊥) → TableLoop wrap ls b (set c i none) at (i + 1)
    table_frame e =
        let k = frame_est e in
        let v : Passed ls (done_of wrap ls) c (set c i none) i i (i + 1)
        = stored (begin (done_of wrap ls) l.passed.sized h) k.1 (record { small = omega arith; least_size = omega arith }) in
        let x = cells_skip ls (line_at ls at).depth i h u (omega (arith, k.0)) in
        record {
          passed = step l.passed u v;
          next = λ q. omega (arith, w.step i q, k.0);
          frame = frame_on (i + 1) (λ j x y. absurd (omega arith));
          small = omega (arith, ap (sizes_of wrap ls) x, l.small, weight_more ls i);
        }

    -- a cell that ends where it begins
    table_bare : {c'' : List Estimate} → kind_number (line_at ls i).kind ≡ cell_kind → Ends ls (line_at ls i).depth (i + 1) → c'' ≡ set c i none → TableLoop wrap ls b c'' at (i + 1)
    table_bare e z s = table_again e (cell_end (cell_start w (begin (done_of wrap ls) l.passed.sized h)) z) s

    -- a line that is passed without a call
    pub table_unfilled : {r : Bool} {c'' : List Estimate} → IsFilledPost ls i r → r ≡ false → c'' ≡ set c i none → TableLoop wrap ls b c'' at (i + 1)
    table_unfilled {c'' = c''} f e s = go (ℕ_discrete (kind_number (line_at ls i).kind) cell_kind)
      where
        go : Dec (kind_number (line_at ls i).kind ≡ cell_kind) → TableLoop wrap ls b c'' at (i + 1)
        go (yes k) = table_bare k (f.bare e k) s
        go (no k) = rw s (table_frame k)

  -- the end: all below the table is passed
  pub table_stop : {c : List Estimate} {i : ℕ} → TableLoop wrap ls b c at i → Ends ls (line_at ls at).depth i → BelowTablePost wrap ls b c at i
  unfolding sum
  table_stop {i = i} l ends =
      record { passed = l.passed; ends = ends; small = omega (arith, l.small, ap (sizes_of wrap ls) (cells_stop ls (line_at ls at).depth i ends)) }

  -- the table's cells are measured
  module _ {c : List Estimate} {i : ℕ} (l : BelowTablePost wrap ls b c at i) where
    before_end : (k : ℕ) → CellOf ls at k → k < i
    before_end k o = go (dec_lt k i) (ℕ_discrete k i)
      where
        go : Dec (k < i) → Dec (k ≡ i) → k < i
        go (yes x) y = x
        go (no x) (yes y) = absurd (omega (arith, o.deeper, rw (← y) at (l.ends (omega (arith, o.within)))))
        go (no x) (no y) = absurd (omega (arith, l.ends (omega (arith, o.within)), o.between i l.passed.after (omega arith)))

    cell_done : (k : ℕ) → CellOf ls at k → get_or c k none ≡ est_at (done_of wrap ls) k
    cell_done k o = l.passed.done k (omega (arith, o.before)) (before_end k o)

    cell_sound : (k : ℕ) → CellOf ls at k → Bounded (est_at (done_of wrap ls) k)
    cell_sound k o = l.passed.sound k (omega (arith, o.before)) (before_end k o)

    pub below_end : length c ≡ length b → CellsMeasured wrap ls at b c
    below_end s =
        let e : (k : ℕ) → get_or (estimates wrap ls) k none ≡ est_at (done_of wrap ls) k = λ k. get_or-map est_of (done_of wrap ls) k unmeasured in
        record { cells = λ k o. cell_done k o ∙ sym (e k); sound = λ k o. rw (e k) (cell_sound k o); sized = s }

    -- and weigh no more than its lines
    module _ (z : Lined ls) (g : Sound (table_rows ls at)) (a : at < length ls) where
      abbrev bs : List Box
      bs = entry_boxes c (records_at ls at)

      abbrev entries : List Entry
      entries = grid.entries_of (grid_of (table_rows ls at))

      bounded : spread_cells bs + weight ls (at + 1) ≤ weight ls i
      unfolding sum
      bounded =
          let s = spread_sizes c (size_in wrap ls) entries
          (all_weaken (IsCell ls at) (λ e. e.filler ≡ false → (get_or c (e.owner - 1) none).size ≡ size_in wrap ls e.owner)
          (λ e o h. ap (λ (x : Estimate). x.size) (cell_done (e.owner - 1) (o h).1)) entries (entries_cells z at a)) in
          omega (arith, s, ap (sizes_of wrap ls) (held_owners z at a), l.small)

      figures_ready : {scratch m n : ℕ} → max_position ≤ scratch → entry_count (all_rows (table_rows ls at)) ≤ m → length ls ≤ n → TableFiguresPre ls at c scratch m n
      figures_ready p q r = record {
        within = a;
        lined = z;
        sound = g;
        measured = l.passed.sized;
        bounded = λ k o. rw (cell_done k o) (cell_sound k o).least_size;
        capacity = omega (arith, fits w (at + 1) i (spread_cells bs) l.passed.within bounded);
        column_capacity = p;
        entry_capacity = q;
        row_capacity = r;
      }

      -- the estimate of a cell among the lines after the table
      after_table : (k : ℕ) → CellOf ls at k → get_or c k none ≡ (get_or (drop (suc at) (done_of wrap ls)) (k - suc at) unmeasured).est
      after_table k o =
          let e : suc at + (k - suc at) ≡ k = omega (arith, o.before) in
          cell_done k o ∙ sym (ap est_of (get_or-drop (suc at) (done_of wrap ls) (k - suc at) unmeasured ∙ ap (λ (j : ℕ). get_or (done_of wrap ls) j unmeasured) e))

      pub table_end : {c' : List Estimate} {e : Estimate} → kind_number (line_at ls at).kind ≡ table_kind → Tabulated (columns_of (table_rows ls at)) bs e → c' ≡ set c at e
          → NodeMeets wrap ls b c' at i
      table_end {e = e} t m s =
          let n = columns_of (table_rows ls at) in
          let y : e.size ≡ (tabled_by n bs).size = ap (λ (x : Estimate). x.size) m.est in
          meets w a l.passed l.ends
          (figured z a g c (suc at) (drop (suc at) (done_of wrap ls)) after_table m ∙ table_est wrap ls at a t)
          (omega (arith, y, tabled_small n bs, grid_columns (table_rows ls at) g, bounded, weight_more ls at))
          m.least_size s

-- what the table's figures take, in slices
pub table_ready : {wrap : ℕ} {lines : List NodeRecord} {figures₀ : List Estimate} {leasts₀ : List ℕ} {entries₀ : List declared.Entry} {rows₀ : List RowEnd} {b : List Estimate} {at i scratch : ℕ} (figures : List Estimate) (es : List declared.Entry) (rs : List RowEnd)
    → NodeReady lines figures₀ leasts₀ entries₀ rows₀ at → kind_number (line_at lines at).kind ≡ table_kind → BelowTablePost wrap lines b figures at i
    → scratch ≡ length leasts₀ → length es ≡ length entries₀ → length rs ≡ length rows₀
    → TableFiguresPre lines at figures scratch (length es) (length rs)
table_ready {lines = lines} {entries₀ = entries₀} {rows₀ = rows₀} {at = at} figures es rs r t l f g h =
    let a : at < length lines = omega (arith, r.within) in
    let x : length es ≡ length entries₀ = g in
    let y : length rs ≡ length rows₀ = h in
    figures_ready r.sheet l r.lined (r.tables.sound at a t) a (omega (arith, r.scratch)) (omega (arith, r.tables.capacity at a t))
    (omega (arith, r.row_capacity))
