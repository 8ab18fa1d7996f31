-- `resolved_rows::list_rows` meets its contract. A turn reads the line at the next place, which adds to the rows what the invariant, `Listing`, says. At the end
-- no line is left, for the places do not run out before the lines do, or the next one is no deeper than the table.
use mathlib.Core.Path.{◌≡◌, refl, sym, ap, ◌∙◌}
use mathlib.Core.List.{List, ◌∷◌}
use mathlib.Core.Logic.{inl, inr}
use native.Mathlib.Nat.{add-zero}
use Prim.Native.Nat.{ℕ, ◌+◌, ◌-◌, ◌≤◌, ◌<◌}
use native.Mathlib.Omega.{arith}
use Rattle.std.proofs.lemmas.List.{map-set, take_rest}
use lib.ListN.{length, get_or, set, take, drop, get_or-eq_default, length-drop}
use lib.Seq.{get_or-drop, drop-drop, map-set_same}
use Rattle.std.specs.Iterator.Adapters.{zip_first, zip_second}
use Rattle.std.specs.Slice.Iter.{iter_rest}
use Rattle.records.specs.NodeRecord.{no_node}
use Rattle.records.specs.inner.NodeRecord.{no_row}
use Rattle.records.specs.declared.NodeRecord.{NodeRecord}
use Rattle.records.specs.declared.RowEnd.{RowEnd}
use Rattle.resolved_rows.specs.inner.Held.{cell_by, held_line, held_span, held_rows}
use Rattle.records.specs.inner.Figures.{row_line, row_end, row_lines_of, row_ends_of}
use Rattle.resolved_rows.specs.inner.Spans.{part}
use Rattle.resolved_rows.proofs.Figures.{part_map, length_figures, figure_put, figures_still}
use Rattle.resolved_rows.proofs.Listing.{list_start, list_capacity, body_held, body_rows, list_stop, list_body, list_row, list_cell, list_deeper}
use Rattle.resolved_rows.proofs.list_rows.Goals as goal
use Rattle.resolved_rows.proofs.list_rows.Goals.{Else-e-d, in-None, in-Some+then-e-d}

-- what is left from a place on begins with the line there
first : (ks : List NodeRecord) (i : ℕ) {r s : List NodeRecord} {k : NodeRecord} → r ≡ k ∷ s → r ≡ drop i ks → (k ≡ get_or ks i no_node) × (s ≡ drop (i + 1) ks)
first ks i {r} {s} {k} p q =
    let e : k ∷ s ≡ drop i ks = sym p ∙ q in
    (rw add-zero at (ap (λ (l : List NodeRecord). get_or l 0 no_node) e ∙ get_or-drop i ks 0 no_node), ap (drop 1) e ∙ drop-drop 1 i ks)

-- the place that a turn reads, the line there, the next place, and what is left from it on
turn : (c : Else-e-d) → (c.in-Some.i ≡ (zip_first c.loop-i.i-iterator).start)
    × (c.in-Some.line.now ≡ get_or c.args.lines.now (zip_first c.loop-i.i-iterator).start no_node)
    × ((zip_first c.next.new.self).start ≡ (zip_first c.loop-i.i-iterator).start + 1)
    × (iter_rest (zip_second c.next.new.self) ≡ drop ((zip_first c.loop-i.i-iterator).start + 1) c.args.lines.now)
turn c =
    let s = c.in-Some.ensures.steps in
    let f = first c.args.lines.now _ s.1 c.loop-i.invariant.1 in
    (s.0.0, f.0, omega (arith, s.0), f.1)

-- the depths that its turn compares
depths : (c : Else-e-d) → (c.from-e.result ≡ (get_or c.args.lines.now (zip_first c.loop-i.i-iterator).start no_node).depth)
    × (c.from-d.result ≡ (get_or c.args.lines.now c.args.at no_node).depth)
depths c = (c.from-e.ensures ∙ ap (λ (k : NodeRecord). k.depth) (turn c).1, c.from-d.ensures)

-- it is below the table
deep : (c : Else-e-d) → (get_or c.args.lines.now c.args.at no_node).depth < (get_or c.args.lines.now (zip_first c.loop-i.i-iterator).start no_node).depth
deep c = omega (arith, depths c, c.if-e-d.false)

-- the ends of the last body's rows are a part of the rows' ends
ends_are : (fr r : ℕ) (rows : List RowEnd) → row_ends_of (take (r - fr) (drop fr rows)) ≡ part fr r (row_ends_of rows)
ends_are fr r rows = sym (part_map row_end fr r rows)

pub loop-i-init : goal.loop-i-init
loop-i-init c =
    let walk = c.zip-i-items.ensures in
    rw (c.into_iter-i-iterator.ensures.into_iter_gives, walk.first, walk.second.0) (list_start c.requires, take_rest c.args.lines.now (c.args.at + 1))

pub resolve_body-requires-clause-body_held : goal.resolve_body-requires-clause-body_held
resolve_body-requires-clause-body_held c = rw (ends_are c.loop-i.first_row c.loop-i.r c.loop-i.rows) (body_held c.requires c.loop-i.invariant.0)

pub resolve_body-requires-clause-rows_held : goal.resolve_body-requires-clause-rows_held
resolve_body-requires-clause-rows_held c = rw (ends_are c.loop-i.first_row c.loop-i.r c.loop-i.rows) (body_rows c.requires c.loop-i.invariant.0)

pub put_cell-requires : goal.put_cell-requires
put_cell-requires c =
    let capacity = list_capacity c.requires c.loop-i.invariant.0 (deep (goal.at.put_cell-requires c).Else-e-d) in
    omega (arith, capacity, length_figures 3 cell_by held_line c.loop-i.cells)

pub resolve_body-requires-2-clause-body_held : goal.resolve_body-requires-2-clause-body_held
resolve_body-requires-2-clause-body_held c = rw (ends_are c.loop-i.first_row c.loop-i.r c.loop-i.rows) (body_held c.requires c.loop-i.invariant.0)

pub resolve_body-requires-2-clause-rows_held : goal.resolve_body-requires-2-clause-rows_held
resolve_body-requires-2-clause-rows_held c = rw (ends_are c.loop-i.first_row c.loop-i.r c.loop-i.rows) (body_rows c.requires c.loop-i.invariant.0)

pub loop-i-preserved-then-e-d-2 : goal.loop-i-preserved-then-e-d-2
loop-i-preserved-then-e-d-2 c =
    let t = (goal.at.loop-i-preserved-then-e-d-2 c).Else-e-d in
    let b = c.resolve_body in
    let same = b.auto.cells in
    let done = rw (ends_are c.loop-i.first_row c.loop-i.r c.loop-i.rows) at b.ensures.done in
    rw ((turn t).2, b.ensures.same) (
      list_body c.requires c.loop-i.invariant.0 (deep t) (omega (arith, depths t, c.if-e-d-2.true)) _ _
          (figures_still 3 cell_by held_span _ _ same) (figures_still 3 cell_by held_rows _ _ same) done,
      (turn t).3,
    )

pub loop-i-preserved-then-e-d-3 : goal.loop-i-preserved-then-e-d-3
loop-i-preserved-then-e-d-3 c =
    let t = (goal.at.loop-i-preserved-then-e-d-3 c).Else-e-d in
    let q = c.row_of.ensures in
    let l = depths t in
    rw (
      (turn t).2,
      map-set row_line c.loop-i.rows c.loop-i.r c.row_of.result ∙ ap (set (row_lines_of c.loop-i.rows) c.loop-i.r) (q.0 ∙ ap (λ (k : ℕ). k + 1) (turn t).0),
      map-set row_end c.loop-i.rows c.loop-i.r c.row_of.result ∙ ap (set (row_ends_of c.loop-i.rows) c.loop-i.r) q.1,
    )
    (list_row c.requires c.loop-i.invariant.0 (deep t) (λ x. c.if-e-d-2.false (omega arith)) (omega (arith, c.if-e-d-3.true)), (turn t).3)

pub loop-i-preserved-then-e-d-4 : goal.loop-i-preserved-then-e-d-4
loop-i-preserved-then-e-d-4 c =
    let t = (goal.at.loop-i-preserved-then-e-d-4 c).Else-e-d in
    let p = c.put_cell.ensures in
    let q = c.cell_of.ensures in
    let l = depths t in
    let line = (turn t).1 in
    let row : RowEnd = record { line = (get_or c.loop-i.rows (c.loop-i.r - 1) no_row).line; end = c.loop-i.n + 1 } in
    rw (
      (turn t).2,
      figure_put 3 cell_by held_line _ _ _ _ _ p (q.0 ∙ ap (λ (k : ℕ). k + 1) (turn t).0),
      figure_put 3 cell_by held_span _ _ _ _ _ p (q.1 ∙ c.from.ensures ∙ ap (λ (k : NodeRecord). k.cols) line),
      figure_put 3 cell_by held_rows _ _ _ _ _ p (q.2 ∙ c.from-then-e-d-4.ensures ∙ ap (λ (k : NodeRecord). k.rows) line),
      map-set_same row_line c.loop-i.rows (c.loop-i.r - 1) row no_row refl,
      map-set row_end c.loop-i.rows (c.loop-i.r - 1) row,
    ) (
      list_cell c.requires c.loop-i.invariant.0 (deep t)
          (λ x. c.if-e-d-2.false (omega arith)) (λ x. c.if-e-d-3.false (omega arith)) (omega (arith, c.if-e-d-4.true)),
      (turn t).3,
    )

pub loop-i-preserved : goal.loop-i-preserved
loop-i-preserved c =
    let t = (goal.at.loop-i-preserved c).Else-e-d in
    let l = depths t in
    rw (turn t).2 (
      list_deeper c.requires c.loop-i.invariant.0 (deep t)
          (λ x. c.if-e-d-2.false (omega arith)) (λ x. c.if-e-d-3.false (omega arith)) (λ x. c.if-e-d-4.false (omega arith)),
      (turn t).3,
    )

pub returns : goal.returns
returns c =
    let ks = c.args.lines.now in
    let i = (zip_first c.loop-i.i-iterator).start in
    let h : (get_or ks i no_node).depth ≤ c.from-d.result =
    elim c.match-next.branch [
      | in-None w ↦
          let past : length ks ≤ i =
          elim w.in-None.ensures.steps [
            | inl a ↦ omega (arith, a.1.0, c.requires.short)
            | inr b ↦ omega (arith, b.1.0, ap length c.loop-i.invariant.1, length-drop i ks)
          ] in
          let none = get_or-eq_default ks no_node {n = i} past in
          omega (arith, ap (λ (k : NodeRecord). k.depth) none)
      | in-Some+then-e-d w ↦
          let f = first ks i w.in-Some.ensures.steps.1 c.loop-i.invariant.1 in
          omega (arith, w.from-e.ensures, w.if-e-d.true, ap (λ (k : NodeRecord). k.depth) f.0)
    ] in
    let b = c.resolve_body-2.ensures in
    rw b.same (list_stop c.requires c.loop-i.invariant.0 (omega (arith, h, c.from-d.ensures)) _ _ (rw (ends_are c.loop-i.first_row c.loop-i.r c.loop-i.rows) at b.done))
