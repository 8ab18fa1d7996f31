-- `grid_plain::try_row` meets its contract. A turn reads the line at the next place: one three deeper than the table adds a cell, a deeper one nothing. At
-- the end no line is left, for the places do not run out before the lines do.
use mathlib.Core.Path.{◌≡◌, sym, ap, ◌∙◌}
use mathlib.Core.List.{List, ◌∷◌}
use native.Mathlib.Nat.{add-zero}
use Prim.Native.Nat.{ℕ, ◌+◌, ◌≤◌}
use native.Mathlib.Omega.{arith}
use Rattle.std.proofs.lemmas.List.{take_rest}
use lib.ListN.{length, get_or, drop, get_or-eq_default, length-drop}
use lib.Seq.{get_or-drop, drop-drop}
use Rattle.std.specs.Iterator.Adapters.{zip_first, zip_second}
use Rattle.std.specs.Slice.Iter.{iter_rest}
use Rattle.records.specs.NodeRecord.{no_node}
use Rattle.records.specs.declared.NodeRecord.{NodeRecord}
use Rattle.grid_plain.proofs.RowLoop.{both_one, row_start, row_capacity, row_cell, row_deeper, row_stop}
use Rattle.grid_plain.proofs.try_row.Goals as goal
use Rattle.grid_plain.proofs.try_row.Goals.{After-from-e}

-- what is left from a place on begins with the line there
first : (ks : List NodeRecord) (i : ℕ) {r s : List NodeRecord} {k : NodeRecord} → r ≡ k ∷ s → r ≡ drop i ks → (k ≡ get_or ks i no_node) × (s ≡ drop (i + 1) ks)
first ks i {r} {s} {k} p q =
    let e : k ∷ s ≡ drop i ks = sym p ∙ q in
    (rw add-zero at (ap (λ (l : List NodeRecord). get_or l 0 no_node) e ∙ get_or-drop i ks 0 no_node), ap (drop 1) e ∙ drop-drop 1 i ks)

-- the place that a turn reads, the line there, its depth, the next place, and what is left from it on
turn : (c : After-from-e) → (c.in-Some.i ≡ (zip_first c.loop-i.i-iterator).start)
    × (c.in-Some.line.now ≡ get_or c.args.lines.now (zip_first c.loop-i.i-iterator).start no_node)
    × (c.from-e.result ≡ (get_or c.args.lines.now (zip_first c.loop-i.i-iterator).start no_node).depth)
    × ((zip_first c.next.new.self).start ≡ (zip_first c.loop-i.i-iterator).start + 1)
    × (iter_rest (zip_second c.next.new.self) ≡ drop ((zip_first c.loop-i.i-iterator).start + 1) c.args.lines.now)
turn c =
    let s = c.in-Some.ensures.steps in
    let f = first c.args.lines.now _ s.1 c.loop-i.invariant.1 in
    (s.0.0, f.0, c.from-e.ensures ∙ ap (λ (k : NodeRecord). k.depth) f.0, omega (arith, s.0), f.1)

pub loop-i-init : goal.loop-i-init
loop-i-init c =
    let walk = c.zip-i-items.ensures in
    rw (c.into_iter-i-iterator.ensures.into_iter_gives, walk.first, walk.second.0) (row_start _ _ _ _ _ c.requires.within, take_rest c.args.lines.now c.args.from)

pub returns-then-e-d : goal.returns-then-e-d
returns-then-e-d c =
    let t = turn (goal.at.returns-then-e-d c).After-from-e in
    rw t.0 (row_stop c.loop-i.invariant.0 (omega (arith, t.2, c.if-e-d.true)))

pub bounds-entries-n : goal.bounds-entries-n
bounds-entries-n c =
    let t = turn (goal.at.bounds-entries-n c).After-from-e in
    omega (arith, row_capacity c.loop-i.invariant.0 (sym t.2 ∙ c.if-e-d-2.true) c.requires)

pub loop-i-preserved-then-e-d-2 : goal.loop-i-preserved-then-e-d-2
loop-i-preserved-then-e-d-2 c =
    let t = turn (goal.at.loop-i-preserved-then-e-d-2 c).After-from-e in
    let cell = sym t.2 ∙ c.if-e-d-2.true in
    let plain = both_one c.in-Some.line.now.cols c.in-Some.line.now.rows (sym c.is_plain.ensures ∙ c.if-not-is_plain.false) in
    rw (t.3, t.0) (row_cell c.loop-i.invariant.0 cell (rw t.1 at plain) (row_capacity c.loop-i.invariant.0 cell c.requires).0, t.4)

pub loop-i-preserved : goal.loop-i-preserved
loop-i-preserved c =
    let t = turn (goal.at.loop-i-preserved c).After-from-e in
    rw t.3 (row_deeper c.loop-i.invariant.0 (omega (arith, t.2, c.if-e-d.false)) (λ e. c.if-e-d-2.false (t.2 ∙ e)), t.4)

pub returns : goal.returns
returns c =
    let ks = c.args.lines.now in
    let i = (zip_first c.loop-i.i-iterator).start in
    let past : length ks ≤ i = grind (arith, c.in-None.ensures.steps, c.requires.short, ap length c.loop-i.invariant.1, length-drop i ks) in
    let e : i ≡ length ks = omega (arith, past, c.loop-i.invariant.0.within) in
    let none = get_or-eq_default ks no_node {n = i} past in
    rw (← e) (row_stop c.loop-i.invariant.0 (omega (arith, ap (λ (k : NodeRecord). k.depth) none)))
