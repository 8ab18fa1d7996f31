-- `grid_plain::try_plain` meets its contract. The loop's invariant, `TableLoop`: the rows so far are plain, with what the lines still to come hold they are the
-- table's as they are written, and their entries and records stand in the slices. A line of the table that the loop meets is a row or a body, since
-- `try_row` passes what is deeper. The measure is the number of lines left.
use mathlib.Core.Path.{◌≡◌, sym, subst, ◌∙◌}
use Prim.Native.Nat.{ℕ, ◌+◌, ◌<◌, ◌≤◌, max}
use native.Mathlib.Omega.{arith}
use lib.ListN.{length, get_or}
use borrow.Author.Tests.{ltb-false}
use Rattle.common.specs.Limits.{max_entries}
use Rattle.records.specs.NodeRecord.{no_node}
use Rattle.grid_plain.specs.inner.Walking.{TryRowPre, RowDone}
use Rattle.grid_plain.proofs.TableLoop.{test_deep, table_start, table_stop, more, table_body, row_ready, table_row}
use Rattle.grid_plain.proofs.try_plain.Goals as goal
use Rattle.grid_plain.proofs.try_plain.Goals.{In_ok-end}

-- the line of a turn is below the table
deep : (c : In_ok-end) → (get_or c.args.lines.now c.args.at no_node).depth < (get_or c.args.lines.now c.loop-line.i no_node).depth
deep c = test_deep c.args.lines.now c.args.at c.loop-line.i c.from-d.ensures c.below.ensures c.loop-line-test.true

-- a row's, for whose cells there is room
row_line : (c : In_ok-end) → (get_or c.args.lines.now c.loop-line.i no_node).depth ≡ (get_or c.args.lines.now c.args.at no_node).depth + 2
row_line c = omega (arith, c.from.ensures, c.from-d.ensures, c.if-from-d.true)

-- and whose cells are plain
done : (c : In_ok-end) → RowDone c.args.lines.now (get_or c.args.lines.now c.args.at no_node).depth (c.loop-line.i + 1) c.loop-line.n c.in_ok-end.end c.loop-line.entries c.try_row.new.entries
done c =
    subst (λ (d : ℕ). RowDone c.args.lines.now d (c.loop-line.i + 1) c.loop-line.n c.in_ok-end.end c.loop-line.entries c.try_row.new.entries)
    c.from-d.ensures (c.try_row.ensures.done _ c.in_ok-end.was)

few : (c : In_ok-end) → c.loop-line.n + c.in_ok-end.end.cells ≤ max_entries
few c = omega (arith, (row_ready c.requires c.loop-line.invariant (deep c) (row_line c)).few, (done c).count)

-- the line is there
within : (c : In_ok-end) → c.loop-line.i < length c.args.lines.now
within c = more c.requires c.loop-line.invariant (deep c)

pub loop-line-init : goal.loop-line-init
loop-line-init c = table_start c.requires

pub try_row-requires : goal.try_row-requires
try_row-requires c =
    let h = test_deep c.args.lines.now c.args.at c.loop-line.i c.from-d.ensures c.below.ensures c.loop-line-test.true in
    subst (λ (d : ℕ). TryRowPre c.args.lines.now d (c.loop-line.i + 1) c.loop-line.n c.loop-line.entries) (sym c.from-d.ensures)
    (row_ready c.requires c.loop-line.invariant h (omega (arith, c.from.ensures, c.from-d.ensures, c.if-from-d.true)))

pub overflow_add-n : goal.overflow_add-n
overflow_add-n c = omega (arith, few (goal.at.overflow_add-n c).In_ok-end)

pub overflow_cast-row-then-from-d : goal.overflow_cast-row-then-from-d
overflow_cast-row-then-from-d c = omega (arith, few (goal.at.overflow_cast-row-then-from-d c).In_ok-end)

pub loop-line-smaller-then-from-d : goal.loop-line-smaller-then-from-d
loop-line-smaller-then-from-d c =
    let w = done (goal.at.loop-line-smaller-then-from-d c).In_ok-end in
    omega (arith, within (goal.at.loop-line-smaller-then-from-d c).In_ok-end, w.after, w.within)

pub loop-line-preserved-then-from-d : goal.loop-line-preserved-then-from-d
loop-line-preserved-then-from-d c =
    let here : In_ok-end = (goal.at.loop-line-preserved-then-from-d c).In_ok-end in
    let most : c.max-columns.result ≡ max c.loop-line.columns c.in_ok-end.end.cells = c.max-columns.ensures in
    rw most
    (table_row c.requires c.loop-line.invariant (deep here) (row_line here) c.in_ok-end.end c.try_row.new.entries (done here)
    c.try_row.auto.entries)

pub loop-line-preserved : goal.loop-line-preserved
loop-line-preserved c =
    let h = test_deep c.args.lines.now c.args.at c.loop-line.i c.from-d.ensures c.below.ensures c.loop-line-test.true in
    table_body c.requires c.loop-line.invariant h (λ e. c.if-from-d.false (omega (arith, c.from.ensures, c.from-d.ensures, e)))

pub returns : goal.returns
returns c =
    let h : (get_or c.args.lines.now c.loop-line.i no_node).depth ≤ c.from-d.result = ltb-false _ _ (sym c.below.ensures ∙ c.loop-line-test.false) in
    table_stop c.requires c.loop-line.invariant (omega (arith, c.from-d.ensures))
