-- The cycle `node`, `table`, `cell` meets its contracts. Each call passes a line and all below it: `node` a line that stands anywhere, `cell`
-- the children of a line one after the other (a leaf without a call, by the law that `node` has for it), `below_table` the lines of a
-- table (a cell that holds nothing without a call, by the laws that `cell` has for it), and `table` makes the table's grid once they are passed. The loops' invariants
-- say that the lines passed have their estimates, and that what is combined so far, with the lines left, comes to the whole. The measure is
-- three times the lines left, one more for `table` and two more for `node`, which may call for their own line.
use mathlib.Core.Path.{refl, sym, ap, ◌∙◌}
use Prim.Native.Nat.{ℕ, ◌+◌, max}
use lib.ListN.{get_or, set}
use native.Mathlib.Omega.{arith}
use borrow.Author.Tests.{eqb-false}
use Rattle.estimates.specs.Estimates.{none}
use Rattle.estimates.specs.inner.Cycle.{Holder, NodeMeets}
use Rattle.estimates.proofs.Children.{CellLoop, roomy, again, cell_child, cell_again, cell_fits, cell_end, plain_holder, leaf_meets, holder_ready, holder_meets}
use Rattle.estimates.proofs.Framing.{table_again, table_unfilled, table_stop, table_ready, table_end}
use Rattle.estimates.specs.inner.Sheet.{line_at}
use Rattle.estimates.proofs.+cell_node_table.Goals as goal
use Rattle.estimates.proofs.+cell_node_table.Goals.{cell-Joined-is_leaf, cell-then-is_leaf, cell-else-is_leaf}

pub cell-node-next-requires : goal.cell-node-next-requires
cell-node-next-requires t c = (
  omega (arith, c.decreases, c.loop-i-test.true, c.loop-i.invariant.passed.after),
  (
    again c.requires.node_ready c.loop-i.auto.figures c.loop-i.auto.leasts c.loop-i.auto.entries c.loop-i.auto.rows (omega (arith, c.loop-i-test.true)),
    cell_child c.requires.node_ready.sheet c.requires.holder c.loop-i.invariant c.loop-i-test.true c.if-line-top.false,
  ),
)

-- a child is passed with all below it
child_passed : (t : ℕ) (c : cell-Joined-is_leaf t) → NodeMeets c.args.wrap c.args.lines.now c.loop-i.figures c.if-is_leaf.figures c.loop-i.i c.if-is_leaf.next
child_passed t c =
    let w = c.requires.node_ready.sheet in
    elim c.if-is_leaf.branch [
      | cell-then-is_leaf b ↦
          rw b.next-is (leaf_meets w c.loop-i-test.true c.loop-i.invariant.passed.sized refl (sym c.is_leaf.ensures ∙ b.if-is_leaf.true) b.leaf.ensures b.figures-is)
      | cell-else-is_leaf b ↦ rw (b.figures-is, b.next-is) b.node-next.ensures
    ]

turn : (t : ℕ) (c : cell-Joined-is_leaf t)
    → CellLoop c.args.wrap c.args.lines.now c.args.figures.now c.if-is_leaf.figures c.args.at (c.loop-i.sum + (get_or c.if-is_leaf.figures c.loop-i.i none).size) (max c.loop-i.most (get_or c.if-is_leaf.figures c.loop-i.i none).least) (c.loop-i.children + 1) c.if-is_leaf.next
turn t c = cell_again c.loop-i.invariant c.loop-i-test.true c.if-line-top.false (child_passed t c)

pub cell-overflow_add-sum : goal.cell-overflow_add-sum
cell-overflow_add-sum t c = omega (arith, cell_fits c.requires.node_ready.sheet (turn t (goal.at.cell-overflow_add-sum t c).Joined-is_leaf))

pub cell-loop-i-preserved : goal.cell-loop-i-preserved
cell-loop-i-preserved t c = rw c.max-most.ensures (turn t (goal.at.cell-loop-i-preserved t c).Joined-is_leaf)

pub cell-returns-after-loop-i : goal.cell-returns-after-loop-i
cell-returns-after-loop-i t c =
    cell_end c.loop-i.invariant (λ h. absurd (omega (arith, c.loop-i-test.false)))

pub cell-returns-then-line-top : goal.cell-returns-then-line-top
cell-returns-then-line-top t c =
    cell_end c.loop-i.invariant (λ h. c.if-line-top.true)

pub node-holder-e-requires : goal.node-holder-e-requires
node-holder-e-requires t c =
    let r = c.requires.node_ready in
    let h = holder_ready r.sheet r.within refl c.cell-p.ensures in
    record { numbered = h.0; fitting = h.1 }

pub node-returns-then-is_leaf : goal.node-returns-then-is_leaf
node-returns-then-is_leaf t c =
    let r = c.requires.node_ready in leaf_meets r.sheet r.within (roomy r) refl (sym c.is_leaf.ensures ∙ c.if-is_leaf.true) c.leaf-e.ensures refl

pub node-returns-else-eq : goal.node-returns-else-eq
node-returns-else-eq t c =
    let held : Holder (line_at c.args.lines.now c.args.at) = plain_holder refl c.requires.plain (sym c.is_leaf.ensures ∙ c.if-is_leaf.false) (eqb-false _ _ (sym c.eq.ensures ∙ c.if-eq.false)) in
    let r = c.requires.node_ready in holder_meets r.sheet r.within refl held c.cell-p.ensures c.holder-e.ensures refl

pub below_table-loop-i-preserved-then-is_filled : goal.below_table-loop-i-preserved-then-is_filled
below_table-loop-i-preserved-then-is_filled t c =
    table_again c.requires.node_ready.sheet c.requires.at_table c.loop-i.invariant c.loop-i-test.true c.if-line-top.false (c.is_filled.ensures.cell c.if-is_filled.true) c.cell-p.ensures (ap (set _ _) c.estimate.ensures)

pub below_table-loop-i-preserved : goal.below_table-loop-i-preserved
below_table-loop-i-preserved t c =
    table_unfilled c.requires.node_ready.sheet c.requires.at_table c.loop-i.invariant c.loop-i-test.true c.if-line-top.false c.is_filled.ensures c.if-is_filled.false refl

pub below_table-returns-after-loop-i : goal.below_table-returns-after-loop-i
below_table-returns-after-loop-i t c =
    table_stop c.requires.node_ready.sheet c.loop-i.invariant (λ h. absurd (omega (arith, c.loop-i-test.false)))

pub below_table-returns-then-line-top : goal.below_table-returns-then-line-top
below_table-returns-then-line-top t c =
    table_stop c.requires.node_ready.sheet c.loop-i.invariant (λ h. c.if-line-top.true)

pub table-table_figures-requires : goal.table-table_figures-requires
table-table_figures-requires t c =
    let k = c.below_table-end.auto in
    table_ready _ _ _ c.requires.node_ready c.requires.at_table c.below_table-end.ensures k.leasts k.entries k.rows

pub table-returns : goal.table-returns
table-returns t c =
    let r = c.requires.node_ready in
    table_end r.sheet c.below_table-end.ensures r.lined (r.tables.sound _ r.within c.requires.at_table) r.within c.requires.at_table c.table_figures.ensures refl
