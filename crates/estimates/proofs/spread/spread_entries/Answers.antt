-- `estimates::spread::spread_entries` meets its contract. The loop's invariant, `SpreadLoop`: what is passed, with the entries left, comes to the
-- whole, in the sum and in each column.
use mathlib.Core.Path.{refl, ap}
use Prim.Native.Nat.{ℕ, ◌+◌, ◌*◌, ◌/◌, ◌^◌, ◌≤◌}
use native.Mathlib.Omega.{arith}
use lib.ListN.{length, get_or}
use Rattle.common.specs.Limits.{max_position}
use Rattle.records.specs.inner.NodeRecord.{no_entry}
use Rattle.estimates.specs.Estimates.{none}
use Rattle.estimates.specs.inner.Spread.{EntryFits}
use Rattle.estimates.proofs.Spreading.{spread_stop, spread_filler, sum_fits, spread_cell}
use Rattle.estimates.proofs.spread.spread_entries.Goals as goal
use Rattle.estimates.proofs.spread.spread_entries.Goals.{In-loop-entry, In-Some, in-Some, in_default}

fit : (c : In-loop-entry) → EntryFits c.args.figures.now (length c.args.columns.now) (get_or c.args.entries.now c.loop-entry.entry-index no_entry)
fit c = c.requires.fit c.loop-entry.entry-index c.loop-entry-test.true

sum_small : (c : In-Some) → c.loop-entry.sum + (get_or c.args.entries.now c.loop-entry.entry-index no_entry).span * ((get_or c.args.figures.now c.in-Some.at none).size / (get_or c.args.entries.now c.loop-entry.entry-index no_entry).span) + max_position ≤ 2 ^ 32
sum_small c =
    let k = c.in-Some.ensures in
    sum_fits c.loop-entry.invariant c.loop-entry-test.true _ refl (λ z. omega (arith, k.0)) (c.requires.fit c.loop-entry.entry-index c.loop-entry-test.true)
    (ap (λ (i : ℕ). get_or c.args.figures.now i none) k.1) c.requires.capacity

pub overflow_mul-sum : goal.overflow_mul-sum
overflow_mul-sum c = omega (arith, sum_small (goal.at.overflow_mul-sum c).In-Some)

pub overflow_add-sum : goal.overflow_add-sum
overflow_add-sum c = omega (arith, sum_small (goal.at.overflow_add-sum c).In-Some)

pub loop-entry-preserved : goal.loop-entry-preserved
loop-entry-preserved c =
    let at = (goal.at.loop-entry-preserved c).In-loop-entry in
    let inside = c.loop-entry-test.true in
    elim c.match-checked_sub.branch [
      | in-Some w ↦
          let k = w.in-Some.ensures in
          rw (w.columns-is, w.sum-is)
          (spread_cell c.loop-entry.invariant inside _ refl (λ z. omega (arith, k.0)) (fit at) (ap (λ (i : ℕ). get_or c.args.figures.now i none) k.1) _ _ _ w.columns.ensures.start (omega arith) w.raise.ensures)
      | in_default w ↦ rw (w.columns-is, w.sum-is) (spread_filler c.loop-entry.invariant inside _ refl (omega (arith, w.in_default.ensures)))
    ]

pub returns : goal.returns
returns c = spread_stop c.loop-entry.invariant (omega (arith, c.loop-entry-test.false))
