-- `hit_test::PlacedRow::at` meets its contract. A turn reads the entry at the next place, which does what the invariant, `Sofar`, says. At the end no entry
-- is left, for the places do not run out before the entries do.
use mathlib.Core.Path.{sym, ◌∙◌}
use mathlib.Core.List.{◌∷◌}
use native.Mathlib.Omega.{arith}
use lib.Seq.{slice}
use Rattle.hit_test.specs.Point.{placed, pointed}
use Rattle.hit_test.proofs.Parts.{xs_left, wides_left}
use Rattle.hit_test.proofs.PointLoop.{Sofar, sofar_start, sofar_stop, sofar_gap, sofar_skip, sofar_cell, sofar_turn}
use Rattle.hit_test.proofs.PlacedRow.at.Goals as goal
use Rattle.hit_test.proofs.PlacedRow.at.Goals.{In-Some}

-- the entry that a turn reads is the first of what is left
read : (c : In-Some) → Sofar (pointed c.args.self.now.first c.args.column (slice c.args.self.now.first c.args.self.now.end (placed c.args.self.now.x.now c.args.self.now.wide.now)))
    c.args.self.now.end c.args.column c.loop-i.ended c.in-Some.i (c.in-Some.x.now ∷ xs_left c.next.new.self) (c.in-Some.w.now ∷ wides_left c.next.new.self)
read c =
    let s = c.in-Some.ensures.steps in
    rw (s.0.0, ← s.1.0, ← s.1.1) c.loop-i.invariant

pub loop-i-init : goal.loop-i-init
loop-i-init c =
    let a = c.args.self.now in
    let z = c.zip.ensures in
    rw (c.into_iter-i-iterator.ensures.into_iter_gives, c.zip-i-items.ensures.first, c.zip-i-items.ensures.second, z.first, c.iter.ensures.rest, z.second.0)
    (sofar_start a.first a.end c.args.column a.x.now a.wide.now a.in_slices)

pub returns-then-w-ne0 : goal.returns-then-w-ne0
returns-then-w-ne0 c =
    sofar_gap _ (read (goal.at.returns-then-w-ne0 c).In-Some) c.if-ended.true (omega (arith, c.if-w-ne0.true))

pub returns-then-covers_column : goal.returns-then-covers_column
returns-then-covers_column c =
    sofar_cell _ (read (goal.at.returns-then-covers_column c).In-Some) c.if-ended.false (sym c.covers_column.ensures ∙ c.if-covers_column.true)

pub loop-i-preserved-else-w-ne0 : goal.loop-i-preserved-else-w-ne0
loop-i-preserved-else-w-ne0 c =
    rw c.in-Some.ensures.steps.0.1
    (sofar_skip _ (read (goal.at.loop-i-preserved-else-w-ne0 c).In-Some) c.if-ended.true (omega (arith, c.if-w-ne0.false)))

pub loop-i-preserved : goal.loop-i-preserved
loop-i-preserved c =
    rw c.in-Some.ensures.steps.0.1
    (sofar_turn _ (read (goal.at.loop-i-preserved c).In-Some) c.if-ended.false (sym c.covers_column.ensures ∙ c.if-covers_column.false) _ c.closes_at-ended.ensures)

pub returns : goal.returns
returns c =
    let z = c.loop-i.invariant in
    sofar_stop _ _ _ z (grind (arith, c.in-None.ensures.steps, c.fits-self, z.before, z.even))
