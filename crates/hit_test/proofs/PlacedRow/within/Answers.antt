-- `hit_test::PlacedRow::within` meets its contract. A turn reads the entry at the next place, which does what the invariant, `Sofar`, says. No more are
-- written than entries passed, so that there is a place for each. At the end no entry is left, for the places do not run out before the entries do.
use mathlib.Core.Path.{sym, ◌∙◌}
use mathlib.Core.List.{◌∷◌}
use native.Mathlib.Omega.{arith}
use lib.Seq.{slice}
use Rattle.hit_test.specs.Point.{placed}
use Rattle.hit_test.proofs.Parts.{xs_left, wides_left}
use Rattle.hit_test.proofs.ListLoop.{Sofar, list_start, list_stop, list_skip, list_turn}
use Rattle.hit_test.proofs.PlacedRow.within.Goals as goal
use Rattle.hit_test.proofs.PlacedRow.within.Goals.{In-Some}

-- the entry that a turn reads is the first of what is left
read : (c : In-Some) → Sofar (slice c.args.self.now.first c.args.self.now.end (placed c.args.self.now.x.now c.args.self.now.wide.now)) c.args.self.now.first c.args.self.now.end
    c.args.from c.args.to c.args.entry.now c.loop-i.entry c.loop-i.n c.in-Some.i (c.in-Some.x.now ∷ xs_left c.next.new.self) (c.in-Some.w.now ∷ wides_left c.next.new.self)
read c =
    let s = c.in-Some.ensures.steps in
    rw (s.0.0, ← s.1.0, ← s.1.1) c.loop-i.invariant

pub loop-i-init : goal.loop-i-init
loop-i-init c =
    let a = c.args.self.now in
    let z = c.zip.ensures in
    rw (c.into_iter-i-iterator.ensures.into_iter_gives, c.zip-i-items.ensures.first, c.zip-i-items.ensures.second, z.first, c.iter.ensures.rest, z.second.0)
    (list_start a.first a.end c.args.from c.args.to a.x.now a.wide.now c.args.entry.now a.in_slices)

pub loop-i-preserved-then-lies_inside : goal.loop-i-preserved-then-lies_inside
loop-i-preserved-then-lies_inside c =
    rw c.in-Some.ensures.steps.0.1
    (list_turn (read (goal.at.loop-i-preserved-then-lies_inside c).In-Some) c.requires (sym c.lies_inside.ensures ∙ c.if-lies_inside.true))

pub loop-i-preserved : goal.loop-i-preserved
loop-i-preserved c =
    rw c.in-Some.ensures.steps.0.1 (list_skip (read (goal.at.loop-i-preserved c).In-Some) (sym c.lies_inside.ensures ∙ c.if-lies_inside.false))

pub returns : goal.returns
returns c =
    let z = c.loop-i.invariant in
    list_stop _ z (grind (arith, c.in-None.ensures.steps, c.fits-self, z.before, z.even))
