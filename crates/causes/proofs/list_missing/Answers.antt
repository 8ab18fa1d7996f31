-- `causes::list_missing` meets its contract. The loop's invariant, `Sofar`: what is listed, with what the rest of the entries gives, is what all give.
-- A turn lists an entry or passes it; its columns lie within those that have a cause.
use mathlib.Core.Path.{refl}
use Prim.Native.Nat.{◌<◌}
use native.Mathlib.Omega.{arith}
use lib.ListN.{length}
use Rattle.causes.proofs.Listing.{list_take, list_pass, list_stop}
use Rattle.causes.proofs.list_missing.Goals as goal
use Rattle.causes.proofs.list_missing.Goals.{In-loop-i, then-none_shown, else-none_shown}

-- there is one more entry
less : (c : In-loop-i) → c.loop-i.i < length c.args.entries.now
less c = omega (arith, c.loop-i-test.true)

pub loop-i-preserved : goal.loop-i-preserved
loop-i-preserved c =
    let more = less (goal.at.loop-i-preserved c).In-loop-i in
    elim c.if-none_shown.branch [
      | then-none_shown w ↦ rw (w.missing-is, w.n-is) (list_take c.requires c.loop-i.invariant more refl c.columns.ensures.start c.columns.ensures.end c.none_shown.ensures w.if-none_shown.true refl)
      | else-none_shown w ↦ rw (w.missing-is, w.n-is) (list_pass c.requires c.loop-i.invariant more refl c.columns.ensures.start c.columns.ensures.end c.none_shown.ensures w.if-none_shown.false)
    ]

pub returns : goal.returns
returns c = list_stop c.requires c.loop-i.invariant (omega (arith, c.loop-i-test.false))
