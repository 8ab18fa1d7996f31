-- `widths::write_shares` meets its contract. A turn stores the share of column i, whose size is at most the total. At the end all shares are written.
use mathlib.Core.Path.{◌≡◌, sym, ap, ◌∙◌}
use mathlib.Core.Logic.{inl, inr}
use Prim.Native.Nat.{◌≤◌}
use native.Mathlib.Omega.{arith}
use lib.ListN.{length}
use Rattle.std.specs.Iterator.Adapters.{enumerate_count}
use Rattle.common.specs.Lists.{sum}
use Rattle.common.proofs.Write.{write_more, write_all}
use Rattle.cutting.proofs.Pairs.{read_next, read_all}
use Rattle.cutting.proofs.Sums.{at_le_sum}
use Rattle.widths.specs.Share.{share, shares}
use Rattle.widths.proofs.Share.{length_shares, at_shares}
use Rattle.widths.proofs.write_shares.Goals as goal
use Rattle.widths.proofs.write_shares.Goals.{Start}

-- as many shares as places
as_many : (c : Start) → length (shares c.args.sizes.now c.args.leasts.now c.args.width) ≡ length c.args.wide.now
as_many c = length_shares c.args.sizes.now c.args.leasts.now c.args.width _ ∙ sym c.requires.wide_length

pub share_of-requires : goal.share_of-requires
share_of-requires c =
    let a = read_next c.args.sizes.now _ c.loop-i.invariant.1 c.in-Some.ensures.steps.0.0 in
    omega (arith, a.1, at_le_sum c.args.sizes.now (enumerate_count c.loop-i.i-iterator), c.total-all.ensures.is)

pub loop-i-preserved : goal.loop-i-preserved
loop-i-preserved c =
    let zs = c.args.sizes.now in
    let ls = c.args.leasts.now in
    let width = c.args.width in
    let s = c.loop-i.invariant in
    let t = c.in-Some.ensures.steps in
    let a = read_next zs _ s.1 t.0.0 in
    let b = read_next ls _ s.2 t.0.1 in
    let i = enumerate_count c.loop-i.i-iterator in
    let same = rw (a.1, b.1) at (c.share_of.ensures ∙ ap (share c.in-Some.size.now c.in-Some.least.now width) c.total-all.ensures.is) in
    let more = write_more (shares zs ls width) c.args.wide.now (as_many (goal.at.loop-i-preserved c).Start) c.loop-i.wide i c.share_of.result
    (omega (arith, a.0, c.requires.wide_length)) s.0 (same ∙ sym (at_shares zs ls width (sum zs) i)) in
    (rw (t.2, t.1) more, rw t.2 a.2, rw t.2 b.2)

pub returns : goal.returns
returns c =
    let s = c.loop-i.invariant in
    let all : length c.args.sizes.now ≤ enumerate_count c.loop-i.i-iterator =
    elim c.in-None.ensures.steps.0 [
      | inl a ↦ read_all c.args.sizes.now _ s.1 a.1.0
      | inr b ↦ omega (arith, read_all c.args.leasts.now _ s.2 b.1.0, c.requires.leasts_length)
    ] in
    write_all (shares c.args.sizes.now c.args.leasts.now c.args.width) c.args.wide.now (as_many (goal.at.returns c).Start) c.loop-i.wide (enumerate_count c.loop-i.i-iterator)
    (omega (arith, all, c.requires.wide_length)) s.0
