-- `text::scan_rest` meets its contract. The invariant: the sum, with the pass over the front from i on begun with this gap, is the size of the
-- whole front: at the start by the run of characters and spaces that was walked. At a refused byte, at the stop and at the end the front from i on is
-- empty, and the sum is all. Of the other bytes a space (class 3, and 3 / 3 = 1) adds nothing and sets the gap, a character adds its width and the gap,
-- at most 5, and clears it.
use mathlib.Core.Path.{◌∙◌, sym}
use Prim.Native.Nat.{◌≤◌}
use native.Mathlib.Omega.{arith}
use lib.ListN.{get_or}
use Rattle.text.specs.Bytes.{class_of}
use Rattle.text.proofs.Scanning.{sum_refused, sum_stop, sum_turn, sum_end}
use Rattle.text.proofs.Runs.{run_summing, is_plain}
use Rattle.text.proofs.scan_rest.Goals as goal
use Rattle.text.proofs.scan_rest.Goals.{then-class-eq-REFUSED-via-then-class-eq-REFUSED, then-class-eq-REFUSED-via-else-class-eq-REFUSED+then-text-i}

pub loop-i-init : goal.loop-i-init
loop-i-init c = run_summing _ c.run_to-run.ensures (is_plain _)

pub returns-then-class-eq-REFUSED : goal.returns-then-class-eq-REFUSED
returns-then-class-eq-REFUSED c =
    elim c.then-class-eq-REFUSED.branch [
      | then-class-eq-REFUSED-via-then-class-eq-REFUSED w ↦
          sum_refused c.loop-i.invariant (omega arith) (sym c.class-class.ensures.value ∙ w.if-class-eq-REFUSED.true)
      | then-class-eq-REFUSED-via-else-class-eq-REFUSED+then-text-i w ↦ sum_stop c.loop-i.invariant (omega arith) w.if-text-i.true
    ]

pub loop-i-preserved : goal.loop-i-preserved
loop-i-preserved c =
    let text = c.args.text.now in
    let class = c.class-class.ensures in
    let few : class_of (get_or text c.loop-i.i 0) ≤ 3 = omega (arith, class.value, class.upper_bound, c.if-class-eq-REFUSED.false) in
    rw (c.from.ensures, class.value)
    (sum_turn c.loop-i.invariant (omega arith) c.if-text-i.false few c.space_bit-space.result (omega (arith, c.space_bit-space.ensures, class.value)))

pub returns : goal.returns
returns c = sum_end c.loop-i.invariant (omega arith)
