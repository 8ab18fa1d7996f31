-- `sheet::read_lines` meets its contract. The loop's invariant, `ReadingLoop`: the first n lines are kept and faultless, the chain tells what they
-- are to the next one, and the sheet's answer is that of the checks from line n + 1 on, which starts at the place. A faulty line is the answer; a
-- sound one is kept, and the checks go on after it. After the last line only the checks of `finish` are left. The measure is what is left of the
-- sheet: a line has at least its line feed.
use mathlib.Core.Path.{◌≡◌, refl, sym, ◌∙◌}
use Prim.Native.Nat.{◌≤◌, ◌<◌}
use native.Mathlib.Omega.{arith}
use lib.ListN.{length, length-set}
use Rattle.std.specs.Prelude.{Ok}
use Rattle.common.specs.Limits.{max_depth}
use Rattle.line.specs.inner.LineAt.{line_at}
use Rattle.line.specs.declared.Node.{Node}
use Rattle.line_fast.specs.inner.Briefs.{BriefPost}
use Rattle.sheet.specs.inner.Steps.{nesting_checked}
use Rattle.sheet.proofs.Heading.{refused_reads}
use Rattle.sheet.proofs.Filling.{none_more}
use Rattle.sheet.proofs.Accepted.{accepted_passed}
use Rattle.sheet.proofs.Turns.{NextLine, turns_start, turns_refuse, turns_next, turns_more, turns_end, turns_stored}
use Rattle.sheet.proofs.read_lines.Goals as goal
use Rattle.sheet.proofs.read_lines.Goals.{In-Ok}

-- what is known of a sound line before it is kept
known : (c : In-Ok) → (node : Node) × (nesting_checked c.loop-at.chain c.loop-at.n c.loop-at.previous (line_at c.args.bytes.now c.loop-at.at) ≡ Ok node) × BriefPost node c.in-Ok.b
known c = c.check_line.ensures.kept _ c.in-Ok.is

next-line : (c : In-Ok) → (let b = c.in-Ok.b in NextLine c.args.bytes.now c.loop-at.at c.loop-at.n b.value.depth b.next)
next-line c = turns_next c.loop-at.invariant.0 c.loop-at-test.true _ (known c)

pub loop-at-init : goal.loop-at-init
loop-at-init c = (turns_start _ _ c.requires.begun, λ e i h. absurd (omega arith))

pub returns-in-Err : goal.returns-in-Err
returns-in-Err c =
    rw c.at.ensures (refused_reads (turns_refuse c.loop-at.invariant.0 c.loop-at-test.true _ (c.check_line.ensures.refused _ c.in-Err.is)))

pub bounds-chain-previous : goal.bounds-chain-previous
bounds-chain-previous c =
    let h : c.in-Ok.b.value.depth ≤ max_depth = (next-line (goal.at.bounds-chain-previous c).In-Ok).deep in
    omega arith

pub bounds-lines-n : goal.bounds-lines-n
bounds-lines-n c =
    let l = next-line (goal.at.bounds-lines-n c).In-Ok in
    omega (arith, l.few, c.loop-at.invariant.0.same, c.requires.bytes_bound)

pub loop-at-smaller : goal.loop-at-smaller
loop-at-smaller c =
    let l = next-line (goal.at.loop-at-smaller c).In-Ok in
    omega (arith, l.ahead, l.ends)

pub loop-at-preserved : goal.loop-at-preserved
loop-at-preserved c =
    let l = next-line (goal.at.loop-at-preserved c).In-Ok in
    let capacity : c.loop-at.n < length c.args.lines.now = omega (arith, l.few, c.requires.begun.few, c.requires.bytes_bound) in (
      rw c.from-previous.ensures (turns_more c.loop-at.invariant.0 c.loop-at-test.true _ (known (goal.at.loop-at-preserved c).In-Ok) _ capacity (length-set _ _ _) refl),
      λ e.
          let s = c.still_filled-filled.ensures e in
          none_more c.loop-at.lines c.in-Ok.b.value (c.loop-at.invariant.1 s.0) s.1 (omega (arith, capacity, c.loop-at.invariant.0.same)) refl,
    )

pub returns : goal.returns
returns c =
    let v = c.loop-at in
    let h = c.loop-at-test.false in
    let answer = c.finish.ensures ∙ turns_end v.invariant.0 h in
    record { answer = answer; stored = λ m e. turns_stored v.invariant.0 h m (accepted_passed _ m (sym answer ∙ e)).count }
