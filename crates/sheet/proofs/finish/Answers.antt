-- `sheet::finish` meets its contract. Where every table and body is seen to be filled the lines are the answer. The loop's invariant: the answer is that of the checks from the place on. A turn passes one line that is
-- not left empty.
use mathlib.Core.Path.{sym, ap, ◌∙◌}
use Prim.Native.Nat.{ℕ, ◌-◌, ◌<◌}
use lib.ListN.{length, get_or}
use native.Mathlib.Omega.{arith}
use Rattle.std.specs.Prelude.{◌≡◌, Ok, Err}
use Rattle.std.proofs.Common.{rules}
use Rattle.records.specs.NodeRecord.{no_node}
use Rattle.records.specs.declared.NodeRecord.{NodeRecord}
use Rattle.kinds.specs.Kinds.{needs_child}
use Rattle.sheet.proofs.Ending.{bare_length, bare_empty, ends_none, ends_start, ends_more, ends_at, ends_all}
use Rattle.sheet.proofs.Filling.{none_empty, filled_ends}
use Rattle.sheet.proofs.finish.Goals as goal

pub returns-in_default : goal.returns-in_default
returns-in_default c =
    let none : length c.args.lines.now ≡ 0 = search rules in
    ap Err c.at.ensures ∙ ends_none _ (bare_length _ ∙ none)

pub returns-then-not-needs_child : goal.returns-then-not-needs_child
returns-then-not-needs_child c =
    let ls = c.args.lines.now in
    let some : 0 < length ls = search rules in
    let here : get_or ls (length ls - 1) no_node ≡ c.in-Some.last.now = search rules in
    let childless = ap (λ (k : NodeRecord). needs_child k.kind) here ∙ sym c.needs_child.ensures ∙ c.if-not-needs_child.true in
    filled_ends ls some (none_empty ls (c.requires.none_lacking c.if-filled.true) some childless)

pub loop-i-init : goal.loop-i-init
loop-i-init c =
    let some : 0 < length c.args.lines.now = search rules in
    ends_start _ (omega (arith, bare_length c.args.lines.now))

pub returns-then-left_empty_at : goal.returns-then-left_empty_at
returns-then-left_empty_at c =
    let ls = c.args.lines.now in
    ap Err c.at-then-left_empty_at.ensures
    ∙ ends_at _ c.loop-i.i (omega (arith, bare_length ls)) c.loop-i.invariant (sym (bare_empty ls c.loop-i.i) ∙ sym c.left_empty_at.ensures ∙ c.if-left_empty_at.true)

pub loop-i-preserved : goal.loop-i-preserved
loop-i-preserved c =
    let ls = c.args.lines.now in
    ends_more _ c.loop-i.i (omega (arith, bare_length ls)) c.loop-i.invariant (sym (bare_empty ls c.loop-i.i) ∙ sym c.left_empty_at.ensures ∙ c.if-left_empty_at.false)

pub returns : goal.returns
returns c =
    let ls = c.args.lines.now in
    ap (λ (m : ℕ). Ok m) (sym (bare_length ls)) ∙ ends_all _ c.loop-i.i (omega (arith, bare_length ls)) c.loop-i.invariant
