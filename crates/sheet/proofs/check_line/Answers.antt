-- `sheet::check_line` meets its contract: the line is judged by itself, and then after the lines before it.
use mathlib.Core.Path.{◌≡◌, sym, ap, ◌∙◌}
use Prim.Native.Nat.{ℕ}
use borrow.Author.Rules.{rules}
use Rattle.std.specs.Prelude.{Err}
use Rattle.sheet.specs.inner.Steps.{breaks_nesting}
use Rattle.sheet.proofs.Briefs.{sound_answers, faulty_answers, read_deep, judged_faulty, judged_sound}
use Rattle.sheet.proofs.check_line.Goals as goal

pub returns-in_err-b : goal.returns-in_err-b
returns-in_err-b c =
    let e : c.from_residual.result ≡ Err c.in_err-b.field-0.0 = search rules in
    rw e (faulty_answers _ (judged_faulty _ _ _ _ _ (c.line_of.ensures.refused _ c.in_err-b.was)))

pub misplaced-requires-clause-depth_le_max_depth : goal.misplaced-requires-clause-depth_le_max_depth
misplaced-requires-clause-depth_le_max_depth c =
    let w = c.line_of.ensures.kept _ c.in_ok-b.was in
    rw c.from.ensures (read_deep _ _ w.0 _ w.1 w.2)

pub returns-then-misplaced : goal.returns-then-misplaced
returns-then-misplaced c =
    let w = c.line_of.ensures.kept _ c.in_ok-b.was in
    faulty_answers _ (judged_sound _ _ _ _ w.0 _ _ w.1 w.2 (ap (λ (d : ℕ). breaks_nesting c.args.chain.now c.args.lines c.args.previous d c.in_ok-b.b.value.kind) (sym c.from.ensures) ∙ sym c.misplaced.ensures ∙ c.if-misplaced.true))

pub returns : goal.returns
returns c =
    let w = c.line_of.ensures.kept _ c.in_ok-b.was in
    sound_answers _ w.0 (judged_sound _ _ _ _ w.0 _ _ w.1 w.2 (ap (λ (d : ℕ). breaks_nesting c.args.chain.now c.args.lines c.args.previous d c.in_ok-b.b.value.kind) (sym c.from.ensures) ∙ sym c.misplaced.ensures ∙ c.if-misplaced.false)) w.2
