-- `text::skip_spaces` meets its contract: the spaces end where the search says (`skipped`).
use mathlib.Core.Path.{◌≡◌, ap, ◌∙◌}
use native.Mathlib.Omega.{arith}
use Prim.Native.Nat.{◌-◌}
use lib.ListN.{length, take, drop}
use Rattle.std.specs.Prelude.{position}
use Rattle.std.specs.Option.{unwrap_or}
use Rattle.std.proofs.lemmas.List.{take_rest}
use Rattle.text.specs.inner.Steps.{ends}
use Rattle.text.proofs.Scanning.{skipped, skipped_in}
use Rattle.text.proofs.skip_spaces.Goals as goal

spaces : (c : goal.After-unwrap_or) → c.unwrap_or.result
    ≡ unwrap_or (position (ends c.args.stop) (drop c.args.from c.args.text.now)) (length (drop c.args.from c.args.text.now))
spaces c =
    let text = c.args.text.now in
    let from = c.args.from in
    c.unwrap_or.ensures ∙ ap (λ o. unwrap_or o (length (take (length text - from) (drop from text)))) c.spaces_end.ensures
    ∙ ap (λ r. unwrap_or (position (ends c.args.stop) r) (length r)) (take_rest text from)

pub overflow_add-result : goal.overflow_add-result
overflow_add-result c = omega (arith, skipped_in c.args.stop c.args.text.now c.args.from c.requires.from_in_bounds _ (spaces c))

pub returns : goal.returns
returns c = skipped c.args.stop c.args.text.now c.args.from c.requires.from_in_bounds _ (spaces c)
