-- `cutting::total` meets its contract: std's sum of the figures is theirs here.
use mathlib.Core.Path.{◌≡◌, refl}
use native.Mathlib.Omega.{arith}
use Rattle.std.proofs.Common.{rules}
use Rattle.std.specs.List.{sum_by}
use Rattle.std.proofs.lemmas.List.Recursion.{is_sum_by}
use Rattle.common.specs.Lists.{sum}
use Rattle.cutting.proofs.Sums.{sum_small}
use Rattle.cutting.proofs.total.Goals as goal

pub returns : goal.returns
unfolding sum
returns c =
    let all : c.sum.result ≡ sum_by (λ x. x) c.args.figures.now = search rules in
    let here = is_sum_by sum (λ x. x) refl (λ _ _. refl) c.args.figures.now in
    let small = sum_small c.args.figures.now (λ i. omega (arith, c.type_inv.figures i)) in
    record { is = omega arith; small = omega arith }
