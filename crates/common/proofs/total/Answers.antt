-- `common::total` meets its contract: std's sum of the figures is theirs here, and fits.
use mathlib.Core.Path.{◌≡◌, refl}
use Prim.Native.Nat.{◌<◌}
use native.Mathlib.Omega.{arith}
use Rattle.std.proofs.Common.{rules}
use Rattle.std.specs.List.{sum_by}
use Rattle.std.proofs.lemmas.List.Recursion.{is_sum_by}
use Rattle.common.specs.Lists.{sum}
use Rattle.common.proofs.total.Goals as goal

pub sum-requires-clause-fits : goal.sum-requires-clause-fits
unfolding sum
sum-requires-clause-fits c =
    let here = is_sum_by sum (λ x. x) refl (λ _ _. refl) c.args.figures.now in
    let fits : sum_by (λ x. x) c.args.figures.now < 4294967296 = omega arith in
    search rules

pub returns : goal.returns
unfolding sum
returns c =
    let all : c.sum.result ≡ sum_by (λ x. x) c.args.figures.now = search rules in
    let here = is_sum_by sum (λ x. x) refl (λ _ _. refl) c.args.figures.now in
    omega arith
