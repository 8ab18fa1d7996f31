-- `output::Output::put_number` meets its contract: what `io::decimal` spells is the number's digits, at most ten of them, and `put` puts them.
use native.Mathlib.Omega.{arith}
use Rattle.output.proofs.Numbers.{fewest_ten, number_put}
use Rattle.output.proofs.Output.put_number.Goals as goal

pub put-requires : goal.put-requires
put-requires c =
    let d = rw c.from.ensures at c.decimal-k.ensures in
    omega (arith, fewest_ten c.args.n (omega arith) _ d.len)

pub returns-clause-bytes : goal.returns-clause-bytes
returns-clause-bytes c =
    let d = rw c.from.ensures at c.decimal-k.ensures in
    number_put c.args.n (omega arith) d.len d.digits c.put.ensures.bytes
