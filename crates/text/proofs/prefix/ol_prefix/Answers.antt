-- `text::prefix::ol_prefix` meets its contract: counted from the shift, and from one past it, the two numbers that are written are
-- the first and the last.
use native.Mathlib.Omega.{arith}
use Rattle.text.proofs.Prefixes.{ol_prefix_written, ol_prefix_le}
use Rattle.text.proofs.prefix.ol_prefix.Goals as goal

pub overflow_add-result : goal.overflow_add-result
overflow_add-result c =
    let a = c.args in
    omega (arith, ol_prefix_written a.first a.children, ol_prefix_le a.first a.children (omega arith) (omega arith))

pub returns : goal.returns
returns c = cc (ol_prefix_written c.args.first c.args.children)
