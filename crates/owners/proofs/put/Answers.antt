-- `put` meets its contract: an entry that takes more than one row leaves one hanging, any other none.
use native.Mathlib.Omega.{arith}
use Rattle.owners.proofs.Queues.{put_more, put_none}
use Rattle.owners.proofs.put.Goals as goal

pub returns-then-left-le1 : goal.returns-then-left-le1
returns-then-left-le1 c = put_none c.args.k c.args.owner c.args.left c.args.hung.now (omega (arith, c.if-left-le1.true))

pub returns : goal.returns
returns c = put_more c.args.k c.args.owner c.args.left c.args.hung.now (omega (arith, c.if-left-le1.false)) c.requires
