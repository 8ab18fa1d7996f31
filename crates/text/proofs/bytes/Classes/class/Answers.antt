-- `text::bytes::Classes::class` meets its contract: no class is above 4.
use native.Mathlib.Omega.{arith}
use Rattle.text.proofs.Tables.{class_le}
use Rattle.text.proofs.bytes.Classes.class.Goals as goal

pub returns-clause-upper_bound : goal.returns-clause-upper_bound
returns-clause-upper_bound c = rw c.from.ensures (omega (arith, c.args.self.now.each c.args.b (omega arith), class_le c.args.b))
