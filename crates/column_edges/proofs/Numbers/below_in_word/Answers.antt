-- `below_in_word` meets its contract: the mask keeps the bits of p's word below p.
use mathlib.Core.Path.{ap}
use lib.Count.{ones}
use Prim.Native.Nat.{◌%◌}
use native.Mathlib.Omega.{arith}
use Rattle.column_edges.proofs.Words.{masked}
use Rattle.column_edges.proofs.Numbers.below_in_word.Goals as goal

pub returns : goal.returns
returns c = ap ones (masked _ (c.args.p % 64) (omega arith))
