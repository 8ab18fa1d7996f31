-- `column_sizes::raise_columns` meets its contract. The loop's invariant, `Sofar`: what stands in the columns is the largest that the first i entries
-- give. A turn passes an entry without a size, or raises its columns by its two quotients; the parts that are lent lie within the columns,
-- as the entry ends there.
use lib.ListN.{length}
use Rattle.column_sizes.proofs.Raises.{Sofar}
use Rattle.column_sizes.proofs.raise_columns.Given as goal

abbrev pub invariant-loop-e : goal.invariant-loop-e
invariant-loop-e l = Sofar l.entries l.figures (length l.fn.sizes) l.sizes l.leasts l.e-index
