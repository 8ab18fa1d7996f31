-- `Edges::new` meets its contract: a word of zeros has no bit set.
use Rattle.column_edges.proofs.Words.{none_edge}
use Rattle.column_edges.proofs.Edges.new.Goals as goal

pub returns : goal.returns
returns c q = none_edge 65 q
