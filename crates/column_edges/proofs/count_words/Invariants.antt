-- `count_words` meets its contract. The loop's invariant (`Counting`): n is the count of the ones in the words passed, and each of these has its
-- count. Each edge's word is passed in the end, since no edge lies above `top`.
use Rattle.column_edges.proofs.CountLoop.{Counting}
use Rattle.column_edges.proofs.count_words.Given as goal

abbrev pub invariant-loop-i : goal.invariant-loop-i
invariant-loop-i l = Counting l.words l.counts l.n l.i
