-- `insert` meets its contract: the word of p gets the bit of p, and no other bit changes.
use Prim.Native.Nat.{◌/◌, ◌%◌, ◌<◌}
use native.Mathlib.Omega.{arith}
use lib.ListN.{length}
use Rattle.column_edges.proofs.Words.{shifted, marked_edge}
use Rattle.column_edges.proofs.Edges.insert.Goals as goal

pub returns : goal.returns
returns c q =
    let a = c.args in
    let k : a.p % 64 < 64 = omega arith in
    let i : a.p / 64 < length a.self.now.words = omega arith in
    rw (shifted (a.p % 64) k) (marked_edge a.self.now.words a.p q i)
