-- `causes::write_causes` meets its contract. The loop's invariant: the first i places have the numbers of the first i columns' causes, and the rest
-- stands as it did; what the iterator has left are the columns from i on.
use mathlib.Core.Path.{◌≡◌}
use mathlib.Core.List.{List, ◌++◌}
use Prim.Native.Nat.{ℕ}
use lib.ListN.{length, take, drop}
use Rattle.std.specs.Iterator.Adapters.{zip_first, zip_second, enumerate_source, enumerate_count}
use Rattle.std.specs.Slice.Iter.{iter_rest}
use Rattle.columns.specs.Columns.{up_to}
use Rattle.causes.specs.inner.Telling.{number_at}
use Rattle.causes.proofs.write_causes.Given as goal

-- the number of each column's cause
abbrev all : (width : ℕ) (sizes shares column : List ℕ) → List ℕ
all width sizes shares column = up_to (length sizes) (number_at width sizes shares column)

abbrev pub invariant-loop-i : goal.invariant-loop-i
invariant-loop-i l =
    let i = enumerate_count l.i-iterator in
    let three = enumerate_source l.i-iterator in
    (l.cause ≡ take i (all l.width l.sizes l.shares l.column) ++ drop i l.initial.cause)
    × (iter_rest (zip_first three) ≡ drop i l.sizes)
    × (iter_rest (zip_first (zip_second three)) ≡ drop i l.shares)
    × (iter_rest (zip_second (zip_second three)) ≡ drop i l.column)
