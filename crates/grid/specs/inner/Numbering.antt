-- Rows in columns, one after the other, where the edges are those of any set.
use Rattle.std.specs.Prelude.{◌≡◌, Bool, true, cond, List, [], ◌∷◌, ◌++◌, ℕ, max, length, take, drop, Option, Some, None}
use Rattle.common.specs.Lists.{sum}
use Rattle.records.specs.declared.Entry.{Entry}
use Rattle.column_edges.specs.Edges.{count_below, all_at}
use Rattle.column_edges.specs.inner.Edges.{rows_ends, records_from}

-- the records of all rows' entries, whose lines are the first figures of a list
unfoldable pub rows_records : (ℕ → Bool) → List ℕ → List (List ℕ) → List Entry
rows_records f ls [] = []
rows_records f ls (r ∷ rs) = records_from f 0 ls r ++ rows_records f (drop (length r) ls) rs

-- the columns of the longest row
unfoldable pub most_columns : (ℕ → Bool) → List (List ℕ) → ℕ
most_columns f [] = 0
most_columns f (r ∷ rs) = max (count_below f (sum r)) (most_columns f rs)

-- the columns of the longest row, if every entry of every row ends at an edge
unfoldable pub numbered_rows : (ℕ → Bool) → List (List ℕ) → Option ℕ
numbered_rows f rs = cond (all_at f (rows_ends rs)) (Some (most_columns f rs)) None

-- the rows' answer, and their entries' records, which stand in the first places, if each ends at an edge
pub record RowsNumbered (f : ℕ → Bool) (rs : List (List ℕ)) (line : List ℕ) (answer : Option ℕ) (es : List Entry) : Type 0 where
  pub told : answer ≡ numbered_rows f rs
  pub written : all_at f (rows_ends rs) ≡ true → take (length (rows_records f line rs)) es ≡ rows_records f line rs
