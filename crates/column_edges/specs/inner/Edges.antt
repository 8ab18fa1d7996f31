-- The records of a grid's entries and rows, numbered by column edges.
use Rattle.std.specs.Prelude.{◌≡◌, Bool, true, cond, List, [], ◌∷◌, ◌++◌, ℕ, ◌+◌, ◌-◌, ◌/◌, ◌%◌, ◌^◌, ◌≤◌, length, get_or, take, drop, eqb, Option, Some, None}
use Rattle.common.specs.Lists.{sum}
use Rattle.common.specs.Limits.{max_position}
use Rattle.records.specs.declared.Entry.{Entry}
use Rattle.column_edges.specs.Edges.{all_at, count_below, ends_from}

-- bit k of the word w
abbrev pub bit : ℕ → ℕ → ℕ
bit w k = w / 2 ^ k % 2

-- the position p is an edge of the words' set
unfoldable pub is_edge : List ℕ → ℕ → Bool
is_edge ws p = eqb (bit (get_or ws (p / 64) 0) (p % 64)) 1

-- an edge's number is the count of edges below it
abbrev pub edge_by : (ℕ → Bool) → ℕ → Option ℕ
edge_by f p = cond (f p) (Some (count_below f p)) None

unfoldable pub edge_at : List ℕ → ℕ → Option ℕ
edge_at ws p = edge_by (is_edge ws) p

-- Many rows, one after another in one list of spans: a row ends where as many spans have passed as its figure in `ends` says.

-- the figures from number a on, before number e
abbrev pub part : ℕ → ℕ → List ℕ → List ℕ
part a e xs = take (e - a) (drop a xs)

-- the rows from number a on
unfoldable pub rows_from : ℕ → List ℕ → List ℕ → List (List ℕ)
rows_from a [] spans = []
rows_from a (e ∷ ends) spans = part a e spans ∷ rows_from e ends spans

-- where the entries of rows end, each row from position 0 on
unfoldable pub rows_ends : List (List ℕ) → List ℕ
rows_ends [] = []
rows_ends (r ∷ rs) = ends_from 0 r ++ rows_ends rs

-- the ends ascend from a on within the spans, and no row ends past position 4,096
unfoldable pub RowsFit : ℕ → List ℕ → List ℕ → Type 0
RowsFit a [] spans = a ≤ length spans
RowsFit a (e ∷ ends) spans = (a ≤ e) × (e ≤ length spans) × (sum (part a e spans) ≤ max_position) × RowsFit e ends spans

-- A row in columns, where the edges are those of any set.

-- the entries as records, from position p on, whose lines are the first figures of a list: each one's first column is how many edges lie below
-- its start, and its span a count of edges
unfoldable pub records_from : (ℕ → Bool) → ℕ → List ℕ → List ℕ → List Entry
records_from f p ls [] = []
records_from f p ls (s ∷ ss) =
    record { cell = get_or ls 0 0; first = count_below f p; span = count_below f (p + s) - count_below f p } ∷ records_from f (p + s) (drop 1 ls) ss

-- the row's number of columns, where each of its entries ends at an edge
unfoldable pub numbered_by : (ℕ → Bool) → List ℕ → Option ℕ
numbered_by f spans = cond (all_at f (ends_from 0 spans)) (Some (count_below f (sum spans))) None

-- a row's answer, and its entries' records, where each ends at an edge
pub record RenumberPost (f : ℕ → Bool) (spans lines : List ℕ) (answer : Option ℕ) (es : List Entry) : Type 0 where
  pub told : answer ≡ numbered_by f spans
  pub written : all_at f (ends_from 0 spans) ≡ true → es ≡ records_from f 0 lines spans
