-- What is said of the row that was found.
use Rattle.answers.specs.declared.Joint.{Joint}
use Rattle.answers.specs.declared.Under.{Under}
use Rattle.common.specs.declared.Refusal.{Refusal}
use Rattle.std.specs.Prelude.{◌≡◌, List, [], ℕ, ◌≤◌, length, take, Err, Ok, Result}
use Rattle.std.proofs.Math.Seq.{slice}
use Rattle.common.specs.Limits.{max_entries}
use Rattle.placement.specs.Place.{Placed}
use Rattle.hit_test.specs.Point.{pointed, listed, joined}
use Rattle.hit_test.specs.inner.Rows.{InSlices}
use Rattle.row_lookup.specs.declared.Span.{Span}

-- its entries and those of the next row are there
pub record RowFits (first end next : ℕ) (x wide : List ℕ) : Type 0 where
  pub here : InSlices first end x wide
  pub below : InSlices end next x wide
  pub few : end ≤ max_entries

abbrev pub RangeFits : Result Span Refusal → List ℕ → List ℕ → Type 0
RangeFits row_range x wide = (row : Span) → row_range ≡ Ok row → RowFits row.first row.end row.next x wide

-- and each of its entries has a place in the lent buffer
abbrev pub RangeCapacity : Result Span Refusal → List ℕ → Type 0
RangeCapacity row_range entry = (row : Span) → row_range ≡ Ok row → row.end ≤ length entry

unfoldable pub pointed_by : List Placed → ℕ → Result Span Refusal → Result (Under ℕ) Refusal
pointed_by ps x (Ok row) = Ok (pointed row.first x (slice row.first row.end ps))
pointed_by ps x (Err why) = Err why

unfoldable pub joined_by : List Placed → ℕ → Result Span Refusal → Result Joint Refusal
joined_by ps x (Ok row) = Ok (joined x (slice row.first row.end ps) (slice row.end row.next ps))
joined_by ps x (Err why) = Err why

unfoldable pub entries_by : List Placed → ℕ → ℕ → Result Span Refusal → List ℕ
entries_by ps from to (Ok row) = listed row.first from to (slice row.first row.end ps)
entries_by ps from to (Err why) = []

unfoldable pub counted_by : ℕ → Result Span Refusal → Result ℕ Refusal
counted_by n (Ok row) = Ok n
counted_by n (Err why) = Err why

-- the entries stand in the first places
pub record ListInPost (ns : List ℕ) (n : ℕ) (entry : List ℕ) : Type 0 where
  pub count : n ≡ length ns
  pub few : n ≤ max_entries
  pub there : n ≤ length entry
  pub front : take n entry ≡ ns
