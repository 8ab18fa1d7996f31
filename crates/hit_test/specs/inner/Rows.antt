-- What the code that points into a row asks of its slices, and what it leaves in the lent one.
use Rattle.std.specs.Prelude.{◌≡◌, List, ℕ, ◌+◌, ◌≤◌, length}
use Rattle.common.specs.inner.Lists.{over}
use Rattle.common.specs.Limits.{max_entries}
use Rattle.placement.specs.Place.{Placed}
use Rattle.hit_test.specs.Point.{listed}

-- the entries from first up to end are there
pub record InSlices (first end : ℕ) (xs wides : List ℕ) : Type 0 where
  pub order : first ≤ end
  pub xs_there : end ≤ length xs
  pub wides_there : end ≤ length wides

-- each entry of the row has a place in the lent slice, and a number that fits
pub record WithinPre (first end : ℕ) (entry : List ℕ) : Type 0 where
  pub places : end ≤ first + length entry
  pub few : end ≤ max_entries

-- the entries listed, and how many; the other places stay
pub record WithinPost (first from to : ℕ) (row : List Placed) (before : List ℕ) (count : ℕ) (after : List ℕ) : Type 0 where
  pub count_is : count ≡ length (listed first from to row)
  pub written : after ≡ over (listed first from to row) before
