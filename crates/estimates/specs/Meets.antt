-- What measuring a sheet takes and promises.
use Rattle.std.specs.Prelude.{List, ℕ, ◌≤◌, ◌<◌, length, get_or}
use Rattle.common.specs.Limits.{max_size}
use Rattle.text.specs.declared.Estimate.{Estimate}
use Rattle.estimates.specs.Estimates.{none}

-- no size passes 33,554,432; least never passes size
pub record Bounded (e : Estimate) : Type 0 where
  pub small : e.size ≤ max_size
  pub least_size : e.least ≤ e.size

-- and that of all
abbrev pub AllBounded : List Estimate → Type 0
AllBounded es = (k : ℕ) → k < length es → Bounded (get_or es k none)
