-- What the function that measures a value promises.
use Rattle.std.specs.Prelude.{◌≡◌, ℕ, ◌≤◌, ℤ}
use Rattle.evaluator.specs.Measures.{length_of}

pub record Length (z : ℤ) (r : ℕ) : Type 0 where
  pub is : r ≡ length_of z
  pub least : 1 ≤ r
  pub most : r ≤ 14
