-- What hangs on, carried over to the next row.
use Rattle.std.specs.Prelude.{◌≡◌, List, ℕ, length, take}
use Rattle.grid_row.specs.inner.Overhangs.{lefts_in, ats_in, wides_in}

-- those that hang on are the first that hang into the next row
pub record CarryPost (nl na nw o : List ℕ) : Type 0 where
  pub lefts : take (length nl) (lefts_in o) ≡ nl
  pub ats : take (length na) (ats_in o) ≡ na
  pub wides : take (length nw) (wides_in o) ≡ nw
