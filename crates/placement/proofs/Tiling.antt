-- The boxes of a row that tiles the columns. By induction on the rows.
use mathlib.Core.List.{List, [], ◌∷◌}
use Prim.Native.Nat.{ℕ, zero, suc, ◌+◌, ◌≤◌, ◌<◌}
use native.Mathlib.Nat.{not-suc-le-zero, le_of_suc-le-suc}
use lib.ListN.{length, get_or}
use Rattle.common.proofs.All.{at_all}
use Rattle.common.proofs.Tiles.{tiles_within}
use Rattle.columns.specs.Boxes.{Box}
use Rattle.columns.specs.inner.Boxes.{box_first, box_span, BoxesTile, TilesAll}
use Rattle.columns.proofs.Listed.{none}

-- a box has a column, and ends within the columns
pub tiles_at : (n p : ℕ) (bs : List Box) (k : ℕ) → BoxesTile n p bs → k < length bs →
    (1 ≤ (get_or bs k none).span) × ((get_or bs k none).first + (get_or bs k none).span ≤ n)
tiles_at n p bs k t h = at_all _ none bs k (tiles_within box_first box_span n p bs t) h

-- a row of rows that tile
pub tiles_row : (n : ℕ) (rows : List (List Box)) (i : ℕ) → TilesAll n rows → i < length rows → BoxesTile n 0 (get_or rows i [])
unfolding TilesAll
tiles_row n [] i t h = absurd (not-suc-le-zero h)
tiles_row n (r ∷ rows) zero t h = t.0
tiles_row n (r ∷ rows) (suc i) t h = tiles_row n rows i t.2 (le_of_suc-le-suc h)
