-- The cell that a filler of a table's grid continues.
use Rattle.std.specs.Prelude.{cond, List, [], ◌∷◌, ℕ, zero, suc, Option, None, Some}
use Rattle.grid.specs.Grid.{Entry}

-- of the entry with this number: the line of the cell that it continues, if it is a filler; none past the last entry
unfoldable pub filler_owner : List Entry → ℕ → Option ℕ
filler_owner [] e = None
filler_owner (x ∷ xs) zero = cond x.filler (Some x.owner) None
filler_owner (x ∷ xs) (suc e) = filler_owner xs e
