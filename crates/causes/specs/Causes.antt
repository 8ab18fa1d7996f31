-- Why a column of a table is 0 wide, and which of the table's entries are missing.
use Rattle.std.specs.Prelude.{cond, List, [], ◌∷◌, ℕ, suc, ltb, eqb, length}
use Rattle.columns.specs.Columns.{up_to}
use Rattle.cutting.specs.Cut.{at}
use Rattle.widths.specs.Share.{shares}
use Rattle.placement.specs.Place.{Placed}
use Rattle.causes.specs.declared.Cause.{Cause}
use Rattle.causes.specs.declared.Cause.TheVariants.{Shown, Empty, Little, Cut, Page}

-- the first that holds: the page has width 0; the column is not 0 wide; its size is 0; its share is 0; its share was cut away
unfoldable pub cause_of : (width size share wide : ℕ) → Cause
cause_of width size share wide =
    cond (eqb width 0) Page (cond (ltb 0 wide) Shown (cond (eqb size 0) Empty (cond (eqb share 0) Little Cut)))

-- the numbers of the causes
unfoldable pub cause_number : Cause → ℕ
cause_number Shown = 0
cause_number Empty = 1
cause_number Little = 2
cause_number Cut = 3
cause_number Page = 4

-- the cause of column j, where the columns have these sizes, leasts and final widths
abbrev pub cause_at : (sizes leasts finals : List ℕ) → ℕ → ℕ → Cause
cause_at sizes leasts finals width j = cause_of width (at sizes j) (at (shares sizes leasts width) j) (at finals j)

-- the number of each column's cause
abbrev pub causes : (sizes leasts finals : List ℕ) → ℕ → List ℕ
causes sizes leasts finals width = up_to (length sizes) (λ j. cause_number (cause_at sizes leasts finals width j))

-- which entries are missing, those with the width 0: their numbers, where the first has the number k
unfoldable pub missing_from : ℕ → List Placed → List ℕ
missing_from k [] = []
missing_from k (p ∷ ps) = cond (eqb p.width 0) (k ∷ missing_from (suc k) ps) (missing_from (suc k) ps)
