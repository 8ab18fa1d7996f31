-- The calls that point into the preview never answer 7 either. By the numbers of their checks.
use Rattle.common.specs.declared.Reason.TheVariants.{NoTable, Setting, ShortBuffer}
use mathlib.Core.List.{List}
use Prim.Native.Nat.{ℕ}
use native.Mathlib.Omega.{arith}
use Rattle.common.specs.Lists.{All}
use Rattle.common.proofs.All.{all_append}
use Rattle.sheet_figures.proofs.Never.{Other, no_more, more, asked_other}
use Rattle.call_preview.specs.Preview.{row_checks, point_checks, within_checks}

-- what is asked of the sheet, the line, the tables and the row
row_other : (s : List ℕ) (line wrap raw width row : ℕ) → All Other (row_checks s line wrap raw width row)
row_other s line wrap raw width row = all_append Other _ _ (asked_other _ no_more s line) (more NoTable (λ e. omega (arith, e)) _ _ _ no_more)

pub point_other : (s : List ℕ) (line wrap raw width row : ℕ) → All Other (point_checks s line wrap raw width row)
point_other s line wrap raw width row = more Setting (λ e. omega (arith, e)) _ _ _ (row_other s line wrap raw width row)

pub within_other : (s : List ℕ) (line wrap raw width row : ℕ) (entries : List ℕ) → All Other (within_checks s line wrap raw width row entries)
within_other s line wrap raw width row entries = more Setting (λ e. omega (arith, e)) _ _ _ (more ShortBuffer (λ e. omega (arith, e)) _ _ _ (row_other s line wrap raw width row))
