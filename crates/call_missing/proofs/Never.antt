-- The call that tells why cells are missing never answers 7 either. By the numbers of its checks.
use Rattle.common.specs.declared.Reason.TheVariants.{Setting, ShortBuffer}
use mathlib.Core.List.{List}
use Prim.Native.Nat.{ℕ}
use native.Mathlib.Omega.{arith}
use Rattle.common.specs.Lists.{All}
use Rattle.sheet_figures.proofs.Never.{Other, no_more, more, asked_other}
use Rattle.call_missing.specs.Missing.{missing_checks}

pub missing_other : (s : List ℕ) (line wrap raw width : ℕ) (entries columns : List ℕ) → All Other (missing_checks s line wrap raw width entries columns)
missing_other s line wrap raw width entries columns = asked_other _ (more Setting (λ e. omega (arith, e)) _ _ _ (more ShortBuffer (λ e. omega (arith, e)) _ _ _ no_more)) s line
