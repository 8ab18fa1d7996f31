-- The call never answers 7 either. By the numbers of its checks.
use Rattle.common.specs.declared.Reason.TheVariants.{NoTable}
use mathlib.Core.List.{List, []}
use Prim.Native.Nat.{ℕ}
use native.Mathlib.Omega.{arith}
use Rattle.common.specs.Lists.{All}
use Rattle.common.proofs.All.{all_append}
use Rattle.sheet_figures.proofs.Never.{Other, no_more, more, asked_other}
use Rattle.call_spoken.specs.Spoken.{spoken_checks}

pub spoken_other : (s : List ℕ) (line e : ℕ) → All Other (spoken_checks s line e)
spoken_other s line e = all_append Other _ _ (asked_other [] no_more s line) (more NoTable (λ q. omega (arith, q)) _ _ _ no_more)
