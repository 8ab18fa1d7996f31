-- The call never answers 7 either. By the numbers of its checks.
use Rattle.common.specs.declared.Reason.TheVariants.{Setting, ShortBuffer, WidthList}
use mathlib.Core.List.{List}
use Prim.Native.Nat.{ℕ}
use native.Mathlib.Omega.{arith}
use Rattle.common.specs.Lists.{All}
use Rattle.sheet_figures.proofs.Never.{Other, no_more, more, asked_other}
use Rattle.call_window.specs.Window.{window_checks}

pub window_other : (s : List ℕ) (line wrap raw : ℕ) (widths buffers : List ℕ) → All Other (window_checks s line wrap raw widths buffers)
window_other s line wrap raw widths buffers =
    asked_other _
    (more WidthList (λ e. omega (arith, e)) _ _ _
    (more Setting (λ e. omega (arith, e)) _ _ _ (more ShortBuffer (λ e. omega (arith, e)) _ _ _ no_more))) s line
