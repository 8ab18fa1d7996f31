-- The verdict on the arguments, asked before the sheet.
use Rattle.common.specs.declared.Refusal.{Refusal}
use Rattle.std.specs.Prelude.{Err, Ok, Result, MatchResult}
use mathlib.Core.Path.{◌≡◌, refl}
use mathlib.Core.List.{List, ◌∷◌}
use Prim.Native.Nat.{ℕ}
use native.Mathlib.Omega.{arith}
use Rattle.common.specs.Refusals.{Check, first_answer, passes}
use Rattle.sheet_figures.specs.inner.Early.{early}
use Rattle.arguments.specs.declared.Settings.{Settings}
use Rattle.arguments.specs.inner.Asked.{Asks, verdict_in}
use Rattle.arguments.proofs.Opened.{opened}
use Rattle.row_lookup.specs.declared.Span.{Span}
use Rattle.row_lookup.specs.inner.Ranges.{RangeFound}

-- refused for the arguments
found_early : (why : Refusal) (cs : List Check) (s : List ℕ) (line wrap raw width row : ℕ) (x wide : List ℕ)
    → RangeFound (early (Err why) ∷ cs) s line wrap raw width row (Err why) x wide
unfolding first_answer early passes
found_early why cs s line wrap raw width row x wide =
    record { answer = refl; told = λ p. let z : ◌≡◌ {A = ℕ} 0 1 = cc in absurd (omega arith) }

-- not refused for the arguments
found_late : {cs : List Check} {s : List ℕ} {line wrap raw width row : ℕ} {r : Result Span Refusal} {x wide : List ℕ}
    → RangeFound cs s line wrap raw width row r x wide → RangeFound (early (Ok tt) ∷ cs) s line wrap raw width row r x wide
unfolding first_answer early passes
found_late f = record { answer = f.answer; told = f.told }

pub spot_opened : {asked : Result Settings Refusal} {cs : List Check} {s : List ℕ} {line wrap raw width row : ℕ} {r : Result Span Refusal} {x wide : List ℕ}
    → Asks asked wrap raw width 0 → MatchResult asked (λ g. RangeFound cs s line g.wrap g.raw g.width row r x wide) (λ why. r ≡ Err why)
    → RangeFound (early (verdict_in asked) ∷ cs) s line wrap raw width row r x wide
spot_opened {asked} {cs} {s} {line} {wrap} {raw} {width} {row} {r} {x} {wide} =
    opened (λ v q. RangeFound (early v ∷ cs) s line wrap raw width row q x wide) (λ p q l o. RangeFound cs s line p q l row r x wide)
    asked (λ why. found_early why cs s line wrap raw width row x wide) found_late
