-- A list written over the front of a buffer: one figure more, and a second list after the first.
use mathlib.Core.Path.{◌≡◌, refl, sym, ap, ap₂, ◌∙◌}
use mathlib.Core.List.{List, [], ◌∷◌, ◌++◌, append_assoc, append-nil}
use Prim.Native.Nat.{ℕ, suc, ◌+◌, ◌≤◌, ◌<◌}
use native.Mathlib.Numerals.{add-one}
use native.Mathlib.Omega.{arith}
use lib.ListN.{length, get_or, set, take, drop, length-append}
use lib.Seq.{drop-cons, set-append_seam, take_at, drop_at, sets}
use Rattle.common.specs.inner.Lists.{over}

pub over_none : (o : List ℕ) → over [] o ≡ o
unfolding over
over_none o = refl

pub over_front : (d o : List ℕ) → take (length d) (over d o) ≡ d
unfolding over
over_front d o = take_at d (drop (length d) o) (length d) refl

pub over_rest : (d o : List ℕ) → drop (length d) (over d o) ≡ drop (length d) o
unfolding over
over_rest d o = drop_at d (drop (length d) o) (length d) refl

-- one figure more
pub over_push : (d o : List ℕ) (v : ℕ) → length d < length o → over (d ++ (v ∷ [])) o ≡ set (over d o) (length d) v
unfolding over
over_push d o v h =
    ap (λ (k : ℕ). (d ++ (v ∷ [])) ++ drop k o) (length-append d (v ∷ []) ∙ add-one (length d))
    ∙ append_assoc d (v ∷ []) (drop (suc (length d)) o)
    ∙ sym (set-append_seam d (get_or o (length d) 0) (drop (suc (length d)) o) v)
    ∙ sym (ap (λ (l : List ℕ). set (d ++ l) (length d) v) (drop-cons o (length d) 0 h))

-- several figures more
pub over_sets : (d o vs : List ℕ) → length d + length vs ≤ length o → over (d ++ vs) o ≡ sets (over d o) (length d) vs
over_sets d o [] h = ap (λ (l : List ℕ). over l o) (append-nil d)
over_sets d o (v ∷ vs) h =
    let n : length (d ++ (v ∷ [])) ≡ suc (length d) = length-append d (v ∷ []) ∙ add-one (length d) in
    ap (λ (l : List ℕ). over l o) (sym (append_assoc d (v ∷ []) vs))
    ∙ over_sets (d ++ (v ∷ [])) o vs (omega arith)
    ∙ ap₂ (λ (l : List ℕ) (k : ℕ). sets l k vs) (over_push d o v (omega arith)) n
