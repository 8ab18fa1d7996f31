-- The columns as a chain goes through them: each with its number, its share and its least.
use mathlib.Core.Path.{◌≡◌, refl, ap, ◌∙◌}
use mathlib.Core.List.{List, [], ◌∷◌, map}
use Prim.Native.Nat.{ℕ, suc, ◌≤◌, ◌<◌}
use native.Mathlib.Omega.{arith}
use native.Mathlib.Numerals.{add-one}
use lib.ListN.{length}
use denote.Ref.{Bor}
use Rattle.std.specs.Prelude.{Some}
use Rattle.std.specs.declared.iter.Enumerate.{Enumerate}
use Rattle.std.specs.declared.iter.Zip.{Zip}
use Rattle.std.specs.declared.slice.Iter.{Iter}
use Rattle.std.specs.Iterator.{Yields}
use Rattle.std.specs.Iterator.Adapters.{zip_first, zip_second, zip_steps, enumerate_source, enumerate_count, enumerate_steps}
use Rattle.std.specs.List.{zip, enumerate_from}
use Rattle.std.specs.Slice.Iter.{iter_rest, iter_steps}
use Rattle.std.proofs.lemmas.Grind.{get_or_default_zero}
use Rattle.std.proofs.lemmas.Iterator.{YieldsList, YieldsList-from_slice, YieldsList-from_zip}
use Rattle.std.proofs.lemmas.Iterator.Consumers.{YieldsList-from_enumerate, YieldsList-turn}
use Rattle.std.proofs.lemmas.List.FromFn.{length-enumerate_from, get_or-enumerate_from}
use Rattle.std.proofs.lemmas.Slice.Zip.{length-zip, get_or-zip}
use Rattle.cutting.specs.Cut.{Below}
use Rattle.cutting.specs.inner.Fill.{place, width_at, filled_from}

-- from column i on
abbrev pub columns_from : ℕ → List ℕ → List ℕ → List (ℕ × (ℕ × ℕ))
columns_from i ls ss = enumerate_from i (zip ss ls)

pub widths_from : (i : ℕ) (ls ss : List ℕ) (t b : ℕ) → length ls ≡ length ss
    → map (λ x. width_at x.1.1 x.1.0 t (place x.1.1 x.0) b) (columns_from i ls ss) ≡ filled_from i ls ss t b
unfolding filled_from
widths_from i [] [] t b e = refl
widths_from i [] (s ∷ ss) t b e = absurd (omega arith)
widths_from i (l ∷ ls) [] t b e = absurd (omega arith)
widths_from i (l ∷ ls) (s ∷ ss) t b e =
    rw add-one (ap (λ ws. width_at l s t (place l i) b ∷ ws) (widths_from (suc i) ls ss t b (omega arith)))

module _ (s : Enumerate (Zip (Iter ℕ) (Iter ℕ))) (ls ss : List ℕ) (leasts : iter_rest (zip_second (enumerate_source s)) ≡ ls)
    (shares : iter_rest (zip_first (enumerate_source s)) ≡ ss) (first : enumerate_count s ≡ 0) where
  pub columns_come : YieldsList (enumerate_steps (zip_steps iter_steps iter_steps)) (λ x. (x.0, (x.1.0.now, x.1.1.now))) s (columns_from 0 ls ss)
  columns_come = YieldsList-from_enumerate (YieldsList-from_zip (YieldsList-from_slice ss shares) (YieldsList-from_slice ls leasts)) first

  -- of each that comes the number is one of a column, and the least is no larger than the share
  pub may_ask : Below ls ss
      → (xs : List (ℕ × (Bor ℕ × Bor ℕ))) (t u : Enumerate (Zip (Iter ℕ) (Iter ℕ))) (x : ℕ × (Bor ℕ × Bor ℕ))
      → Yields (enumerate_steps (zip_steps iter_steps iter_steps)) s xs t → enumerate_steps (zip_steps iter_steps iter_steps) t (Some x) u
      → (x.0 < length ss) × (x.1.1.now ≤ x.1.0.now)
  may_ask below xs t u x so_far next =
      let k = length xs in
      let turn = YieldsList-turn columns_come xs t so_far (Some x) u x refl next in
      let n = length-enumerate_from 0 (zip ss ls) in
      let m : length (zip ss ls) ≡ length ss = omega (arith, length-zip ss ls, below.0) in
      let p = turn.1 ∙ get_or-enumerate_from 0 (zip ss ls) k _ (omega (arith, turn.0)) in
      let q = ap (λ y. y.1) p ∙ get_or-zip ss ls k _ (omega (arith, turn.0)) (omega (arith, turn.0, below.0)) in
      let share = ap (λ y. y.0) q ∙ get_or_default_zero ss k _ (omega (arith, turn.0)) in
      let least = ap (λ y. y.1) q ∙ get_or_default_zero ls k _ (omega (arith, turn.0, below.0)) in
      (omega (arith, ap (λ y. y.0) p, turn.0, m), omega (arith, share, least, below.1 k))
