-- Bytes up to a stop and after it: the two parts, cut where a search for it ends.
use mathlib.Core.Path.{◌≡◌, refl}
use mathlib.Core.Bool.{Bool, true, false, cond}
use mathlib.Core.List.{List, [], ◌∷◌}
use Prim.Native.Nat.{ℕ, suc, ◌+◌}
use native.Mathlib.Numerals.{one-add}
use native.Mathlib.Omega.{arith}
use lib.Dec.{eqb, ltb, leb-suc-suc}
use lib.ListN.{length, take, drop}
use borrow.Author.Tests.{lt-ltb}
use Rattle.std.specs.Prelude.{not}
use Rattle.std.specs.List.{position_or_len}
use Rattle.settings.specs.Settings.{Part, part, unstopped, longer, until}

-- how many bytes stand before the first that is `stop`; all, if none is
abbrev pub count_before : ℕ → List ℕ → ℕ
count_before stop s = position_or_len (λ b. eqb b stop) s

-- bytes cut before a place and after it, where there is such a place
abbrev pub cut_at : ℕ → List ℕ → Part
cut_at n s = cond (ltb n (length s)) (part (take n s) (drop (suc n) s)) unstopped

cut_longer : (b n : ℕ) (s : List ℕ) → longer b (cut_at n s) ≡ cut_at (suc n) (b ∷ s)
cut_longer b n s = rw (leb-suc-suc (suc n) (length s)) (go (ltb n (length s)))
  where
    go : (t : Bool) → longer b (cond t (part (take n s) (drop (suc n) s)) unstopped) ≡ cond t (part (b ∷ take n s) (drop (suc n) s)) unstopped
    go true = refl
    go false = refl

pub until_cut : (stop : ℕ) (s : List ℕ) → until stop s ≡ cut_at (count_before stop s) s
unfolding until
until_cut stop [] = refl
until_cut stop (b ∷ bs) = go (eqb b stop) (until_cut stop bs)
  where
    go : (t : Bool) → until stop bs ≡ cut_at (count_before stop bs) bs
        → cond t (part [] bs) (longer b (until stop bs)) ≡ cut_at (cond (not t) (1 + count_before stop bs) 0) (b ∷ bs)
    go true e = rw (lt-ltb 0 (suc (length bs)) (omega arith))
    go false e = rw (e, one-add (count_before stop bs)) (cut_longer b (count_before stop bs) bs)
