-- What hangs into a row stands in the thirds of one slice: how long they are, and their fronts as parts of the slice.
use mathlib.Core.Path.{◌≡◌, sym, ap, ◌∙◌}
use mathlib.Core.List.{List, map}
use Prim.Native.Nat.{ℕ, ◌+◌, ◌*◌, ◌-◌, ◌/◌, ◌≤◌}
use native.Mathlib.Omega.{arith}
use Rattle.std.proofs.lemmas.List.{take-map}
use lib.ListN.{length, take, drop, length-drop, length-map}
use lib.Seq.{length-take-le, take-take}
use Rattle.grid_row.specs.declared.Overhang.{Overhang}
use Rattle.grid_row.specs.inner.Overhangs.{third, hung_left, hung_at, hung_span, lefts_in, ats_in, wides_in, lefts_of, ats_of, wides_of}
use Rattle.grid_row.specs.inner.Carrying.{CarryPost}

module _ (xs : List ℕ) where
  pub lefts_long : length (lefts_in xs) ≡ third xs
  lefts_long = length-take-le (third xs) xs (omega arith)

  pub ats_long : length (ats_in xs) ≡ third xs
  ats_long = length-take-le (third xs) (drop (third xs) xs) (omega (arith, length-drop (third xs) xs))

  pub wides_long : length (wides_in xs) ≡ third xs
  wides_long = length-take-le (third xs) (drop (2 * third xs) xs) (omega (arith, length-drop (2 * third xs) xs))

  -- the first k of each
  module _ (k : ℕ) (h : k ≤ third xs) where
    pub lefts_here : take k xs ≡ take k (lefts_in xs)
    lefts_here = sym (take-take k (third xs) xs h)

    pub ats_here : take (third xs + k - third xs) (drop (third xs) xs) ≡ take k (ats_in xs)
    ats_here =
        let e : third xs + k - third xs ≡ k = omega arith in
        ap (λ (n : ℕ). take n (drop (third xs) xs)) e ∙ sym (take-take k (third xs) (drop (third xs) xs) h)

    pub wides_here : take (2 * third xs + k - 2 * third xs) (drop (2 * third xs) xs) ≡ take k (wides_in xs)
    wides_here =
        let e : 2 * third xs + k - 2 * third xs ≡ k = omega arith in
        ap (λ (n : ℕ). take n (drop (2 * third xs) xs)) e ∙ sym (take-take k (third xs) (drop (2 * third xs) xs) h)

-- in slices of one length
module _ (xs ys : List ℕ) (e : length xs ≡ length ys) where
  pub lefts_still : length (lefts_in xs) ≡ length (lefts_in ys)
  lefts_still = lefts_long xs ∙ ap (λ (n : ℕ). n / 3) e ∙ sym (lefts_long ys)

  pub ats_still : length (ats_in xs) ≡ length (ats_in ys)
  ats_still = ats_long xs ∙ ap (λ (n : ℕ). n / 3) e ∙ sym (ats_long ys)

  pub wides_still : length (wides_in xs) ≡ length (wides_in ys)
  wides_still = wides_long xs ∙ ap (λ (n : ℕ). n / 3) e ∙ sym (wides_long ys)

-- the first k of what hangs into the next row are the first k of the slices
pub record Front (k : ℕ) (nl na nw o : List ℕ) : Type 0 where
  pub lefts : take k (lefts_in o) ≡ take k nl
  pub ats : take k (ats_in o) ≡ take k na
  pub wides : take k (wides_in o) ≡ take k nw

-- the first k records are carried
module _ {k : ℕ} (next : List Overhang) (h : k ≤ length next) where
  first_of : (f : Overhang → ℕ) (xs : List ℕ) → take (length (map f (take k next))) xs ≡ map f (take k next) → take k xs ≡ take k (map f next)
  first_of f xs c =
      ap (λ (n : ℕ). take n xs) (sym (length-map (take k next) f ∙ length-take-le k next h)) ∙ c ∙ sym (take-map f k next)

  pub carried_front : {o : List ℕ} → CarryPost (lefts_of (take k next)) (ats_of (take k next)) (wides_of (take k next)) o → Front k (lefts_of next) (ats_of next) (wides_of next) o
  carried_front {o} c = record {
    lefts = first_of hung_left (lefts_in o) c.lefts;
    ats = first_of hung_at (ats_in o) c.ats;
    wides = first_of hung_span (wides_in o) c.wides;
  }
