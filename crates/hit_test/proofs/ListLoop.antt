-- The loop of `within`: the numbers so far, with those of the entries left, are those of the row, and they stand at the front of the lent slice.
use mathlib.Core.Bool.{true, false}
use mathlib.Core.Path.{◌≡◌, refl, sym, ap, ◌∙◌}
use mathlib.Core.List.{List, [], ◌∷◌, ◌++◌, append-nil}
use Prim.Native.Nat.{ℕ, ◌+◌, ◌-◌, ◌≤◌, ◌<◌}
use native.Mathlib.Omega.{arith}
use lib.ListN.{length, set, take, drop, length-append, length-set, length-drop}
use lib.Seq.{slice, append_snoc, length-take-le}
use Rattle.common.specs.inner.Lists.{over}
use Rattle.common.proofs.Over.{over_none, over_push}
use Rattle.placement.specs.Place.{Placed, at}
use Rattle.hit_test.specs.Point.{placed, inside, listed}
use Rattle.hit_test.specs.inner.Rows.{InSlices, WithinPre, WithinPost}
use Rattle.hit_test.proofs.Parts.{placed_cut}

-- xs and wides are what is left of the row
pub record Sofar (row : List Placed) (first end a b : ℕ) (entry₀ entry : List ℕ) (n i : ℕ) (xs wides : List ℕ) : Type 0 where
  pub done : List ℕ
  pub before : i + length xs ≡ end
  pub even : length xs ≡ length wides
  pub is : done ++ listed i a b (placed xs wides) ≡ listed first a b row
  pub count : n ≡ length done
  pub few : first + n ≤ i
  pub written : entry ≡ over done entry₀
  pub kept : length entry ≡ length entry₀

pub list_start : (first end a b : ℕ) (xs wides entry₀ : List ℕ) → InSlices first end xs wides
    → Sofar (slice first end (placed xs wides)) first end a b entry₀ entry₀ 0 first (take (end - first) (drop first xs)) (take (end - first) (drop first wides))
list_start first end a b xs wides entry₀ r =
    let n = end - first in
    let p = length-take-le n (drop first xs) (omega (arith, length-drop first xs, r.xs_there)) in
    let q = length-take-le n (drop first wides) (omega (arith, length-drop first wides, r.wides_there)) in
    record {
      done = [];
      before = omega (arith, p, r.order);
      even = omega (arith, p, q);
      is = ap (listed first a b) (placed_cut first end xs wides r.order);
      count = refl;
      few = omega arith;
      written = sym (over_none entry₀);
      kept = refl;
    }

module _ {row : List Placed} {first end a b : ℕ} {entry₀ entry : List ℕ} {n i : ℕ} where
  -- nothing is left
  pub list_stop : (xs : List ℕ) {wides : List ℕ} → Sofar row first end a b entry₀ entry n i xs wides → length xs ≡ 0 → WithinPost first a b row entry₀ n entry
  unfolding listed placed
  list_stop [] z h =
      let all : z.done ≡ listed first a b row = rw append-nil at z.is in
      record { count_is = z.count ∙ ap length all; written = z.written ∙ ap (λ (l : List ℕ). over l entry₀) all }
  list_stop (x ∷ xs) z h = absurd (omega arith)

  module _ {x w : ℕ} {xs wides : List ℕ} (z : Sofar row first end a b entry₀ entry n i (x ∷ xs) (w ∷ wides)) where
    -- there is a place for the next number
    pub list_capacity : WithinPre first end entry₀ → n < length entry
    list_capacity capacity = omega (arith, z.few, z.kept, z.before, capacity.places)

    pub list_skip : inside (at x w) a b ≡ false → Sofar row first end a b entry₀ entry n (i + 1) xs wides
    unfolding listed placed
    list_skip c =
        record {
          done = z.done;
          before = omega (arith, z.before);
          even = omega (arith, z.even);
          is = rw c at z.is;
          count = z.count;
          few = omega (arith, z.few);
          written = z.written;
          kept = z.kept;
        }

    pub list_turn : WithinPre first end entry₀ → inside (at x w) a b ≡ true → Sofar row first end a b entry₀ (set entry n i) (n + 1) (i + 1) xs wides
    unfolding listed placed
    list_turn capacity c =
        record {
          done = z.done ++ (i ∷ []);
          before = omega (arith, z.before);
          even = omega (arith, z.even);
          is = append_snoc z.done i _ ∙ (rw c at z.is);
          count = omega (arith, z.count, length-append z.done (i ∷ []));
          few = omega (arith, z.few);
          written = rw (z.written, z.count) (sym (over_push z.done entry₀ i (omega (arith, z.count, z.kept, list_capacity capacity))));
          kept = length-set entry n i ∙ z.kept;
        }
