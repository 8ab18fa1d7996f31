-- A loop that writes a list g over a list d from the front, one store a turn: after i turns it is `take i g ++ drop i d`.
use mathlib.Core.Path.{◌≡◌, sym, ap, ◌∙◌}
use mathlib.Core.List.{List, ◌++◌, append-nil}
use Prim.Native.Nat.{ℕ, suc, ◌+◌, ◌≤◌, ◌<◌}
use native.Mathlib.Numerals.{add-one}
use native.Mathlib.Omega.{arith}
use lib.ListN.{length, get_or, take, drop, set, drop_of_length-le}
use lib.Seq.{drop-cons, take-suc, set_at, append_snoc, length-take-le, take_all, drop_at}

module _ (g d : List ℕ) (same : length g ≡ length d) where
  pub write_more : (b : List ℕ) (i v : ℕ) → i < length d → b ≡ take i g ++ drop i d → v ≡ get_or g i 0
      → set b i v ≡ take (i + 1) g ++ drop (i + 1) d
  write_more b i v h e q =
      rw (e, q, add-one, take-suc g i 0 (omega arith), append_snoc, drop-cons d i 0 h)
      (set_at (take i g) (get_or d i 0) (drop (suc i) d) (get_or g i 0) i (length-take-le i g (omega arith)))

  pub write_all : (b : List ℕ) (i : ℕ) → length d ≤ i → b ≡ take i g ++ drop i d → b ≡ g
  write_all b i h e = e ∙ rw (drop_of_length-le d h, append-nil) (take_all i g (omega arith))

-- after i turns the rest of what stands there is the rest of what stood there
pub front_done : (g d b : List ℕ) (i : ℕ) → i ≤ length g → b ≡ take i g ++ drop i d → b ≡ take i g ++ drop i b
front_done g d b i h e = e ∙ ap (λ (r : List ℕ). take i g ++ r) (sym (ap (drop i) e ∙ drop_at (take i g) (drop i d) i (length-take-le i g h)))
