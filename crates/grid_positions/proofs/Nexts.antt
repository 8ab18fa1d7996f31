-- What hangs on after a row, an entry at a time.
use mathlib.Core.Path.{◌≡◌, sym, subst}
use mathlib.Core.Bool.{true}
use mathlib.Core.List.{List, [], ◌∷◌}
use Prim.Native.Nat.{◌-◌, ◌≤◌, ◌<◌}
use native.Mathlib.Decide.{dec_lt}
use native.Mathlib.Omega.{arith}
use Rattle.grid_row.specs.Row.{Item, item, nexts}
use Rattle.grid_row.proofs.Steps.{hang_more, hang_none}

-- an entry as it hangs into the next row
abbrev pub onward : Item → Item
onward x = item x.owner true (x.left - 1) x.pos x.span

pub nexts_more : (x : Item) (xs : List Item) → 1 < x.left → nexts (x ∷ xs) ≡ onward x ∷ nexts xs
unfolding nexts
nexts_more x xs h = rw (hang_more x h)

pub nexts_none : (x : Item) (xs : List Item) → x.left ≤ 1 → nexts (x ∷ xs) ≡ nexts xs
unfolding nexts
nexts_none x xs h = rw (hang_none x h)

module _ (P : List Item → List Item → Type 0) (none : P [] [])
    (more : (x : Item) (xs ys : List Item) → 1 < x.left → P xs ys → P (x ∷ xs) (onward x ∷ ys))
    (last : (x : Item) (xs ys : List Item) → x.left ≤ 1 → P xs ys → P (x ∷ xs) ys) where
  pub nexts_induction : (xs : List Item) → P xs (nexts xs)
  unfolding nexts
  nexts_induction [] = none
  nexts_induction (x ∷ xs) = go (nexts_induction xs) (dec_lt 1 x.left)
    where
      go : P xs (nexts xs) → Dec (1 < x.left) → P (x ∷ xs) (nexts (x ∷ xs))
      go ih (yes h) = subst (P (x ∷ xs)) (sym (nexts_more x xs h)) (more x xs _ h ih)
      go ih (no h) = subst (P (x ∷ xs)) (sym (nexts_none x xs (omega arith))) (last x xs _ (omega arith) ih)
