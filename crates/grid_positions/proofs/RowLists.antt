-- Rows by positions, some after others: their entries, and where they end. By induction on the rows.
use mathlib.Core.Path.{◌≡◌, refl, sym, ap, ◌∙◌}
use mathlib.Core.List.{List, [], ◌∷◌, ◌++◌, append_assoc}
use Prim.Native.Nat.{ℕ, suc, ◌+◌}
use native.Mathlib.Nat.{add-zero, add_assoc}
use native.Mathlib.Omega.{arith}
use lib.ListN.{length, length-append}
use Rattle.grid_row.specs.Row.{Item}
use Rattle.grid_positions.specs.Positions.{PositionRow, entry_count}
use Rattle.grid_positions.specs.inner.Slices.{all_items, entry_ends}

pub items_append : (rs qs : List PositionRow) → all_items (rs ++ qs) ≡ all_items rs ++ all_items qs
unfolding all_items
items_append [] qs = refl
items_append (r ∷ rs) qs = ap (λ (l : List Item). r.items ++ l) (items_append rs qs) ∙ sym (append_assoc r.items (all_items rs) (all_items qs))

pub items_count : (rs : List PositionRow) → length (all_items rs) ≡ entry_count rs
unfolding all_items entry_count
items_count [] = refl
items_count (r ∷ rs) = length-append r.items (all_items rs) ∙ ap (λ (n : ℕ). length r.items + n) (items_count rs)

pub count_append : (rs qs : List PositionRow) → entry_count (rs ++ qs) ≡ entry_count rs + entry_count qs
unfolding entry_count
count_append [] qs = omega arith
count_append (r ∷ rs) qs = omega (arith, count_append rs qs)

pub ends_length : (n : ℕ) (rs : List PositionRow) → length (entry_ends n rs) ≡ length rs
unfolding entry_ends
ends_length n [] = refl
ends_length n (r ∷ rs) = ap suc (ends_length (n + length r.items) rs)

pub ends_append : (n : ℕ) (rs qs : List PositionRow) → entry_ends n (rs ++ qs) ≡ entry_ends n rs ++ entry_ends (n + entry_count rs) qs
unfolding entry_ends entry_count
ends_append n [] qs = ap (λ (m : ℕ). entry_ends m qs) (sym (add-zero n))
ends_append n (r ∷ rs) qs =
    ap (λ (l : List ℕ). (n + length r.items) ∷ l)
    (ends_append (n + length r.items) rs qs
    ∙ ap (λ (m : ℕ). entry_ends (n + length r.items) rs ++ entry_ends m qs) (add_assoc n (length r.items) (entry_count rs)))
