-- A list written over a buffer from a place on, after a first list.
use mathlib.Core.Path.{◌≡◌, refl, sym, ap, ap₂, ◌∙◌}
use mathlib.Core.List.{List, [], ◌++◌, map, map-append, append-nil, append_assoc}
use Prim.Native.Nat.{ℕ, ◌+◌, ◌-◌, ◌/◌, ◌≤◌}
use native.Mathlib.Omega.{arith}
use lib.ListN.{length, take, drop, length-append, length-drop, length-map, drop_of_length-le}
use lib.Seq.{length-take-le, take_at, drop_at, drop-drop, take_all}
use borrow.Rule.Slice.PartMut.{put_mid}
use Rattle.std.proofs.lemmas.List.{take-map, drop-map}
use Rattle.records.specs.declared.Entry.{Entry}
use Rattle.common.specs.inner.Lists.{over}
use Rattle.resolved_rows.specs.inner.Held.{cell_by, held_line, lines_of}
use Rattle.records.specs.inner.Figures.{entry_cell, entry_cells_of}
use Rattle.resolved_rows.specs.inner.Spans.{part}
use Rattle.resolved_rows.proofs.Figures.{length_figures}
use Rattle.grid_positions.specs.inner.Slices.{over_at}

over_at_front : (n : ℕ) (l o : List ℕ) → n ≤ length o → length (take n o ++ l) ≡ n + length l
over_at_front n l o h = length-append (take n o) l ∙ ap (λ (k : ℕ). k + length l) (length-take-le n o h)

-- a list after a list
pub over_after : (d l o₀ o : List ℕ) (n : ℕ) → n ≡ length d → o ≡ over d o₀ → over_at n l o ≡ over (d ++ l) o₀
unfolding over
over_after d l o₀ o n e p =
    ap (over_at n l) p
    ∙ ap (λ (x : List ℕ). over (x ++ l) (over d o₀)) (take_at d (drop (length d) o₀) n (sym e))
    ∙ ap (λ (x : List ℕ). (d ++ l) ++ x) (ap (λ (k : ℕ). drop k (over d o₀)) (length-append d l)
    ∙ sym (drop-drop (length l) (length d) (over d o₀))
    ∙ ap (drop (length l)) (drop_at d (drop (length d) o₀) (length d) refl)
    ∙ drop-drop (length l) (length d) o₀
    ∙ ap (λ (k : ℕ). drop k o₀) (sym (length-append d l)))

pub part_length : (a e : ℕ) (l : List ℕ) → a ≤ e → e ≤ length l → length (part a e l) ≡ e - a
part_length a e l h g = length-take-le (e - a) (drop a l) (omega (arith, length-drop a l))

-- where the rest of a slice is lent and comes back written over, its figures are written over from there on
module _ {A : Type 0} (f : A → ℕ) (n : ℕ) (o : List A) (h : n ≤ length o) where
  pub rest_map : map f (take (length o - n) (drop n o)) ≡ drop n (map f o)
  rest_map = ap (map f) (take_all (length o - n) (drop n o) (omega (arith, length-drop n o))) ∙ sym (drop-map f n o)

  pub over_map : (l : List ℕ) (ys : List A) → map f ys ≡ over l (map f (take (length o - n) (drop n o)))
      → map f (put_mid n (length o - n) o ys) ≡ over_at n l (map f o)
  unfolding over
  over_map l ys e =
      let d : drop (length o - n) (drop n o) ≡ [] = drop_of_length-le (drop n o) {i = length o - n} (omega (arith, length-drop n o)) in
      ap (map f) (ap (λ (r : List A). take n o ++ (ys ++ r)) d ∙ ap (λ (r : List A). take n o ++ r) (append-nil ys))
      ∙ map-append f (take n o) ys
      ∙ ap₂ (λ (x y : List ℕ). x ++ y) (sym (take-map f n o)) (e ∙ ap (over l) rest_map)
      ∙ sym (append_assoc (take n (map f o)) l (drop (length l) (drop n (map f o))))
      ∙ ap (λ (x : List ℕ). (take n (map f o) ++ l) ++ x)
      (drop-drop (length l) n (map f o) ∙ ap (λ (k : ℕ). drop k (map f o)) (sym (over_at_front n l (map f o) (omega (arith, length-map o f)))))

-- ---- as many figures as there are records

pub cells_long : (cells : List ℕ) → length (lines_of cells) ≡ length cells / 3
cells_long cells = length_figures 3 cell_by held_line cells

pub entries_long : (entries : List Entry) → length (entry_cells_of entries) ≡ length entries
entries_long entries = length-map entries entry_cell
