-- The loop that finds what an entry of two grids joined is: what the entry left is of the rows left is what the entry is of all rows. A turn finds it in
-- the next row, or passes that row.
use mathlib.Core.Path.{◌≡◌, refl, sym, ap, ◌∙◌}
use mathlib.Core.Bool.{Bool, true, false, cond}
use mathlib.Core.List.{List, [], ◌∷◌}
use Prim.Native.Nat.{ℕ, ◌+◌, ◌-◌, ◌≤◌, ◌<◌, max}
use native.Mathlib.Omega.{arith}
use native.Mathlib.Decide.{dec_lt}
use lib.Dec.{ltb}
use lib.ListN.{length, take, drop, length-map, length-drop}
use lib.Seq.{length-take-le}
use borrow.Author.Tests.{lt-ltb, le-ltb}
use Rattle.records.specs.declared.Entry as records
use Rattle.records.specs.declared.RowEnd.{RowEnd}
use Rattle.grid.specs.Grid.{GridRow}
use Rattle.grid_join.specs.Joined.{empty_entries, moved, filled}
use Rattle.grid_join.specs.Facts.{left_part, right_part}
use Rattle.grid_join.specs.inner.Reading.{read, row_in, read_rows, grid_in, Ends, end_at}
use Rattle.grid_join.specs.inner.Parts.{right_in}
use Rattle.grid_join.proofs.Counting.{right_empty, empty_count}
use Rattle.grid_join.proofs.Reading.{rest_next, next_bounds, after, left_is, right_is, nothing, length_rest}
use Rattle.joined_owners.specs.declared.Place.{Place}
use Rattle.joined_owners.specs.declared.Place.TheVariants.{Past}
use Rattle.joined_owners.specs.inner.Places.{in_row, first_length, row_length, row_place, place}

-- the entry e is in the next row, or among those after it
pub place_next : (c d a b : ℕ) (ls rs : List GridRow) (e : ℕ) → 0 < max (length ls) (length rs)
    → place c d a b ls rs e
    ≡ row_place c d a b ls rs e (place c d (a + first_length ls) (b + first_length rs) (drop 1 ls) (drop 1 rs) (e - row_length c d ls rs))
unfolding place
place_next c d a b [] [] e h = absurd (omega arith)
place_next c d a b [] (r ∷ rs) e h = refl
place_next c d a b (l ∷ ls) [] e h = refl
place_next c d a b (l ∷ ls) (r ∷ rs) e h = refl

-- the rows of a grid that are left
abbrev left_over : List RowEnd → List records.Entry → ℕ → ℕ → List GridRow
left_over rs es from i = read_rows from (drop i rs) (drop from es)

-- how many entries stand from one place to another
pub part_length : (es : List records.Entry) {from to : ℕ} → (from ≤ to) × (to ≤ length es) → length (take (to - from) (drop from es)) ≡ to - from
part_length es {from} {to} w = length-take-le (to - from) (drop from es) (omega (arith, w, length-drop from es))

-- how many entries the next row has
first_is : (rs : List RowEnd) (es : List records.Entry) (from i : ℕ) → Ends from (drop i rs) (length es) → (to : ℕ) → to ≡ end_at rs i from
    → first_length (left_over rs es from i) ≡ to - from
first_is rs es from i z to q = go (dec_lt i (length rs))
  where
    go : Dec (i < length rs) → first_length (left_over rs es from i) ≡ to - from
    go (yes h) =
        let part = take (to - from) (drop from es) in
        ap first_length (rest_next rs es from i z to q h)
        ∙ length-map part read
        ∙ part_length es (let w = next_bounds rs es from i z to q in (w.0, w.1))
    go (no h) =
        let p : to ≡ from = rw (le-ltb i (length rs) (omega arith)) at q in
        ap first_length (nothing rs es from i z to q (omega arith)) ∙ omega (arith, p)

-- how many entries the right part of a row has
right_count : (c d : ℕ) (there : Bool) (row : List records.Entry) → length (right_in c d there row) ≡ cond there (length row) (length (empty_entries 0 d))
right_count c d true row = length-map (row_in row) (moved c) ∙ length-map row read
right_count c d false row = right_empty c d ∙ sym (empty_count 0 d)

pub record Sofar (c d : ℕ) (les : List records.Entry) (ls : List RowEnd) (res : List records.Entry) (rs : List RowEnd) (entry a b e i : ℕ) : Type 0 where
  pub left : Ends a (drop i ls) (length les)
  pub right : Ends b (drop i rs) (length res)
  pub sofar : place c d a b (left_over ls les a i) (left_over rs res b i) e ≡ place c d 0 0 (grid_in ls les) (grid_in rs res) entry

module _ (c d : ℕ) (les : List records.Entry) (ls : List RowEnd) (res : List records.Entry) (rs : List RowEnd) (entry : ℕ) where
  module _ {a b e i : ℕ} (z : Sofar c d les ls res rs entry a b e i) where
    pub sofar_stop : max (length ls) (length rs) ≤ i → Past ≡ place c d 0 0 (grid_in ls les) (grid_in rs res) entry
    unfolding place
    sofar_stop h =
        let x : left_over ls les a i ≡ [] = nothing ls les a i z.left (end_at ls i a) refl (omega arith) in
        let y : left_over rs res b i ≡ [] = nothing rs res b i z.right (end_at rs i b) refl (omega arith) in
        rw (x, y) at z.sofar

    module _ (h : i < max (length ls) (length rs)) {a' b' : ℕ} (p : a' ≡ end_at ls i a) (q : b' ≡ end_at rs i b) where
      abbrev lpart : List records.Entry
      lpart = take (a' - a) (drop a les)

      abbrev rpart : List records.Entry
      rpart = take (b' - b) (drop b res)

      left_bounds : (a ≤ a') × (a' ≤ length les)
      left_bounds = let w = next_bounds ls les a i z.left a' p in (w.0, w.1)

      right_bounds : (b ≤ b') × (b' ≤ length res)
      right_bounds = let w = next_bounds rs res b i z.right b' q in (w.0, w.1)

      module _ {k t : ℕ} (u : k ≡ length (filled c (row_in lpart))) (v : t ≡ cond (ltb i (length rs)) (length rpart) (length (empty_entries 0 d))) where
        left_count_is : length (left_part c (left_over ls les a i)) ≡ k
        left_count_is = ap length (left_is ls les a i z.left a' p c) ∙ sym u

        right_count_is : length (right_part c d (left_over rs res b i)) ≡ t
        right_count_is = ap length (right_is rs res b i z.right b' q c d) ∙ right_count c d (ltb i (length rs)) rpart ∙ sym v

        abbrev later : Place
        later = place c d a' b' (left_over ls les a' (i + 1)) (left_over rs res b' (i + 1)) (e - (k + t))

        later_is : place c d (a + first_length (left_over ls les a i)) (b + first_length (left_over rs res b i)) (drop 1 (left_over ls les a i))
            (drop 1 (left_over rs res b i)) (e - row_length c d (left_over ls les a i) (left_over rs res b i)) ≡ later
        later_is =
            let x : a + first_length (left_over ls les a i) ≡ a' = omega (arith, first_is ls les a i z.left a' p, left_bounds) in
            let y : b + first_length (left_over rs res b i) ≡ b' = omega (arith, first_is rs res b i z.right b' q, right_bounds) in
            rw (x, y, left_count_is, right_count_is, after ls les a i z.left a' p, after rs res b i z.right b' q)

        next_is : place c d 0 0 (grid_in ls les) (grid_in rs res) entry ≡ cond (ltb e (k + t)) (in_row a (a' - a) k b (b' - b) e) later
        next_is =
            sym z.sofar
            ∙ place_next c d a b (left_over ls les a i) (left_over rs res b i) e
            (omega (arith, length_rest ls les a i z.left, length_rest rs res b i z.right))
            ∙ rw (later_is, left_count_is, right_count_is, first_is ls les a i z.left a' p, first_is rs res b i z.right b' q)

        pub sofar_found : e < k + t → {r : Place} → r ≡ in_row a (length lpart) k b (length rpart) e → r ≡ place c d 0 0 (grid_in ls les) (grid_in rs res) entry
        sofar_found l w = w ∙ rw (part_length les left_bounds, part_length res right_bounds, next_is, lt-ltb e (k + t) l)

        pub sofar_turn : k + t ≤ e → Sofar c d les ls res rs entry a' b' (e - (k + t)) (i + 1)
        sofar_turn l =
            record {
              left = (next_bounds ls les a i z.left a' p).2;
              right = (next_bounds rs res b i z.right b' q).2;
              sofar = sym (next_is ∙ rw (le-ltb e (k + t) l));
            }
