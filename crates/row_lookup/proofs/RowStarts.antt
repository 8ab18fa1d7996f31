-- Where the rows of a grid start among its entries: by the records of the rows, and by the rows of boxes.
use Rattle.common.specs.declared.Reason.TheVariants.{NoTable}
use Rattle.std.specs.Prelude.{Ok, Err}
use mathlib.Core.Path.{◌≡◌, refl, sym, ap, ◌∙◌}
use mathlib.Core.Bool.{true, false}
use mathlib.Core.List.{List, [], ◌∷◌, map}
use Prim.Native.Nat.{ℕ, zero, suc, ◌+◌, ◌-◌, ◌≤◌, ◌<◌, min}
use native.Mathlib.Decide.{dec_lt}
use native.Mathlib.Nat.{not-suc-le-zero, le_of_suc-le-suc}
use native.Mathlib.Numerals.{add-one}
use native.Mathlib.Omega.{arith}
use lib.ListN.{length, get_or, take, length-append, length-map}
use lib.Seq.{take_all}
use borrow.Author.Tests.{le-leb, lt-leb}
use Rattle.common.specs.Refusals.{first_answer, refusal}
use Rattle.records.specs.inner.NodeRecord.{no_row}
use Rattle.records.specs.declared.RowEnd.{RowEnd}
use Rattle.columns.specs.Boxes.{Box, flat}
use Rattle.grid.specs.Grid.{Entry, GridRow, entries_of}
use Rattle.grid_build.specs.inner.Records.{ended_rows}
use Rattle.answers.specs.declared.Way.{Way}
use Rattle.row_lookup.specs.Rows.{start_in, goes_down}
use Rattle.row_lookup.specs.inner.Ranges.{HasRows, span_with, range_in}

start_cons : (r : GridRow) (g : List GridRow) (k : ℕ) → start_in (r ∷ g) (suc k) ≡ length r.entries + start_in g k
unfolding entries_of
start_cons r g k = length-append r.entries (entries_of (take k g))

pub start_all : (g : List GridRow) (k : ℕ) → start_in g k ≤ length (entries_of g)
unfolding entries_of
start_all g zero = omega arith
start_all [] (suc k) = omega arith
start_all (r ∷ g) (suc k) = omega (arith, start_cons r g k, length-append r.entries (entries_of g), start_all g k)

next_start : (g : List GridRow) (k : ℕ) → start_in g k ≤ start_in g (suc k)
unfolding entries_of
next_start g zero = omega arith
next_start [] (suc k) = omega arith
next_start (r ∷ g) (suc k) = omega (arith, start_cons r g k, start_cons r g (suc k), next_start g k)

pub start_next : (g : List GridRow) (k : ℕ) → start_in g k ≤ start_in g (k + 1)
start_next g k = rw (add-one k) (next_start g k)

-- ---- by the rows of boxes

pub start_boxes : (f : Entry → Box) (g : List GridRow) (k : ℕ) → length (flat (take k (map (λ (r : GridRow). map f r.entries) g))) ≡ start_in g k
unfolding flat entries_of
start_boxes f g zero = refl
start_boxes f [] (suc k) = refl
start_boxes f (r ∷ g) (suc k) =
    omega (
      arith,
      length-append (map f r.entries) (flat (take k (map (λ (r : GridRow). map f r.entries) g))),
      length-map r.entries f,
      start_cons r g k,
      start_boxes f g k,
    )

-- ---- by the records

ended_at : (n : ℕ) (g : List GridRow) (k : ℕ) → k < length g → (get_or (ended_rows n g) k no_row).end ≡ n + start_in g (suc k)
unfolding ended_rows entries_of
ended_at n [] k h = absurd (not-suc-le-zero h)
ended_at n (r ∷ g) zero h = omega (arith, start_cons r g 0)
ended_at n (r ∷ g) (suc k) h = ended_at (n + length r.entries) g k (le_of_suc-le-suc h) ∙ omega (arith, start_cons r g (suc k))

ended_length : (n : ℕ) (g : List GridRow) → length (ended_rows n g) ≡ length g
unfolding ended_rows
ended_length n [] = refl
ended_length n (r ∷ g) = ap suc (ended_length (n + length r.entries) g)

module _ (rows : List RowEnd) (g : List GridRow) (e : HasRows rows g) where
  pub row_total : length rows ≡ length g
  row_total = ap length e ∙ ended_length 0 g

  -- the end of row k is where the next one starts
  end_is : (k : ℕ) → k < length rows → (get_or rows k no_row).end ≡ start_in g (suc k)
  end_is k h =
      ap (λ (rs : List RowEnd). (get_or rs k no_row).end) e
      ∙ ended_at 0 g k (omega (arith, row_total))
      ∙ omega arith

  -- past the last row all entries stand before
  start_least : (k : ℕ) → start_in g (min k (length rows)) ≡ start_in g k
  start_least k = go (dec_lt (length rows) k)
    where
      go : Dec (length rows < k) → start_in g (min k (length rows)) ≡ start_in g k
      go (yes h) =
          let m : min k (length rows) ≡ length rows = omega arith in
          ap (λ (q : List GridRow). length (entries_of q))
          (ap (λ (i : ℕ). take i g) m ∙ take_all (length rows) g (omega (arith, row_total)) ∙ sym (take_all k g (omega (arith, row_total))))
      go (no h) = let m : min k (length rows) ≡ k = omega arith in ap (start_in g) m

  module _ (k : ℕ) where
    pub before_none : min k (length rows) ≡ 0 → 0 ≡ start_in g k
    unfolding entries_of
    before_none z = sym (ap (start_in g) z) ∙ start_least k

    pub before_some : (min k (length rows) ≡ 0 → ⊥) → (get_or rows (min k (length rows) - 1) no_row).end ≡ start_in g k
    before_some p =
        let z : suc (min k (length rows) - 1) ≡ min k (length rows) = omega arith in
        end_is (min k (length rows) - 1) (omega arith) ∙ ap (start_in g) z ∙ start_least k

-- ---- the row

module _ (way : Way) (g : List GridRow) (row : ℕ) where
  pub spot_down : goes_down way ≡ true → Err (refusal NoTable 0) ≡ range_in way g row
  unfolding range_in first_answer
  spot_down d = rw d

  module _ (side : goes_down way ≡ false) where
    pub spot_past : length g ≤ row → Err (refusal NoTable 0) ≡ range_in way g row
    unfolding range_in first_answer
    spot_past h = rw (side, le-leb (length g) row h)

    pub spot_there : {a b c : ℕ} → row < length g → a ≡ start_in g row → b ≡ start_in g (row + 1) → c ≡ start_in g (row + 2) → Ok (span_with a b c) ≡ range_in way g row
    unfolding range_in first_answer
    spot_there h p q r = rw (side, lt-leb (length g) row h, p, q, r)
