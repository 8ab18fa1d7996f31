-- The calls: what is said of the row that was found is what they answer and leave.
use Rattle.common.specs.declared.Refusal.{Refusal}
use Rattle.std.specs.Prelude.{Err, Ok, Result, Some}
use mathlib.Core.Path.{◌≡◌, refl, sym, ap, ap₂, ◌∙◌}
use mathlib.Core.Bool.{Bool, true, false, cond, ◌||◌}
use mathlib.Core.List.{List, [], ◌∷◌, ◌++◌}
use Prim.Native.Nat.{ℕ, ◌+◌, ◌≤◌}
use native.Mathlib.Omega.{arith}
use lib.Dec.{ltb}
use lib.ListN.{length, take}
use lib.Seq.{slice, length-slice}
use borrow.Author.Tests.{ltb-false}
use Rattle.common.specs.Lists.{padded}
use Rattle.common.proofs.Over.{over_front}
use Rattle.common.specs.Limits.{max_entries, max_wrap, max_width, max_size}
use Rattle.common.specs.Refusals.{Check, first_answer, passes, verdict_of, if_passes}
use Rattle.sheet.proofs.First.{neither, first_append, first_accepts, first_refuses, first_told, passes_both, accepted_passes}
use Rattle.placement.specs.Place.{Placed}
use Rattle.sheet_load.specs.Opening.{after_reading, open_checks}
use Rattle.arguments.specs.Arguments.{settings_check, pointing_arguments, within_arguments}
use Rattle.arguments.proofs.Shorter.{one_fit}
use Rattle.sheet_figures.specs.Figures.{rows_at, boxes_at, way_at, widths_at}
use Rattle.sheet_figures.specs.inner.Early.{early}
use Rattle.hit_test.specs.Point.{placed, pointed, listed}
use Rattle.answers.specs.declared.Under.TheVariants.{Cell}
use Rattle.hit_test.specs.inner.Rows as rows
use Rattle.hit_test.proofs.Parts.{placed_length}
use Rattle.hit_test.proofs.Answer.{cell_below}
use Rattle.hit_test.proofs.Listing.{listed_length}
use Rattle.call_preview.specs.Preview.{row_start, late_check, row_checks, pointed_of, listed_of, for_one, WithinAnswer, joined_of}
use Rattle.row_lookup.specs.declared.Span.{Span}
use Rattle.row_lookup.specs.inner.Ranges.{span_with, range_in, RowsPlaced, RangeFound}
use Rattle.call_preview.specs.inner.Said.{RowFits, RangeFits, RangeCapacity, pointed_by, joined_by, entries_by, counted_by, ListInPost}

-- ---- the first of several checks

module _ {A : Type 0} (refused : Refusal → A) where
  -- what is accepted matters only where all pass
  first_agree : (a b : A) (cs : List Check) → (passes cs ≡ true → a ≡ b) → first_answer refused a cs ≡ first_answer refused b cs
  first_agree a b cs h = go (passes cs) refl
    where
      go : (p : Bool) → passes cs ≡ p → first_answer refused a cs ≡ first_answer refused b cs
      go true e = ap (λ (z : A). first_answer refused z cs) (h e)
      go false e = first_refuses refused a b cs e

  -- a verdict that was asked for before the rest
  first_early : (a : A) (args ds : List Check) → first_answer refused a (early (verdict_of args) ∷ ds) ≡ first_answer refused a (args ++ ds)
  unfolding first_answer verdict_of early
  first_early a [] ds = refl
  first_early a (c ∷ args) ds = go c.applies (first_early a args ds)
    where
      go : (b : Bool) → first_answer refused a (early (first_answer Err (Ok tt) args) ∷ ds) ≡ first_answer refused a (args ++ ds)
          → first_answer refused a (early (cond b (Err c.refusal) (first_answer Err (Ok tt) args)) ∷ ds)
          ≡ cond b (refused c.refusal) (first_answer refused a (args ++ ds))
      go true h = refl
      go false h = h

  -- the row is asked last
  row_last : (a : A) (v : Result (Unit {0}) Refusal) (args : List Check) (s : List ℕ) (line wrap raw width row : ℕ) → v ≡ verdict_of args
      → first_answer refused (first_answer refused a (late_check s line wrap raw width row ∷ [])) (early v ∷ open_checks (Some line) s)
      ≡ first_answer refused a (args ++ row_checks s line wrap raw width row)
  unfolding after_reading
  row_last a v args s line wrap raw width row e =
      let late = late_check s line wrap raw width row ∷ [] in
      sym (first_append refused a (early v ∷ open_checks (Some line) s) late)
      ∙ ap (λ (w : Result (Unit {0}) Refusal). first_answer refused a (early w ∷ (open_checks (Some line) s ++ late))) e
      ∙ first_early a args (open_checks (Some line) s ++ late)

-- ---- the arguments

-- the width is in its range
pub in_range : (wrap raw width : ℕ) (rest : List Check) {v : Result (Unit {0}) Refusal} → v ≡ verdict_of (settings_check wrap raw width ∷ rest) → v ≡ (Ok tt) → width ≤ max_size
in_range wrap raw width rest judged z =
    let (p, q) = passes_both (settings_check wrap raw width) rest (accepted_passes _ (sym judged ∙ z)) in
    let (p, q) = neither (ltb max_wrap wrap || ltb 1 raw) (ltb max_width width) p in
    omega (arith, ltb-false max_width width q)

-- the lent buffer is long enough
capacity : (wrap raw width n : ℕ) {v : Result (Unit {0}) Refusal} → v ≡ verdict_of (within_arguments wrap raw width (n ∷ [])) → v ≡ (Ok tt) → max_entries ≤ n
capacity wrap raw width n judged z =
    let (p, q) = passes_both (settings_check wrap raw width) _ (accepted_passes _ (sym judged ∙ z)) in
    let (p, q) = passes_both _ [] q in
    one_fit max_entries n p

accepted_early : (v : Result (Unit {0}) Refusal) → (early v).applies ≡ false → v ≡ (Ok tt)
unfolding early
accepted_early (Ok tt) e = refl
accepted_early (Err why) e = let z : ◌≡◌ {A = ℕ} 0 1 = cc in absurd (omega arith)

-- ---- the row that was found

module _ (v : Result (Unit {0}) Refusal) {s : List ℕ} {line wrap raw width row : ℕ} {r : Result Span Refusal} {x wide : List ℕ}
    (found : RangeFound (early v ∷ open_checks (Some line) s) s line wrap raw width row r x wide) where
  abbrev Told : Type 0
  Told = RowsPlaced (way_at s line wrap raw width) (widths_at s line wrap raw width) width (rows_at s line) (boxes_at s line wrap) x wide

  abbrev there : Result Span Refusal
  there = Ok (span_with (row_start s line row) (row_start s line (row + 1)) (row_start s line (row + 2)))

  -- what is said of it, where all checks pass
  said : {A : Type 0} (f : Result Span Refusal → A) (a : A) (args : List Check) → v ≡ verdict_of args → (Told → f there ≡ a)
      → f r ≡ first_answer (λ why. f (Err why)) a (args ++ row_checks s line wrap raw width row)
  unfolding range_in
  said f a args judged same =
      let cs = early v ∷ open_checks (Some line) s in
      let late = late_check s line wrap raw width row ∷ [] in
      ap f found.answer
      ∙ first_told f Err (range_in (way_at s line wrap raw width) (rows_at s line) row) cs
      ∙ first_agree (λ why. f (Err why)) _ (first_answer (λ why. f (Err why)) a late) cs
      (λ p. first_told f Err there late ∙ ap (λ (z : _). first_answer (λ why. f (Err why)) z late) (same (found.told p)))
      ∙ row_last (λ why. f (Err why)) a v args s line wrap raw width row judged

  -- a row is found only if all checks pass
  is_there : (w : Span) → r ≡ Ok w → (passes (early v ∷ open_checks (Some line) s) ≡ true) × (there ≡ Ok w)
  unfolding range_in
  is_there w e =
      let (p, q) = first_accepts Err _ (Ok w) (early v ∷ open_checks (Some line) s)
      (λ why f. let z : ◌≡◌ {A = ℕ} 0 1 = cc in omega arith) (sym found.answer ∙ e) in
      (p, (first_accepts Err there (Ok w) (late_check s line wrap raw width row ∷ []) (λ why f. let z : ◌≡◌ {A = ℕ} 0 1 = cc in omega arith) q).1)

  pub range_fits : RangeFits r x wide
  range_fits w e =
      let (p, q) = is_there w e in
      let t = found.told p in
      let same : span_with (row_start s line row) (row_start s line (row + 1)) (row_start s line (row + 2)) ≡ w = cc in
      let z : row + 1 + 1 ≡ row + 2 = omega arith in
      rw (← same)
      (record {
        here = t.slices row;
        below = rw z at (t.slices (row + 1));
        few = t.few (row + 1);
      })

  pub range_capacity : (entry : List ℕ) → v ≡ verdict_of (within_arguments wrap raw width (for_one entry)) → RangeCapacity r entry
  range_capacity entry judged w e =
      let (p, q) = is_there w e in
      let (a, o) = passes_both (early v) (open_checks (Some line) s) p in
      omega (arith, (range_fits w e).few, capacity wrap raw width (length entry) judged (accepted_early v a))

  -- `at`
  pub pointed_said : (column : ℕ) → v ≡ verdict_of (pointing_arguments wrap raw width) → pointed_by (placed x wide) column r ≡ pointed_of s line wrap raw width row column
  unfolding pointed_by pointed_of
  pointed_said column judged =
      said (pointed_by (placed x wide) column) _ (pointing_arguments wrap raw width) judged
      (λ t. ap (λ (ps : List Placed). Ok (pointed (row_start s line row) column ps)) (t.places row))

  -- `joining`
  pub joined_said : (column : ℕ) → v ≡ verdict_of (pointing_arguments wrap raw width) → joined_by (placed x wide) column r ≡ joined_of s line wrap raw width row column
  unfolding joined_by joined_of
  joined_said column judged =
      said (joined_by (placed x wide) column) _ (pointing_arguments wrap raw width) judged
      (λ t.
      let z : row + 1 + 1 ≡ row + 2 = omega arith in
      let below = rw z at (t.places (row + 1)) in
      rw (t.places row, below))

  -- `within`
  pub listed_said : {from to n : ℕ} {entry₀ entry after : List ℕ} → v ≡ verdict_of (within_arguments wrap raw width (for_one entry₀))
      → ListInPost (entries_by (placed x wide) from to r) n entry → length entry ≡ length entry₀ → after ≡ padded (length entry) (take n entry)
      → WithinAnswer s line wrap raw width row from to entry₀ (counted_by n r) after
  unfolding counted_by entries_by listed_of if_passes
  listed_said {from} {to} {n} {entry₀} {entry} judged l same kept =
      let ps = placed x wide in
      let args = within_arguments wrap raw width (for_one entry₀) in
      record {
        answer =
            ap (λ (k : ℕ). counted_by k r) l.count
            ∙ said (λ q. counted_by (length (entries_by ps from to q)) q) _ args judged
            (λ t. ap (λ (qs : List Placed). counted_by (length (listed (row_start s line row) from to qs)) there) (t.places row));
        left =
            kept
            ∙ ap₂ padded same
            (l.front
            ∙ said (entries_by ps from to) _ args judged (λ t. ap (λ (qs : List Placed). listed (row_start s line row) from to qs) (t.places row)));
      }

-- ---- the entries of the row

-- the number of a cell fits
pub cell_fits : (column : ℕ) {first' end next : ℕ} {x wide : List ℕ} → RowFits first' end next x wide
    → (n : ℕ) → pointed first' column (slice first' end (placed x wide)) ≡ Cell n → n ≤ max_entries
cell_fits column {first'} {end} {next} {x} {wide} f n e =
    omega (
      arith,
      cell_below first' column (slice first' end (placed x wide)) n e,
      length-slice first' end (placed x wide) (omega (arith, f.here.xs_there, placed_length x wide)),
      f.few,
      f.here.order,
    )

pub listed_none : (ps : List Placed) (from to : ℕ) {row_range : Result Span Refusal} {why : Refusal} {entry : List ℕ} → row_range ≡ Err why → ListInPost (entries_by ps from to row_range) 0 entry
unfolding entries_by
listed_none ps from to e = rw e (record { count = refl; few = omega arith; there = omega arith; front = refl })

pub listed_row : {row_range : Result Span Refusal} {w : Span} {from to n : ℕ} {x wide entry after : List ℕ} → row_range ≡ Ok w → RowFits w.first w.end w.next x wide → w.end ≤ length entry
    → rows.WithinPost w.first from to (slice w.first w.end (placed x wide)) entry n after → length after ≡ length entry → ListInPost (entries_by (placed x wide) from to row_range) n after
unfolding entries_by
listed_row {row_range} {w} {from} {to} {n} {x} {wide} {entry} e f h l k =
    let ns = listed w.first from to (slice w.first w.end (placed x wide)) in
    let size = length-slice w.first w.end (placed x wide) (omega (arith, f.here.xs_there, placed_length x wide)) in
    let some = listed_length w.first from to (slice w.first w.end (placed x wide)) in
    rw e (record {
      count = l.count_is;
      few = omega (arith, l.count_is, f.few);
      there = omega (arith, l.count_is);
      front = ap₂ take l.count_is l.written ∙ over_front ns entry;
    })
