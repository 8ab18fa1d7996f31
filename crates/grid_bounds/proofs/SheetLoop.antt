-- The loop of `sheet_fits` on plain lists: what is summed, with the lines from place i on, is the sum of all.
use mathlib.Core.Bool.{true, false}
use mathlib.Core.Path.{◌≡◌}
use mathlib.Core.List.{List, ◌∷◌, map}
use Prim.Native.Nat.{ℕ, ◌+◌, ◌≤◌, ◌<◌}
use native.Mathlib.Numerals.{add-one}
use native.Mathlib.Omega.{arith}
use lib.Dec.{eqb}
use lib.ListN.{length, get_or, drop, drop_of_length-le}
use lib.Seq.{drop-cons}
use borrow.Author.Tests.{ne_eqb}
use Rattle.common.specs.Lists.{sum}
use Rattle.common.specs.Limits.{max_position}
use Rattle.kinds.specs.Kinds.{kind_number, cell_kind}
use Rattle.records.specs.NodeRecord.{no_node}
use Rattle.records.specs.declared.NodeRecord.{NodeRecord}
use Rattle.grid_bounds.specs.inner.Bound.{Room}
use Rattle.grid_bounds.specs.inner.Sheets.{cols_by, rows_by, SheetBound}

pub record SheetLoop (ks : List NodeRecord) (most end entries i : ℕ) : Type 0 where
  pub place : i ≤ length ks
  pub cols : end + sum (map cols_by (drop i ks)) ≡ sum (map cols_by ks)
  pub rows : entries + sum (map rows_by (drop i ks)) ≡ sum (map rows_by ks)
  pub within : end ≤ max_position
  pub few : entries ≤ most

module _ {ks : List NodeRecord} {most end entries i : ℕ} (z : SheetLoop ks most end entries i) where
  pub sheet_stop : length ks ≤ i → SheetBound most ks
  unfolding sum
  sheet_stop h =
      let e = drop_of_length-le ks {i = i} h in
      record { cols = let v = rw e at z.cols in omega (arith, z.within); rows = let v = rw e at z.rows in omega (arith, z.few) }

  abbrev l : NodeRecord
  l = get_or ks i no_node

  module _ (h : i < length ks) where
    rests : drop i ks ≡ l ∷ drop (i + 1) ks
    rests = rw (add-one, drop-cons ks i no_node)

    pub sheet_other : eqb (kind_number l.kind) cell_kind ≡ false → SheetLoop ks most end entries (i + 1)
    unfolding sum
    sheet_other b =
        record {
          place = omega arith;
          cols = let v = rw (rests, b) at z.cols in omega arith;
          rows = let v = rw (rests, b) at z.rows in omega arith;
          within = z.within;
          few = z.few;
        }

    pub sheet_cell : eqb (kind_number l.kind) cell_kind ≡ true → (cols rows : ℕ) → cols ≡ l.cols → rows ≡ l.rows → Room cols rows end entries most
        → SheetLoop ks most (end + cols) (entries + rows) (i + 1)
    unfolding sum
    sheet_cell b cols rows u v =
        rw (u, v) (λ r.
        let c = ne_eqb l.cols 0 (λ o. omega (arith, r.some_cols, o)) in
        let d = ne_eqb l.rows 0 (λ o. omega (arith, r.some_rows, o)) in
        record {
          place = omega arith;
          cols = let v = rw (rests, b, c) at z.cols in omega arith;
          rows = let v = rw (rests, b, d) at z.rows in omega arith;
          within = r.within;
          few = r.few;
        })
