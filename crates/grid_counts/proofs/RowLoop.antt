-- The loop of `count_row` on plain lists: what is counted, with what the cells still to come add, is what the row's cells add.
use mathlib.Core.Path.{◌≡◌, refl, sym, ap, ap₂, ◌∙◌}
use mathlib.Core.Bool.{Bool, true, false, cond}
use mathlib.Core.List.{List, ◌∷◌, map}
use Prim.Native.Nat.{ℕ, suc, ◌+◌, ◌-◌, ◌≤◌, ◌<◌, min}
use lib.Dec.{eqb}
use native.Mathlib.Decide.{ℕ_discrete}
use native.Mathlib.Omega.{arith}
use lib.ListN.{length, get_or, set, length-set}
use lib.Seq.{get_or-set_same, get_or-set_other}
use Rattle.common.specs.Lists.{sum}
use Rattle.common.specs.Limits.{max_position}
use Rattle.records.specs.NodeRecord.{no_node}
use Rattle.records.specs.declared.NodeRecord.{NodeRecord}
use Rattle.resolved_rows.specs.Cells.{Cell, Frame, frame, cell, resolve_cell, cut_cell}
use Rattle.grid_row.specs.Row.{item_of}
use Rattle.grid_bounds.proofs.Ends.{wide_at, at_same, at_other}
use Rattle.grid_counts.specs.declared.Tally.{Tally}
use Rattle.std.specs.Prelude.{Ok, Err}
use Rattle.common.specs.declared.Reason.TheVariants.{RowEnd}
use Rattle.grid_counts.specs.inner.Tallies.{many_entries, Filled, HangsWithinPost, ready, cols_sum, rows_taken, wides_of, CountRowPre, CountRowPost}
use Rattle.grid_counts.proofs.Scan.{framed, framed_all, there, cells_none, cells_more, cells_on}

-- cols with `instead` in the place of 0 are no more than both together
pub filled_at : {cols instead r : ℕ} → r ≡ cond (eqb cols 0) instead cols → Filled cols instead r
filled_at {cols} {instead} e = record { is = e; small = rw e (least (eqb cols 0)) }
  where
    least : (b : Bool) → cond b instead cols ≤ instead + cols
    least true = omega arith
    least false = omega arith

module _ (n : ℕ) (ks : List NodeRecord) (d instead left : ℕ) where
  -- the row's cells, resolved, where its first line has the number n; and those from place j on
  abbrev pub ready_all : List Cell
  ready_all = ready instead left (frame d n ks).cells

  abbrev pub ready_from : ℕ → List Cell
  ready_from j = ready instead left (framed n ks d j).cells

pub record Counting (ks : List NodeRecord) (d instead left reach₀ entries₀ : ℕ) (ends₀ ends : List ℕ) (reach entries j : ℕ) : Type 0 where
  pub place : j ≤ length ks
  pub cols : (n : ℕ) → reach + cols_sum (ready_from n ks d instead left j) ≡ reach₀ + cols_sum (ready_all n ks d instead left)
  pub within : reach ≤ max_position
  pub taken_rows : (n : ℕ) → min (entries + rows_taken (ready_from n ks d instead left j)) many_entries ≡ min (entries₀ + rows_taken (ready_all n ks d instead left)) many_entries
  pub few : entries ≤ many_entries
  pub ends_are : (n k : ℕ) → k ≤ left
      → get_or ends k 0 + wides_of k (map item_of (ready_from n ks d instead left j)) ≡ get_or ends₀ k 0 + wides_of k (map item_of (ready_all n ks d instead left))
  pub ends_small : (k : ℕ) → k ≤ left → get_or ends k 0 ≤ reach
  pub same : length ends ≡ length ends₀

module _ {ks : List NodeRecord} {d instead left reach₀ entries₀ : ℕ} {ends₀ : List ℕ} (t : CountRowPre ks d instead left reach₀ entries₀ ends₀) where
  pub row_start : Counting ks d instead left reach₀ entries₀ ends₀ ends₀ reach₀ entries₀ 0
  row_start = record {
    place = omega arith;
    cols = λ n. ap (λ (f : Frame). reach₀ + cols_sum (ready instead left f.cells)) (framed_all n ks d);
    within = t.within;
    taken_rows = λ n. ap (λ (f : Frame). min (entries₀ + rows_taken (ready instead left f.cells)) many_entries) (framed_all n ks d);
    few = t.few;
    ends_are = λ n k g. ap (λ (f : Frame). get_or ends₀ k 0 + wides_of k (map item_of (ready instead left f.cells))) (framed_all n ks d);
    ends_small = t.ends_small;
    same = refl;
  }

  module _ {ends : List ℕ} {reach entries j : ℕ} (z : Counting ks d instead left reach₀ entries₀ ends₀ ends reach entries j) where
    pub row_stop : (n : ℕ) → (get_or ks j no_node).depth ≤ d + 2
        → CountRowPost (ready_all n ks d instead left) left reach₀ entries₀ ends₀ ends (Ok (record { reach = reach; entries = entries }))
    unfolding sum
    row_stop n h =
        let e = cells_none n ks d j h in
        record {
          past = λ why x. cc;
          counted = λ o x.
              let same : o ≡ record { reach = reach; entries = entries } = cc in
              let a : o.reach ≡ reach = ap (λ (y : Tally). y.reach) same in
              let b : o.entries ≡ entries = ap (λ (y : Tally). y.entries) same in
              record {
                reach_is = let w = rw e at (z.cols n) in omega arith;
                within = omega (arith, z.within);
                entries_are = let w = rw e at (z.taken_rows n) in omega (arith, z.few);
                ends_are = λ k g. let w = rw e at (z.ends_are n k g) in omega arith;
              };
        }

    abbrev l : NodeRecord
    l = get_or ks j no_node

    module _ (h : d + 2 < l.depth) where
      pub row_there : j < length ks
      row_there = there 0 ks d j (omega arith)

      pub row_on : (l.depth - (d + 2) ≡ 1 → ⊥) → Counting ks d instead left reach₀ entries₀ ends₀ ends reach entries (j + 1)
      row_on other =
          record {
            place = omega (arith, row_there);
            cols = λ n. let w = rw (cells_on n ks d j h other) at (z.cols n) in w;
            within = z.within;
            taken_rows = λ n. let w = rw (cells_on n ks d j h other) at (z.taken_rows n) in w;
            few = z.few;
            ends_are = λ n k g. let w = rw (cells_on n ks d j h other) at (z.ends_are n k g) in w;
            ends_small = z.ends_small;
            same = z.same;
          }

      module _ (e : l.depth - (d + 2) ≡ 1) (wide : ℕ) (f : Filled l.cols instead wide) where
        abbrev c : ℕ → Cell
        c n = cut_cell left (resolve_cell instead (cell (j + n) l.cols l.rows))

        cells_are : (n : ℕ) → ready_from n ks d instead left j ≡ c n ∷ ready_from n ks d instead left (j + 1)
        cells_are n = ap (ready instead left) (cells_more n ks d j h e)

        -- past 4,096 already
        pub row_past : (n : ℕ) → max_position < reach + wide → (ends' : List ℕ) → CountRowPost (ready_all n ks d instead left) left reach₀ entries₀ ends₀ ends' (Err RowEnd)
        unfolding sum
        row_past n g ends' =
            let w = rw (cells_are n) at (z.cols n) in
            record { past = λ why x. let e : RowEnd ≡ why = cc in (sym e, omega (arith, f.is)); counted = λ o x. cc }

        module _ (g : reach + wide ≤ max_position) (hang : ℕ) (v : HangsWithinPost left l.rows hang) where
          abbrev new : List ℕ
          new = set ends hang (get_or ends hang 0 + wide)

          takes_is : (n : ℕ) → (c n).rows ≡ suc hang
          takes_is n = ap suc (sym v.is)

          left_is : (n : ℕ) → (item_of (c n)).left - 1 ≡ hang
          left_is n = omega (arith, takes_is n)

          new_at : (n k : ℕ) → Dec (k ≡ hang) → get_or new k 0 ≡ get_or ends k 0 + wide_at k (item_of (c n))
          new_at n k (yes u) =
              ap (λ (x : ℕ). get_or new x 0) u
              ∙ get_or-set_same ends hang (get_or ends hang 0 + wide) 0 (omega (arith, t.capacity, z.same, v.small))
              ∙ ap₂ (λ (x y : ℕ). get_or ends x 0 + y) (sym u) (f.is ∙ sym (at_same k (item_of (c n)) (left_is n ∙ sym u)))
          new_at n k (no u) =
              get_or-set_other ends hang k (get_or ends hang 0 + wide) 0 u
              ∙ omega (arith, at_other k (item_of (c n)) (λ x. u (sym x ∙ left_is n)))

          at_wide : (n k : ℕ) → Dec (k ≡ hang) → wide_at k (item_of (c n)) ≤ wide
          at_wide n k (yes u) = omega (arith, at_same k (item_of (c n)) (left_is n ∙ sym u), f.is)
          at_wide n k (no u) = omega (arith, at_other k (item_of (c n)) (λ x. u (sym x ∙ left_is n)))

          pub row_more : (entries' : ℕ) → entries' ≡ min (entries + (hang + 1)) many_entries
              → Counting ks d instead left reach₀ entries₀ ends₀ new (reach + wide) entries' (j + 1)
          unfolding sum
          row_more entries' m = record {
            place = omega (arith, row_there);
            cols = λ n. let w = rw (cells_are n) at (z.cols n) in omega (arith, f.is);
            within = g;
            taken_rows = λ n. let w = rw (cells_are n) at (z.taken_rows n) in omega (arith, takes_is n);
            few = omega arith;
            ends_are = λ n k u. let w = rw (cells_are n) at (z.ends_are n k u) in omega (arith, new_at n k (ℕ_discrete k hang));
            ends_small = λ k u. omega (arith, new_at 0 k (ℕ_discrete k hang), at_wide 0 k (ℕ_discrete k hang), z.ends_small k u);
            same = length-set ends hang (get_or ends hang 0 + wide) ∙ z.same;
          }
