-- Every table keeps the third demand. A box's columns hold its least width: each has the quotient of least width and span at the least, and
-- the span less one gaps between them make up for the rounding. What the columns hold stands in the row as `Chain` says; what the widths
-- keep, `Final` of the crate `widths` says. Down the page every cell that is printed starts at 0 and is as wide as the page, by induction on
-- the row. A cell is missing exactly if its columns sum to 0, or down if the width is 0, which every column then is.
use mathlib.Core.Bool.{Bool, true, false, cond}
use mathlib.Core.Path.{◌≡◌, refl, sym, ap, ◌∙◌}
use mathlib.Core.List.{List, [], ◌∷◌}
use Prim.Native.Nat.{ℕ, zero, suc, ◌+◌, ◌/◌, ◌≤◌, ◌<◌}
use native.Mathlib.Nat.{le_trans, not-suc-le-zero, le_of_suc-le-suc}
use native.Mathlib.Omega.{arith}
use lib.Dec.{eqb}
use lib.ListN.{length, get_or, replicate, get_or-replicate}
use Rattle.common.specs.Lists.{sum}
use Rattle.common.proofs.All.{all_at}
use Rattle.columns.specs.Boxes.{Box, flat}
use Rattle.columns.specs.inner.Boxes.{BoxesTile, TilesAll}
use Rattle.columns.specs.Columns.{size_of, least_of, largest_at, largest}
use Rattle.columns.proofs.Upto.{length_up_to, at_up_to}
use Rattle.columns.proofs.Listed.{none, measures_flat}
use Rattle.columns.proofs.Largest.{largest_least_size, covered_row}
use Rattle.cutting.specs.Cut.{gaps, most, Below}
use Rattle.widths.specs.Share.{shares}
use Rattle.widths.specs.Widths.{way_of, final_widths}
use Rattle.answers.specs.declared.Way.{Way}
use Rattle.answers.specs.declared.Way.TheVariants.{Sideways, Down}
use Rattle.widths.proofs.Share.{Final, final}
use Rattle.widths.proofs.Whole.{side_only, side_then}
use Rattle.widths.proofs.Laying.{length_final}
use Rattle.placement.specs.Place.{Placed, at, across, place_down, place_row}
use Rattle.placement.specs.Promise.{Printed, nowhere, printed, Side, Stacked, Missing, Chosen, Promised}
use Rattle.placement.proofs.Spread.{spread_narrow, narrow_spread, spread_floor, quotient_over}
use Rattle.placement.proofs.Tiling.{tiles_at, tiles_row}
use Rattle.placement.proofs.Placing.{own_missing, missing_own, width_at, side_by, down_at}
use Rattle.placement.proofs.Chain.{Holds, in_row}

-- the first part: when sideways is chosen
pub chosen : (columns raw width : ℕ) (ls : List ℕ) → length ls ≡ columns → raw ≤ 1 → Chosen columns raw width ls (way_of raw width ls)
chosen columns raw width ls count small =
    record {
      only = λ e. let o = side_only raw width ls e in (omega (arith, o.0), o.1, omega (arith, o.2));
      then = λ z w h. side_then raw width ls (λ e. omega arith) w (omega arith);
    }

-- the last part: a cell of a row that tiles n columns is missing exactly if all its columns are 0 wide
module _ (n : ℕ) (r : List Box) (k : ℕ) (t : BoxesTile n 0 r) (h : k < length r) where
  b : Box
  b = get_or r k none

  pub missing_side : (ws : List ℕ) (width : ℕ) → Missing ws (get_or r k none) (get_or (place_row Sideways ws width r) k (at 0 0))
  unfolding b place_row
  missing_side ws width =
      let e = ap (λ (ps : List Placed). (get_or ps k (at 0 0)).width) (side_by ws 0 r) ∙ width_at (across ws) 0 r k h in
      record {
        only = λ z. spread_narrow ws b (missing_own (across ws b) b.span (tiles_at n 0 r k t h).0 (sym e ∙ z));
        then = λ f. e ∙ own_missing (across ws b) b.span (narrow_spread ws b f);
      }

  pub missing_down : (width : ℕ) → Missing (replicate n width) (get_or r k none) (get_or (place_row Down (replicate n width) width r) k (at 0 0))
  unfolding b place_row
  missing_down width =
      let e = ap (λ (p : Placed). p.width) (down_at width r k h) in
      let l = tiles_at n 0 r k t h in
      record {
        only = λ z j p q. get_or-replicate n j width 0 (omega (arith, l.1)) ∙ sym e ∙ z;
        then = λ f. e ∙ sym (get_or-replicate n b.first width 0 (omega arith)) ∙ f b.first (omega arith) (omega arith);
      }

  missing_any : (way : Way) (zs ls : List ℕ) (width : ℕ) → length zs ≡ n →
      Missing (final_widths way zs ls width) (get_or r k none) (get_or (place_row way (final_widths way zs ls width) width r) k (at 0 0))
  unfolding final_widths
  missing_any Sideways zs ls width e = missing_side (final_widths Sideways zs ls width) width
  missing_any Down zs ls width e = rw e (missing_down width)

-- down the page: a printed cell of a row, whichever it is
abbrev StackedAt : ℕ → List Printed → ℕ → Type 0
StackedAt width ps k = ((get_or ps k nowhere).x ≡ 0) × ((get_or ps k nowhere).width ≡ width)

stacked_at : (width : ℕ) (bs : List Box) (k : ℕ) → k < length (printed bs (place_down width bs)) → StackedAt width (printed bs (place_down width bs)) k
unfolding printed place_down
stacked_at width [] k h = absurd (not-suc-le-zero h)
stacked_at width (b ∷ bs) k h = go (printed bs (place_down width bs)) (stacked_at width bs) (eqb width 0) k h
  where
    go : (ps : List Printed) → ((k : ℕ) → k < length ps → StackedAt width ps k) → (t : Bool) (k : ℕ) →
        k < length (cond t ps (record { x = 0; width = width; least = b.least } ∷ ps)) →
        StackedAt width (cond t ps (record { x = 0; width = width; least = b.least } ∷ ps)) k
    go ps f true k h = f k h
    go ps f false zero h = (refl, refl)
    go ps f false (suc k) h = f k (le_of_suc-le-suc h)

pub stacked : (ws : List ℕ) (width : ℕ) (r : List Box) → Stacked width (printed r (place_row Down ws width r))
unfolding place_row
stacked ws width r = record { starts = λ k h. (stacked_at width r k h).0; fills = λ k h. (stacked_at width r k h).1 }

module _ (n : ℕ) (rows : List (List Box)) (width : ℕ) (t : TilesAll n rows) where
  -- the columns of a box hold its least width, if no column is below its least
  pub box_holds : (ws : List ℕ) → Below (largest least_of (flat rows) n) ws → (i k : ℕ) → i < length rows → k < length (get_or rows i []) →
      Holds ws (get_or (get_or rows i []) k none)
  box_holds ws low i k h l =
      let b = get_or (get_or rows i []) k none in
      let g = tiles_at n 0 (get_or rows i []) k (tiles_row n rows i t h) l in
      omega (
        arith,
        quotient_over b.least b.span g.0,
        spread_floor ws b (b.least / b.span) (λ j p q.
            le_trans
            (rw (sym (at_up_to n (largest_at least_of (flat rows)) j (omega arith))) at (covered_row least_of rows i k j h l p q))
            (low.1 j)),
      )

  -- the parts about sideways
  pub side : sum (largest least_of (flat rows) n) + gaps (length (largest least_of (flat rows) n)) ≤ width →
      Side n (largest size_of (flat rows) n) (largest least_of (flat rows) n)
      (shares (largest size_of (flat rows) n) (largest least_of (flat rows) n) width)
      (final_widths Sideways (largest size_of (flat rows) n) (largest least_of (flat rows) n) width) width rows
  unfolding place_row
  side capacity =
      record {
        between = λ j h. (f.least.1 j, f.size.1 j);
        row = λ i h.
            rw (side_by ws 0 (get_or rows i []))
            (in_row ws n width (omega (arith, f.fits, count)) (get_or rows i []) (tiles_row n rows i t h)
            (all_at (Holds ws) none (get_or rows i []) (λ k l. box_holds ws f.least i k h l)));
        uncut = λ h. f.uncut (omega (arith, shared));
        fills = λ h.
            record {
              exactly = omega (arith, f.fills (omega (arith, shared)), count);
              best = λ vs e s b.
                  let m = f.best vs (e ∙ sym count) s (λ j l. b j (omega (arith, count))) in
                  omega (arith, m, ap (most ls ws) count, ap (most ls vs) e);
            };
      }
    where
      zs : List ℕ
      zs = largest size_of (flat rows) n

      ls : List ℕ
      ls = largest least_of (flat rows) n

      ws : List ℕ
      ws = final_widths Sideways zs ls width

      f : Final zs ls (shares zs ls width) ws width
      f = final zs ls width (largest_least_size (flat rows) n (measures_flat n rows t)) capacity

      count : length ws ≡ n
      count = f.size.0 ∙ length_up_to n (largest_at size_of (flat rows))

      shared : length (shares zs ls width) ≡ n
      shared = f.share_size.0 ∙ length_up_to n (largest_at size_of (flat rows))

-- all of it
pub promised : (columns : ℕ) (rows : List (List Box)) (raw width : ℕ) → TilesAll columns rows → raw ≤ 1 →
    Promised columns rows raw width (way_of raw width (largest least_of (flat rows) columns))
    (final_widths (way_of raw width (largest least_of (flat rows) columns)) (largest size_of (flat rows) columns)
    (largest least_of (flat rows) columns) width)
promised columns rows raw width t small =
    record {
      chosen = pick;
      each = length_final (way_of raw width ls) zs ls width ∙ count;
      side = λ e. rw e (side columns rows width t (omega (arith, (pick.only e).2, least_count)));
      down = λ e i h. stacked _ width (get_or rows i []);
      missing = λ i k h l. missing_any columns (get_or rows i []) k (tiles_row columns rows i t h) l (way_of raw width ls) zs ls width count;
    }
  where
    zs : List ℕ
    zs = largest size_of (flat rows) columns

    ls : List ℕ
    ls = largest least_of (flat rows) columns

    least_count : length ls ≡ columns
    least_count = length_up_to columns (largest_at least_of (flat rows))

    pick : Chosen columns raw width ls (way_of raw width ls)
    pick = chosen columns raw width ls least_count small

    count : length zs ≡ columns
    count = length_up_to columns (largest_at size_of (flat rows))
