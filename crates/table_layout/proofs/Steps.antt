-- The steps of laying out a table, over plain lists. Each box of rows that tile has a column, ends within the columns, and is no wider at the least
-- than in full, which is what laying out the columns asks for. What is placed without figures is placed with them.
use mathlib.Core.Path.{◌≡◌, sym, ap, ◌∙◌}
use mathlib.Core.List.{List, [], ◌∷◌, map, map-map}
use Prim.Native.Nat.{ℕ, ◌+◌}
use native.Mathlib.Omega.{arith}
use lib.ListN.{length, length-map}
use Rattle.common.specs.Lists.{All, Tiles}
use Rattle.common.proofs.Tiles.{tiles_start}
use Rattle.common.proofs.All.{all_append}
use Rattle.text.specs.declared.Estimate.{Estimate}
use Rattle.records.specs.declared.Entry.{Entry}
use Rattle.records.specs.declared.RowEnd.{RowEnd}
use Rattle.columns.specs.Boxes.{Box, flat}
use Rattle.columns.specs.inner.Boxes.{box_first, box_span, rows_by, BoxesTile, Measures, TilesAll}
use Rattle.columns.proofs.Upto.{length_up_to}
use Rattle.widths.specs.inner.Lay.{LayColumnsPost}
use Rattle.widths.specs.declared.Laid.{Laid}
use Rattle.widths.proofs.Laying.{laid_length, laid_final}
use Rattle.placement.specs.Place.{Placed, place_rows}
use Rattle.placement.specs.inner.Rows.{bare_boxes, PlacePre, Written}
use Rattle.records.specs.inner.Figures.{row_end}
use Rattle.placement.proofs.Bare.{bare, place_rows_bare, tiles_rows_bare}
use Rattle.placement.proofs.Ready.{flat_rows}
use Rattle.placement.proofs.Promise as promise
use Rattle.column_sizes.specs.inner.Sizing.{entry_box, sizes_in, leasts_in}
use Rattle.column_sizes.specs.inner.Capacity.{Whole, Entered}
use Rattle.column_sizes.proofs.Columns.{below_in}
use Rattle.table_layout.specs.Laying.{way_in, widths_in, places_in}
use Rattle.table_layout.specs.inner.Laying.{box_rows_by, LaidTable}
use Rattle.table_layout.specs.inner.Capacity.{LayPre}

row_whole : (n p : ℕ) (bs : List Box) → BoxesTile n p bs → Measures bs → All (Whole n) bs
unfolding Tiles Measures All
row_whole n p [] t m = tt
row_whole n p (b ∷ bs) t m = (
  record { some = t.1; ends = omega (arith, t.0, tiles_start box_first box_span n (p + b.span) bs t.2); low = m.0 },
  row_whole n (p + b.span) bs t.2 m.1,
)

rows_whole : (n : ℕ) (rows : List (List Box)) → TilesAll n rows → All (Whole n) (flat rows)
unfolding TilesAll flat All
rows_whole n [] t = tt
rows_whole n (r ∷ rows) t = all_append (Whole n) r (flat rows) (row_whole n 0 r t.0 t.1) (rows_whole n rows t.2)

module _ {es : List Entry} {rs : List RowEnd} {figures : List Estimate} {width : ℕ} {column₀ xs₀ wides₀ : List ℕ}
    (p : LayPre es rs figures width column₀ xs₀ wides₀) where
  abbrev n : ℕ
  n = length column₀

  abbrev bs : List Box
  bs = map (entry_box figures) es

  abbrev rows : List (List Box)
  rows = box_rows_by rs es figures

  -- the rows hold every box
  pub rows_flat : flat (box_rows_by rs es figures) ≡ map (entry_box figures) es
  unfolding box_rows_by
  rows_flat = flat_rows 0 (length es) (map row_end rs) bs (omega (arith, length-map es (entry_box figures))) p.ascends

  -- what the columns ask for
  pub entered : Entered es figures n
  entered = record { within = p.within; whole = rw rows_flat at (rows_whole n rows p.tiles) }

  module _ {raw : ℕ} {column : List ℕ} {laid : Laid} (q : LayColumnsPost (sizes_in es figures n) (leasts_in es figures n) raw width column laid) where
    count : length column ≡ n
    count = laid_length q ∙ length_up_to n _

    bared : bare_boxes es ≡ map bare bs
    bared = sym (map-map bare (entry_box figures) es)

    -- what placing asks for
    pub places : PlacePre laid.way es rs column xs₀ wides₀
    unfolding box_rows_by
    places =
        record {
          xs_length = p.xs_length;
          wides_length = p.wides_length;
          ascends = p.ascends;
          tiles = rw (count, bared) (tiles_rows_bare n (map row_end rs) bs p.tiles);
          side = λ s. omega (arith, (laid_final q (below_in entered) s).fits, p.small);
        }

    -- the answer
    pub laid_table : {xs wides : List ℕ} → Written (place_rows laid.way column width (rows_by 0 (map row_end rs) (bare_boxes es))) xs wides →
        LaidTable n (box_rows_by rs es figures) raw width column xs wides laid
    unfolding box_rows_by
    laid_table w =
        record {
          way_is = way;
          width_is = q.width_is ∙ rw (way, column_is);
          column_is = column_is;
          xs_are = w.x ∙ ap (map (λ (q : Placed). q.x)) placed;
          wides_are = w.wide ∙ ap (map (λ (q : Placed). q.width)) placed;
          promised = λ small. promise.promised n rows raw width p.tiles small;
        }
      where
        way : laid.way ≡ way_in n rows raw width
        way = rw rows_flat q.way_is

        column_is : column ≡ widths_in n rows raw width
        column_is = q.wide_are ∙ rw (way, rows_flat)

        placed : place_rows laid.way column width (rows_by 0 (map row_end rs) (bare_boxes es)) ≡ places_in n rows raw width
        placed =
            ap (λ (xs : List Box). place_rows laid.way column width (rows_by 0 (map row_end rs) xs)) bared
            ∙ place_rows_bare laid.way column width (map row_end rs) bs
            ∙ rw (way, column_is)
