-- The loop over a row's entries, sideways, each placed by the figure f of its box. What is left to place is the placing of the entries left
-- from the x that is reached, and what is written are the figures so far. Down, the figures of a row are all alike.
use mathlib.Core.Bool.{Bool, true, false, cond}
use mathlib.Core.Path.{◌≡◌, refl, sym, ap, ap₂, ◌∙◌}
use mathlib.Core.List.{List, [], ◌∷◌, ◌++◌, map}
use Prim.Native.Nat.{ℕ, suc, ◌+◌, ◌-◌, ◌≤◌, ◌<◌}
use native.Mathlib.Numerals.{add-one}
use native.Mathlib.Omega.{arith}
use lib.Dec.{eqb}
use lib.ListN.{length, get_or, take, drop, set, replicate, length-map, length-set, get_or-map}
use lib.Seq.{drop-cons}
use Rattle.common.specs.Lists.{sum, Tiles}
use Rattle.common.proofs.Tiles.{tiles_start}
use Rattle.common.proofs.Sum.{sum_take_le}
use Rattle.common.proofs.Write.{write_more, write_all}
use Rattle.common.specs.Limits.{max_size}
use Rattle.records.specs.inner.NodeRecord.{no_entry}
use Rattle.records.specs.declared.Entry.{Entry}
use Rattle.columns.specs.Boxes.{Box, box}
use Rattle.columns.specs.inner.Boxes.{box_first, box_span, BoxesTile}
use Rattle.columns.proofs.Listed.{none}
use Rattle.answers.specs.declared.Way.{Way}
use Rattle.answers.specs.declared.Way.TheVariants.{Sideways, Down}
use Rattle.placement.specs.Place.{Placed, at, across, place_side, place_row}
use Rattle.placement.specs.inner.Rows.{own, next, bare_box, bare_boxes, PlaceSideRowPre, PlaceRowPre, Written}
use Rattle.placement.proofs.Spread.{spread_at, spread_sum}
use Rattle.placement.proofs.Tiling.{tiles_at}
use Rattle.placement.proofs.Placing.{place_by, length_by, side_by, down_figures}

-- no entry reaches past m
unfoldable pub Fits : ℕ → (Box → ℕ) → ℕ → List Box → Type 0
Fits m f x [] = Unit {0}
Fits m f x (b ∷ bs) = (x + (f b + b.span) ≤ m) × Fits m f (next x (f b) b.span) bs

-- the next start is no further than where an entry of that width ends, with its gap
next_le : (x q s : ℕ) → next x q s ≤ x + (q + s)
next_le x q s = go (eqb q 0)
  where
    go : (t : Bool) → cond t x (x + (q + s)) ≤ x + (q + s)
    go true = omega arith
    go false = omega arith

pub side_fits : (ws : List ℕ) (n m p x : ℕ) (bs : List Box) → sum ws + n ≤ m → BoxesTile n p bs → x ≤ sum (take p ws) + p → Fits m (across ws) x bs
unfolding Tiles Fits
side_fits ws n m p x [] l t h = tt
side_fits ws n m p x (b ∷ bs) l t h =
    let after = spread_at ws b p t.0 in (
      omega (arith, after, tiles_start box_first box_span n (p + b.span) bs t.2, sum_take_le ws (p + b.span)),
      side_fits ws n m (p + b.span) _ bs l t.2 (omega (arith, after, next_le x (across ws b) b.span)),
    )

-- the figures so far, after i entries
pub record Sofar (f : Box → ℕ) (bs : List Box) (xs₀ wides₀ xs wides : List ℕ) (start i : ℕ) : Type 0 where
  pub xs_length : length xs ≡ length xs₀
  pub wides_length : length wides ≡ length wides₀
  pub rest : drop i (place_by f 0 bs) ≡ place_by f start (drop i bs)
  pub fits : Fits (max_size + 1) f start (drop i bs)
  pub x : xs ≡ take i (map (λ (p : Placed). p.x) (place_by f 0 bs)) ++ drop i xs₀
  pub wide : wides ≡ take i (map (λ (p : Placed). p.width) (place_by f 0 bs)) ++ drop i wides₀

module _ (f : Box → ℕ) (bs : List Box) (xs₀ wides₀ : List ℕ) (nx : length xs₀ ≡ length bs) (nw : length wides₀ ≡ length bs) where
  pub sofar_start : Fits (max_size + 1) f 0 bs → Sofar f bs xs₀ wides₀ xs₀ wides₀ 0 0
  sofar_start h = record { xs_length = refl; wides_length = refl; rest = refl; fits = h; x = refl; wide = refl }

  module _ (xs wides : List ℕ) (start i : ℕ) (z : Sofar f bs xs₀ wides₀ xs wides start i) where
    pub sofar_stop : length bs ≤ i → Written (place_by f 0 bs) xs wides
    sofar_stop h =
        let n = length_by f 0 bs in
        record {
          x = write_all _ xs₀ (length-map (place_by f 0 bs) _ ∙ n ∙ sym nx) xs i (omega arith) z.x;
          wide = write_all _ wides₀ (length-map (place_by f 0 bs) _ ∙ n ∙ sym nw) wides i (omega arith) z.wide;
        }

    module _ (h : i < length bs) where
      left : drop i bs ≡ get_or bs i none ∷ drop (suc i) bs
      left = drop-cons bs i none h

      -- this entry does not reach past the bound
      pub sofar_capacity : start + (f (get_or bs i none) + (get_or bs i none).span) ≤ max_size + 1
      unfolding Fits
      sofar_capacity = (rw left at z.fits).0

      fits_more : Fits (max_size + 1) f (next start (f (get_or bs i none)) (get_or bs i none).span) (drop (suc i) bs)
      unfolding Fits
      fits_more = (rw left at z.fits).1

      both : get_or (place_by f 0 bs) i (at 0 0) ∷ drop (suc i) (place_by f 0 bs)
          ≡ at start (own (f (get_or bs i none)) (get_or bs i none).span) ∷ place_by f (next start (f (get_or bs i none)) (get_or bs i none).span) (drop (suc i) bs)
      unfolding place_by
      both =
          sym (drop-cons (place_by f 0 bs) i (at 0 0) (omega (arith, length_by f 0 bs)))
          ∙ z.rest
          ∙ ap (place_by f start) left

      here : get_or (place_by f 0 bs) i (at 0 0) ≡ at start (own (f (get_or bs i none)) (get_or bs i none).span)
      here = cc both

      pub sofar_turn : (q s w start' : ℕ) → q ≡ f (get_or bs i none) → s ≡ (get_or bs i none).span → w ≡ own q s → start' ≡ next start q s →
          Sofar f bs xs₀ wides₀ (set xs i start) (set wides i w) start' (i + 1)
      sofar_turn q s w start' eq es ew en =
          let n = length_by f 0 bs in
          record {
            xs_length = length-set xs i start ∙ z.xs_length;
            wides_length = length-set wides i w ∙ z.wides_length;
            rest = rw (add-one i, en, eq, es) (cc both);
            fits = rw (add-one i, en, eq, es) fits_more;
            x =
                write_more _ xs₀ (length-map (place_by f 0 bs) _ ∙ n ∙ sym nx) xs i start (omega arith) z.x
                (sym (get_or-map (λ (p : Placed). p.x) (place_by f 0 bs) i (at 0 0) ∙ ap (λ (p : Placed). p.x) here));
            wide =
                write_more _ wides₀ (length-map (place_by f 0 bs) _ ∙ n ∙ sym nw) wides i w (omega arith) z.wide
                (rw (ew, eq, es)
                (sym (get_or-map (λ (p : Placed). p.width) (place_by f 0 bs) i (at 0 0) ∙ ap (λ (p : Placed). p.width) here)));
          }

-- ---- sideways

-- the code's part, from a up to z, is that of the columns of an entry
pub part_sum : (ws : List ℕ) (q a z f s : ℕ) → q ≡ sum (take (z - a) (drop a ws)) → a ≡ f → z ≡ f + s → q ≡ sum (take s (drop f ws))
part_sum ws q a z f s e d g =
    let k : z - a ≡ s = omega arith in
    e ∙ ap₂ (λ (m k : ℕ). sum (take m (drop k ws))) k d

-- an entry's box by its place
pub bare_at : (es : List Entry) (i : ℕ) → get_or (bare_boxes es) i none ≡ bare_box (get_or es i no_entry)
bare_at es i = get_or-map bare_box es i no_entry

bare_count : (es : List Entry) → length (bare_boxes es) ≡ length es
bare_count es = length-map es bare_box

-- the entries before i are placed by the sums of their columns
abbrev pub Sides : List Entry → List ℕ → List ℕ → List ℕ → List ℕ → List ℕ → ℕ → ℕ → Type 0
Sides es ws = Sofar (across ws) (bare_boxes es)

module _ (es : List Entry) (ws xs₀ wides₀ : List ℕ) (r : PlaceSideRowPre es ws xs₀ wides₀) where
  side_xs : length xs₀ ≡ length (bare_boxes es)
  side_xs = r.xs_length ∙ sym (bare_count es)

  side_wides : length wides₀ ≡ length (bare_boxes es)
  side_wides = r.wides_length ∙ sym (bare_count es)

  pub side_start : Sides es ws xs₀ wides₀ xs₀ wides₀ 0 0
  side_start =
      sofar_start (across ws) (bare_boxes es) xs₀ wides₀ side_xs side_wides
      (side_fits ws (length ws) (max_size + 1) 0 0 (bare_boxes es) (omega (arith, r.small)) r.tiles (omega arith))

  pub side_sum : (a n : ℕ) → sum (take n (drop a ws)) ≤ max_size
  side_sum a n = omega (arith, spread_sum ws (box a n 0 0), r.small)

  -- the columns of the entry at a place are there
  pub side_columns : (i : ℕ) → i < length es → (get_or es i no_entry).first + (get_or es i no_entry).span ≤ length ws
  side_columns i h = (rw (bare_at es i) at (tiles_at (length ws) 0 (bare_boxes es) i r.tiles (omega (arith, bare_count es)))).1

  module _ (xs wides : List ℕ) (start i : ℕ) (z : Sides es ws xs₀ wides₀ xs wides start i) (h : i < length es) where
    pub side_capacity : let e = get_or es i no_entry in
        start + (sum (take e.span (drop e.first ws)) + e.span) ≤ max_size + 1
    side_capacity =
        rw (bare_at es i) at (sofar_capacity (across ws) (bare_boxes es) xs₀ wides₀ side_xs side_wides xs wides start i z (omega (arith, bare_count es)))

    pub side_turn : let e = get_or es i no_entry in
        (t w start' : ℕ) → t ≡ sum (take e.span (drop e.first ws)) → w ≡ own t e.span →
        start' ≡ next start t e.span → Sides es ws xs₀ wides₀ (set xs i start) (set wides i w) start' (i + 1)
    side_turn t w start' d =
        sofar_turn (across ws) (bare_boxes es) xs₀ wides₀ side_xs side_wides xs wides start i z (omega (arith, bare_count es)) t (get_or es i no_entry).span w start'
        (rw (bare_at es i) d) (rw (bare_at es i))

  pub side_stop : (xs wides : List ℕ) (start i : ℕ) → Sides es ws xs₀ wides₀ xs wides start i → length es ≤ i → Written (place_side ws 0 (bare_boxes es)) xs wides
  side_stop xs wides start i z h =
      rw (side_by ws 0 (bare_boxes es))
      (sofar_stop (across ws) (bare_boxes es) xs₀ wides₀ side_xs side_wides xs wides start i z (omega (arith, bare_count es)))

-- ---- either way

module _ (way : Way) (es : List Entry) (ws xs₀ wides₀ : List ℕ) (r : PlaceRowPre way es ws xs₀ wides₀) where
  -- down, a figure for each entry
  pub placed_down : (width : ℕ) (xs wides : List ℕ) → way ≡ Down → xs ≡ replicate (length xs₀) 0 → wides ≡ replicate (length wides₀) width →
      Written (place_row way ws width (bare_boxes es)) xs wides
  unfolding place_row
  placed_down width xs wides e x w =
      rw e
      (record {
        x = x ∙ ap (λ (n : ℕ). replicate n 0) (r.xs_length ∙ sym (bare_count es)) ∙ sym (down_figures (λ p. p.x) width (bare_boxes es));
        wide = w ∙ ap (λ (n : ℕ). replicate n width) (r.wides_length ∙ sym (bare_count es)) ∙ sym (down_figures (λ p. p.width) width (bare_boxes es));
      })

pub placed_side : (way : Way) (ws : List ℕ) (width : ℕ) (bs : List Box) (xs wides : List ℕ) → way ≡ Sideways →
    Written (place_side ws 0 bs) xs wides → Written (place_row way ws width bs) xs wides
unfolding place_row
placed_side way ws width bs xs wides e w = rw e w
