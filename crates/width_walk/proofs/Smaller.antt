-- No width passes what its line was given: an entry is no wider than its table, and a line passes on no more than it has, or its least width.
use Rattle.std.specs.Prelude.{None, Option, Some}
use mathlib.Core.Path.{◌≡◌, refl, ap}
use mathlib.Core.Bool.{Bool, true, false, cond}
use mathlib.Core.List.{List, [], ◌∷◌, ◌++◌, map}
use Prim.Native.Nat.{ℕ, zero, suc, ◌+◌, ◌-◌, ◌≤◌, ◌<◌, max}
use native.Mathlib.Omega.{arith}
use lib.Dec.{eqb}
use lib.ListN.{get_or, take, drop}
use Rattle.common.specs.Lists.{sum, Tiles}
use Rattle.common.proofs.Tiles.{tiles_start}
use Rattle.text.specs.declared.Estimate.{Estimate}
use Rattle.records.specs.NodeRecord.{no_node}
use Rattle.records.specs.declared.NodeRecord.{NodeRecord}
use Rattle.columns.specs.Boxes.{Box, flat}
use Rattle.columns.specs.inner.Boxes.{box_first, box_span, BoxesTile, TilesAll}
use Rattle.columns.specs.Columns.{size_of, least_of, largest, largest_at}
use Rattle.columns.proofs.Upto.{length_up_to}
use Rattle.columns.proofs.Listed.{measures_flat}
use Rattle.columns.proofs.Largest.{largest_least_size}
use Rattle.cutting.specs.Cut.{gaps}
use Rattle.widths.specs.Widths.{final_widths}
use Rattle.answers.specs.declared.Way.{Way}
use Rattle.answers.specs.declared.Way.TheVariants.{Sideways, Down}
use Rattle.widths.proofs.Share.{final}
use Rattle.widths.proofs.Whole.{side_only}
use Rattle.placement.specs.Place.{Placed, at, across, place_side, place_down, place_row, place_rows}
use Rattle.table_layout.specs.Laying.{way_in, places_in}
use Rattle.available_width.specs.Walk.{takes_off, passed_on, printed_in, from_nearest}
use Rattle.width_walk.specs.inner.Steps.{AtMost}
use Rattle.kinds.specs.declared.Kind.{Kind}

-- ---- widths

pub most_none : (m : ℕ) → AtMost m None
unfolding AtMost
most_none m = tt

pub most_passed : (m : ℕ) (kind : Kind) (e : Estimate) (w : Option ℕ) → e.least ≤ m → AtMost m w → AtMost m (passed_on kind e w)
unfolding AtMost passed_on
most_passed m kind e None l h = tt
most_passed m kind e (Some w) l h = go (takes_off kind)
  where
    go : (b : Bool) → cond b (max (w - e.prefix) (e.least - e.prefix)) w ≤ m
    go true = omega arith
    go false = h

pub most_nearest : (m : ℕ) (f : ℕ → Option ℕ) (ks : List NodeRecord) (d i : ℕ) → ((k : ℕ) → k < i → AtMost m (f k)) → AtMost m (from_nearest f ks d i)
unfolding from_nearest AtMost
most_nearest m f ks d zero h = tt
most_nearest m f ks d (suc i) h = go (eqb (get_or ks i no_node).depth d) (most_nearest m f ks d i (λ k l. h k (omega arith)))
  where
    go : (b : Bool) → AtMost m (from_nearest f ks d i) → AtMost m (cond b (f i) (from_nearest f ks d i))
    go true r = h i (omega arith)
    go false r = r

pub most_weaker : (m n : ℕ) (w : Option ℕ) → m ≤ n → AtMost m w → AtMost n w
unfolding AtMost
most_weaker m n None h l = tt
most_weaker m n (Some w) h l = omega arith

-- each of the figures is at most m
abbrev pub Low : ℕ → List ℕ → Type 0
Low m [] = Unit {0}
Low m (v ∷ vs) = (v ≤ m) × Low m vs

low_append : (m : ℕ) (vs ws : List ℕ) → Low m vs → Low m ws → Low m (vs ++ ws)
low_append m [] ws h l = l
low_append m (v ∷ vs) ws h l = (h.0, low_append m vs ws h.1 l)

pub most_printed : (m : ℕ) (cs vs : List ℕ) (line : ℕ) → Low m vs → AtMost m (printed_in cs vs line)
unfolding printed_in AtMost
most_printed m [] vs line h = tt
most_printed m (c ∷ cs) [] line h = tt
most_printed m (c ∷ cs) (v ∷ vs) line h = go (eqb c line) (eqb v 0) (most_printed m cs vs line h.1)
  where
    go : (a b : Bool) → AtMost m (printed_in cs vs line) → AtMost m (cond a (cond b None (Some v)) (printed_in cs vs line))
    go true true r = tt
    go true false r = h.0
    go false b r = r

-- ---- entries

abbrev wide_of : List Placed → List ℕ
wide_of ps = map (λ (p : Placed). p.width) ps

wide_append : (ps qs : List Placed) → wide_of (ps ++ qs) ≡ wide_of ps ++ wide_of qs
wide_append [] qs = refl
wide_append (p ∷ ps) qs = ap (λ (l : List ℕ). p.width ∷ l) (wide_append ps qs)

sum_drop : (n : ℕ) (xs : List ℕ) → sum (drop n xs) ≤ sum xs
unfolding sum
sum_drop zero xs = omega arith
sum_drop (suc n) [] = omega arith
sum_drop (suc n) (x ∷ xs) = omega (arith, sum_drop n xs)

sum_take : (n : ℕ) (xs : List ℕ) → sum (take n xs) ≤ sum xs
unfolding sum
sum_take zero xs = omega arith
sum_take (suc n) [] = omega arith
sum_take (suc n) (x ∷ xs) = omega (arith, sum_take n xs)

-- sideways: no wider than all columns with their gaps
side_low : (m n p : ℕ) (ws : List ℕ) (x : ℕ) (bs : List Box) → BoxesTile n p bs → sum ws + gaps n ≤ m → Low m (wide_of (place_side ws x bs))
unfolding place_side Tiles
side_low m n p ws x [] t h = tt
side_low m n p ws x (b ∷ bs) t h =
    go (eqb (across ws b) 0) (side_low m n (p + b.span) ws x bs t.2 h) (side_low m n (p + b.span) ws (x + (across ws b + b.span)) bs t.2 h)
  where
    go : (c : Bool) → Low m (wide_of (place_side ws x bs)) → Low m (wide_of (place_side ws (x + (across ws b + b.span)) bs))
        → Low m (wide_of (cond c (at x 0 ∷ place_side ws x bs) (at x (across ws b + b.span - 1) ∷ place_side ws (x + (across ws b + b.span)) bs)))
    go true r s = (omega arith, r)
    go false r s = (
      omega (arith, h, t.1, tiles_start box_first box_span n (p + b.span) bs t.2, sum_take b.span (drop b.first ws), sum_drop b.first ws),
      s,
    )

down_low : (m : ℕ) (bs : List Box) → Low m (wide_of (place_down m bs))
unfolding place_down
down_low m [] = tt
down_low m (b ∷ bs) = (omega arith, down_low m bs)

side_rows : (m n : ℕ) (ws : List ℕ) (rows : List (List Box)) → TilesAll n rows → sum ws + gaps n ≤ m → Low m (wide_of (place_rows Sideways ws m rows))
unfolding place_rows place_row TilesAll
side_rows m n ws [] t h = tt
side_rows m n ws (r ∷ rows) t h =
    rw (wide_append (place_side ws 0 r) (place_rows Sideways ws m rows)) (low_append m (wide_of (place_side ws 0 r)) (wide_of (place_rows Sideways ws m rows)) (side_low m n 0 ws 0 r t.0 h) (side_rows m n ws rows t.2 h))

down_rows : (m : ℕ) (ws : List ℕ) (rows : List (List Box)) → Low m (wide_of (place_rows Down ws m rows))
unfolding place_rows place_row
down_rows m ws [] = tt
down_rows m ws (r ∷ rows) =
    rw (wide_append (place_down m r) (place_rows Down ws m rows)) (low_append m (wide_of (place_down m r)) (wide_of (place_rows Down ws m rows)) (down_low m r) (down_rows m ws rows))

-- no entry is wider than its table
pub table_low : (n : ℕ) (rows : List (List Box)) (raw m : ℕ) → TilesAll n rows → Low m (wide_of (places_in n rows raw m))
table_low n rows raw m t = go (way_in n rows raw m) refl
  where
    zs : List ℕ
    zs = largest size_of (flat rows) n

    ls : List ℕ
    ls = largest least_of (flat rows) n

    go : (w : Way) → way_in n rows raw m ≡ w → Low m (wide_of (place_rows w (final_widths w (largest size_of (flat rows) n) (largest least_of (flat rows) n) m) m rows))
    go Down e = down_rows m (final_widths Down zs ls m) rows
    go Sideways e =
        let f = final zs ls m (largest_least_size (flat rows) n (measures_flat n rows t)) (side_only raw m ls e).2 in
        side_rows m n (final_widths Sideways zs ls m) rows t (omega (arith, f.fits, f.size.0, length_up_to n (largest_at size_of (flat rows))))
