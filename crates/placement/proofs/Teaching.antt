-- Which cells can go missing, as theorems for those who teach it.
use mathlib.Core.Path.{◌≡◌, refl}
use mathlib.Core.List.{List, []}
use Prim.Native.Nat.{ℕ, ◌+◌, ◌≤◌, ◌<◌, min}
use native.Mathlib.Omega.{arith}
use lib.ListN.{length, get_or}
use Rattle.common.specs.Lists.{sum}
use Rattle.columns.specs.Boxes.{Box, flat}
use Rattle.columns.specs.inner.Boxes.{BoxesTile, TilesAll}
use Rattle.columns.specs.Columns.{size_of, least_of, largest}
use Rattle.columns.proofs.Listed.{none, measures_flat}
use Rattle.columns.proofs.Largest.{largest_least_size}
use Rattle.cutting.specs.Cut.{gaps, Below}
use Rattle.widths.specs.Widths.{way_of, final_widths}
use Rattle.answers.specs.declared.Way.{Way}
use Rattle.answers.specs.declared.Way.TheVariants.{Sideways, Down}
use Rattle.widths.proofs.Share.{final}
use Rattle.placement.specs.Place.{Placed, at, across, place_row}
use Rattle.placement.specs.Why.{Why}
use Rattle.placement.proofs.Tiling.{tiles_at, tiles_row}
use Rattle.placement.proofs.Placing.{side_by, down_at, width_at, own_some}
use Rattle.placement.proofs.Promise.{chosen, box_holds, missing_side}
use Rattle.placement.proofs.ZeroColumn.{zero_only, zero_then}

-- sizes and least widths of the columns of a table, its final widths, an entry of it, and where that stands
abbrev pub sizes : List (List Box) → ℕ → List ℕ
sizes rows n = largest size_of (flat rows) n

abbrev pub leasts : List (List Box) → ℕ → List ℕ
leasts rows n = largest least_of (flat rows) n

abbrev pub wides : Way → List (List Box) → ℕ → ℕ → List ℕ
wides way rows n width = final_widths way (sizes rows n) (leasts rows n) width

abbrev pub entry : List (List Box) → ℕ → ℕ → Box
entry rows i k = get_or (get_or rows i []) k none

abbrev pub stands : Way → List (List Box) → ℕ → ℕ → ℕ → ℕ → Placed
stands way rows n width i k = get_or (place_row way (wides way rows n width) width (get_or rows i [])) k (at 0 0)

-- column j is one of the entry's
abbrev pub Under : Box → ℕ → Type 0
Under b j = (b.first ≤ j) × (j < b.first + b.span)

-- entry k of row i
module _ (n : ℕ) (rows : List (List Box)) (width : ℕ) (t : TilesAll n rows) (i k : ℕ) (h : i < length rows) (l : k < length (get_or rows i [])) where
  tile : BoxesTile n 0 (get_or rows i [])
  tile = tiles_row n rows i t h

  -- down, nothing is missing unless the width is 0
  pub down_shown : 1 ≤ width → 1 ≤ (stands Down rows n width i k).width
  unfolding place_row
  down_shown w = rw (down_at width (get_or rows i []) k l) w

  -- and at the width 0 everything is
  pub down_missing : width ≡ 0 → (stands Down rows n width i k).width ≡ 0
  unfolding place_row
  down_missing e = rw (down_at width (get_or rows i []) k l) e

  -- sideways, where the least widths and their gaps fit
  module _ (capacity : sum (leasts rows n) + gaps (length (leasts rows n)) ≤ width) where
    least_size : Below (leasts rows n) (sizes rows n)
    least_size = largest_least_size (flat rows) n (measures_flat n rows t)

    -- an entry whose own least width is at least its span is never missing
    pub side_shown : (entry rows i k).span ≤ (entry rows i k).least → 1 ≤ (stands Sideways rows n width i k).width
    unfolding place_row
    side_shown s =
        let r = get_or rows i [] in
        let b = entry rows i k in
        let ws = wides Sideways rows n width in
        let low = (final (sizes rows n) (leasts rows n) width least_size capacity).least in
        rw (side_by ws 0 r, width_at (across ws) 0 r k l)
        (own_some (across ws b) b.span (tiles_at n 0 r k tile l).0 (omega (arith, box_holds n rows width t ws low i k h l)))

    -- an entry is missing only if each of its columns has the least width 0 and one of the three reasons to be 0 wide
    pub side_missing_only : (stands Sideways rows n width i k).width ≡ 0 → (j : ℕ) → Under (entry rows i k) j →
        (get_or (leasts rows n) j 0 ≡ 0) × Why (sizes rows n) (leasts rows n) width j
    side_missing_only e j u =
        zero_only (sizes rows n) (leasts rows n) width least_size capacity j ((missing_side n (get_or rows i []) k tile l _ width).only e j u.0 u.1)

    -- and then it is
    pub side_missing_then : ((j : ℕ) → Under (entry rows i k) j → (get_or (leasts rows n) j 0 ≡ 0) × Why (sizes rows n) (leasts rows n) width j) →
        (stands Sideways rows n width i k).width ≡ 0
    side_missing_then f =
        (missing_side n (get_or rows i []) k tile l _ width).then
        (λ j p q. zero_then (sizes rows n) (leasts rows n) width least_size capacity j (f j (p, q)).0 (f j (p, q)).1)

  -- whichever way the table is laid out, at a width of at least 1
  module _ (raw : ℕ) (small : raw ≤ 1) (w : 1 ≤ width) where
    -- an entry whose own least width is at least its span is never missing
    pub never_missing : (entry rows i k).span ≤ (entry rows i k).least → 1 ≤ (stands (way_of raw width (leasts rows n)) rows n width i k).width
    never_missing s = go (way_of raw width (leasts rows n)) refl
      where
        go : (way : Way) → way_of raw width (leasts rows n) ≡ way → 1 ≤ (stands way rows n width i k).width
        go Sideways e = side_shown ((chosen (length (leasts rows n)) raw width (leasts rows n) refl small).only e).2 s
        go Down e = down_shown w

    -- an entry that holds a text of at least as many characters as it has columns is never missing, if wrap is at least as large
    pub text_never_missing : (size wrap : ℕ) → min size wrap ≤ (entry rows i k).least → (entry rows i k).span ≤ size → (entry rows i k).span ≤ wrap →
        1 ≤ (stands (way_of raw width (leasts rows n)) rows n width i k).width
    text_never_missing size wrap m p q = never_missing (omega arith)
