-- Which cells can go missing: the theorems of specs/Missing.antt, for every table of every accepted sheet. What holds of free rows of boxes is proved in
-- the crate `placing`; a table's rows of boxes are such rows, since its grid tiles its columns and no line is wider at the least than in full.
use mathlib.Core.Path.{◌≡◌, ap}
use mathlib.Core.List.{List}
use Prim.Native.Nat.{ℕ, ◌-◌, ◌≤◌, ◌<◌}
use native.Mathlib.Omega.{arith}
use lib.ListN.{length, get_or, get_or-map}
use Rattle.text.specs.declared.Estimate.{Estimate}
use Rattle.columns.specs.Boxes.{Box, flat}
use Rattle.columns.specs.Columns.{size_of, largest_at}
use Rattle.columns.proofs.Upto.{length_up_to}
use Rattle.columns.proofs.Listed.{measures_flat}
use Rattle.columns.proofs.Largest.{largest_least_size}
use Rattle.cutting.specs.Cut.{Below}
use Rattle.placement.specs.Place as place
use Rattle.placement.specs.Promise as promise
use Rattle.placement.proofs.Promise.{promised}
use Rattle.placement.proofs.Teaching as rows
use Rattle.estimates.specs.Estimates.{unmeasured, est_of, estimates, none}
use Rattle.estimates.specs.inner.Cycle.{est_at, done_of}
use Rattle.sheet_load.specs.Opening.{nodes_of}
use Rattle.sheet_figures.specs.Figures.{columns_at, boxes_at, sizes_at, leasts_at, way_at, widths_at, places_at}
use Rattle.missing_theorems.specs.Missing.{TableIn, Allowed, entry_total, cell_at, entry_at, printed_at, ThirdDemand, MissingExactly, NeverMissing, TextKeeps, LinkKeeps, CausesMean, LostOnce, FillersEmpty}
use Rattle.missing_theorems.proofs.Places.{Stands, stands}
use Rattle.missing_theorems.proofs.Inner.{inside_in, text_in, link_in}
use Rattle.missing_theorems.proofs.Whys as whys
use Rattle.missing_theorems.proofs.Tables.{nests, tiles, total_is, cell_within, is_cell, cell_least, once, filler_empty}

module _ {s : List ℕ} {line : ℕ} (w : TableIn s line) (wrap raw width : ℕ) (a : Allowed wrap raw width) where
  demand : promise.Promised (columns_at s line) (boxes_at s line wrap) raw width (way_at s line wrap raw width) (widths_at s line wrap raw width)
  demand = promised (columns_at s line) (boxes_at s line wrap) raw width (tiles w wrap) a.raw_small

  -- its columns
  count : length (sizes_at s line wrap) ≡ columns_at s line
  count = length_up_to (columns_at s line) (largest_at size_of (flat (boxes_at s line wrap)))

  least_size : Below (leasts_at s line wrap) (sizes_at s line wrap)
  least_size = largest_least_size (flat (boxes_at s line wrap)) (columns_at s line) (measures_flat (columns_at s line) (boxes_at s line wrap) (tiles w wrap))

  -- entry k, in its row
  module _ (k : ℕ) (h : k < entry_total s line) where
    stand : Stands (way_at s line wrap raw width) (widths_at s line wrap raw width) width (boxes_at s line wrap) k
    stand = stands (way_at s line wrap raw width) (widths_at s line wrap raw width) width (boxes_at s line wrap) k (omega (arith, total_is w wrap))

    missing : promise.Missing (widths_at s line wrap raw width) (entry_at s line wrap k) (get_or (places_at s line wrap raw width) k (place.at 0 0))
    missing = rw (stand.box, stand.place) (demand.missing stand.i stand.j stand.row stand.entry)

    shown : 1 ≤ width → (entry_at s line wrap k).span ≤ (entry_at s line wrap k).least → 0 < printed_at s line wrap raw width k
    shown p l =
        omega (
          arith,
          ap (λ (q : place.Placed). q.width) stand.place,
          rows.never_missing (columns_at s line) (boxes_at s line wrap) width (tiles w wrap) stand.i stand.j stand.row stand.entry raw a.raw_small p
              (omega (arith, ap (λ (b : Box). b.span) stand.box, ap (λ (b : Box). b.least) stand.box)),
        )

-- the estimate of a line, in the list of all estimates
estimate_at : (s : List ℕ) (wrap i : ℕ) → get_or (estimates wrap (nodes_of s)) i none ≡ est_at (done_of wrap (nodes_of s)) i
estimate_at s wrap i = get_or-map est_of (done_of wrap (nodes_of s)) i unmeasured

-- ---- the theorems

pub third_demand : ThirdDemand
third_demand s line wrap raw width w a = demand w wrap raw width a

pub missing_exactly : MissingExactly
missing_exactly s line wrap raw width w a k h =
    let m = missing w wrap raw width a k h in
    let zs = sizes_at s line wrap in
    let ls = leasts_at s line wrap in
    let c = count w wrap raw width a in
    let b = least_size w wrap raw width a in
    record {
      only = λ z j o. whys.some_cause (columns_at s line) zs ls raw width c b j (m.only z j o.0 o.1);
      then = λ f. m.then (λ j p q. whys.cause_none (columns_at s line) zs ls raw width c b j (f j (p, q)));
    }

pub never_missing : NeverMissing
never_missing s line wrap raw width w a p k h l = shown w wrap raw width a k h p l

pub text_keeps : TextKeeps
text_keeps s line wrap raw width w a p k i h c n t l v =
    let ks = nodes_of s in
    let q = inside_in wrap ks (nests w) (cell_at s line k - 1) (cell_within w k h c) (is_cell w k h c) i n in
    shown w wrap raw width a k h p
    (omega (
      arith,
      cell_least w k h c wrap,
      text_in wrap ks (cell_at s line k - 1) i q t,
      ap (λ (e : Estimate). e.size) (estimate_at s wrap i),
    ))

pub link_keeps : LinkKeeps
link_keeps s line wrap raw width w a p k i h c n t l =
    let ks = nodes_of s in
    let q = inside_in wrap ks (nests w) (cell_at s line k - 1) (cell_within w k h c) (is_cell w k h c) i n in
    shown w wrap raw width a k h p (omega (arith, cell_least w k h c wrap, link_in wrap ks (cell_at s line k - 1) i q t))

pub causes_mean : CausesMean
causes_mean s line wrap raw width w a j l =
    let n = columns_at s line in
    let zs = sizes_at s line wrap in
    let ls = leasts_at s line wrap in
    let c = count w wrap raw width a in
    let b = least_size w wrap raw width a in
    record {
      shown_only = whys.shown_only n zs ls raw width c b j;
      shown_then = whys.shown_then n zs ls raw width c b j;
      page_only = whys.page_only n zs ls raw width c b j;
      page_then = whys.page_then n zs ls raw width c b j;
      empty_only = whys.empty_only n zs ls raw width c b j l;
      empty_then = whys.empty_then n zs ls raw width c b j;
      little_only = whys.little_only n zs ls raw width c b j l;
      little_then = whys.little_then n zs ls raw width c b j;
      cut_only = whys.cut_only n zs ls raw width c b j l;
      cut_then = whys.cut_then n zs ls raw width c b j;
    }

pub lost_once : LostOnce
lost_once s line k l w h g p e = once w k l h g p e

pub fillers_empty : FillersEmpty
fillers_empty s line wrap k w h e = filler_empty w wrap k h e
