-- Owners: the slices of what hangs keep no owners, and lines, spans, counts and positions of the row do not depend on them.
use mathlib.Core.Path.{◌≡◌, refl, sym, ap, ap₂, ◌∙◌}
use mathlib.Core.Bool.{Bool, true, false, cond}
use mathlib.Core.List.{List, [], ◌∷◌, ◌++◌, map, map-append}
use Prim.Native.Nat.{ℕ, ◌-◌}
use lib.Dec.{ltb}
use Rattle.common.specs.Lists.{All}
use Rattle.resolved_rows.specs.Cells.{Cell}
use Rattle.grid_row.specs.Row.{Item, item, item_of, item_span, row_from, hang_of, nexts}
use Rattle.grid_row.specs.inner.Row.{item_line, item_left, item_pos, cells_of, hanging, row_of}
use Rattle.grid_row.proofs.Merging.{Merging, after, filler, free, before, merging, merging_row, Filler}

-- an item without its owner, as far as a listing does not show it
abbrev pub bare : Item → Item
bare x = item (item_line x) x.filler x.left x.pos x.span

-- ---- what does not depend on owners

line_bare : (x : Item) → item_line (bare x) ≡ item_line x
line_bare x = twice x.filler
  where
    twice : (b : Bool) → cond b 0 (cond b 0 x.owner) ≡ cond b 0 x.owner
    twice true = refl
    twice false = refl

hang_bare : (x : Item) → map bare (hang_of (bare x)) ≡ map bare (hang_of x)
unfolding hang_of
hang_bare x = go (ltb 1 x.left)
  where
    go : (b : Bool) → map bare (cond b (item (item_line x) true (x.left - 1) x.pos x.span ∷ []) [])
        ≡ map bare (cond b (item x.owner true (x.left - 1) x.pos x.span ∷ []) [])
    go true = refl
    go false = refl

-- what hangs on, but for its owners, depends on the row but for its owners
pub nexts_bare : (xs : List Item) → map bare (nexts (map bare xs)) ≡ map bare (nexts xs)
unfolding nexts
nexts_bare [] = refl
nexts_bare (x ∷ xs) =
    map-append bare (hang_of (bare x)) (nexts (map bare xs))
    ∙ ap₂ (λ (a b : List Item). a ++ b) (hang_bare x) (nexts_bare xs)
    ∙ sym (map-append bare (hang_of x) (nexts xs))

module _ (f : Item → ℕ) (same : (x : Item) → f (bare x) ≡ f x) where
  map_bare : (xs : List Item) → map f (map bare xs) ≡ map f xs
  map_bare [] = refl
  map_bare (x ∷ xs) = ap₂ (λ (a : ℕ) (b : List ℕ). a ∷ b) (same x) (map_bare xs)

-- ---- the row itself, but for its owners, depends on what hangs but for its owners

merging_bare : {p : ℕ} {hs cs xs : List Item} → Merging p hs cs xs → Merging p (map bare hs) (map bare cs) (map bare xs)
merging_bare after = after
merging_bare (filler e m) = filler e (merging_bare m)
merging_bare (free m) = free (merging_bare m)
merging_bare (before e m) = before e (merging_bare m)

pub row_bare : (p : ℕ) (hs cs : List Item) → row_from p (map bare hs) (map bare cs) ≡ map bare (row_from p hs cs)
row_bare p hs cs = sym (merging_row (merging_bare (merging p hs cs)))

-- ---- slices of cells and of what hangs, and the true row

-- the cells cs, and the fillers hs that hang, as number slices
pub record Slices (cs : List Cell) (hs : List Item) (lines spans rows left at wide : List ℕ) : Type 0 where
  pub lines_are : lines ≡ map (λ (c : Cell). c.line) cs
  pub spans_are : spans ≡ map (λ (c : Cell). c.cols) cs
  pub rows_are : rows ≡ map (λ (c : Cell). c.rows) cs
  pub left_is : left ≡ map item_left hs
  pub at_is : at ≡ map item_pos hs
  pub wide_is : wide ≡ map item_span hs
  pub fillers : All Filler hs

cells_items : (cs : List Cell) → cells_of (map (λ (c : Cell). c.line) cs) (map (λ (c : Cell). c.cols) cs) (map (λ (c : Cell). c.rows) cs) ≡ map bare (map item_of cs)
unfolding cells_of
cells_items [] = refl
cells_items (c ∷ cs) = ap (λ (l : List Item). item_of c ∷ l) (cells_items cs)

hanging_bare : (hs : List Item) → All Filler hs → hanging (map item_left hs) (map item_pos hs) (map item_span hs) ≡ map bare hs
unfolding All hanging
hanging_bare [] f = refl
hanging_bare (h ∷ hs) f =
    ap₂ (λ (b : Bool) (l : List Item). item (cond b 0 h.owner) b h.left h.pos h.span ∷ l) (sym f.0) (hanging_bare hs f.1)

module _ {cs : List Cell} {hs : List Item} {lines spans rows left at wide : List ℕ} (z : Slices cs hs lines spans rows left at wide) where
  -- the row that is rebuilt from the slices is the true one without owners
  pub row_slices : row_of lines spans rows left at wide ≡ map bare (row_from 0 hs (map item_of cs))
  unfolding row_of
  row_slices =
      (λ i. row_from 0 (hanging (z.left_is i) (z.at_is i) (z.wide_is i)) (cells_of (z.lines_are i) (z.spans_are i) (z.rows_are i)))
      ∙ ap₂ (row_from 0) (hanging_bare hs z.fillers) (cells_items cs)
      ∙ row_bare 0 hs (map item_of cs)

  pub row_lines : map item_line (row_of lines spans rows left at wide) ≡ map item_line (row_from 0 hs (map item_of cs))
  row_lines = ap (map item_line) row_slices ∙ map_bare item_line line_bare (row_from 0 hs (map item_of cs))

  pub row_spans : map item_span (row_of lines spans rows left at wide) ≡ map item_span (row_from 0 hs (map item_of cs))
  row_spans = ap (map item_span) row_slices ∙ map_bare item_span (λ x. refl) (row_from 0 hs (map item_of cs))

  pub row_nexts : map bare (nexts (row_of lines spans rows left at wide)) ≡ map bare (nexts (row_from 0 hs (map item_of cs)))
  row_nexts = ap (λ (xs : List Item). map bare (nexts xs)) row_slices ∙ nexts_bare (row_from 0 hs (map item_of cs))
