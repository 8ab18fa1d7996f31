-- Spans end where their body ends: nothing hangs below the last row of a body, so each body's rows stand by themselves and nothing hangs below
-- a table; and each filler's owner is a cell of an earlier row of the same body. By induction on the rows.
use mathlib.Core.Path.{◌≡◌, refl, sym, ap, subst, ◌∙◌}
use mathlib.Core.Bool.{Bool, true, false, ◌||◌}
use mathlib.Core.List.{List, [], ◌∷◌, ◌++◌, map}
use mathlib.Core.Logic.{◌⊎◌, inl, inr}
use Prim.{Unit, tt}
use Prim.Native.Nat.{ℕ, zero, suc, ◌≤◌, ◌<◌}
use native.Mathlib.Nat.{not-suc-le-zero, le_of_suc-le-suc}
use native.Mathlib.Omega.{arith}
use lib.Dec.{eqb}
use lib.ListN.{length, get_or}
use borrow.Author.Tests.{eq-eqb}
use Rattle.common.proofs.Tests.{or_right}
use Rattle.common.specs.Lists.{mem, All}
use Rattle.common.proofs.All.{all_map, all_weaken}
use Rattle.resolved_rows.specs.Cells.{Cell, resolve_body, resolved}
use Rattle.resolved_rows.specs.Cells as cells
use Rattle.resolved_rows.specs.inner.Listed as listed
use Rattle.resolved_rows.specs.Facts.{Ending}
use Rattle.resolved_rows.proofs.Facts.{body_ends, filled_rows, resolved_same}
use Rattle.grid_row.specs.Row.{Item, item_of, nexts}
use Rattle.grid_row.proofs.Merging.{Filler, Hangs, row_each, nexts_each, nexts_fillers, nexts_hang}
use Rattle.grid_positions.specs.Positions.{PositionRow, row, originals, hang_below, all_rows}
use Rattle.grid_positions.proofs.Written.{written}
use Rattle.grid_positions.proofs.TableFacts.{entries, owner_of, entries_owners}

-- ---- nothing hangs below a body

-- an entry takes no more than n rows from this one on
abbrev Within : ℕ → Item → Type 0
Within n x = x.left ≤ n

cells_within : (n : ℕ) (cs : List Cell) → All (λ c. (1 ≤ c.rows) × (c.rows ≤ suc n)) cs → All (Within (suc n)) (map item_of cs)
cells_within n cs e = all_map (λ c. (1 ≤ c.rows) × (c.rows ≤ suc n)) (Within (suc n)) item_of (λ c p. omega (arith, p)) cs e

nexts_within : (n : ℕ) (xs : List Item) → All (Within (suc n)) xs → All (Within n) (nexts xs)
nexts_within n xs a = nexts_each (Within (suc n)) (Within n) (λ x m w. omega (arith, w)) xs a

entries_within : (n : ℕ) (hs : List Item) (r : cells.Row) → All (Within (suc n)) hs → All (λ c. (1 ≤ c.rows) × (c.rows ≤ suc n)) r.cells → All (Within (suc n)) (entries hs r)
entries_within n hs r a e = row_each (Within (suc n)) (λ c q w. w) 0 hs (map item_of r.cells) a (cells_within n r.cells e)

none_left : (hs : List Item) → All Hangs hs → All (Within 0) hs → hs ≡ []
unfolding All
none_left [] a b = refl
none_left (h ∷ hs) a b = absurd (omega (arith, a.0, b.0))

ending_none : (hs : List Item) (rs : List cells.Row) → All Hangs hs → All (Within (length rs)) hs → Ending rs → hang_below hs rs ≡ []
unfolding hang_below
ending_none hs [] a b e = none_left hs a b
ending_none hs (r ∷ rs) a b e =
    ending_none (nexts (entries hs r)) rs (nexts_hang (entries hs r)) (nexts_within (length rs) (entries hs r) (entries_within (length rs) hs r b e.0)) e.1

-- at each body's end nothing hangs
pub body_none : (b : List cells.Row) → hang_below [] (resolve_body b) ≡ []
unfolding All
body_none b = ending_none [] (resolve_body b) tt tt (body_ends b)

-- ---- rows after rows

pub below_append : (hs : List Item) (rs ss : List cells.Row) → hang_below hs (rs ++ ss) ≡ hang_below (hang_below hs rs) ss
unfolding hang_below
below_append hs [] ss = refl
below_append hs (r ∷ rs) ss = below_append (nexts (entries hs r)) rs ss

pub originals_append : (hs : List Item) (rs ss : List cells.Row) → originals hs (rs ++ ss) ≡ originals hs rs ++ originals (hang_below hs rs) ss
unfolding originals hang_below
originals_append hs [] ss = refl
originals_append hs (r ∷ rs) ss = ap (λ (l : List PositionRow). row r.line (entries hs r) ∷ l) (originals_append (nexts (entries hs r)) rs ss)

-- nothing hangs below a table: extra rows never arise
pub table_none : (bs : List (List cells.Row)) → hang_below [] (resolved bs) ≡ []
unfolding resolved hang_below
table_none [] = refl
table_none (b ∷ bs) = below_append [] (resolve_body b) (resolved bs) ∙ ap (λ (hs : List Item). hang_below hs (resolved bs)) (body_none b) ∙ table_none bs

-- the rows of each body, one body after the other
unfoldable pub body_rows : List (List cells.Row) → List (List PositionRow)
body_rows [] = []
body_rows (b ∷ bs) = all_rows (resolve_body b) ∷ body_rows bs

unfoldable pub together : List (List PositionRow) → List PositionRow
together [] = []
together (rs ∷ rss) = rs ++ together rss

-- are the table's rows: no body's rows depend on those of another
pub rows_together : (bs : List (List cells.Row)) → all_rows (resolved bs) ≡ together (body_rows bs)
unfolding resolved originals body_rows together
rows_together [] = refl
rows_together (b ∷ bs) =
    originals_append [] (resolve_body b) (resolved bs) ∙ ap (λ (hs : List Item). all_rows (resolve_body b) ++ originals hs (resolved bs)) (body_none b)
    ∙ ap (λ (l : List PositionRow). all_rows (resolve_body b) ++ l) (rows_together bs)

-- ---- a filler's owner

-- every filler's owner is one of the cells of the rows before it; `above` are the lines of those before the first row
abbrev pub Owned : List ℕ → List PositionRow → Type 0
Owned above [] = Unit {0}
Owned above (r ∷ rs) = All (λ x. Filler x → mem x.owner above ≡ true) r.items × Owned (map owner_of (written r.items) ++ above) rs

mem_here : (x : ℕ) (xs : List ℕ) → mem x (x ∷ xs) ≡ true
unfolding mem
mem_here x xs = ap (λ (b : Bool). b || mem x xs) (eq-eqb x x refl)

mem_after : (x y : ℕ) (ys : List ℕ) → mem x ys ≡ true → mem x (y ∷ ys) ≡ true
unfolding mem
mem_after x y ys e = or_right (eqb x y) (mem x ys) e

mem_behind : (x : ℕ) (xs ys : List ℕ) → mem x ys ≡ true → mem x (xs ++ ys) ≡ true
mem_behind x [] ys e = e
mem_behind x (y ∷ xs) ys e = mem_after x y (xs ++ ys) (mem_behind x xs ys e)

-- the owner of an entry is known
abbrev Known : List ℕ → Item → Type 0
Known above x = mem x.owner above ≡ true

each_known : (xs above : List ℕ) (hs : List Item) → All (Known above) hs → All (Known (xs ++ above)) hs
each_known xs above hs a = all_weaken (Known above) (Known (xs ++ above)) (λ h k. mem_behind h.owner xs above k) hs a

cells_known : (cs : List Cell) (above : List ℕ) → All (Known (map listed.cell_line cs ++ above)) (map item_of cs)
unfolding All
cells_known [] above = tt
cells_known (c ∷ cs) above = (mem_here c.line (map listed.cell_line cs ++ above), each_known (c.line ∷ []) (map listed.cell_line cs ++ above) (map item_of cs) (cells_known cs above))

abbrev Shown : List ℕ → Item → Type 0
Shown above x = Filler x → mem x.owner above ≡ true

each_shown : (above : List ℕ) (hs : List Item) → All (Known above) hs → All (Shown above) hs
each_shown above hs a = all_weaken (Known above) (Shown above) (λ h k f. k) hs a

cells_shown : (above : List ℕ) (cs : List Cell) → All (Shown above) (map item_of cs)
unfolding All
cells_shown above [] = tt
cells_shown above (c ∷ cs) = ((λ f. cc), cells_shown above cs)

rows_owned : (above : List ℕ) (hs : List Item) (rs : List cells.Row) → All Filler hs → All (Known above) hs → Owned above (originals hs rs)
unfolding All originals
rows_owned above hs [] f a = tt
rows_owned above hs (r ∷ rs) f a =
    let X = entries hs r in
    let lines = map listed.cell_line r.cells in
    let e : map owner_of (written X) ≡ lines = entries_owners hs r f in
    let k : All (Known (lines ++ above)) X =
    row_each (Known (lines ++ above)) (λ c q w. w) 0 hs (map item_of r.cells) (each_known lines above hs a) (cells_known r.cells above) in (
      row_each (Shown above) (λ c q w. w) 0 hs (map item_of r.cells) (each_shown above hs a) (cells_shown above r.cells),
      subst (λ (l : List ℕ). Owned (l ++ above) (originals (nexts X) rs)) (sym e)
          (rows_owned (lines ++ above) (nexts X) rs (nexts_fillers X) (nexts_each (Known (lines ++ above)) (Known (lines ++ above)) (λ x m w. w) X k)),
    )

-- in each body every filler's owner is a cell of an earlier row of that body
pub bodies_owned : (bs : List (List cells.Row)) → All (Owned []) (body_rows bs)
unfolding All body_rows
bodies_owned [] = tt
bodies_owned (b ∷ bs) = (rows_owned [] [] (resolve_body b) tt tt, bodies_owned bs)

-- ---- where no cell has rows 0 and no span leaves its body, the rows are those of the cells' rows as they are written, and none are left over

pub rows_same : (bs : List (List cells.Row)) → All Ending bs → (all_rows (resolved bs) ≡ all_rows (filled_rows bs)) × (hang_below [] (filled_rows bs) ≡ [])
rows_same bs e =
    let s : resolved bs ≡ filled_rows bs = resolved_same bs e in
    (ap (λ (t : List cells.Row). all_rows t) s, ap (hang_below []) (sym s) ∙ table_none bs)

-- ---- the same by place: a filler of the row at place i, and a cell of the row at a place before i

abbrev no_row : PositionRow
no_row = row 0 []

-- a cell of a row before row i has this owner's line
pub record Earlier (rs : List PositionRow) (i owner : ℕ) : Type 0 where
  pub place : ℕ
  pub before : place < i
  pub there : mem owner (map owner_of (written (get_or rs place no_row).items)) ≡ true

mem_split : (x : ℕ) (xs ys : List ℕ) → mem x (xs ++ ys) ≡ true → (mem x xs ≡ true) ⊎ (mem x ys ≡ true)
unfolding mem
mem_split x [] ys e = inr e
mem_split x (y ∷ xs) ys e = go (eqb x y) (mem_split x xs ys) e
  where
    go : (b : Bool) → (mem x (xs ++ ys) ≡ true → (mem x xs ≡ true) ⊎ (mem x ys ≡ true)) → (b || mem x (xs ++ ys)) ≡ true → ((b || mem x xs) ≡ true) ⊎ (mem x ys ≡ true)
    go true ih h = inl refl
    go false ih h = ih h

earlier_found : (r : PositionRow) (rs : List PositionRow) (i o : ℕ) (above : List ℕ) → (mem o (map owner_of (written r.items) ++ above) ≡ true) ⊎ Earlier rs i o → (mem o above ≡ true) ⊎ Earlier (r ∷ rs) (suc i) o
earlier_found r rs i o above (inl h) = by (mem_split o (map owner_of (written r.items)) above h)
  where
    by : (mem o (map owner_of (written r.items)) ≡ true) ⊎ (mem o above ≡ true) → (mem o above ≡ true) ⊎ Earlier (r ∷ rs) (suc i) o
    by (inl m) = inr (record { place = 0; before = omega arith; there = m })
    by (inr m) = inl m
earlier_found r rs i o above (inr e) = inr (record { place = suc e.place; before = omega (arith, e.before); there = e.there })

owned_at : (above : List ℕ) (rs : List PositionRow) → Owned above rs → (i : ℕ) → i < length rs
    → All (λ x. Filler x → (mem x.owner above ≡ true) ⊎ Earlier rs i x.owner) (get_or rs i no_row).items
owned_at above [] w i h = absurd (not-suc-le-zero h)
owned_at above (r ∷ rs) w zero h = all_weaken (Shown above) (λ x. Filler x → (mem x.owner above ≡ true) ⊎ Earlier (r ∷ rs) 0 x.owner) (λ x s f. inl (s f)) r.items w.0
owned_at above (r ∷ rs) w (suc i) h =
    all_weaken (λ x. Filler x → (mem x.owner (map owner_of (written r.items) ++ above) ≡ true) ⊎ Earlier rs i x.owner)
    (λ x. Filler x → (mem x.owner above ≡ true) ⊎ Earlier (r ∷ rs) (suc i) x.owner)
    (λ x s f. earlier_found r rs i x.owner above (s f)) (get_or rs i no_row).items
    (owned_at (map owner_of (written r.items) ++ above) rs w.1 i (le_of_suc-le-suc h))

-- a filler in a body's row at place i continues a cell of an earlier row of that body
pub owner_earlier : (b : List cells.Row) (i : ℕ) → i < length (all_rows (resolve_body b))
    → All (λ x. Filler x → Earlier (all_rows (resolve_body b)) i x.owner) (get_or (all_rows (resolve_body b)) i no_row).items
unfolding All mem
owner_earlier b i h =
    all_weaken (λ x. Filler x → (mem x.owner [] ≡ true) ⊎ Earlier (all_rows (resolve_body b)) i x.owner) (λ x. Filler x → Earlier (all_rows (resolve_body b)) i x.owner)
    (λ x s f. only x.owner (s f)) (get_or (all_rows (resolve_body b)) i no_row).items
    (owned_at [] (all_rows (resolve_body b)) (rows_owned [] [] (resolve_body b) tt tt) i h)
  where
    only : (o : ℕ) → (mem o [] ≡ true) ⊎ Earlier (all_rows (resolve_body b)) i o → Earlier (all_rows (resolve_body b)) i o
    only o (inl m) = cc
    only o (inr e) = e
