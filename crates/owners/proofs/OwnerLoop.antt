-- The loop that goes through the entries before a filler: what hangs, the cells to come and the entries to come follow. A turn takes the first of what
-- hangs or the next cell, and puts what hangs of it; at the filler the first of what hangs is its owner.
use mathlib.Core.Path.{◌≡◌, refl, sym, ap, subst, ◌∙◌}
use mathlib.Core.Bool.{true}
use mathlib.Core.List.{List, [], ◌∷◌, ◌++◌, map}
use Prim.Native.Nat.{ℕ, zero, suc, ◌+◌, ◌≤◌, ◌<◌}
use native.Mathlib.Numerals.{add-one}
use native.Mathlib.Omega.{arith}
use lib.ListN.{length, get_or, drop}
use lib.Seq.{drop-cons}
use Rattle.resolved_rows.specs.Cells.{Cell}
use Rattle.resolved_rows.specs.inner.Listed.{cell_rows}
use Rattle.grid_row.specs.Row.{Item, item_of, rows_below, hang_of}
use Rattle.grid_row.specs.inner.Row.{item_line, item_left}
use Rattle.owners.specs.declared.Hanging.{Hanging}
use Rattle.owners.specs.inner.Finding.{onward, PutPost}
use Rattle.owners.proofs.Following.{Follows, NextHung, NextCell, hung_next, cell_next, line_shown}
use Rattle.owners.proofs.Owners.{no_item}
use Rattle.owners.proofs.Queues.{Queue, no_hanging, hung_of, hung_there, hung_first, queue_hung, queue_cell, put_few, put_same, onward_rows}

-- ---- the next cell

record CellAt (cs : List Cell) (i : ℕ) (c : Item) (later : List Item) : Type 0 where
  pub within : i < length cs
  pub left : c.left ≡ suc (rows_below (get_or (map cell_rows cs) i 0))
  pub rest : later ≡ drop (suc i) (map item_of cs)

cell_at : (cs : List Cell) (i : ℕ) {c : Item} {later : List Item} → drop i (map item_of cs) ≡ c ∷ later → CellAt cs i c later
cell_at [] zero e = cc
cell_at [] (suc i) e = cc
cell_at (y ∷ cs) zero {c} {later} e =
    let first : c ≡ item_of y = cc in
    let rest : later ≡ map item_of cs = cc in
    record { within = omega arith; left = ap item_left first; rest = rest }
cell_at (y ∷ cs) (suc i) e = let f = cell_at cs i e in record { within = omega (arith, f.within); left = f.left; rest = f.rest }

-- ---- what holds at the loop's head: n entries are passed, i of them cells and h of them fillers, and k were put

pub record Sofar (cs : List Cell) (X : List Item) (hung : List Hanging) (n i h k : ℕ) : Type 0 where
  pub q : List Item
  pub queue : Queue q hung h k
  pub follows : Follows q (drop i (map item_of cs)) (drop n X)
  pub few : k ≤ n
  pub passed : h ≤ n
  pub in_cells : i ≤ n

module _ {cs : List Cell} {X : List Item} where
  pub start : {hung : List Hanging} → Follows [] (map item_of cs) X → Sofar cs X hung 0 0 0 0
  start f = record {
    q = [];
    queue = record { gone = []; passed = refl; front = refl };
    follows = f;
    few = omega arith;
    passed = omega arith;
    in_cells = omega arith;
  }

  module _ {hung : List Hanging} {n i h k : ℕ} (z : Sofar cs X hung n i h k) (m : n < length X) (room : n ≤ length hung) where
    -- the next entry
    abbrev x : Item
    x = get_or X n no_item

    here : Follows z.q (drop i (map item_of cs)) (x ∷ drop (suc n) X)
    here = subst (λ (l : List Item). Follows z.q (drop i (map item_of cs)) l) (drop-cons X n no_item m) z.follows

    few_hung : k ≤ length hung
    few_hung = omega (arith, z.few)

    module _ (e : item_line x ≡ 0) where
      filler : NextHung z.q (drop i (map item_of cs)) x (drop (suc n) X)
      filler = hung_next here e

      pub hung_in : h < k
      hung_in = hung_there z.queue few_hung filler.first

      pub hung_is : get_or hung h no_hanging ≡ hung_of x
      hung_is = hung_first z.queue few_hung filler.first

      pub hung_filler : x.filler ≡ true
      hung_filler = filler.filler

      pub turn_hung : {r : ℕ} {after : List Hanging} → PutPost k (get_or hung h no_hanging).owner (get_or hung h no_hanging).left r hung after
          → Sofar cs X after (n + 1) i (h + 1) r
      turn_hung p =
          let g = filler in
          record {
            q = g.behind ++ hang_of x;
            queue = queue_hung z.queue few_hung x g.first (put_same (ap (λ (o : Hanging). onward o.owner o.left) hung_is) p);
            follows = rw (add-one n) g.more;
            few = put_few p z.few;
            passed = omega (arith, z.passed);
            in_cells = omega (arith, z.in_cells);
          }

    module _ (e : 1 ≤ item_line x) where
      cell : NextCell z.q (drop i (map item_of cs)) x (drop (suc n) X)
      cell = cell_next here e

      at : CellAt cs i cell.cell cell.later
      at = cell_at cs i cell.first

      pub cell_in : i < length cs
      cell_in = at.within

      pub turn_cell : {rows r : ℕ} {after : List Hanging} → rows ≡ get_or (map cell_rows cs) i 0 → PutPost k (item_line x) rows r hung after
          → Sofar cs X after (n + 1) (i + 1) h r
      turn_cell {rows} v p =
          let g = cell in
          let taken : x.left ≡ suc (rows_below rows) = g.left ∙ at.left ∙ ap (λ (a : ℕ). suc (rows_below a)) (sym v) in
          record {
            q = z.q ++ hang_of x;
            queue = queue_cell z.queue few_hung x (put_same (rw (line_shown x g.none, taken) (sym (onward_rows x.owner rows))) p);
            follows = rw (add-one n, add-one i) (subst (λ (l : List Item). Follows (z.q ++ hang_of x) l (drop (suc n) X)) at.rest g.more);
            few = put_few p z.few;
            passed = omega (arith, z.passed);
            in_cells = omega (arith, z.in_cells);
          }
