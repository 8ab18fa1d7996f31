-- A table in number slices: its rows one after the other, and a listing of a table gives that table back.
use mathlib.Core.Path.{◌≡◌, refl, sym, ap, ap₂, ◌∙◌}
use mathlib.Core.List.{List, [], ◌∷◌, ◌++◌, map, map-append, append_assoc}
use Prim.Native.Nat.{ℕ, suc, ◌+◌, ◌-◌, ◌<◌}
use native.Mathlib.Omega.{arith}
use lib.ListN.{length, get_or, take, drop, length-append, length-map}
use lib.Seq.{drop-drop, take_at, drop_at}
use Rattle.std.proofs.lemmas.List.{drop_more}
use Rattle.common.specs.inner.Lists.{over}
use Rattle.common.proofs.Over.{over_front}
use Rattle.resolved_rows.specs.Cells.{Cell}
use Rattle.resolved_rows.specs.Cells as cells
use Rattle.resolved_rows.specs.inner.Listed as listed
use Rattle.resolved_rows.specs.inner.Listed.{all_cells, cell_ends, ListRowsPost}
use Rattle.resolved_rows.specs.inner.Spans.{part}
use Rattle.grid_positions.specs.inner.Slices.{cells_in, table_of, Rising}

-- ---- cells in three slices

pub cells_lines : (ls ss rs : List ℕ) → map listed.cell_line (cells_in ls ss rs) ≡ ls
unfolding cells_in
cells_lines [] ss rs = refl
cells_lines (l ∷ ls) ss rs = ap (λ (x : List ℕ). l ∷ x) (cells_lines ls (drop 1 ss) (drop 1 rs))

pub cells_cols : (ls ss rs : List ℕ) → length ss ≡ length ls → map listed.cell_cols (cells_in ls ss rs) ≡ ss
unfolding cells_in
cells_cols [] [] rs e = refl
cells_cols [] (s ∷ ss) rs e = absurd (omega arith)
cells_cols (l ∷ ls) [] rs e = absurd (omega arith)
cells_cols (l ∷ ls) (s ∷ ss) rs e = ap (λ (x : List ℕ). s ∷ x) (cells_cols ls ss (drop 1 rs) (omega arith))

pub cells_rows : (ls ss rs : List ℕ) → length rs ≡ length ls → map listed.cell_rows (cells_in ls ss rs) ≡ rs
unfolding cells_in
cells_rows [] ss [] e = refl
cells_rows [] ss (r ∷ rs) e = absurd (omega arith)
cells_rows (l ∷ ls) ss [] e = absurd (omega arith)
cells_rows (l ∷ ls) ss (r ∷ rs) e = ap (λ (x : List ℕ). r ∷ x) (cells_rows ls (drop 1 ss) rs (omega arith))

pub cells_count : (ls ss rs : List ℕ) → length (cells_in ls ss rs) ≡ length ls
cells_count ls ss rs = sym (length-map (cells_in ls ss rs) listed.cell_line) ∙ ap length (cells_lines ls ss rs)

pub cells_listed : (cs : List Cell) → cells_in (map listed.cell_line cs) (map listed.cell_cols cs) (map listed.cell_rows cs) ≡ cs
unfolding cells_in
cells_listed [] = refl
cells_listed (c ∷ cs) = ap (λ (x : List Cell). c ∷ x) (cells_listed cs)

-- ---- the next row

module _ (lines spans rows ends rl : List ℕ) (first r : ℕ) (h : r < length ends) where
  abbrev end : ℕ
  end = get_or ends r 0

  abbrev row : cells.Row
  row = cells.row (get_or (drop r rl) 0 0) (cells_in (part first end lines) (part first end spans) (part first end rows))

  pub table_next : table_of lines spans rows (drop r rl) first (drop r ends) ≡ row ∷ table_of lines spans rows (drop (r + 1) rl) end (drop (r + 1) ends)
  unfolding table_of
  table_next =
      ap (table_of lines spans rows (drop r rl) first) (drop_more ends r 0 h)
      ∙ ap (λ (x : List ℕ). row ∷ table_of lines spans rows x end (drop (r + 1) ends)) (drop-drop 1 r rl)

-- ---- how many rows

pub table_count : (lines spans rows rl : List ℕ) (first : ℕ) (ends : List ℕ) → length (table_of lines spans rows rl first ends) ≡ length ends
unfolding table_of
table_count lines spans rows rl first [] = refl
table_count lines spans rows rl first (e ∷ ends) = ap suc (table_count lines spans rows (drop 1 rl) e ends)

-- ---- a listing gives the table back

-- the part that stands after d
part_after : (d x t : List ℕ) (a e : ℕ) → a ≡ length d → e ≡ length d + length x → part a e (d ++ (x ++ t)) ≡ x
part_after d x t a e p q =
    ap (take (e - a)) (drop_at d (x ++ t) a (sym p)) ∙ take_at x t (e - a) (omega arith)

module _ (f : Cell → ℕ) where
  listed_part : (cs ds : List Cell) (d : List ℕ) (a : ℕ) → a ≡ length d → part a (a + length cs) (d ++ map f (cs ++ ds)) ≡ map f cs
  listed_part cs ds d a p =
      ap (λ (x : List ℕ). part a (a + length cs) (d ++ x)) (map-append f cs ds)
      ∙ part_after d (map f cs) (map f ds) a (a + length cs) p (omega (arith, length-map cs f))

  listed_more : (cs ds : List Cell) (d : List ℕ) → (d ++ map f cs) ++ map f ds ≡ d ++ map f (cs ++ ds)
  listed_more cs ds d = append_assoc d (map f cs) (map f ds) ∙ ap (λ (x : List ℕ). d ++ x) (sym (map-append f cs ds))

  listed_length : (cs : List Cell) (d : List ℕ) (a : ℕ) → a ≡ length d → a + length cs ≡ length (d ++ map f cs)
  listed_length cs d a p = omega (arith, length-append d (map f cs), length-map cs f)

rebuilt : (rs : List cells.Row) (dl ds dr o : List ℕ) (a : ℕ) → a ≡ length dl → a ≡ length ds → a ≡ length dr
    → table_of (dl ++ map listed.cell_line (all_cells rs)) (ds ++ map listed.cell_cols (all_cells rs)) (dr ++ map listed.cell_rows (all_cells rs)) (map listed.written_line rs ++ o) a (cell_ends a rs) ≡ rs
unfolding table_of cell_ends all_cells
rebuilt [] dl ds dr o a pl ps pr = refl
rebuilt (r ∷ rs) dl ds dr o a pl ps pr =
    let cs = r.cells in
    let e = a + length cs in
    ap₂ (λ (c : List Cell) (t : List cells.Row). cells.row r.line c ∷ t)
    ((λ i. cells_in (listed_part listed.cell_line cs (all_cells rs) dl a pl i) (listed_part listed.cell_cols cs (all_cells rs) ds a ps i) (listed_part listed.cell_rows cs (all_cells rs) dr a pr i))
    ∙ cells_listed cs)
    ((λ i. table_of (sym (listed_more listed.cell_line cs (all_cells rs) dl) i) (sym (listed_more listed.cell_cols cs (all_cells rs) ds) i) (sym (listed_more listed.cell_rows cs (all_cells rs) dr) i) (map listed.written_line rs ++ o) e (cell_ends e rs))
    ∙ rebuilt rs (dl ++ map listed.cell_line cs) (ds ++ map listed.cell_cols cs) (dr ++ map listed.cell_rows cs) o e
    (listed_length listed.cell_line cs dl a pl) (listed_length listed.cell_cols cs ds a ps) (listed_length listed.cell_rows cs dr a pr))

pub table_listed : (rs : List cells.Row) (o : List ℕ)
    → table_of (map listed.cell_line (all_cells rs)) (map listed.cell_cols (all_cells rs)) (map listed.cell_rows (all_cells rs)) (over (map listed.written_line rs) o) 0 (cell_ends 0 rs) ≡ rs
unfolding over
table_listed rs o = rebuilt rs [] [] [] (drop (length (map listed.written_line rs)) o) 0 refl refl refl

ends_count : (a : ℕ) (rs : List cells.Row) → length (cell_ends a rs) ≡ length rs
unfolding cell_ends
ends_count a [] = refl
ends_count a (r ∷ rs) = ap suc (ends_count (a + length r.cells) rs)

-- and its rows' ends rise within its cells
ends_rise : (rs : List cells.Row) (a m : ℕ) → m ≡ a + length (all_cells rs) → Rising a (cell_ends a rs) m
unfolding cell_ends all_cells
ends_rise [] a m e = omega arith
ends_rise (r ∷ rs) a m e =
    let l = length-append r.cells (all_cells rs) in
    (omega arith, omega arith, ends_rise rs (a + length r.cells) m (omega arith))

pub listed_rises : (rs : List cells.Row) → Rising 0 (cell_ends 0 rs) (length (map listed.cell_line (all_cells rs)))
listed_rises rs = ends_rise rs 0 (length (map listed.cell_line (all_cells rs))) (omega (arith, length-map (all_cells rs) listed.cell_line))

-- ---- what `list_rows` has listed, as its fronts are lent on

module _ {rs : List cells.Row} {line₀ span₀ rows₀ row₀ end₀ line span rows row end : List ℕ} {n r : ℕ} (z : ListRowsPost rs line₀ span₀ rows₀ row₀ end₀ line span rows row end n r) where
  front_of : (f : Cell → ℕ) (o₀ o : List ℕ) → o ≡ over (map f (all_cells rs)) o₀ → take n o ≡ map f (all_cells rs)
  front_of f o₀ o e = ap₂ take (z.cells_are ∙ sym (length-map (all_cells rs) f)) e ∙ over_front (map f (all_cells rs)) o₀

  pub front_lines : take n line ≡ map listed.cell_line (all_cells rs)
  front_lines = front_of listed.cell_line line₀ line z.written.lines

  pub front_spans : take n span ≡ map listed.cell_cols (all_cells rs)
  front_spans = front_of listed.cell_cols span₀ span z.written.spans

  pub front_rows : take n rows ≡ map listed.cell_rows (all_cells rs)
  front_rows = front_of listed.cell_rows rows₀ rows z.written.rowspans

  pub front_ends : take r end ≡ cell_ends 0 rs
  front_ends = ap₂ take (z.rows_are ∙ sym (ends_count 0 rs)) z.written.ends ∙ over_front (cell_ends 0 rs) end₀

  -- the table is the one that was listed
  pub front_table : table_of (take n line) (take n span) (take n rows) row 0 (take r end) ≡ rs
  front_table =
      (λ i. table_of (front_lines i) (front_spans i) (front_rows i) (z.written.row_lines i) 0 (front_ends i)) ∙ table_listed rs row₀
