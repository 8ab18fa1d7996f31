-- The row's definitions, a step at a time: which hanging one is due, what an entry leaves hanging, the next entry of a row, and the
-- item at a place of the number slices.
use mathlib.Core.Path.{◌≡◌, refl, sym, ap, ap₂, ◌∙◌}
use mathlib.Core.Bool.{Bool, true, false, cond, ◌||◌}
use mathlib.Core.List.{List, [], ◌∷◌, ◌++◌, map, append_assoc, append-nil, map-append}
use Prim.Native.Nat.{ℕ, zero, suc, ◌+◌, ◌-◌, ◌≤◌, ◌<◌, zero-le}
use native.Mathlib.Nat.{add-zero, add_assoc, le_of_suc-le-suc, not-suc-le-zero}
use native.Mathlib.Omega.{arith}
use lib.ListN.{length, get_or, set, drop, drop_of_length-le, length-append}
use lib.Seq.{drop-cons}
use lib.Dec.{leb, ltb}
use borrow.Author.Tests.{lt-ltb, le-ltb}
use Rattle.common.specs.Lists.{sum}
use Rattle.common.proofs.Sum.{sum_append}
use Rattle.grid_row.specs.Row.{Item, item, item_span, items_end, rows_below, fillers, later, placed, row_from, hang_of, nexts}
use Rattle.grid_row.specs.inner.Row.{item_line, cells_of, hanging, due_at, PutPost}

-- ---- which hanging one is due

pub due_none : (l : List ℕ) (h p : ℕ) (last : Bool) → length l ≤ h → due_at (drop h l) p last ≡ false
unfolding due_at
due_none l h p last e = ap (λ (x : List ℕ). due_at x p last) (drop_of_length-le l e)

pub due_some : (l : List ℕ) (h p : ℕ) (last : Bool) → h < length l → due_at (drop h l) p last ≡ (last || leb (get_or l h 0) p)
unfolding due_at
due_some l h p last e = ap (λ (x : List ℕ). due_at x p last) (drop-cons l h 0 e)

-- ---- what an entry leaves hanging

pub hang_more : (x : Item) → 1 < x.left → hang_of x ≡ item x.owner true (x.left - 1) x.pos x.span ∷ []
unfolding hang_of
hang_more x h = rw (lt-ltb 1 x.left h, hang_of)

pub hang_none : (x : Item) → x.left ≤ 1 → hang_of x ≡ []
unfolding hang_of
hang_none x h = rw (le-ltb 1 x.left h, hang_of)

hang_length : (x : Item) → length (hang_of x) ≤ 1
unfolding hang_of
hang_length x = go (ltb 1 x.left)
  where
    go : (b : Bool) → length (cond b (item x.owner true (x.left - 1) x.pos x.span ∷ []) []) ≤ 1
    go true = omega arith
    go false = omega arith

pub nexts_length : (d : List Item) → length (nexts d) ≤ length d
unfolding nexts
nexts_length [] = zero-le
nexts_length (x ∷ d) = omega (arith, length-append (hang_of x) (nexts d), hang_length x, nexts_length d)

pub nexts_snoc : (d : List Item) (x : Item) → nexts (d ++ (x ∷ [])) ≡ nexts d ++ hang_of x
unfolding nexts
nexts_snoc [] x = append-nil (hang_of x)
nexts_snoc (y ∷ d) x = ap (λ (l : List Item). hang_of y ++ l) (nexts_snoc d x) ∙ sym (append_assoc (hang_of y) (nexts d) (hang_of x))

-- ---- where a row ends

pub end_append : (xs ys : List Item) → items_end (xs ++ ys) ≡ items_end xs + items_end ys
end_append xs ys = ap sum (map-append item_span xs ys) ∙ sum_append (map item_span xs) (map item_span ys)

-- ---- the next entry of a row

-- a hanging one that is due goes in, whether cells are left or not
pub row_hang : (p : ℕ) (h : Item) (hs cs : List Item) → leb h.pos p ≡ true → row_from p (h ∷ hs) cs ≡ h ∷ row_from (p + h.span) hs cs
unfolding row_from fillers later sum
row_hang p h hs [] e = refl
row_hang p h hs (c ∷ cs) e =
    ap₂ (λ (f l : List Item). f ++ placed c (p + items_end f) ∷ row_from (p + items_end f + c.span) l cs) taken kept
    ∙ ap (λ (q : ℕ). h ∷ fillers (p + h.span) hs ++ placed c q ∷ row_from (q + c.span) (later (p + h.span) hs) cs) (sym (add_assoc p h.span (items_end (fillers (p + h.span) hs))))
  where
    taken : fillers p (h ∷ hs) ≡ h ∷ fillers (p + h.span) hs
    taken = rw (e, fillers)

    kept : later p (h ∷ hs) ≡ later (p + h.span) hs
    kept = rw (e, later)

-- and after the last cell each does
pub row_due : (last : Bool) (p : ℕ) (h : Item) (hs cs : List Item) → (last ≡ true → cs ≡ []) → (last || leb h.pos p) ≡ true
    → row_from p (h ∷ hs) cs ≡ h ∷ row_from (p + h.span) hs cs
unfolding row_from
row_due false p h hs cs l e = row_hang p h hs cs e
row_due true p h hs [] l e = refl
row_due true p h hs (c ∷ cs) l e = cc (l refl)

-- no hanging one is due, so the cell goes in
row_cell : (p : ℕ) (hs : List Item) (c : Item) (cs : List Item) → fillers p hs ≡ [] → later p hs ≡ hs → row_from p hs (c ∷ cs) ≡ placed c p ∷ row_from (p + c.span) hs cs
unfolding row_from sum
row_cell p hs c cs f l =
    ap₂ (λ (x y : List Item). x ++ placed c (p + items_end x) ∷ row_from (p + items_end x + c.span) y cs) f l
    ∙ ap (λ (q : ℕ). placed c q ∷ row_from (q + c.span) hs cs) (add-zero p)

pub row_free : (p : ℕ) (c : Item) (cs : List Item) → row_from p [] (c ∷ cs) ≡ placed c p ∷ row_from (p + c.span) [] cs
unfolding fillers later
row_free p c cs = row_cell p [] c cs refl refl

pub row_first : (p : ℕ) (h : Item) (hs : List Item) (c : Item) (cs : List Item) → leb h.pos p ≡ false
    → row_from p (h ∷ hs) (c ∷ cs) ≡ placed c p ∷ row_from (p + c.span) (h ∷ hs) cs
unfolding fillers later
row_first p h hs c cs e = row_cell p (h ∷ hs) c cs (rw (e, fillers)) (rw (e, later))

-- ---- the item at a place of the number slices

get_d_tail : (xs : List ℕ) (i : ℕ) → get_or (drop 1 xs) i 0 ≡ get_or xs (suc i) 0
get_d_tail [] i = refl
get_d_tail (x ∷ xs) i = refl

pub cells_length : (ls ss rs : List ℕ) → length (cells_of ls ss rs) ≡ length ls
unfolding cells_of
cells_length [] ss rs = refl
cells_length (l ∷ ls) ss rs = ap suc (cells_length ls (drop 1 ss) (drop 1 rs))

pub cells_cut : (ls ss rs : List ℕ) (i : ℕ) → i < length ls
    → drop i (cells_of ls ss rs) ≡ item (get_or ls i 0) false (suc (rows_below (get_or rs i 0))) 0 (get_or ss i 0) ∷ drop (suc i) (cells_of ls ss rs)
unfolding cells_of
cells_cut [] ss rs i h = absurd (not-suc-le-zero h)
cells_cut (l ∷ ls) ss rs zero h = refl
cells_cut (l ∷ ls) ss rs (suc i) h =
    cells_cut ls (drop 1 ss) (drop 1 rs) i (le_of_suc-le-suc h)
    ∙ ap₂ (λ (r s : ℕ). item (get_or ls i 0) false (suc (rows_below r)) 0 s ∷ drop (suc i) (cells_of ls (drop 1 ss) (drop 1 rs))) (get_d_tail rs i) (get_d_tail ss i)

pub hanging_length : (ls ps ss : List ℕ) → length (hanging ls ps ss) ≡ length ls
unfolding hanging
hanging_length [] ps ss = refl
hanging_length (l ∷ ls) ps ss = ap suc (hanging_length ls (drop 1 ps) (drop 1 ss))

pub hanging_cut : (ls ps ss : List ℕ) (i : ℕ) → i < length ls
    → drop i (hanging ls ps ss) ≡ item 0 true (get_or ls i 0) (get_or ps i 0) (get_or ss i 0) ∷ drop (suc i) (hanging ls ps ss)
unfolding hanging
hanging_cut [] ps ss i h = absurd (not-suc-le-zero h)
hanging_cut (l ∷ ls) ps ss zero h = refl
hanging_cut (l ∷ ls) ps ss (suc i) h =
    hanging_cut ls (drop 1 ps) (drop 1 ss) i (le_of_suc-le-suc h)
    ∙ ap₂ (λ (p s : ℕ). item 0 true (get_or ls i 0) p s ∷ drop (suc i) (hanging ls (drop 1 ps) (drop 1 ss))) (get_d_tail ps i) (get_d_tail ss i)

-- ---- what `put` stores

module _ (n k : ℕ) (x : Item) (l s nl na nw : List ℕ) where
  pub put_more : 1 < x.left
      → PutPost n k x (k + 1) l s nl na nw (set l n (item_line x)) (set s n x.span) (set nl k (x.left - 1)) (set na k x.pos) (set nw k x.span)
  put_more h =
      let e = hang_more x h in
      record { lines = refl; spans = refl; hangs = rw e; lefts = rw e; ats = rw e; wides = rw e }

  pub put_none : x.left ≤ 1 → PutPost n k x k l s nl na nw (set l n (item_line x)) (set s n x.span) nl na nw
  put_none h =
      let e = hang_none x h in
      record { lines = refl; spans = refl; hangs = rw e (omega arith); lefts = rw e; ats = rw e; wides = rw e }

-- what takes as many rows is stored in the same way
pub put_rows : {n k line left left' pos span r : ℕ} {l₀ s₀ nl₀ na₀ nw₀ l s nl na nw : List ℕ} → left ≡ left'
    → PutPost n k (item line false left pos span) r l₀ s₀ nl₀ na₀ nw₀ l s nl na nw → PutPost n k (item line false left' pos span) r l₀ s₀ nl₀ na₀ nw₀ l s nl na nw
put_rows e p = rw e at p

-- a filler of line 0 is stored as a cell of line 0 is
pub put_filler : {n k left pos span r : ℕ} {l₀ s₀ nl₀ na₀ nw₀ l s nl na nw : List ℕ}
    → PutPost n k (item 0 false left pos span) r l₀ s₀ nl₀ na₀ nw₀ l s nl na nw → PutPost n k (item 0 true left pos span) r l₀ s₀ nl₀ na₀ nw₀ l s nl na nw
unfolding hang_of
put_filler p = record { lines = p.lines; spans = p.spans; hangs = p.hangs; lefts = p.lefts; ats = p.ats; wides = p.wides }
