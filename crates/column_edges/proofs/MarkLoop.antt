-- The loops of `mark` and `mark_rows` on plain lists and numbers: what holds at the head of each, and what a turn does.
use mathlib.Core.Path.{◌≡◌, refl, sym, ap, subst, ◌∙◌}
use mathlib.Core.Bool.{Bool, true, false, ◌||◌, true≢false}
use mathlib.Core.List.{List, [], ◌∷◌}
use Prim.Native.Nat.{ℕ, ◌+◌, ◌≤◌, ◌<◌, max, zero-le}
use native.Mathlib.Omega.{arith}
use lib.Dec.{eqb}
use lib.ListN.{length, get_or, drop, drop_of_length-le}
use borrow.Author.Tests.{eqb-true}
use Rattle.std.proofs.lemmas.List.{drop_more}
use Rattle.common.specs.Lists.{sum, mem}
use Rattle.common.specs.Limits.{max_position}
use Rattle.column_edges.specs.Edges.{ends_from}
use Rattle.column_edges.specs.inner.Edges.{is_edge, part, rows_from, rows_ends, RowsFit}
use Rattle.column_edges.specs.inner.Lookup.{NoneAbove}
use Rattle.column_edges.proofs.Columns.{mem_append}

-- what is still to be marked and what is marked make the same set, once some of the first is marked
marked_more : (some rest old new : Bool) {whole : Bool} → new ≡ (some || old) → ((some || rest) || old) ≡ whole → (rest || new) ≡ whole
marked_more some rest old new e w = ap (λ (b : Bool). rest || b) e ∙ swap some rest old ∙ w
  where
    swap : (s r o : Bool) → (r || (s || o)) ≡ ((s || r) || o)
    swap true true o = refl
    swap true false o = refl
    swap false true o = refl
    swap false false o = refl

-- what follows from either follows
pub from_either : (a b : Bool) {A : Type 0} → (a ≡ true → A) → (b ≡ true → A) → (a || b) ≡ true → A
from_either true b f g e = f refl
from_either false b f g e = g e

-- no entry ends past the row's end
ends_le : (q p : ℕ) (ss : List ℕ) → mem q (ends_from p ss) ≡ true → q ≤ p + sum ss
unfolding mem ends_from sum
ends_le q p [] e = absurd (true≢false (sym e))
ends_le q p (s ∷ ss) e =
    from_either (eqb q (p + s)) (mem q (ends_from (p + s) ss)) (λ t. omega (arith, eqb-true q (p + s) t)) (λ t. omega (arith, ends_le q (p + s) ss t)) e

-- ---- one row

pub record Marked (spans ws₀ ws : List ℕ) (pos i : ℕ) : Type 0 where
  pub at : i ≤ length spans
  pub fits : sum spans ≤ max_position
  pub ended : pos + sum (drop i spans) ≡ sum spans
  pub edges : (q : ℕ) → (mem q (ends_from pos (drop i spans)) || is_edge ws q) ≡ (mem q (ends_from 0 spans) || is_edge ws₀ q)

module _ {spans ws₀ ws : List ℕ} {pos i : ℕ} (z : Marked spans ws₀ ws pos i) where
  pub mark_fits : i < length spans → pos + get_or spans i 0 ≤ max_position
  unfolding sum
  mark_fits h = omega (arith, ap sum (drop_more spans i 0 h), z.ended, z.fits)

  pub mark_turn : i < length spans → (ws' : List ℕ) → ((q : ℕ) → is_edge ws' q ≡ (eqb q (pos + get_or spans i 0) || is_edge ws q)) → Marked spans ws₀ ws' (pos + get_or spans i 0) (i + 1)
  unfolding sum ends_from mem
  mark_turn h ws' e = record {
    at = omega arith;
    fits = z.fits;
    ended = omega (arith, ap sum (drop_more spans i 0 h), z.ended);
    edges = λ q.
        marked_more (eqb q (pos + get_or spans i 0)) (mem q (ends_from (pos + get_or spans i 0) (drop (i + 1) spans))) (is_edge ws q) (is_edge ws' q) (e q)
        (sym (ap (λ (l : List ℕ). mem q (ends_from pos l) || is_edge ws q) (drop_more spans i 0 h)) ∙ z.edges q);
  }

  -- where the span is known by another name
  pub mark_turn_by : i < length spans → (s : ℕ) → get_or spans i 0 ≡ s → (ws' : List ℕ) → ((q : ℕ) → is_edge ws' q ≡ (eqb q (pos + s) || is_edge ws q)) → Marked spans ws₀ ws' (pos + s) (i + 1)
  mark_turn_by h s e =
      subst
      (λ (x : ℕ). (ws' : List ℕ) → ((q : ℕ) → is_edge ws' q ≡ (eqb q (pos + x) || is_edge ws q)) → Marked spans ws₀ ws' (pos + x) (i + 1))
      e (mark_turn h)

  pub mark_ended : length spans ≤ i → pos ≡ sum spans
  unfolding sum
  mark_ended h = omega (arith, ap sum (drop_of_length-le spans h), z.ended)

  pub mark_stop : length spans ≤ i → (q : ℕ) → is_edge ws q ≡ (mem q (ends_from 0 spans) || is_edge ws₀ q)
  unfolding ends_from mem
  mark_stop h q = sym (ap (λ (l : List ℕ). mem q (ends_from pos l) || is_edge ws q) (drop_of_length-le spans h)) ∙ z.edges q

-- ---- all rows

pub record RowsMarked (spans ends ws₀ ws : List ℕ) (top start r : ℕ) : Type 0 where
  pub at : r ≤ length ends
  pub fit : RowsFit start (drop r ends) spans
  pub small : top ≤ max_position
  pub none : NoneAbove top ws
  pub edges : (q : ℕ) → (mem q (rows_ends (rows_from start (drop r ends) spans)) || is_edge ws q) ≡ (mem q (rows_ends (rows_from 0 ends spans)) || is_edge ws₀ q)

pub rows_start : (spans ends ws₀ : List ℕ) → RowsFit 0 ends spans → NoneAbove 0 ws₀ → RowsMarked spans ends ws₀ ws₀ 0 0 0
rows_start spans ends ws₀ h n = record { at = zero-le; fit = h; small = zero-le; none = n; edges = λ q. refl }

module _ {spans ends ws₀ ws : List ℕ} {top start r : ℕ} (z : RowsMarked spans ends ws₀ ws top start r) where
  -- the next row: its parts are in range, it ends within the positions, and the rows after it fit
  pub rows_fit : r < length ends → (start ≤ get_or ends r 0) × (get_or ends r 0 ≤ length spans) × (sum (part start (get_or ends r 0) spans) ≤ max_position) × RowsFit (get_or ends r 0) (drop (r + 1) ends) spans
  unfolding RowsFit
  rows_fit h = rw (drop_more ends r 0 h) at z.fit

  pub rows_turn : r < length ends → (ws' : List ℕ) (top' : ℕ) → top' ≡ max top (sum (part start (get_or ends r 0) spans)) → ((q : ℕ) → is_edge ws' q ≡ (mem q (ends_from 0 (part start (get_or ends r 0) spans)) || is_edge ws q)) → RowsMarked spans ends ws₀ ws' top' (get_or ends r 0) (r + 1)
  unfolding rows_from rows_ends
  rows_turn h ws' top' t e = record {
    at = omega arith;
    fit = (rows_fit h).3;
    small = omega (arith, t, z.small, (rows_fit h).2);
    none = λ q g d.
        let row = part start (get_or ends r 0) spans in
        from_either (mem q (ends_from 0 row)) (is_edge ws q) (λ m. omega (arith, t, ends_le q 0 row m)) (λ m. omega (arith, t, z.none q g m)) (sym (e q) ∙ d);
    edges = λ q.
        let row = ends_from 0 (part start (get_or ends r 0) spans) in
        let rest = rows_ends (rows_from (get_or ends r 0) (drop (r + 1) ends) spans) in
        marked_more (mem q row) (mem q rest) (is_edge ws q) (is_edge ws' q) (e q)
        (sym (ap (λ (b : Bool). b || is_edge ws q) (mem_append q row rest))
        ∙ sym (ap (λ (l : List ℕ). mem q (rows_ends (rows_from start l spans)) || is_edge ws q) (drop_more ends r 0 h)) ∙ z.edges q);
  }

  -- where the row's end is known by another name
  pub rows_turn_by : r < length ends → (end : ℕ) → get_or ends r 0 ≡ end → (ws' : List ℕ) (top' : ℕ) → top' ≡ max top (sum (part start end spans)) → ((q : ℕ) → is_edge ws' q ≡ (mem q (ends_from 0 (part start end spans)) || is_edge ws q)) → RowsMarked spans ends ws₀ ws' top' end (r + 1)
  rows_turn_by h end e =
      subst
      (λ (x : ℕ).
      (ws' : List ℕ) (top' : ℕ) → top' ≡ max top (sum (part start x spans)) → ((q : ℕ) → is_edge ws' q ≡ (mem q (ends_from 0 (part start x spans)) || is_edge ws q)) → RowsMarked spans ends ws₀ ws' top' x (r + 1))
      e (rows_turn h)

  pub rows_stop : length ends ≤ r → (q : ℕ) → is_edge ws q ≡ (mem q (rows_ends (rows_from 0 ends spans)) || is_edge ws₀ q)
  unfolding rows_from rows_ends mem
  rows_stop h q = sym (ap (λ (l : List ℕ). mem q (rows_ends (rows_from start l spans)) || is_edge ws q) (drop_of_length-le ends h)) ∙ z.edges q
