-- The lookup by counts, the plain one and the count of positions give the same answer at every position from 0 to 4,096, edge or not: the ones
-- of the first words are the edges below the next word, and the masked word adds those of its own below p.
use mathlib.Core.Path.{◌≡◌, refl, sym, ap, ◌∙◌}
use mathlib.Core.Bool.{Bool, true, false, cond}
use mathlib.Core.List.{List}
use Prim.Native.Nat.{ℕ, zero, suc, ◌+◌, ◌*◌, ◌/◌, ◌%◌, ◌^◌, ◌≤◌, ◌<◌}
use native.Mathlib.Nat.{div-add-mod'}
use native.Mathlib.Omega.{arith}
use lib.Count.{ones}
use lib.ListN.{get_or}
use Rattle.common.specs.Limits.{max_position}
use Rattle.std.specs.Prelude.{Some, None}
use Rattle.column_edges.specs.Edges.{count_below}
use Rattle.column_edges.specs.inner.Edges.{is_edge, edge_at}
use Rattle.column_edges.specs.inner.Lookup.{ones_before, ones_below, plain_at, counted_at, Words, Counted}
use Rattle.column_edges.proofs.Counts.{count_le}
use Rattle.column_edges.proofs.Words.{count_word, whole_word}

-- the ones of the first i words are the edges below word i
pub words_below : (ws : List ℕ) (i : ℕ) → ((j : ℕ) → j < i → get_or ws j 0 < 2 ^ 64) → ones_before ws i ≡ count_below (is_edge ws) (i * 64)
unfolding ones_before count_below
words_below ws zero small = refl
words_below ws (suc i) small =
    ap (λ (n : ℕ). n + ones (get_or ws i 0)) (words_below ws i (λ j l. small j (omega arith))) ∙ whole_word ws i (small i (omega arith))

-- with those of p's word below p they are the edges below p
pub ones_edges : {ws : List ℕ} → Words ws → (p : ℕ) → p ≤ max_position → ones_before ws (p / 64) + ones_below ws p ≡ count_below (is_edge ws) p
ones_edges {ws} z p h =
    ap (λ (n : ℕ). n + ones_below ws p) (words_below ws (p / 64) (λ j l. z.small j (omega arith)))
    ∙ sym (count_word ws (p / 64) (p % 64) (omega arith))
    ∙ ap (count_below (is_edge ws)) (div-add-mod' p 64)

-- ---- the three answers are one

pub counted_plain : {ws counts : List ℕ} → Counted ws counts → (p : ℕ) → p ≤ max_position → counted_at ws counts p ≡ plain_at ws p
unfolding counted_at plain_at
counted_plain {ws} {counts} z p h = pick (is_edge ws p) refl
  where
    pick : (b : Bool) → is_edge ws p ≡ b
        → cond b (Some (get_or counts (p / 64) 0 + ones_below ws p)) None ≡ cond b (Some (ones_before ws (p / 64) + ones_below ws p)) None
    pick true e = ap (λ (n : ℕ). Some (n + ones_below ws p)) (z.each p h e)
    pick false e = refl

pub plain_edge : {ws : List ℕ} → Words ws → (p : ℕ) → p ≤ max_position → plain_at ws p ≡ edge_at ws p
unfolding plain_at edge_at
plain_edge {ws} z p h = ap (λ (n : ℕ). cond (is_edge ws p) (Some n) None) (ones_edges z p h)

-- ---- what `find` answers at an edge

pub counted_at_lem : (ws counts : List ℕ) (p : ℕ) → is_edge ws p ≡ true → Some (get_or counts (p / 64) 0 + ones_below ws p) ≡ counted_at ws counts p
unfolding counted_at
counted_at_lem ws counts p e = sym (ap (λ (b : Bool). cond b (Some (get_or counts (p / 64) 0 + ones_below ws p)) None) e)

-- which is small
pub counted_le : {ws counts : List ℕ} → Counted ws counts → (p : ℕ) → p ≤ max_position → is_edge ws p ≡ true → get_or counts (p / 64) 0 + ones_below ws p ≤ p
counted_le {ws} z p h e = omega (arith, z.each p h e, ones_edges z.words p h, count_le (is_edge ws) p)
