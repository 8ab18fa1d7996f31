-- The loop of `count_words` on plain lists and numbers: what holds at its head, and what a turn does.
use mathlib.Core.Path.{◌≡◌, refl, ap, ◌∙◌}
use mathlib.Core.List.{List}
use Prim.Native.Nat.{ℕ, ◌+◌, ◌*◌, ◌/◌, ◌≤◌, ◌<◌, zero-le}
use native.Mathlib.Nat.{not-suc-le-zero}
use native.Mathlib.Numerals.{add-one}
use native.Mathlib.Omega.{arith}
use lib.Count.{ones}
use lib.ListN.{length, get_or, set, length-set}
use lib.Seq.{get_or-set_same, get_or-set_other}
use borrow.Author.Count.{below_more}
use Rattle.column_edges.specs.inner.Edges.{is_edge}
use Rattle.column_edges.specs.inner.Lookup.{ones_before, Words, NoneAbove, Counted}
use Rattle.column_edges.proofs.Counts.{count_le}
use Rattle.column_edges.proofs.Lookup.{words_below}

-- n is the count of the ones in the words passed, each of which has its count
pub record Counting (ws counts : List ℕ) (n i : ℕ) : Type 0 where
  pub at : i ≤ 65
  pub long : length counts ≡ 65
  pub sofar : n ≡ ones_before ws i
  pub each : (j : ℕ) → j < i → get_or counts j 0 ≡ ones_before ws j

pub start : (ws counts : List ℕ) → length counts ≡ 65 → Counting ws counts 0 0
unfolding ones_before
start ws counts h = record {
  at = zero-le;
  long = h;
  sofar = refl;
  each = λ j l. absurd (not-suc-le-zero l);
}

module _ {ws counts : List ℕ} {n i : ℕ} (z : Counting ws counts n i) where
  -- each edge's word is passed
  pub stop : Words ws → (top : ℕ) → NoneAbove top ws → top / 64 < i → Counted ws counts
  stop w top none h = record {
    words = w;
    long = z.long;
    each = λ p l e. z.each (p / 64) (omega (arith, none p l e));
  }

  module _ (h : i < 65) where
    -- one more word
    more_ones : n + ones (get_or ws i 0) ≡ ones_before ws (i + 1)
    unfolding ones_before
    more_ones = rw add-one (ap (λ (x : ℕ). x + ones (get_or ws i 0)) z.sofar)

    pub turn_le : Words ws → n + ones (get_or ws i 0) ≤ (i + 1) * 64
    turn_le w = omega (arith, more_ones, words_below ws (i + 1) (λ j l. w.small j (omega arith)), count_le (is_edge ws) ((i + 1) * 64))

    pub turn : (m : ℕ) → m ≡ ones (get_or ws i 0) → Counting ws (set counts i n) (n + m) (i + 1)
    turn m e = record {
      at = omega arith;
      long = simp length-set z.long;
      sofar = ap (λ (x : ℕ). n + x) e ∙ more_ones;
      each =
          below_more (λ (j : ℕ). get_or (set counts i n) j 0 ≡ ones_before ws j) i
          (λ j l. get_or-set_other counts i j n 0 (λ q. omega arith) ∙ z.each j l)
          (get_or-set_same counts i n 0 (omega (arith, z.long)) ∙ z.sofar);
    }
