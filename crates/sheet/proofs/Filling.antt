-- A sheet in which no table and no body is left empty: seen line by line, and the answer.
use mathlib.Core.Path.{◌≡◌, sym, ◌∙◌}
use mathlib.Core.Bool.{false}
use mathlib.Core.List.{List}
use Prim.Native.Nat.{ℕ, zero, suc, ◌+◌, ◌-◌, ◌≤◌, ◌<◌}
use native.Mathlib.Numerals.{add-one}
use native.Mathlib.Omega.{arith}
use native.Mathlib.Decide.{ℕ_discrete}
use lib.ListN.{length, get_or, set, length-map}
use lib.Seq.{get_or-set_same, get_or-set_other}
use borrow.Author.Tests.{lt-leb}
use Rattle.std.specs.Prelude.{Ok}
use Rattle.records.specs.NodeRecord.{no_node}
use Rattle.records.specs.declared.NodeRecord.{NodeRecord}
use Rattle.kinds.specs.Kinds.{needs_child}
use Rattle.sheet.specs.inner.Steps.{empty_at, FilledTo, lacks_child, FinishPre, line_end, bare, bare_line}
use Rattle.sheet.proofs.Ending.{EndsFrom, bare_empty, ends_start, ends_more, ends_all}

module _ (ks : List NodeRecord) where
  -- none is, where none lacks a child and the last is no table and no body
  pub none_empty : FinishPre ks (length ks) → 0 < length ks
      → needs_child (get_or ks (length ks - 1) no_node).kind ≡ false → FilledTo ks (length ks)
  unfolding empty_at
  none_empty f some e i h = go (ℕ_discrete i (length ks - 1))
    where
      go : Dec (i ≡ length ks - 1) → empty_at ks i ≡ false
      go (yes q) = rw (q, e)
      go (no q) = let more : i + 1 < length ks = omega arith in rw (lt-leb (length ks) (i + 1) more) (f i more)

  -- the answer
  ends_to : 0 < length ks → (i : ℕ) → i ≤ length ks → FilledTo ks i → EndsFrom (bare ks) i
  ends_to some zero h f = ends_start (bare ks) (omega (arith, length-map ks bare_line))
  ends_to some (suc i) h f =
      rw (← add-one i)
      (ends_more (bare ks) i (omega (arith, length-map ks bare_line)) (ends_to some i (omega arith) (λ k g. f k (omega arith))) (sym (bare_empty ks i) ∙ f i (omega arith)))

  pub filled_ends : 0 < length ks → FilledTo ks (length ks) → Ok (length ks) ≡ line_end (bare ks)
  filled_ends some f =
      rw (← length-map ks bare_line)
      (ends_all (bare ks) (length ks) (omega (arith, length-map ks bare_line)) (ends_to some (length ks) (omega arith) f))

-- one line more, which is stored behind them
pub none_more : (b : List NodeRecord) {c : List NodeRecord} {n : ℕ} (k : NodeRecord) → FinishPre b n → (0 < n → lacks_child (get_or b (n - 1) no_node) k ≡ false) → n < length b → c ≡ set b n k
    → FinishPre c (n + 1)
none_more b {c} {n} k f e h p i g = rw p (go (ℕ_discrete (i + 1) n))
  where
    go : Dec (i + 1 ≡ n) → lacks_child (get_or (set b n k) i no_node) (get_or (set b n k) (i + 1) no_node) ≡ false
    go (yes q) =
        let last : n - 1 ≡ i = omega arith in
        rw (q, get_or-set_same b n k no_node h, get_or-set_other b n i k no_node (λ z. omega arith), ← last) (e (omega arith))
    go (no q) =
        rw (get_or-set_other b n i k no_node (λ z. omega arith), get_or-set_other b n (i + 1) k no_node (λ z. omega arith)) (f i (omega arith))
