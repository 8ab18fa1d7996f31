-- The line feeds of the blocks of bytes add up to those of the bytes: what a run of an iterator gives, each of whose items counts those of the bytes that
-- its turn takes off the front.
use mathlib.Core.Path.{◌≡◌, sym, ap, subst}
use mathlib.Core.List.{List, [], ◌∷◌, ◌++◌}
use Prim.Native.Nat.{ℕ, ◌+◌, ◌<◌}
use native.Mathlib.Omega.{arith}
use Rattle.std.specs.Prelude.{Option, Some, None}
use Rattle.std.specs.Iterator.{Yields}
use Rattle.std.specs.Iterator.Runs.{YieldsRun, WholeRun, EachRunFrom}
use Rattle.std.specs.List.{fold}
use Rattle.fields.specs.Lines.{feeds}
use Rattle.sheet.proofs.Heading.{feeds_append}

-- what a block takes off the front
pub taken_off : (block left : List ℕ) {bytes : List ℕ} {n : ℕ} → bytes ≡ block ++ left → n ≡ feeds block → feeds bytes ≡ n + feeds left
taken_off block left e counted = omega (arith, counted, ap feeds e, feeds_append block left)

module _ {S : Type 0} (steps : S → Option ℕ → S → Type 0) (rest : S → List ℕ) where
  -- a turn counts the line feeds of what it takes off the front
  abbrev Counts : Type 0
  Counts = (s : S) (x : ℕ) (t : S) → steps s (Some x) t → feeds (rest s) ≡ x + feeds (rest t)

  taken : Counts → (a : ℕ) (xs : List ℕ) (s t : S) → Yields steps s xs t → fold (λ a x. a + x) a xs + feeds (rest t) ≡ a + feeds (rest s)
  taken turn a [] s t e = ap (λ (u : S). a + feeds (rest u)) (sym e)
  taken turn a (x ∷ xs) s t e = omega (arith, taken turn (a + x) xs e.0 t e.2, turn s x e.0 e.1)

module _ {S : Type 0} {steps : S → Option ℕ → S → Type 0} (s : S) where
  pub blocks_add : {r : ℕ} → WholeRun steps s (λ p. r ≡ fold (λ a x. a + x) 0 p.items) → (rest : S → List ℕ)
      → Counts steps rest → ((s t : S) → steps s None t → feeds (rest s) ≡ 0) → r ≡ feeds (rest s)
  unfolding YieldsRun
  blocks_add h rest turn end =
      let p = h.0 in
      let g = p.gave.0 in
      let all : Yields steps s p.items g.0 = subst (λ (u : S). Yields steps u p.items g.0) h.1 g.1 in
      let last = g.2 h.2 in
      omega (arith, h.3, taken steps rest turn 0 p.items s g.0 all, end g.0 last.0 last.1)

  pub blocks_fit : (top : ℕ) (rest : S → List ℕ) → Counts steps rest → feeds (rest s) < top → EachRunFrom steps s (λ p. fold (λ a x. a + x) 0 p.items < top)
  unfolding YieldsRun
  blocks_fit top rest turn h = λ p seen from.
      let g = p.gave.0 in
      let all : Yields steps s p.items g.0 = subst (λ (u : S). Yields steps u p.items g.0) from g.1 in
      omega (arith, taken steps rest turn 0 p.items s g.0 all, h)
