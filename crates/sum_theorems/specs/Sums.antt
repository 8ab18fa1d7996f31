-- What a calc line is refused for, and its size, by the tree that reads its text: refusals 13 and 14 and the size are decided by a machine that reads
-- byte by byte (expression/specs/Machine), and this is what it decides. These are statements; proofs/Sums has their proofs.
use Rattle.std.specs.Prelude.{◌≡◌, true, List, ℕ, ℤ, None, Some}
use Rattle.expression.specs.Tree.{Tree, value}
use Rattle.expression.specs.Grammar.{ReadsAs}
use Rattle.evaluator.specs.Measures.{length_of}
use Rattle.line.specs.Fields.{Line, node, is_calc, not_expression, out_of_bounds, own_size}

-- a text has one tree at most
abbrev pub OneTree : Type 0
OneTree = (w : List ℕ) (t u : Tree) → ReadsAs w t → ReadsAs w u → t ≡ u

-- a tree reads the text, and has no value: some divisor is 0 or some step is outside the bounds
abbrev pub NoValue : List ℕ → Type 0
NoValue w = (t : Tree) × ReadsAs w t × (value t ≡ None)

-- 13 exactly if no tree reads the text; 14 exactly if one does and has no value; else the size is the length of its value's decimal writing
pub record ByTree (l : Line) : Type 0 where
  pub thirteen_only : not_expression (node l) ≡ true → (t : Tree) → ReadsAs l.text t → ⊥
  pub thirteen_then : ((t : Tree) → ReadsAs l.text t → ⊥) → not_expression (node l) ≡ true
  pub fourteen_only : out_of_bounds (node l) ≡ true → NoValue l.text
  pub fourteen_then : NoValue l.text → out_of_bounds (node l) ≡ true
  pub size : (t : Tree) (z : ℤ) → ReadsAs l.text t → value t ≡ Some z → own_size l ≡ length_of z

abbrev pub CalcLines : Type 0
CalcLines = (l : Line) → is_calc l ≡ true → ByTree l
