-- A line in the form in which it is kept.
use Rattle.std.specs.Prelude.{◌≡◌, List, ℕ, Option, Some, Ok}
use Rattle.records.specs.declared.NodeRecord.{NodeRecord}
use Rattle.line.specs.inner.LineAt.{line_at}
use Rattle.line.specs.declared.Node.{Node}
use Rattle.fields.specs.declared.Scanned.{Scanned}

-- the figures that are kept of a line that was read
abbrev pub figures_of : Node → NodeRecord
figures_of n = record { depth = n.depth; kind = n.kind; cols = n.cols; rows = n.rows; number = n.number; own = n.own }

-- a line in brief: its figures, and where the next line starts
abbrev pub Brief : Type 0
Brief = Scanned NodeRecord

pub record BriefPost (node : Node) (b : Brief) : Type 0 where
  pub kept : b.value ≡ figures_of node
  pub next : b.next ≡ node.next

-- it is the line that starts at the place
pub record InBrief (s : List ℕ) (at : ℕ) (b : Brief) : Type 0 where
  pub node : Node
  pub read : line_at s at ≡ Ok node
  pub brief : BriefPost node b

-- what is told of a line is so; of some lines nothing is told
abbrev pub Tells : List ℕ → ℕ → Option Brief → Type 0
Tells s at r = (b : Brief) → r ≡ Some b → InBrief s at b
