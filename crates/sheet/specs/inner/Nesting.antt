-- How the lines of a sheet stand in each other: depths, parents, what nests.
use Rattle.std.specs.Prelude.{◌≡◌, true, false, List, ℕ, ◌+◌, ◌≤◌, ◌<◌, length, get_or}
use Rattle.common.specs.Limits.{max_depth}
use Rattle.kinds.specs.Kinds.{is_frame, may_hold, needs_child}
use Rattle.line.specs.Fields.{Line, no_line}
use Rattle.kinds.specs.declared.Kind.{Kind}

-- What holds of the lines of every accepted sheet, for those who walk over them. Place k holds line k + 1.

-- the figures of the line at place k
abbrev pub depth_at : List Line → ℕ → ℕ
depth_at ls k = (get_or ls k no_line).depth

abbrev pub line_kind : List Line → ℕ → Kind
line_kind ls k = (get_or ls k no_line).kind

-- the line at p is the parent of the line at i
pub record Parent (ls : List Line) (p i : ℕ) : Type 0 where
  pub before : p < i
  pub within : i < length ls
  pub deeper : depth_at ls i ≡ depth_at ls p + 1
  pub between : (k : ℕ) → p < k → k < i → depth_at ls p < depth_at ls k

pub record Nested (ls : List Line) : Type 0 where
  pub some : 0 < length ls
  pub top : depth_at ls 0 ≡ 0
  pub first : is_frame (line_kind ls 0) ≡ false
  pub under : (k : ℕ) → 0 < k → k < length ls → 0 < depth_at ls k
  pub shallow : (k : ℕ) → depth_at ls k ≤ max_depth
  pub step : (k : ℕ) → k + 1 < length ls → depth_at ls (k + 1) ≤ depth_at ls k + 1
  pub holds : (p i : ℕ) → Parent ls p i → may_hold (line_kind ls p) (line_kind ls i) ≡ true
  pub filled : (k : ℕ) → k < length ls → needs_child (line_kind ls k) ≡ true →
      (k + 1 < length ls) × (depth_at ls k < depth_at ls (k + 1))
