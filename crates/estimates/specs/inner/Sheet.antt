-- A sheet's lines as the estimates take them: they nest, and their numbers are in range. Place k holds line k + 1.
use Rattle.std.specs.Prelude.{◌≡◌, true, false, List, map, ℕ, ◌+◌, ◌≤◌, ◌<◌, length, get_or}
use Rattle.common.specs.Lists.{sum}
use Rattle.common.specs.Limits.{max_lines, max_depth}
use Rattle.text.specs.Decimal.{shift}
use Rattle.kinds.specs.Kinds.{kind_number, head_kind, ol_kind, is_frame, may_hold}
use Rattle.records.specs.Parents.{Parent}
use Rattle.records.specs.NodeRecord.{no_node}
use Rattle.records.specs.declared.NodeRecord.{NodeRecord}

-- the line at a place
abbrev pub line_at : List NodeRecord → ℕ → NodeRecord
line_at ls k = get_or ls k no_node

abbrev pub own_of : NodeRecord → ℕ
own_of l = l.own

-- of the largest size, what the lines' own texts may take together: each of the 4,096 lines may add 4,096
abbrev pub max_own : ℕ
max_own = 16777216

pub record Sheet (ls : List NodeRecord) : Type 0 where
  pub some : 0 < length ls
  pub short : length ls ≤ max_lines
  -- one line of depth 0, the first; each other has a parent that may hold it
  pub top : (line_at ls 0).depth ≡ 0
  pub root : is_frame (line_at ls 0).kind ≡ false
  pub under : (k : ℕ) → 0 < k → k < length ls → 0 < (line_at ls k).depth
  pub shallow : (k : ℕ) → (line_at ls k).depth ≤ max_depth
  pub step : (k : ℕ) → k + 1 < length ls → (line_at ls (k + 1)).depth ≤ (line_at ls k).depth + 1
  pub holds : (p i : ℕ) → Parent ls p i → may_hold (line_at ls p).kind (line_at ls i).kind ≡ true
  -- the numbers of headings and lists, shifted up
  pub rank_low : (k : ℕ) → kind_number (line_at ls k).kind ≡ head_kind → shift ≤ (line_at ls k).number
  pub rank_high : (k : ℕ) → kind_number (line_at ls k).kind ≡ head_kind → (line_at ls k).number ≤ shift + 6
  pub start : (k : ℕ) → kind_number (line_at ls k).kind ≡ ol_kind → (line_at ls k).number ≤ 2000000000
  -- sizes have room
  pub capacity : sum (map own_of ls) ≤ max_own
