-- The records that a sheet was read into, the widths of its lines, and its tables; and the settings of a walk.
use Rattle.arguments.specs.declared.Settings.{Settings}
use Rattle.settings.specs.declared.Given.{Given}
use Rattle.std.specs.Prelude.{◌≡◌, List, ℕ, ◌≤◌, ◌<◌, length, get_or, Option, None, Some}
use Rattle.common.specs.Limits.{max_size}
use Rattle.kinds.specs.Kinds.{kind_number, table_kind}
use Rattle.records.specs.NodeRecord.{no_node}
use Rattle.records.specs.declared.NodeRecord.{NodeRecord}

-- the line at a place is a table
pub record TableAt (ks : List NodeRecord) (at : ℕ) : Type 0 where
  pub within : at < length ks
  pub kind : kind_number (get_or ks at no_node).kind ≡ table_kind

-- the widths of so many lines, at which tables can be laid out
pub record WalkNarrow (n : ℕ) (walk : List (Option ℕ)) : Type 0 where
  pub capacity : n ≤ length walk
  pub small : (k width : ℕ) → k < n → get_or walk k None ≡ Some width → width ≤ max_size

-- the settings that an input gives, with no width that overflows
pub record AsGiven (g : Given) (s : Settings) : Type 0 where
  pub wrap : s.wrap ≡ g.wrap
  pub raw : s.raw ≡ g.raw
  pub width : s.width ≡ g.width
  pub overflow : s.overflow ≡ 0
