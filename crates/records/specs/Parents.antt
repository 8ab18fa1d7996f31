-- Which line of a sheet stands directly in which. Place k holds line k + 1.
use Rattle.std.specs.Prelude.{◌≡◌, List, ℕ, ◌+◌, ◌<◌, length, get_or}
use Rattle.records.specs.NodeRecord.{no_node}
use Rattle.records.specs.declared.NodeRecord.{NodeRecord}

-- the line at p is the parent of the line at i: the nearest earlier line one less deep
pub record Parent (ks : List NodeRecord) (p i : ℕ) : Type 0 where
  pub before : p < i
  pub within : i < length ks
  pub deeper : (get_or ks i no_node).depth ≡ (get_or ks p no_node).depth + 1
  pub between : (k : ℕ) → p < k → k < i → (get_or ks p no_node).depth < (get_or ks k no_node).depth
