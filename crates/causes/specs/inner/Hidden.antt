-- Which entries have no column that is shown, by the causes of their columns.
use Rattle.std.specs.Prelude.{◌≡◌, Bool, true, false, cond, List, [], ◌∷◌, ℕ, suc, ◌+◌, ◌≤◌, ◌<◌, eqb, length, get_or, take, drop}
use Rattle.common.specs.Limits.{max_entries}
use Rattle.records.specs.inner.NodeRecord.{no_entry}
use Rattle.records.specs.declared.Entry.{Entry}
use Rattle.columns.specs.Boxes.{Box}
use Rattle.placement.specs.inner.Rows.{bare_boxes}

-- each of the causes is one: none is 0
unfoldable pub none_shown : List ℕ → Bool
none_shown [] = true
none_shown (c ∷ cs) = cond (eqb c 0) false (none_shown cs)

-- each column of the box has a cause
abbrev pub hidden : List ℕ → Box → Bool
hidden cause b = none_shown (take b.span (drop b.first cause))

-- the numbers of the boxes that are hidden, where the first has the number k
unfoldable pub hidden_from : ℕ → List Box → List ℕ → List ℕ
hidden_from k [] cause = []
hidden_from k (b ∷ bs) cause = cond (hidden cause b) (k ∷ hidden_from (suc k) bs cause) (hidden_from (suc k) bs cause)

-- entries that end within the columns, and a place for the number of each
pub record ListMissingPre (es : List Entry) (cause missing : List ℕ) : Type 0 where
  pub ends : (i : ℕ) → i < length es → (get_or es i no_entry).first + (get_or es i no_entry).span ≤ length cause
  pub few : length es ≤ max_entries
  pub capacity : length es ≤ length missing

-- the hidden ones stand in the first places
pub record ListMissingPost (es : List Entry) (cause missing : List ℕ) (r : ℕ) : Type 0 where
  pub count : r ≡ length (hidden_from 0 (bare_boxes es) cause)
  pub front : take r missing ≡ hidden_from 0 (bare_boxes es) cause
