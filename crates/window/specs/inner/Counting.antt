-- How many of a table's entries are missing, where its columns have their final widths: counted by how many columns before each are not 0 wide.
use Rattle.std.specs.Prelude.{◌≡◌, Bool, List, ℕ, suc, ◌+◌, ◌≤◌, ◌<◌, eqb, length, get_or, take, drop}
use Rattle.std.specs.List.{count_by}
use Rattle.common.specs.Limits.{max_position, max_entries}
use Rattle.records.specs.inner.NodeRecord.{no_entry}
use Rattle.records.specs.declared.Entry.{Entry}
use Rattle.cutting.specs.Cut.{at}
use Rattle.widths.specs.Widths.{nonzero}

-- how many of the first j columns are not 0 wide
abbrev pub nonzero_before : List ℕ → ℕ → ℕ
nonzero_before column j = nonzero (take j column)

-- each column of the entry is 0 wide
abbrev pub none_wide : List ℕ → Entry → Bool
none_wide column e = eqb (nonzero (take e.span (drop e.first column))) 0

-- the entry ends with the count that it begins with
abbrev pub none_counted : List ℕ → Entry → Bool
none_counted before e = eqb (at before e.first) (at before (e.first + e.span))

-- how many entries are missing, by the final widths of the columns, and by the counts
abbrev pub missing_count : List ℕ → List Entry → ℕ
missing_count column es = count_by (none_wide column) es

abbrev pub missing_by : List ℕ → List Entry → ℕ
missing_by before es = count_by (none_counted before) es

-- a place for each count: one more than there are columns
pub record CountBeforePre (column before : List ℕ) : Type 0 where
  pub places : length before ≡ suc (length column)
  pub few : length column ≤ max_position

-- a count for where each entry begins and ends
pub record CountMissingPre (es : List Entry) (before : List ℕ) : Type 0 where
  pub ends : (i : ℕ) → i < length es → (get_or es i no_entry).first + (get_or es i no_entry).span < length before

-- each entry has a column, and ends within so many
pub record Spanned (es : List Entry) (columns : ℕ) : Type 0 where
  pub some : (i : ℕ) → i < length es → 1 ≤ (get_or es i no_entry).span
  pub ends : (i : ℕ) → i < length es → (get_or es i no_entry).first + (get_or es i no_entry).span ≤ columns

-- so few entries that they can be counted in 32 bits, within the columns, and a place for each count of these
pub record MissingInPre (es : List Entry) (column before : List ℕ) : Type 0 where
  pub spanned : Spanned es (length column)
  pub few : length es ≤ max_entries
  pub counts : CountBeforePre column before
