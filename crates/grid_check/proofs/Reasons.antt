-- What a table's refusal says, and the verdict of its checks.
use mathlib.Core.Path.{◌≡◌, refl, sym, ap₂}
use mathlib.Core.Bool.{Bool, true, false, cond}
use mathlib.Core.List.{List, ◌∷◌, ◌++◌}
use Prim.Native.Nat.{ℕ}
use lib.Dec.{ltb}
use borrow.Author.Tests.{ltb-false, le-ltb}
use Rattle.std.specs.Prelude.{Result, Ok, Err}
use Rattle.common.specs.Limits.{max_entries}
use Rattle.common.specs.Refusals.{Check, refusal, check, first_answer, verdict_of}
use Rattle.common.specs.declared.Reason.{Reason}
use Rattle.common.specs.declared.Reason.TheVariants.{RowEnd, TooManyEntries}
use Rattle.common.specs.declared.Refusal.{Refusal}
use Rattle.resolved_rows.specs.Cells as cells
use Rattle.grid_positions.specs.Positions.{all_rows, ends_past, entry_count}
use Rattle.grid.specs.Grid.{table_checks}
use Rattle.grid.specs.Facts.{Sound}
use Rattle.grid_counts.specs.inner.Count.{count_of}
use Rattle.grid_check.specs.inner.Checking.{refusal_of}

-- the refusal of a line, or what follows
abbrev pub or_rest : Result (Unit {0}) Reason → ℕ → Result (Unit {0}) Refusal → Result (Unit {0}) Refusal
or_rest (Ok x) t rest = rest
or_rest (Err why) t rest = Err (refusal why t)

module _ (table : List cells.Row) where
  abbrev past : Bool
  past = ends_past (all_rows table)

  abbrev many : Bool
  many = ltb max_entries (entry_count (all_rows table))

  abbrev told : Bool → Bool → Result (Unit {0}) Reason
  told p m = cond p (Err RowEnd) (cond m (Err TooManyEntries) (Ok tt))

  -- a table that fits has none
  pub fits_none : Sound table → Ok tt ≡ refusal_of table
  unfolding refusal_of count_of
  fits_none z = sym (ap₂ told z.within (le-ltb max_entries (entry_count (all_rows table)) z.few))

  pub none_sound : refusal_of table ≡ Ok tt → Sound table
  unfolding refusal_of count_of
  none_sound h = go past many refl refl h
    where
      go : (p m : Bool) → past ≡ p → many ≡ m → told p m ≡ Ok tt → Sound table
      go true m a b w = cc
      go false true a b w = cc
      go false false a b w = record { within = a; few = ltb-false max_entries (entry_count (all_rows table)) b }

  -- the verdict of the table's checks and of those that follow
  pub verdict_reason : (t : ℕ) (rest : List Check) → verdict_of (table_checks t table ++ rest) ≡ or_rest (refusal_of table) t (verdict_of rest)
  unfolding verdict_of table_checks first_answer refusal_of count_of
  verdict_reason t rest = go past many
    where
      go : (p m : Bool) → first_answer Err (Ok tt) (check p RowEnd t ∷ check m TooManyEntries t ∷ rest) ≡ or_rest (told p m) t (first_answer Err (Ok tt) rest)
      go true m = refl
      go false true = refl
      go false false = refl
