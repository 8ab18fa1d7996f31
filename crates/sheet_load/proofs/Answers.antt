-- What is answered after reading: 10 where a line is asked for amiss, else the verdict on the tables.
use Rattle.common.specs.declared.Reason.TheVariants.{NoTable}
use Rattle.common.specs.declared.Refusal.{Refusal}
use Rattle.std.specs.Prelude.{Err, Ok, Result, Option, None, Some}
use mathlib.Core.Path.{◌≡◌, refl, sym, ◌∙◌}
use mathlib.Core.Bool.{true, false, ◌&&◌}
use mathlib.Core.List.{List}
use Prim.Native.Nat.{ℕ, ◌-◌, ◌≤◌, ◌<◌}
use native.Mathlib.Omega.{arith}
use lib.Dec.{leb, eqb}
use lib.ListN.{length, get_or}
use borrow.Author.Tests.{not-true, not-false, le-leb, lt-leb, leb-true, eqb-true}
use Rattle.common.specs.Refusals.{Check, first_answer, verdict_of, refusal}
use Rattle.kinds.specs.Kinds.{kind_number, table_kind}
use Rattle.records.specs.NodeRecord.{no_node}
use Rattle.records.specs.declared.NodeRecord.{NodeRecord}
use Rattle.common.proofs.Tests.{both}
use Rattle.sheet.proofs.First.{first_told}
use Rattle.grid.specs.Grid.{tables_checks}
use Rattle.grid_check.specs.inner.Checking.{TablesChecked}
use Rattle.sheet_load.specs.Opening.{is_table, after_reading}
use Rattle.sheet_load.specs.inner.Opened.{Apt, asks_no_table, OpenLinesPost}

-- the test of a line, case by case
module _ (ks : List NodeRecord) (line : ℕ) where
  pub no_line : line ≡ 0 → false ≡ is_table ks line
  unfolding is_table
  no_line e = rw e

  pub past_lines : (line ≡ 0 → ⊥) → length ks ≤ line - 1 → false ≡ is_table ks line
  unfolding is_table
  past_lines z h = rw (le-leb 1 line (omega arith), lt-leb line (length ks) (omega arith))

  pub at_line : (line ≡ 0 → ⊥) → line - 1 < length ks → eqb (kind_number (get_or ks (line - 1) no_node).kind) table_kind ≡ is_table ks line
  unfolding is_table
  at_line z h = rw (le-leb 1 line (omega arith), le-leb line (length ks) (omega arith))

module _ {A : Type 0} (refused : Refusal → A) (accepted : A) (ks : List NodeRecord) where
  amiss : (asked : Option ℕ) → asks_no_table asked ks ≡ true → first_answer refused accepted (after_reading asked ks) ≡ refused (refusal NoTable 0)
  unfolding asks_no_table after_reading first_answer
  amiss (Some line) h = rw (not-true (is_table ks line) h)
  amiss None h = let z : ◌≡◌ {A = ℕ} 0 1 = cc in absurd (omega arith)

  apt : (asked : Option ℕ) → asks_no_table asked ks ≡ false → first_answer refused accepted (after_reading asked ks) ≡ first_answer refused accepted (tables_checks 1 ks)
  unfolding asks_no_table after_reading first_answer
  apt (Some line) h = rw (not-false (is_table ks line) h)
  apt None h = refl

pub table_apt : (ks : List NodeRecord) (line : ℕ) → is_table ks line ≡ true → Apt ks line
unfolding is_table
table_apt ks line e =
    let (front, kind) = both (leb 1 line && leb line (length ks)) (eqb (kind_number (get_or ks (line - 1) no_node).kind) table_kind) e in
    let (low, high) = both (leb 1 line) (leb line (length ks)) front in
    record { from_one = leb-true 1 line low; within = leb-true line (length ks) high; kind = eqb-true _ _ kind }

-- a verdict as a reading of n lines
abbrev pub told_as : ℕ → Result (Unit {0}) Refusal → Result ℕ Refusal
told_as n (Ok tt) = Ok n
told_as n (Err why) = Err why

told_first : (n : ℕ) (cs : List Check) → told_as n (verdict_of cs) ≡ first_answer Err (Ok n) cs
unfolding verdict_of
told_first n cs = first_told (told_as n) Err (Ok tt) cs

told_lines : (n m : ℕ) (v : Result (Unit {0}) Refusal) → told_as n v ≡ Ok m → v ≡ (Ok tt)
told_lines n m (Ok tt) e = refl
told_lines n m (Err why) e = let z : ◌≡◌ {A = ℕ} 0 1 = cc in absurd (omega arith)

module _ {asked : Option ℕ} {ks : List NodeRecord} where
  pub opened_amiss : asks_no_table asked ks ≡ true → OpenLinesPost asked ks (Err (refusal NoTable 0))
  opened_amiss h = record {
    answer = sym (amiss Err (Ok (length ks)) ks asked h);
    sound = λ n e. let z : ◌≡◌ {A = ℕ} 0 1 = cc in absurd (omega arith);
  }

  pub opened_checked : {v : Result (Unit {0}) Refusal} (n : ℕ) → n ≡ length ks → (r : Result ℕ Refusal) → r ≡ told_as n v → asks_no_table asked ks ≡ false
      → TablesChecked ks v → OpenLinesPost asked ks r
  opened_checked {v} n q r t h j = record {
    answer =
        t ∙ (λ i. told_as (q i) (j.answer i)) ∙ told_first (length ks) (tables_checks 1 ks) ∙ sym (apt Err (Ok (length ks)) ks asked h);
    sound = λ m e. j.sound (told_lines n m v (sym t ∙ e));
  }
