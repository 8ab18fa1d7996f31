-- A sheet opened: the reader's answer with what is asked after it, and what is kept.
use Rattle.records.specs.declared.NodeRecord.{NodeRecord}
use Rattle.common.specs.declared.Refusal.{Refusal}
use Rattle.std.specs.Prelude.{Err, Ok, Result, Option, Some}
use mathlib.Core.Path.{◌≡◌, refl, sym, ap, ◌∙◌}
use mathlib.Core.Bool.{Bool, true, false, not}
use mathlib.Core.List.{List, ◌++◌}
use Prim.Native.Nat.{ℕ}
use native.Mathlib.Omega.{arith}
use lib.ListN.{length, take}
use Rattle.common.specs.Refusals.{first_answer, passes}
use Rattle.sheet.specs.Sheet.{sheet_lines, sheet_checks}
use Rattle.sheet.specs.inner.Reading.{reading_of, Reads}
use Rattle.common.proofs.Tests.{both}
use Rattle.sheet.proofs.First.{passes_both, first_accepts, first_passes, passes_append}
use Rattle.sheet.proofs.Accepted.{refused_carries, accepted_leaves}
use Rattle.sheet.proofs.Bounds.{accepted_lines}
use Rattle.sheet_load.specs.Opening.{nodes_of, is_table, after_reading, opened_of}
use Rattle.sheet_load.specs.inner.Opened.{OpenLinesPost, OpenSheetPost}
use Rattle.sheet_load.proofs.Ready.{node_count_lem}

-- an accepted sheet that is opened has as many lines as were read, and its tables pass
module _ (asked : Option ℕ) (s : List ℕ) (n : ℕ) (e : opened_of asked s ≡ Ok n) where
  opened_all : (passes (sheet_checks s ++ after_reading asked (nodes_of s)) ≡ true) × (◌≡◌ {A = Result ℕ Refusal} (Ok (length (sheet_lines s))) (Ok n))
  unfolding opened_of
  opened_all =
      first_accepts Err (Ok (length (sheet_lines s))) (Ok n) (sheet_checks s ++ after_reading asked (nodes_of s))
      (λ why f. let z : ◌≡◌ {A = ℕ} 0 1 = cc in omega arith) e

  opened_parts : (passes (sheet_checks s) ≡ true) × (passes (after_reading asked (nodes_of s)) ≡ true)
  opened_parts =
      both (passes (sheet_checks s)) (passes (after_reading asked (nodes_of s)))
      (sym (passes_append (sheet_checks s) (after_reading asked (nodes_of s))) ∙ opened_all.0)

  -- it is accepted by the reader
  pub opened_reads : reading_of s ≡ Ok n
  unfolding reading_of
  opened_reads = first_passes Err (Ok (length (sheet_lines s))) (sheet_checks s) opened_parts.0 ∙ opened_all.1

  -- the line that is asked for is a table
  pub opened_asked : (line : ℕ) → asked ≡ Some line → is_table (nodes_of s) line ≡ true
  unfolding after_reading
  opened_asked line q = double (is_table (nodes_of s) line) (passes_both _ _ (rw q at opened_parts.1)).0
    where
      double : (b : Bool) → not b ≡ false → b ≡ true
      double true h = refl
      double false h = sym h

module _ {asked : Option ℕ} {s : List ℕ} {lines : List NodeRecord} {q : Result ℕ Refusal} (w : Reads s q lines) where
  pub opened_refused : (why : Refusal) → q ≡ Err why → OpenSheetPost asked s (Err why) lines
  unfolding opened_of
  opened_refused why e = record {
    answer = sym (refused_carries Err (Ok (length (sheet_lines s))) s why _ (sym w.answer ∙ e));
    holds = λ n f. let z : ◌≡◌ {A = ℕ} 0 1 = cc in absurd (omega arith);
    sound = λ n f. let z : ◌≡◌ {A = ℕ} 0 1 = cc in absurd (omega arith);
  }

  pub opened_read : (n : ℕ) → q ≡ Ok n → (r : Result ℕ Refusal) → OpenLinesPost asked (take n lines) r → OpenSheetPost asked s r lines
  unfolding opened_of
  opened_read n e r t₀ =
      let a : reading_of s ≡ Ok n = sym w.answer ∙ e in
      let t : OpenLinesPost asked (nodes_of s) r = rw (w.stored n e) at t₀ in
      let answer : r ≡ opened_of asked s
      = t.answer
      ∙ ap (λ (m : ℕ). first_answer Err (Ok m) (after_reading asked (nodes_of s))) (sym (node_count_lem s n a) ∙ (accepted_lines s n a).0)
      ∙ sym (accepted_leaves Err (Ok (length (sheet_lines s))) s n (after_reading asked (nodes_of s)) a) in
      record {
        answer = answer;
        holds = λ m f.
            let z : ◌≡◌ {A = Result ℕ Refusal} (Ok n) (Ok m) = sym a ∙ opened_reads asked s m (sym answer ∙ f) in
            let k : n ≡ m = cc in
            ap (λ (i : ℕ). take i lines) (sym k) ∙ w.stored n e;
        sound = t.sound;
      }
