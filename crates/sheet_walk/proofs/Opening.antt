-- A sheet that was opened and measured can be walked, and what is told of its lines is told of the sheet.
use Rattle.common.specs.declared.Refusal.{Refusal}
use Rattle.std.specs.Prelude.{Err, Ok, Result, Option}
use mathlib.Core.Path.{◌≡◌, sym, ap, ◌∙◌}
use mathlib.Core.List.{List, [], append-nil}
use Prim.Native.Nat.{ℕ, ◌≤◌}
use native.Mathlib.Omega.{arith}
use lib.ListN.{length, get_or, take}
use lib.Seq.{get_or-take, length-take-le}
use Rattle.common.specs.Refusals.{Check, first_answer, verdict_of}
use Rattle.text.specs.declared.Estimate.{Estimate}
use Rattle.records.specs.declared.NodeRecord.{NodeRecord}
use Rattle.sheet.specs.Sheet.{sheet_lines}
use Rattle.sheet.specs.inner.Steps.{line_bound}
use Rattle.sheet.proofs.First.{first_passes, first_after, first_carries, accepted_passes}
use Rattle.estimates.specs.Estimates.{none, estimates}
use Rattle.estimates.specs.inner.Sheet.{Sheet}
use Rattle.sheet_load.specs.Opening.{nodes_of, open_checks, opened_of}
use Rattle.sheet_load.specs.inner.Measures.{MeasureSheetPost}
use Rattle.sheet_load.proofs.Ready.{nodes_lined}
use Rattle.sheet_load.proofs.Measurable.{front_measurable}
use Rattle.sheet_load.proofs.Passing.{Passed, passed}
use Rattle.table_layout.proofs.Grids.{all_measured}
use Rattle.available_width.specs.Walk.{narrow_checks}
use Rattle.width_walk.specs.inner.Steps.{Walkable}
use Rattle.width_walk.specs.inner.Steps as steps
use Rattle.sheet_walk.specs.inner.Found.{OpenMeasuredPost, WalkSheetPost}

-- ---- opened and measured

module _ {asked : Option ℕ} {s : List ℕ} {wrap : ℕ} {r : Result ℕ Refusal} {lines : List NodeRecord} {figures : List Estimate} (m : MeasureSheetPost asked s wrap r lines figures)
    (a : line_bound s ≤ length lines) (c : line_bound s ≤ length figures) where
  sheet_here : (n : ℕ) → r ≡ Ok n → Sheet (nodes_of s)
  sheet_here n e = rw (m.opened.holds n e) at (front_measurable m.opened n e {fs = figures} a c).1.sheet

  pub sheet_opened : OpenMeasuredPost asked s wrap r lines figures
  sheet_opened = record {
    answer = m.opened.answer;
    holds = m.opened.holds;
    sheet = sheet_here;
    sound = λ n e. (m.opened.sound n e).at;
    measured = m.measured;
  }

-- ---- its lines

module _ {asked : Option ℕ} {s : List ℕ} {wrap : ℕ} {r : Result ℕ Refusal} {lines : List NodeRecord} {figures : List Estimate} (o : OpenMeasuredPost asked s wrap r lines figures) where
  pub opened_passed : (n : ℕ) → r ≡ Ok n → Passed asked s n
  opened_passed n e = passed asked s n (sym o.answer ∙ e)

  module _ (a : line_bound s ≤ length lines) (c : line_bound s ≤ length figures) where
    lines_walkable : (n : ℕ) → r ≡ Ok n → Walkable (nodes_of s) figures
    lines_walkable n e =
        let p = opened_passed n e in
        let m = o.measured n e in
        record {
          lined = nodes_lined s n p.reading;
          sheet = o.sheet n e;
          sound = o.sound n e;
          measured = all_measured wrap (nodes_of s) figures m.figures (omega (arith, p.capacity, p.kept)) m.sound;
          small = λ k h.
              let f = sym (get_or-take (length (nodes_of s)) figures k none h) ∙ ap (λ (l : List Estimate). get_or l k none) m.figures in
              omega (arith, ap (λ (x : Estimate). x.least) f, (m.sound k h).small, (m.sound k h).least_size);
        }

    -- the lines are the first records, and can be walked
    pub front : (n : ℕ) → r ≡ Ok n → (n ≤ length lines) × Walkable (take n lines) figures
    front n e = (omega (arith, (opened_passed n e).capacity), rw (o.holds n e) (lines_walkable n e))

    pub front_capacity : (ps : List (Option ℕ)) → line_bound s ≤ length ps → (n : ℕ) → r ≡ Ok n → length (take n lines) ≤ length ps
    front_capacity ps d n e = omega (arith, length-take-le n lines (front n e).0, (opened_passed n e).capacity)

-- ---- what is told of its lines is told of the sheet

module _ {asked : Option ℕ} {s : List ℕ} {wrap raw width overflow : ℕ} {read : Result ℕ Refusal} {lines : List NodeRecord} {figures : List Estimate} {ps : List (Option ℕ)}
    (o : OpenMeasuredPost asked s wrap read lines figures) where
  pub walk_refused : {why : Refusal} → read ≡ Err why → WalkSheetPost asked s wrap raw width overflow (Err why) lines figures ps
  unfolding opened_of
  walk_refused {why} e = record {
    answer =
        sym
        (first_carries Err (Ok (length (sheet_lines s))) Err (Ok (length (sheet_lines s))) why (λ w f. cc) (λ f. let z : ◌≡◌ {A = ℕ} 0 1 = cc in omega arith) (open_checks asked s)
        (narrow_checks wrap raw width overflow (nodes_of s)) (sym o.answer ∙ e));
    opened = λ k f. let z : ◌≡◌ {A = ℕ} 0 1 = cc in absurd (omega arith);
    widths = λ k f. let z : ◌≡◌ {A = ℕ} 0 1 = cc in absurd (omega arith);
    small = λ k f. let z : ◌≡◌ {A = ℕ} 0 1 = cc in absurd (omega arith);
  }

  module _ (n : ℕ) (e : read ≡ Ok n) (h : n ≤ length lines) (v : Result (Unit {0}) Refusal) (w₀ : steps.Walked (take n lines) figures raw width overflow v ps) where
    abbrev ks : List NodeRecord
    ks = nodes_of s

    w : steps.Walked (nodes_of s) figures raw width overflow v ps
    w = rw (o.holds n e) at w₀

    p : Passed asked s n
    p = opened_passed o n e

    same : take (length (nodes_of s)) figures ≡ estimates wrap (nodes_of s)
    same = (o.measured n e).figures

    verdict_is : v ≡ verdict_of (narrow_checks wrap raw width overflow ks)
    verdict_is = w.answer wrap same

    pub walk_accepted : v ≡ (Ok tt) → WalkSheetPost asked s wrap raw width overflow (Ok n) lines figures ps
    walk_accepted a = record {
      answer =
          ap (λ (k : ℕ). Ok k) p.count
          ∙ sym (first_passes Err (Ok (length (sheet_lines s))) (narrow_checks wrap raw width overflow ks) (accepted_passes _ (sym verdict_is ∙ a)))
          ∙ sym (first_after Err (Ok (length (sheet_lines s))) (open_checks asked s) (narrow_checks wrap raw width overflow ks) p.all);
      opened = λ k f. let z : n ≡ k = cc in rw (← z) (rw e at o);
      widths = λ k f. let z : n ≡ k = cc in rw (← z) (ap (λ (m : ℕ). take m ps) p.kept ∙ w.widths wrap same a);
      small = λ k f. w.small wrap same a;
    }

    pub walk_narrow : {why : Refusal} → v ≡ Err why → WalkSheetPost asked s wrap raw width overflow (Err why) lines figures ps
    unfolding verdict_of
    walk_narrow {why} a = record {
      answer =
          sym (told (narrow_checks wrap raw width overflow ks) (sym verdict_is ∙ a))
          ∙ sym (first_after Err (Ok (length (sheet_lines s))) (open_checks asked s) (narrow_checks wrap raw width overflow ks) p.all);
      opened = λ k f. let z : ◌≡◌ {A = ℕ} 0 1 = cc in absurd (omega arith);
      widths = λ k f. let z : ◌≡◌ {A = ℕ} 0 1 = cc in absurd (omega arith);
      small = λ k f. let z : ◌≡◌ {A = ℕ} 0 1 = cc in absurd (omega arith);
    }
      where
        told : (cs : List Check) → first_answer Err (Ok (tt {0})) cs ≡ Err why → first_answer Err (Ok (length (sheet_lines s))) cs ≡ Err why
        told cs q =
            ap (first_answer Err (Ok (length (sheet_lines s)))) (sym (append-nil cs))
            ∙ first_carries Err (Ok (tt {0})) Err (Ok (length (sheet_lines s))) why (λ w f. cc) (λ f. let z : ◌≡◌ {A = ℕ} 0 1 = cc in omega arith) cs [] q
