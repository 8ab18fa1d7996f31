-- No call answers 7. A list of checks none of which is of 7 never leads to a refusal of 7, and the checks of no call are.
use Rattle.common.specs.declared.Refusal.{Refusal}
use Rattle.common.specs.declared.Reason.TheVariants.{Setting, TextByte, TooLong}
use Rattle.std.specs.Prelude.{Result, Ok, Err, Option, None, Some}
use mathlib.Core.Path.{◌≡◌, sym, ap, ◌∙◌}
use mathlib.Core.Bool.{Bool, true, false, cond}
use mathlib.Core.List.{List, [], ◌∷◌}
use Prim.Native.Nat.{ℕ}
use native.Mathlib.Omega.{arith}
use Rattle.common.specs.Lists.{All}
use Rattle.common.specs.Refusals.{reason_number, Check, first_answer, verdict_of}
use Rattle.text.specs.Text.{measure_of}
use Rattle.sheet_figures.proofs.Never.{Other, no_more, more, check_other}
use Rattle.grid.proofs.Seven.{seven_never}
use Rattle.call_estimates.specs.Estimates.{estimated_of}
use Rattle.call_grid.specs.Grid.{gridded_of}
use Rattle.call_layout.specs.Layout.{laid_out_of}
use Rattle.call_missing.specs.Missing.{explained_of}
use Rattle.call_missing.proofs.Never.{missing_other}
use Rattle.call_preview.specs.Preview.{pointed_of, listed_of, joined_of}
use Rattle.call_preview.proofs.Never.{point_other, within_other}
use Rattle.call_walk.specs.Walks.{walked_of}
use Rattle.call_nested.specs.Nested.{answer_at, nested_of, width_to}
use Rattle.call_window.specs.Window.{window_of}
use Rattle.call_window.proofs.Never.{window_other}
use Rattle.call_spoken.proofs.Never.{spoken_other}
use Rattle.call_joined.specs.Joined.{joined_grid_of, joined_layout_of}
use Rattle.call_joined.proofs.Never.{joined_grid_other, joined_layout_other, joined_spoken_other}
use Rattle.refusal_theorems.specs.NoSeven.{NotSeven, NoSeven, EndsAreEdges}
use Rattle.refusal_theorems.proofs.Checks.{walk_other, nested_other, estimates_other, grid_other, layout_other}

of_ok : {A : Type 0} (x : A) → NotSeven (Ok x)
of_ok x why e q = cc

by_checks : {A : Type 0} (accepted : Result A Refusal) (cs : List Check) → NotSeven accepted → All Other cs → NotSeven (first_answer Err accepted cs)
unfolding All first_answer
by_checks accepted [] n p = n
by_checks {A} accepted (c ∷ cs) n p = go c.applies (by_checks accepted cs n p.1)
  where
    go : (b : Bool) → NotSeven (first_answer Err accepted cs) → NotSeven (cond b (Err c.refusal) (first_answer Err accepted cs))
    go true r = λ why e q.
        let d : ◌≡◌ {A = Result A Refusal} (Err c.refusal) (Err why) = e in
        let same : c.refusal ≡ why = cc in
        p.0 (ap (λ w. reason_number w.reason) same ∙ q)
    go false r = r

of_nested : (s : List ℕ) (line wrap raw : ℕ) (w : Option ℕ) → NotSeven (answer_at s line wrap raw w)
unfolding answer_at
of_nested s line wrap raw None = of_ok _
of_nested s line wrap raw (Some v) = of_ok _

-- what is equal to such an answer is one
same : {A : Type 0} (r t : Result A Refusal) → r ≡ t → NotSeven t → NotSeven r
same r t e n why f q = n why (sym e ∙ f) q

of_measure : (text : List ℕ) (wrap : ℕ) (img : Bool) → NotSeven (measure_of text wrap img)
unfolding measure_of
of_measure text wrap img =
    by_checks _ _ (of_ok _) (more Setting (λ q. omega (arith, q)) _ _ _ (more TooLong (λ q. omega (arith, q)) _ _ _ (more TextByte (λ q. omega (arith, q)) _ _ _ no_more)))

pub no_seven : NoSeven
unfolding verdict_of estimated_of gridded_of laid_out_of explained_of pointed_of listed_of joined_of walked_of nested_of window_of joined_grid_of joined_layout_of
no_seven = record {
  check = λ s r e. same r _ e (by_checks _ _ (of_ok _) (check_other s));
  measure = λ t wrap img r e. same r _ e (of_measure t wrap img);
  estimates = λ s wrap a b c r x y z e. same r _ e.answer (by_checks _ _ (of_ok _) (estimates_other s wrap _));
  grid = λ s line a b c d f r x y z v w e. same r _ e.answer (by_checks _ _ (of_ok _) (grid_other s line _ _));
  layout = λ s line wrap raw width a b c r x y z e. same r _ e.answer (by_checks _ _ (of_ok _) (layout_other s line wrap raw width _ _));
  missing = λ s line wrap raw width a b r x y e. same r _ e.answer (by_checks _ _ (of_ok _) (missing_other s line wrap raw width _ _));
  at = λ s line wrap raw width row x r e. same r _ e (by_checks _ _ (of_ok _) (point_other s line wrap raw width row));
  within = λ s line wrap raw width row from to a r x e. same r _ e.answer (by_checks _ _ (of_ok _) (within_other s line wrap raw width row _));
  joining = λ s line wrap raw width row x r e. same r _ e (by_checks _ _ (of_ok _) (point_other s line wrap raw width row));
  walk = λ s wrap raw width overflow a b r x y e. same r _ e.answer (by_checks _ _ (of_ok _) (walk_other s wrap raw width overflow _));
  nested = λ s line wrap raw width overflow a b c r x y z e.
      same r _ e.answer (by_checks _ _ (of_nested s line wrap raw (width_to s line wrap raw width)) (nested_other s line wrap raw width overflow _ _));
  window = λ s line wrap raw widths a b c r x y z e. same r _ e.answer (by_checks _ _ (of_ok _) (window_other s line wrap raw widths _));
  spoken = λ s line e wording text r a. same r _ a.verdict_is (by_checks _ _ (of_ok _) (spoken_other s line e));
  joined_grid = λ s left right a b c d f r x y z v w e. same r _ e.answer_is (by_checks _ _ (of_ok _) (joined_grid_other s left right _ _));
  joined_layout = λ s left right wrap raw width a b c r x y z e.
      same r _ e.answer_is (by_checks _ _ (of_ok _) (joined_layout_other s left right wrap raw width _ _));
  joined_spoken = λ s left right e wording text r a. same r _ a.verdict_is (by_checks _ _ (of_ok _) (joined_spoken_other s left right e));
}

pub ends_are_edges : EndsAreEdges
ends_are_edges = seven_never
