-- The loop over the lines with its slices: what each call asks for is there, and the answers.
use Rattle.common.specs.Refusals.{refusal}
use Rattle.common.specs.declared.Reason.TheVariants.{TooNarrow}
use Rattle.std.specs.Prelude.{Err, Ok, Option, None}
use mathlib.Core.Path.{◌≡◌}
use mathlib.Core.Bool.{Bool, true, false, ◌&&◌}
use mathlib.Core.List.{List}
use Prim.Native.Nat.{ℕ, ◌+◌, ◌≤◌, ◌<◌}
use native.Mathlib.Omega.{arith}
use lib.Dec.{eqb}
use lib.ListN.{length, get_or, take, replicate}
use Rattle.common.specs.Limits.{max_size, depths}
use Rattle.text.specs.declared.Estimate.{Estimate}
use Rattle.records.specs.NodeRecord.{no_node}
use Rattle.records.specs.declared.NodeRecord.{NodeRecord}
use Rattle.estimates.specs.Estimates.{none, estimates}
use Rattle.available_width.specs.Walk.{too_narrow}
use Rattle.width_walk.specs.inner.Steps.{Walkable, HandOutPre, HandOutPost, StepPre, StepPost, WalkLinesPre, Walked}
use Rattle.width_walk.proofs.Clear.{none_at}
use Rattle.width_walk.proofs.WalkLoop.{Sofar, start, stop, step_small, turn_refused, turn}

-- whatever the wrap of the estimates was
abbrev pub SofarAny : List NodeRecord → List Estimate → ℕ → ℕ → ℕ → List (Option ℕ) → List (Option ℕ) → ℕ → Type 0
SofarAny ks figures raw root overflow ps qs i =
    (p : Walkable ks figures) (wrap : ℕ) (same : take (length ks) figures ≡ estimates wrap ks) → Sofar p wrap same raw root overflow ps qs i

module _ (lines : List NodeRecord) (figures : List Estimate) (walk₀ : List (Option ℕ)) (p : Walkable lines figures) (c : WalkLinesPre (length lines) walk₀) where
  pub figure_in : {i : ℕ} → i < length lines → i < length figures
  figure_in h = omega (arith, p.measured.enough)

  pub line_here : (walk passed : List (Option ℕ)) {i : ℕ} → length walk ≡ length walk₀ → length passed ≡ depths → i < length lines → StepPre lines figures walk passed i
  line_here walk passed {i} e f h = record {
    within = omega arith;
    figure_in = figure_in h;
    place_in = omega (arith, c.line_capacity);
    depth_in = omega (arith, p.lined.shallow i);
  }

  pub walk_capacity : (walk : List (Option ℕ)) → length walk ≡ length walk₀ → length lines ≤ length walk
  walk_capacity walk e = omega (arith, c.line_capacity)

  passed_capacity : (passed : List (Option ℕ)) → length passed ≡ depths → depths ≤ length passed
  passed_capacity passed e = omega arith

  module _ (raw root overflow : ℕ) (small : root ≤ max_size) where
    pub started : SofarAny lines figures raw root overflow walk₀ (replicate depths None) 0
    started q wrap same = start q wrap same raw root overflow c (none_at depths)

    module _ (walk passed : List (Option ℕ)) (e : length walk ≡ length walk₀) (f : length passed ≡ depths) (i : ℕ)
        (z : SofarAny lines figures raw root overflow walk passed i) where
      pub walked_all : length lines ≤ i → Walked lines figures raw root overflow (Ok tt) walk
      walked_all h = record {
        answer = λ wrap same. (stop p wrap same small (z p wrap same) h (walk_capacity walk e)).0;
        widths = λ wrap same _. (stop p wrap same small (z p wrap same) h (walk_capacity walk e)).1;
        small = λ wrap same _. (stop p wrap same small (z p wrap same) h (walk_capacity walk e)).2;
      }

      module _ (h : i < length lines) (w : Option ℕ) (ps qs : List (Option ℕ))
          (s : StepPost lines figures root i w walk passed ps qs) where
        pub hand_ready : HandOutPre lines i w
        hand_ready = record { within = h; small = step_small p p.measured.wrap p.measured.figures_are small (z p p.measured.wrap p.measured.figures_are) h s }

        module _ (b : Bool) (o : b ≡ (eqb overflow 0 && too_narrow (get_or lines i no_node).kind (get_or figures i none) w)) where
          pub walked_refused : b ≡ true → (last : List (Option ℕ)) → Walked lines figures raw root overflow (Err (refusal TooNarrow (i + 1))) last
          walked_refused t last = record {
            answer = λ wrap same. turn_refused p wrap same small (z p wrap same) h s b o t;
            widths = λ wrap same a. let x : ◌≡◌ {A = ℕ} 0 1 = cc in absurd (omega arith);
            small = λ wrap same a. let x : ◌≡◌ {A = ℕ} 0 1 = cc in absurd (omega arith);
          }

          pub walked_on : b ≡ false → (last : List (Option ℕ)) → HandOutPost lines i figures raw w ps last
              → SofarAny lines figures raw root overflow last qs (i + 1)
          walked_on t last g q wrap same = turn q wrap same small (z q wrap same) h s g (walk_capacity walk e) (passed_capacity passed f) b o t
