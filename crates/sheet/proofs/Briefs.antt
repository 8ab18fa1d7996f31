-- Lines as they are kept: what the code's answer says of a line by itself, and after the lines before it.
use mathlib.Core.Path.{◌≡◌, sym, ap}
use mathlib.Core.Bool.{Bool, cond}
use mathlib.Core.List.{List}
use Prim.Native.Nat.{ℕ, ◌≤◌}
use native.Mathlib.Omega.{arith}
use Rattle.kinds.specs.declared.Kind.{Kind}
use Rattle.std.specs.Prelude.{Ok, Err}
use Rattle.common.specs.declared.Reason.{Reason}
use Rattle.common.specs.declared.Reason.TheVariants.{Nesting}
use Rattle.common.specs.Limits.{max_depth}
use Rattle.records.specs.declared.NodeRecord.{NodeRecord}
use Rattle.line.specs.inner.LineAt.{LineRead, line_at}
use Rattle.line.specs.declared.Node.{Node}
use Rattle.line.proofs.Told.{good_line}
use Rattle.line_fast.specs.inner.Briefs.{Brief, BriefPost}
use Rattle.sheet.specs.inner.Steps.{breaks_nesting, nesting_checked, Answers}

-- a line as it is kept has its depth and its kind

module _ {node : Node} {b : Brief} (w : BriefPost node b) where
  pub depth_of : b.value.depth ≡ node.depth
  depth_of = ap (λ (k : NodeRecord). k.depth) w.kept

  pub kind_of : b.value.kind ≡ node.kind
  kind_of = ap (λ (k : NodeRecord). k.kind) w.kept

-- answers

pub sound_answers : {j : LineRead} (b : Brief) (node : Node) → j ≡ Ok node → BriefPost node b → Answers j (Ok b)
sound_answers b node e w =
    record {
      refused = λ why f. let z : ◌≡◌ {A = ℕ} 0 1 = cc in absurd (omega arith);
      kept = λ c f. let g : b ≡ c = cc in (node, e, rw (sym g) w);
    }

pub faulty_answers : {j : LineRead} (why : Reason) → j ≡ Err why → Answers j (Err why)
faulty_answers why e =
    record {
      refused = λ w f. let g : why ≡ w = cc in rw (sym g) e;
      kept = λ b f. let z : ◌≡◌ {A = ℕ} 0 1 = cc in absurd (omega arith);
    }

-- from a line by itself to the line after others

pub read_deep : (s : List ℕ) (at : ℕ) (v : Node) (b : Brief) → line_at s at ≡ Ok v → BriefPost v b → b.value.depth ≤ max_depth
read_deep s at v b e w = omega (arith, depth_of w, (good_line s at v e).deep)

module _ (chain : List Kind) (lines previous : ℕ) where
  pub judged_faulty : (r : LineRead) (why : Reason) → r ≡ Err why → nesting_checked chain lines previous r ≡ Err why
  unfolding nesting_checked
  judged_faulty r why e = rw e

  pub judged_sound : (r : LineRead) (v : Node) (b : Brief) (t : Bool) → r ≡ Ok v → BriefPost v b → breaks_nesting chain lines previous b.value.depth b.value.kind ≡ t
      → nesting_checked chain lines previous r ≡ cond t (Err Nesting) (Ok v)
  unfolding nesting_checked
  judged_sound r v b t e w q = rw (e, ← depth_of w, ← kind_of w, q)
