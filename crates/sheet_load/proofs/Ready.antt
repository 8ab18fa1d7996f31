-- The lines of an accepted sheet as they are kept: they nest, and their tables can be checked.
use Rattle.common.specs.declared.Refusal.{Refusal}
use Rattle.std.specs.Prelude.{Ok, Result}
use mathlib.Core.Path.{◌≡◌, refl, sym, ◌∙◌}
use mathlib.Core.List.{List, [], ◌∷◌, map}
use Prim.Native.Nat.{ℕ, zero, suc, ◌+◌, ◌≤◌}
use native.Mathlib.Omega.{arith}
use lib.ListN.{length, get_or, take, length-map}
use Rattle.records.specs.NodeRecord.{no_node}
use Rattle.records.specs.declared.NodeRecord.{NodeRecord}
use Rattle.line.specs.Fields.{Line, no_line}
use Rattle.sheet.specs.Sheet.{sheet_lines}
use Rattle.sheet.specs.inner.Steps.{line_bound}
use Rattle.sheet.specs.Reading.{record_of}
use Rattle.sheet.specs.inner.Reading.{reading_of, Reads}
use Rattle.sheet.proofs.Nests.{lines_ranged, accepted_nested}
use Rattle.sheet.proofs.Bounds.{accepted_lines, accepted_capacity}
use Rattle.grid.specs.Judging.{Lined}
use Rattle.grid_bounds.specs.inner.Sheets.{Nests}
use Rattle.sheet_load.specs.Opening.{nodes_of}
use Rattle.sheet_load.specs.inner.Opened.{OpenLinesPre}
use Rattle.kinds.specs.declared.Kind.{Kind}

-- a figure of a kept line, also past the last
pub figure_at_lem : {A : Type 0} (f : NodeRecord → A) → f no_node ≡ f (record_of no_line) → (ls : List Line) (k : ℕ) → f (get_or (map record_of ls) k no_node) ≡ f (record_of (get_or ls k no_line))
figure_at_lem f e [] k = e
figure_at_lem f e (l ∷ ls) zero = refl
figure_at_lem f e (l ∷ ls) (suc k) = figure_at_lem f e ls k

abbrev depth_of : NodeRecord → ℕ
depth_of k = k.depth

abbrev kind_of : NodeRecord → Kind
kind_of k = k.kind

abbrev cols_of : NodeRecord → ℕ
cols_of k = k.cols

module _ (s : List ℕ) (n : ℕ) (e : reading_of s ≡ Ok n) where
  pub node_count_lem : n ≡ length (nodes_of s)
  node_count_lem = (accepted_lines s n e).0 ∙ sym (length-map (sheet_lines s) record_of)

  pub node_depth : (k : ℕ) → (get_or (nodes_of s) k no_node).depth ≡ (get_or (sheet_lines s) k no_line).depth
  node_depth k = figure_at_lem depth_of refl (sheet_lines s) k

  pub kept_kind : (k : ℕ) → (get_or (nodes_of s) k no_node).kind ≡ (get_or (sheet_lines s) k no_line).kind
  kept_kind k = figure_at_lem kind_of refl (sheet_lines s) k

  pub nodes_lined : Lined (nodes_of s)
  nodes_lined =
      let z = accepted_nested s n e in
      let l = length-map (sheet_lines s) record_of in
      record {
        short = omega (arith, (accepted_lines s n e).1);
        shallow = λ k. omega (arith, node_depth k, z.shallow k);
        step = λ k h. omega (arith, node_depth k, node_depth (k + 1), z.step k (omega arith));
        narrow = λ k. omega (arith, figure_at_lem cols_of refl (sheet_lines s) k, (lines_ranged s k).wide);
      }

  pub nodes_nest : Nests (nodes_of s)
  nodes_nest = record {
    holds = λ p i w.
        rw (kept_kind p, kept_kind i)
        ((accepted_nested s n e).holds p i (record {
          before = w.before;
          within = omega (arith, w.within, length-map (sheet_lines s) record_of);
          deeper = omega (arith, w.deeper, node_depth p, node_depth i);
          between = λ k a b. omega (arith, w.between k a b, node_depth p, node_depth k);
        }));
  }

  pub kept_ready : {scratch : List ℕ} → line_bound s ≤ length scratch → OpenLinesPre (nodes_of s) scratch
  kept_ready h = record { lined = nodes_lined; nests = nodes_nest; capacity = omega (arith, node_count_lem, accepted_capacity s n e) }

-- what was read into a slice can be checked
pub front_ready : {s : List ℕ} {r : Result ℕ Refusal} {lines : List NodeRecord} (n : ℕ) → r ≡ Ok n → Reads s r lines → line_bound s ≤ length lines
    → {scratch : List ℕ} → line_bound s ≤ length scratch → (n ≤ length lines) × OpenLinesPre (take n lines) scratch
front_ready {s} n e w h g =
    let a = sym w.answer ∙ e in
    (omega (arith, accepted_capacity s n a), rw (w.stored n e) (kept_ready s n a g))
