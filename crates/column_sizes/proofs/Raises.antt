-- The loop that raises the columns' figures. What stands in the columns is the largest that the first i entries give; without an entry every column
-- has 0. An entry without a size has no least either, and is passed.
use mathlib.Core.Path.{◌≡◌, sym, ap, ◌∙◌}
use mathlib.Core.List.{List, [], ◌++◌, map}
use Prim.Native.Nat.{ℕ, ◌+◌, ◌/◌, ◌≤◌, ◌<◌, max}
use native.Mathlib.Omega.{arith}
use lib.ListN.{length, get_or, take, drop, replicate, length-replicate, length-map, get_or-map}
use Rattle.common.proofs.All.{at_all}
use Rattle.text.specs.declared.Estimate.{Estimate}
use Rattle.records.specs.inner.NodeRecord.{no_entry}
use Rattle.records.specs.declared.Entry.{Entry}
use Rattle.columns.specs.Boxes.{Box, box}
use Rattle.columns.specs.Columns.{size_of, least_of, largest}
use Rattle.columns.proofs.Listed.{none}
use Rattle.columns.proofs.Largest.{largest_length, largest_none, largest_skip, largest_turn}
use Rattle.column_sizes.specs.inner.Sizing.{figure_at, entry_box}
use Rattle.column_sizes.specs.inner.Capacity.{Whole, RaiseColumnsPre}

pub record Sofar (es : List Entry) (figures : List Estimate) (n : ℕ) (sizes leasts : List ℕ) (i : ℕ) : Type 0 where
  pub at_most : i ≤ length es
  pub sizes_are : sizes ≡ largest size_of (take i (map (entry_box figures) es)) n
  pub leasts_are : leasts ≡ largest least_of (take i (map (entry_box figures) es)) n

module _ {es : List Entry} {figures : List Estimate} {sizes₀ leasts₀ : List ℕ} (r : RaiseColumnsPre es figures sizes₀ leasts₀) {n : ℕ} (k : n ≡ length sizes₀) where
  abbrev bs : List Box
  bs = map (entry_box figures) es

  none_yet : (f : Box → ℕ) (m : ℕ) (l : List ℕ) → l ≡ replicate m 0 → m ≡ n → l ≡ largest f [] n
  none_yet f m l e d = rw (← (ap length e ∙ length-replicate m 0 ∙ d)) (largest_none f m l e)

  pub raise_start : {sizes leasts : List ℕ} → sizes ≡ replicate (length sizes₀) 0 → leasts ≡ replicate (length leasts₀) 0 → Sofar es figures n sizes leasts 0
  raise_start {sizes} {leasts} e f =
      record {
        at_most = omega arith;
        sizes_are = none_yet size_of (length sizes₀) sizes e (sym k);
        leasts_are = none_yet least_of (length leasts₀) leasts f (r.leasts_length ∙ sym k);
      }

  module _ {sizes leasts : List ℕ} {i : ℕ} (z : Sofar es figures n sizes leasts i) where
    pub sizes_count : length sizes ≡ n
    sizes_count = largest_length size_of _ n sizes z.sizes_are

    pub leasts_count : length leasts ≡ n
    leasts_count = largest_length least_of _ n leasts z.leasts_are

    -- the entry at i and its figures
    module _ (h : i < length es) {e : Entry} (q : e ≡ get_or es i no_entry) {f : Estimate} (d : f ≡ figure_at figures e.cell) where
      abbrev b : Box
      b = box e.first e.span f.size f.least

      box_is : entry_box figures (get_or es i no_entry) ≡ b
      box_is = rw (d, q)

      here : get_or bs i none ≡ b
      here = get_or-map (entry_box figures) es i no_entry ∙ box_is

      here_in : i < length bs
      here_in = omega (arith, length-map es (entry_box figures))

      pub entry_whole : Whole n b
      entry_whole = rw (← k, here) at (at_all (Whole (length sizes₀)) none bs i r.entered.whole here_in)

      pub raise_skip : f.size ≡ 0 → Sofar es figures n sizes leasts (i + 1)
      raise_skip s =
          record {
            at_most = omega arith;
            sizes_are = largest_skip size_of bs n sizes i here_in b here z.sizes_are s;
            leasts_are = largest_skip least_of bs n leasts i here_in b here z.leasts_are (omega (arith, entry_whole.low));
          }

      pub raise_turn : {a k a₂ k₂ : ℕ} {ys vs : List ℕ} →
          a ≡ e.first → k ≡ e.span → ys ≡ map (λ (x : ℕ). max x (f.size / e.span)) (take k (drop a sizes)) →
          a₂ ≡ e.first → k₂ ≡ e.span → vs ≡ map (λ (x : ℕ). max x (f.least / e.span)) (take k₂ (drop a₂ leasts)) →
          Sofar es figures n (take a sizes ++ (ys ++ drop k (drop a sizes))) (take a₂ leasts ++ (vs ++ drop k₂ (drop a₂ leasts))) (i + 1)
      raise_turn {a} {k} {a₂} {k₂} {ys} {vs} p o y p₂ o₂ v =
          record {
            at_most = omega arith;
            sizes_are = largest_turn size_of bs n sizes i here_in b here z.sizes_are ys a k entry_whole.ends p o y;
            leasts_are = largest_turn least_of bs n leasts i here_in b here z.leasts_are vs a₂ k₂ entry_whole.ends p₂ o₂ v;
          }
