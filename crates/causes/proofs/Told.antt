-- The entries of a table end within its columns and can be listed, and those that are listed are few.
use mathlib.Core.Path.{◌≡◌}
use mathlib.Core.Bool.{Bool, true, false, cond}
use mathlib.Core.List.{List, [], ◌∷◌, map}
use Prim.Native.Nat.{ℕ, suc, ◌≤◌}
use native.Mathlib.Omega.{arith}
use lib.ListN.{length, get_or, length-map, get_or-map}
use Rattle.common.proofs.All.{at_all}
use Rattle.text.specs.declared.Estimate.{Estimate}
use Rattle.records.specs.inner.NodeRecord.{no_entry}
use Rattle.records.specs.declared.Entry.{Entry}
use Rattle.columns.specs.Boxes.{Box}
use Rattle.placement.specs.inner.Rows.{bare_box, bare_boxes}
use Rattle.column_sizes.specs.inner.Sizing.{entry_box}
use Rattle.column_sizes.specs.inner.Capacity.{Whole}
use Rattle.causes.specs.inner.Hidden.{hidden, hidden_from, ListMissingPre}
use Rattle.causes.specs.inner.Tables.{causes_in, ExplainPre, ExplainPost}

-- no more entries are hidden than there are
fewer : (y : Bool) (k m : ℕ) (xs : List ℕ) → length xs ≤ m → length (cond y (k ∷ xs) xs) ≤ suc m
fewer true k m xs h = omega arith
fewer false k m xs h = omega arith

hidden_few : (k : ℕ) (bs : List Box) (cs : List ℕ) → length (hidden_from k bs cs) ≤ length bs
unfolding hidden_from
hidden_few k [] cs = omega arith
hidden_few k (b ∷ bs) cs = fewer (hidden cs b) k (length bs) (hidden_from (suc k) bs cs) (hidden_few (suc k) bs cs)

module _ {c : ℕ} {es : List Entry} {figures : List Estimate} {entry₀ : List ℕ} (p : ExplainPre es figures c entry₀) where
  pub listable : {cause : List ℕ} → length cause ≡ c → ListMissingPre es cause entry₀
  listable {cause} e =
      record {
        ends = λ i h.
            let b : Whole c (entry_box figures (get_or es i no_entry)) =
            rw (get_or-map (entry_box figures) es i no_entry) at
            (at_all (Whole c) (entry_box figures no_entry) (map (entry_box figures) es) i p.entered.whole (omega (arith, length-map es (entry_box figures)))) in
            omega (arith, b.ends);
        few = p.entries_few;
        capacity = p.entry_in;
      }

  -- the entries that are listed are few
  pub missing_few : {raw width r : ℕ} {entry cause : List ℕ} → ExplainPost es figures c raw width r entry cause → r ≤ length es
  missing_few {raw} {width} t = omega (arith, t.count, hidden_few 0 (bare_boxes es) (causes_in es figures c raw width), length-map es bare_box)
