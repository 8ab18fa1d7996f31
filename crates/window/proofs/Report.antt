-- The report on a table, of its records: its columns can be laid out at each width, and the entries that are counted are those that are missing.
use mathlib.Core.Path.{◌≡◌, refl, sym, ap, ap₂, ◌∙◌}
use mathlib.Core.Bool.{Bool, true, false, cond}
use mathlib.Core.List.{List, [], ◌∷◌, map}
use Prim.Native.Nat.{ℕ, suc, ◌+◌, ◌≤◌, ◌<◌}
use native.Mathlib.Decide.{ℕ_discrete}
use native.Mathlib.Omega.{arith}
use lib.Dec.{eqb}
use lib.ListN.{length, get_or, take, drop, length-map}
use borrow.Author.Tests.{eq-eqb, ne_eqb}
use Rattle.std.proofs.lemmas.List.{get_or-map, take-map, drop-map}
use Rattle.std.proofs.lemmas.List.Sums.{sum_by-cons}
use Rattle.common.proofs.All.{at_all, all_at, map_same}
use Rattle.text.specs.declared.Estimate.{Estimate}
use Rattle.records.specs.inner.NodeRecord.{no_entry}
use Rattle.records.specs.declared.Entry.{Entry}
use Rattle.records.specs.declared.RowEnd.{RowEnd}
use Rattle.columns.specs.Boxes.{Box, flat}
use Rattle.columns.specs.Columns.{size_of, least_of, largest}
use Rattle.columns.proofs.Upto.{length_up_to}
use Rattle.widths.specs.Widths.{nonzero}
use Rattle.widths.proofs.Laying.{length_final}
use Rattle.column_sizes.specs.inner.Sizing.{entry_box, sizes_in, leasts_in}
use Rattle.column_sizes.specs.inner.Capacity.{Whole, RaiseColumnsPost}
use Rattle.column_sizes.proofs.Columns.{below_in}
use Rattle.table_layout.specs.Laying.{way_in, widths_in, places_in}
use Rattle.table_layout.specs.inner.Laying.{box_rows_by}
use Rattle.causes.specs.Causes.{missing_from}
use Rattle.causes.specs.inner.Hidden.{none_shown, hidden, hidden_from}
use Rattle.causes.proofs.Missed.{missed_rows}
use Rattle.window.specs.inner.Counting.{none_wide, missing_count}
use Rattle.window.specs.inner.Lines.{finals, SizedTableKnown, WriteLinesPost}
use Rattle.window.specs.inner.Report.{WriteReportPre, WriteReportPost}

-- ---- a cause for each column that is 0 wide, of which only that it is one counts

abbrev mark : ℕ → ℕ
mark w = cond (eqb w 0) 1 0

-- it is 0 exactly if the column is not 0 wide
tied : (w c : ℕ) → c ≡ mark w → (c ≡ 0 → 1 ≤ w) × (1 ≤ w → c ≡ 0)
tied w c e = go (ℕ_discrete w 0)
  where
    go : Dec (w ≡ 0) → (c ≡ 0 → 1 ≤ w) × (1 ≤ w → c ≡ 0)
    go (yes q) = let m : c ≡ 1 = e ∙ rw (eq-eqb w 0 q) in ((λ z. omega arith), (λ h. omega arith))
    go (no n) = let m : c ≡ 0 = e ∙ rw (ne_eqb w 0 n) in ((λ z. omega arith), (λ h. m))

none_marked : (ws : List ℕ) → none_shown (map mark ws) ≡ eqb (nonzero ws) 0
unfolding none_shown nonzero
none_marked [] = refl
none_marked (w ∷ ws) = go (eqb w 0) (none_marked ws)
  where
    go : (t : Bool) → none_shown (map mark ws) ≡ eqb (nonzero ws) 0 → cond (eqb (cond t 1 0) 0) false (none_shown (map mark ws)) ≡ eqb (cond t 0 1 + nonzero ws) 0
    go true h = h ∙ ap (λ n. eqb n 0) (omega arith)
    go false h = sym (ne_eqb (1 + nonzero ws) 0 (λ e. omega arith))

-- an entry is hidden by these causes exactly if each of its columns is 0 wide
hidden_marked : (ws : List ℕ) (b : Box) → hidden (map mark ws) b ≡ eqb (nonzero (take b.span (drop b.first ws))) 0
hidden_marked ws b = rw (drop-map mark b.first ws, take-map mark b.span (drop b.first ws)) (none_marked (take b.span (drop b.first ws)))

one_more : (t : Bool) (k : ℕ) (xs : List ℕ) → length (cond t (k ∷ xs) xs) ≡ cond t 1 0 + length xs
one_more true k xs = omega arith
one_more false k xs = omega arith

hidden_count : (figures : List Estimate) (ws : List ℕ) (k : ℕ) (es : List Entry) → length (hidden_from k (map (entry_box figures) es) (map mark ws)) ≡ missing_count ws es
unfolding hidden_from
hidden_count figures ws k [] = refl
hidden_count figures ws k (e ∷ es) =
    let b = entry_box figures e in
    one_more (hidden (map mark ws) b) k (hidden_from (suc k) (map (entry_box figures) es) (map mark ws))
    ∙ ap₂ (λ (t : Bool) (n : ℕ). cond t 1 0 + n) (hidden_marked ws b) (hidden_count figures ws (suc k) es)
    ∙ sym (sum_by-cons (λ (y : Entry). cond (none_wide ws y) 1 0) e es)

-- ---- the table of the records

module _ {es : List Entry} {rs : List RowEnd} {figures : List Estimate} {columns : ℕ} {widths way₀ wide₀ missing₀ : List ℕ}
    (p : WriteReportPre es rs figures columns widths way₀ wide₀ missing₀) where
  whole : (i : ℕ) → i < length es → Whole columns (entry_box figures (get_or es i no_entry))
  whole i h =
      rw (get_or-map (entry_box figures) es i no_entry (entry_box figures no_entry) h) at
      (at_all (Whole columns) (entry_box figures no_entry) (map (entry_box figures) es) i p.entered.whole (omega (arith, length-map es (entry_box figures))))

  -- its columns, raised, can be laid out
  pub table_known : {c : ℕ} {sizes leasts : List ℕ} → c ≡ columns → length sizes ≡ c → RaiseColumnsPost es figures c sizes leasts → SizedTableKnown es sizes leasts
  table_known {c} {sizes} {leasts} e l a =
      record {
        spanned = record { some = λ i h. (whole i h).some; ends = λ i h. omega (arith, (whole i h).ends, l, e) };
        entries_few = p.entries_few;
        few = omega (arith, p.few, l, e);
        below = rw (a.sizes_are, a.leasts_are, e) (below_in p.entered);
      }

  abbrev rows : List (List Box)
  rows = box_rows_by rs es figures

  abbrev zs : List ℕ
  zs = largest size_of (flat rows) columns

  abbrev ls : List ℕ
  ls = largest least_of (flat rows) columns

  -- at a width
  missing_is : (raw width : ℕ) → length (missing_from 0 (places_in columns rows raw width))
      ≡ missing_count (finals (sizes_in es figures columns) (leasts_in es figures columns) raw width) es
  missing_is raw width =
      ap length (missed_rows columns (map mark ws) zs ls width z w (way_in columns rows raw width) each 0 rows p.tiles)
      ∙ ap (λ (bs : List Box). length (hidden_from 0 bs (map mark ws))) p.holds
      ∙ hidden_count figures ws 0 es
      ∙ ap (λ (bs : List Box). missing_count (finals (largest size_of bs columns) (largest least_of bs columns) raw width) es) p.holds
    where
      ws : List ℕ
      ws = widths_in columns rows raw width

      z : length zs ≡ columns
      z = length_up_to columns _

      w : length (map mark ws) ≡ columns
      w = length-map ws mark ∙ length_final (way_in columns rows raw width) zs ls width ∙ z

      each : (j : ℕ) → j < columns → (get_or (map mark ws) j 0 ≡ 0 → 1 ≤ get_or ws j 0) × (1 ≤ get_or ws j 0 → get_or (map mark ws) j 0 ≡ 0)
      each j h = tied (get_or ws j 0) (get_or (map mark ws) j 0) (get_or-map mark ws j 0 0 (omega (arith, w, length-map ws mark)))

  -- at each width
  pub reported : {c raw : ℕ} {sizes leasts way wide missing : List ℕ} → c ≡ columns → RaiseColumnsPost es figures c sizes leasts
      → WriteLinesPost es sizes leasts raw widths way wide missing → WriteReportPost columns rows raw widths way wide missing
  reported {c} {raw} {sizes} {leasts} {way} {wide} {missing} e a t =
      record {
        ways = rw p.holds lines.ways;
        wides = rw p.holds lines.wides;
        missings = lines.missings ∙ sym (map_same _ _ widths (all_at _ 0 widths (λ k h. missing_is raw (get_or widths k 0))));
      }
    where
      lines : WriteLinesPost es (sizes_in es figures columns) (leasts_in es figures columns) raw widths way wide missing
      lines = rw (a.sizes_are, a.leasts_are, e) at t
