-- An opened sheet can be measured: its lines nest and are in range, its tables are sound. And what is measured are its estimates.
use mathlib.Core.Logic.{◌⊎◌, inl, inr}
use Rattle.records.specs.declared.RowEnd.{RowEnd}
use Rattle.records.specs.declared.Entry.{Entry}
use Rattle.common.specs.declared.Refusal.{Refusal}
use Rattle.std.specs.Prelude.{Ok, Result, Option, Some}
use mathlib.Core.Path.{◌≡◌, refl, sym, ap, ◌∙◌}
use mathlib.Core.List.{List, [], ◌∷◌, map}
use Prim.Native.Nat.{ℕ, zero, suc, ◌+◌, ◌-◌, ◌≤◌}
use native.Mathlib.Omega.{arith}
use lib.ListN.{length, get_or, take, length-map}
use lib.Seq.{take_at}
use Rattle.common.specs.Lists.{sum}
use Rattle.common.specs.Limits.{max_lines, max_entries, max_position}
use Rattle.text.specs.Decimal.{shift}
use Rattle.text.specs.declared.Estimate.{Estimate}
use Rattle.kinds.specs.Kinds.{kind_number, head_kind, ol_kind}
use Rattle.line.specs.Fields.{Line, no_line, own_size}
use Rattle.records.specs.NodeRecord.{no_node}
use Rattle.records.specs.declared.NodeRecord.{NodeRecord}
use Rattle.sheet.specs.Sheet.{sheet_lines}
use Rattle.sheet.specs.inner.Steps.{line_bound}
use Rattle.sheet.specs.Reading.{record_of}
use Rattle.sheet.specs.inner.Reading.{reading_of}
use Rattle.sheet.proofs.Nests.{lines_ranged, accepted_nested}
use Rattle.sheet.proofs.Bounds.{accepted_capacity, accepted_own}
use Rattle.grid_bounds.proofs.Sheets.{suffice_entries}
use Rattle.estimates.specs.Estimates.{measured, est_of, estimates}
use Rattle.estimates.specs.inner.Sheet.{own_of, Sheet}
use Rattle.estimates.specs.inner.Meets.{Measured, CellsMeasured, Lent}
use Rattle.estimates.proofs.Laws.{length_all}
use Rattle.sheet_load.specs.Opening.{nodes_of}
use Rattle.sheet_load.specs.inner.Opened.{Apt, OpenSheetPost}
use Rattle.sheet_load.proofs.Ready.{node_count_lem, node_depth, kept_kind, nodes_lined, nodes_nest}
use Rattle.sheet_load.proofs.Opens.{opened_reads, opened_asked}
use Rattle.sheet_load.proofs.Answers.{table_apt}
use Rattle.sheet_load.specs.inner.Measures.{Enough, Measurable, ScratchForAny, CellsKnown, MeasureSheetPost}

-- ---- the lines

-- what holds of every line as it is kept, and past the last
every_node : (P : NodeRecord → Type 0) → P no_node → (ls : List Line) → ((k : ℕ) → P (record_of (get_or ls k no_line))) → (k : ℕ) → P (get_or (map record_of ls) k no_node)
every_node P z [] h k = z
every_node P z (l ∷ ls) h zero = h zero
every_node P z (l ∷ ls) h (suc k) = every_node P z ls (λ i. h (suc i)) k

owns_same : (ls : List Line) → map own_of (map record_of ls) ≡ map own_size ls
owns_same [] = refl
owns_same (l ∷ ls) = ap (λ (xs : List ℕ). own_size l ∷ xs) (owns_same ls)

pub sheet_of : (s : List ℕ) (n : ℕ) → reading_of s ≡ Ok n → Sheet (nodes_of s)
sheet_of s n e =
    let z = accepted_nested s n e in
    let ls = sheet_lines s in
    let l = length-map ls record_of in
    let d = node_depth s n e in
    record {
      some = omega (arith, z.some);
      short = (nodes_lined s n e).short;
      top = d 0 ∙ z.top;
      root = rw (kept_kind s n e 0) z.first;
      under = λ k a b. omega (arith, d k, z.under k a (omega arith));
      shallow = (nodes_lined s n e).shallow;
      step = (nodes_lined s n e).step;
      holds = λ p i w. (nodes_nest s n e).holds p i (record { before = w.before; within = w.within; deeper = w.deeper; between = w.between });
      rank_low = every_node (λ (k : NodeRecord). (kind_number k.kind) ≡ head_kind → shift ≤ k.number) (λ q. absurd (omega arith)) ls (λ k q. omega (arith, (lines_ranged s k).head q));
      rank_high = every_node (λ (k : NodeRecord). (kind_number k.kind) ≡ head_kind → k.number ≤ shift + 6) (λ q. absurd (omega arith)) ls (λ k q. ((lines_ranged s k).head q).1);
      start = every_node (λ (k : NodeRecord). (kind_number k.kind) ≡ ol_kind → k.number ≤ 2000000000) (λ q. absurd (omega arith)) ls (λ k q. omega (arith, (lines_ranged s k).numbered));
      capacity = omega (arith, ap sum (owns_same ls), accepted_own s n e);
    }

-- ---- the tables

-- scratch with records for the entries and rows of every table
module _ {ks : List NodeRecord} {fs : List Estimate} (m : Measurable ks fs) {leasts : List ℕ} {entries : List Entry} {rows : List RowEnd} where
  lent_large : max_position ≤ length leasts → max_entries ≤ length entries → length ks ≤ length rows → Lent ks fs leasts entries rows
  lent_large h a b = record {
    sheet = m.sheet;
    lined = m.lined;
    tables = record { sound = m.sound.at; capacity = λ t u e. omega (arith, (m.sound.at t u e).few) };
    results = m.results;
    scratch = h;
    row_capacity = b;
  }

  pub lent_enough : {e r : ℕ} → max_position ≤ length leasts → Enough e r ks → e ≤ length entries → r ≤ length rows → Lent ks fs leasts entries rows
  lent_enough h (inl z) a b = record {
    sheet = m.sheet;
    lined = m.lined;
    tables = record { sound = m.sound.at; capacity = λ t u e. omega (arith, suffice_entries m.lined.step m.nests z t u e) };
    results = m.results;
    scratch = h;
    row_capacity = omega (arith, z.few);
  }
  lent_enough {r = r} h (inr z) a b = lent_large h (omega (arith, z.0)) (row_each z.1)
    where
      row_each : (max_lines ≤ r) ⊎ (length ks ≤ r) → length ks ≤ length rows
      row_each (inl w) = omega (arith, w, m.lined.short)
      row_each (inr w) = omega (arith, w)

  pub lent_any : ScratchForAny leasts entries rows → Lent ks fs leasts entries rows
  lent_any h = lent_large h.leasts_capacity h.entries_capacity (omega (arith, h.rows_capacity, m.lined.short))

-- scratch that is as long as it was
pub any_still : {leasts leasts' : List ℕ} {entries : List Entry} {rows : List RowEnd} → length leasts' ≡ length leasts → ScratchForAny leasts entries rows → ScratchForAny leasts' entries rows
any_still e h = record { leasts_capacity = omega (arith, h.leasts_capacity); entries_capacity = h.entries_capacity; rows_capacity = h.rows_capacity }

-- ---- a sheet

module _ {asked : Option ℕ} {s : List ℕ} {r : Result ℕ Refusal} {lines : List NodeRecord} (w : OpenSheetPost asked s r lines) where
  pub front_measurable : (n : ℕ) → r ≡ Ok n → {fs : List Estimate} → line_bound s ≤ length lines → line_bound s ≤ length fs
      → (n ≤ length lines) × Measurable (take n lines) fs
  front_measurable n e {fs = fs} a c =
      let o = opened_reads asked s n (sym w.answer ∙ e) in
      let m = accepted_capacity s n o in
      let l = node_count_lem s n o in (
        omega arith,
        rw (w.holds n e)
            (record { sheet = sheet_of s n o; lined = nodes_lined s n o; nests = nodes_nest s n o; sound = w.sound n e; results = omega arith }),
      )

  pub front_table : {line : ℕ} → asked ≡ Some line → (n : ℕ) → r ≡ Ok n → Apt (take n lines) line
  front_table {line} q n e = rw (w.holds n e) (table_apt (nodes_of s) line (opened_asked asked s n (sym w.answer ∙ e) line q))

  -- measured
  pub sheet_measured : {wrap : ℕ} {b figures : List Estimate} (n : ℕ) → r ≡ Ok n → Measured wrap (take n lines) b figures → MeasureSheetPost asked s wrap (Ok n) lines figures
  sheet_measured {wrap} n e m₀ =
      let m = rw (w.holds n e) at m₀ in record {
        opened = rw e at w;
        measured = λ k f. record {
          figures = ap (take (length (nodes_of s))) m.results ∙ take_at (estimates wrap (nodes_of s)) _ (length (nodes_of s)) (length-map (measured wrap 1 (nodes_of s)) est_of ∙ length_all wrap (nodes_of s));
          sound = m.sound;
        };
      }

module _ {s : List ℕ} {line : ℕ} {r : Result ℕ Refusal} {lines : List NodeRecord} (w : OpenSheetPost (Some line) s r lines) where
  pub cells_known : {wrap : ℕ} {b figures : List Estimate} (n : ℕ) → r ≡ Ok n → CellsMeasured wrap (take n lines) (line - 1) b figures → CellsKnown wrap (nodes_of s) (line - 1) figures
  cells_known n e m₀ = let m = rw (w.holds n e) at m₀ in record { cells = m.cells; sound = m.sound }
