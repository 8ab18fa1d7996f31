-- The answers of the calls are exact: the promises of specs/Exact.antt. A row of a table that goes sideways is as the third demand has it, in which the
-- crate `pointing` proves the answers exact; and the checks pass exactly for such a row.
use Rattle.std.specs.Prelude.{Err}
use mathlib.Core.Path.{◌≡◌, refl, sym, ap, ◌∙◌}
use mathlib.Core.Bool.{true, false, ◌||◌}
use mathlib.Core.List.{List, [], ◌∷◌, ◌++◌}
use Prim.Native.Nat.{ℕ, ◌+◌, ◌≤◌, ◌<◌}
use native.Mathlib.Decide.{dec_lt}
use native.Mathlib.Omega.{arith}
use lib.Dec.{leb, ltb}
use lib.ListN.{length, get_or, length-map, get_or-eq_default}
use borrow.Author.Tests.{not-false, ltb-false, leb-false, le-ltb, lt-leb}
use Rattle.common.specs.Lists.{padded}
use Rattle.common.specs.Limits.{max_wrap, max_width, max_entries}
use Rattle.common.specs.Refusals.{Check, first_answer, passes}
use Rattle.sheet.specs.Sheet.{sheet_checks}
use Rattle.common.proofs.Tests.{both}
use Rattle.sheet.proofs.First.{neither, passes_cons, passes_both, passes_append, first_passes, figures_pass, accepted_passes, passes_accepted}
use Rattle.widths.specs.Share.{shares}
use Rattle.answers.specs.declared.Way.{Way}
use Rattle.answers.specs.declared.Way.TheVariants.{Sideways, Down}
use Rattle.placement.specs.Place.{place_row}
use Rattle.placement.specs.Promise.{Side}
use Rattle.hit_test.specs.Point.{pointed, gap_at, joined}
use Rattle.hit_test.specs.Exact.{Exactly, GapExactly}
use Rattle.hit_test.proofs.Exact.{side_pointed, side_gap, joined_exact, no_row}
use Rattle.hit_test.proofs.Listing.{listed_exact}
use Rattle.hit_test.proofs.RowPart.{row_none}
use Rattle.sheet_load.specs.Opening.{nodes_of, is_table, line_check}
use Rattle.arguments.specs.Arguments.{settings_check}
use Rattle.arguments.proofs.Shorter.{one_shorter}
use Rattle.sheet_figures.specs.Figures.{rows_at, columns_at, boxes_at, sizes_at, leasts_at, way_at, widths_at}
use Rattle.sheet_figures.specs.Calls.{every_table}
use Rattle.row_lookup.specs.Rows.{goes_down}
use Rattle.missing_theorems.proofs.Missing.{third_demand}
use Rattle.call_preview.specs.Preview.{row_start, row_places, late_check, row_checks, point_checks, within_checks, pointed_of, listed_at, listed_of, for_one, joined_of}
use Rattle.call_preview.specs.Exact.{RowIn, RowsAccepted, AtExactly, WithinExactly, JoiningExactly}

-- ---- the checks

pass_cons : (c : Check) (cs : List Check) → c.applies ≡ false → passes cs ≡ true → passes (c ∷ cs) ≡ true
pass_cons c cs p q = passes_cons c cs ∙ (rw (p, q))

pass_append : (cs ds : List Check) → passes cs ≡ true → passes ds ≡ true → passes (cs ++ ds) ≡ true
pass_append cs ds p q = passes_append cs ds ∙ (rw (p, q))

pass_nil : passes [] ≡ true
unfolding passes first_answer
pass_nil = refl

side_way : (way : Way) → goes_down way ≡ false → way ≡ Sideways
unfolding goes_down
side_way Sideways e = refl
side_way Down e = let z : ◌≡◌ {A = ℕ} 0 1 = cc in absurd (omega arith)

module _ (s : List ℕ) (line wrap raw width row : ℕ) where
  -- of a row of a table that goes sideways none applies
  settings_pass : RowIn s line wrap raw width row → (settings_check wrap raw width).applies ≡ false
  settings_pass r = rw (le-ltb max_wrap wrap r.wrap_small, le-ltb 1 raw r.raw_small, le-ltb max_width width r.width_small)

  row_passes : RowIn s line wrap raw width row → passes (row_checks s line wrap raw width row) ≡ true
  unfolding goes_down
  row_passes r =
      let (p, q) = both (passes (sheet_checks s)) (passes (every_table s)) (sym (passes_append (sheet_checks s) (every_table s)) ∙ accepted_passes _ r.table.accepted) in
      pass_append (sheet_checks s ++ line_check (nodes_of s) line ∷ every_table s) (late_check s line wrap raw width row ∷ [])
      (pass_append (sheet_checks s) (line_check (nodes_of s) line ∷ every_table s) p (pass_cons (line_check (nodes_of s) line) (every_table s) (rw r.table.table) q))
      (pass_cons (late_check s line wrap raw width row) [] (rw (r.sideways, lt-leb (length (rows_at s line)) row r.there)) pass_nil)

  point_passes : RowIn s line wrap raw width row → passes (point_checks s line wrap raw width row) ≡ true
  point_passes r = pass_cons (settings_check wrap raw width) (row_checks s line wrap raw width row) (settings_pass r) (row_passes r)

  within_passes : (n : ℕ) → max_entries ≤ n → RowIn s line wrap raw width row → passes (within_checks s line wrap raw width row (n ∷ [])) ≡ true
  within_passes n h r =
      pass_cons (settings_check wrap raw width) _ (settings_pass r)
      (pass_cons _ (row_checks s line wrap raw width row) (one_shorter max_entries n ∙ le-ltb n max_entries h) (row_passes r))

  -- and where none applies it is one
  passed_row : passes (point_checks s line wrap raw width row) ≡ true → RowIn s line wrap raw width row
  passed_row e =
      let opened = sheet_checks s ++ line_check (nodes_of s) line ∷ every_table s in
      let (a, b) = passes_both (settings_check wrap raw width) (row_checks s line wrap raw width row) e in
      let (c, w) = neither (ltb max_wrap wrap || ltb 1 raw) (ltb max_width width) a in
      let (p, o) = neither (ltb max_wrap wrap) (ltb 1 raw) c in
      let (d, f) = both (passes opened) (passes (late_check s line wrap raw width row ∷ [])) (sym (passes_append opened (late_check s line wrap raw width row ∷ [])) ∙ b) in
      let (g, h) = both (passes (sheet_checks s)) (passes (line_check (nodes_of s) line ∷ every_table s)) (sym (passes_append (sheet_checks s) (line_check (nodes_of s) line ∷ every_table s)) ∙ d) in
      let (t, k) = passes_both (line_check (nodes_of s) line) (every_table s) h in
      let (q, n) = neither (goes_down (way_at s line wrap raw width)) (leb (length (rows_at s line)) row) (passes_both (late_check s line wrap raw width row) [] f).0 in
      record {
        table = record {
          accepted = passes_accepted _ (pass_append (sheet_checks s) (every_table s) g k);
          table = not-false (is_table (nodes_of s) line) t;
        };
        wrap_small = ltb-false max_wrap wrap p;
        raw_small = ltb-false 1 raw o;
        width_small = ltb-false max_width width w;
        sideways = side_way (way_at s line wrap raw width) q;
        there = leb-false (length (rows_at s line)) row n;
      }

pub rows_accepted : RowsAccepted
rows_accepted s line wrap raw width row = record {
  only = λ e. passed_row s line wrap raw width row (accepted_passes _ e);
  then = λ r. passes_accepted _ (point_passes s line wrap raw width row r);
}

-- ---- the rows

module _ {s : List ℕ} {line wrap raw width row : ℕ} (r : RowIn s line wrap raw width row) where
  side : Side (columns_at s line) (sizes_at s line wrap) (leasts_at s line wrap) (shares (sizes_at s line wrap) (leasts_at s line wrap) width)
      (widths_at s line wrap raw width) width (boxes_at s line wrap)
  side =
      (third_demand s line wrap raw width r.table (record { wrap_small = r.wrap_small; raw_small = r.raw_small; width_small = omega (arith, r.width_small) })
      ).side r.sideways

  row_count : length (boxes_at s line wrap) ≡ length (rows_at s line)
  row_count = length-map (rows_at s line) _

  placed_side : (k : ℕ) → place_row Sideways (widths_at s line wrap raw width) width (get_or (boxes_at s line wrap) k []) ≡ row_places s line wrap raw width k
  placed_side k = ap (λ (w : Way). place_row w (widths_at s line wrap raw width) width (get_or (boxes_at s line wrap) k [])) (sym r.sideways)

  exactly : (x : ℕ) → Exactly (row_start s line row) (row_places s line wrap raw width row) x (pointed (row_start s line row) x (row_places s line wrap raw width row))
  exactly x =
      rw (placed_side row) at
      (side_pointed (columns_at s line) (sizes_at s line wrap) (leasts_at s line wrap) _ (widths_at s line wrap raw width) width (boxes_at s line wrap) side
      row (omega (arith, row_count, r.there)) (row_start s line row) x)

  -- any row, also past the last
  gap_exactly : (k x : ℕ) → GapExactly (row_places s line wrap raw width k) x (gap_at x (row_places s line wrap raw width k))
  gap_exactly k x = go (dec_lt k (length (boxes_at s line wrap)))
    where
      go : Dec (k < length (boxes_at s line wrap)) → GapExactly (row_places s line wrap raw width k) x (gap_at x (row_places s line wrap raw width k))
      go (yes h) =
          rw (placed_side k) at
          (side_gap (columns_at s line) (sizes_at s line wrap) (leasts_at s line wrap) _ (widths_at s line wrap raw width) width (boxes_at s line wrap) side k h x)
      go (no h) =
          let e : row_places s line wrap raw width k ≡ [] =
          ap (place_row (way_at s line wrap raw width) (widths_at s line wrap raw width) width) (get_or-eq_default (boxes_at s line wrap) [] (omega arith))
          ∙ row_none (way_at s line wrap raw width) (widths_at s line wrap raw width) width in
          rw e (no_row x)

-- ---- the theorems

pub at_exactly : AtExactly
unfolding pointed_of
at_exactly s line wrap raw width row x r = record {
  under = pointed (row_start s line row) x (row_places s line wrap raw width row);
  answer = first_passes Err _ (point_checks s line wrap raw width row) (point_passes s line wrap raw width row r);
  right = exactly r x;
}

pub within_exactly : WithinExactly
unfolding listed_of
within_exactly s line wrap raw width row from to entry r h =
    let p = within_passes s line wrap raw width row (length entry) h r in
    record {
      answer = first_passes Err _ (within_checks s line wrap raw width row (for_one entry)) p;
      left = ap (padded (length entry)) (figures_pass (within_checks s line wrap raw width row (for_one entry)) (listed_at s line wrap raw width row from to) p);
      right = listed_exact (row_start s line row) from to (row_places s line wrap raw width row);
    }

pub joining_exactly : JoiningExactly
unfolding joined_of
joining_exactly s line wrap raw width row x r = record {
  joint = joined x (row_places s line wrap raw width row) (row_places s line wrap raw width (row + 1));
  answer = first_passes Err _ (point_checks s line wrap raw width row) (point_passes s line wrap raw width row r);
  right = joined_exact (row_places s line wrap raw width row) (row_places s line wrap raw width (row + 1)) x (gap_exactly r row x) (gap_exactly r (row + 1) x);
}
