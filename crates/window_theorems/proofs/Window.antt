-- What holds of every report of the call `window`: each line of it is what `layout` and `missing` answer at its width, a table that lies sideways does
-- so at every larger width, and from which width on. The theorems of specs/Window.antt.
use mathlib.Core.Path.{◌≡◌, refl, sym, ◌∙◌}
use mathlib.Core.Bool.{true, false, ◌||◌}
use mathlib.Core.List.{List, [], ◌∷◌}
use Prim.Native.Nat.{ℕ, zero, suc, ◌<◌}
use native.Mathlib.Nat.{not-suc-le-zero, le_of_suc-le-suc}
use native.Mathlib.Omega.{arith}
use lib.Dec.{ltb}
use lib.ListN.{length}
use Rattle.std.specs.Prelude.{Err}
use Rattle.std.proofs.lemmas.List.{get_or-map}
use Rattle.common.specs.Limits.{max_wrap, max_width, max_lines, max_entries}
use Rattle.common.specs.Refusals.{first_answer, passes}
use Rattle.common.proofs.Tests.{both}
use Rattle.sheet.proofs.First.{neither, first_passes, passes_append, passes_both}
use Rattle.columns.specs.Boxes.{flat}
use Rattle.columns.specs.Columns.{least_of, largest_at}
use Rattle.columns.proofs.Upto.{length_up_to}
use Rattle.cutting.specs.Cut.{at}
use Rattle.widths.proofs.Whole.{side_only, side_then}
use Rattle.answers.specs.Answers.{layout_with, causes_with}
use Rattle.answers.specs.Numbers.{way_number}
use Rattle.grid.specs.Grid.{entries_of}
use Rattle.arguments.specs.Arguments.{any_shorter, any_above, window_arguments}
use Rattle.sheet_figures.specs.Figures.{rows_at, columns_at, boxes_at, leasts_at, way_at, width_at}
use Rattle.sheet_figures.specs.Calls.{asked_checks}
use Rattle.causes.specs.Sheets.{missing_at}
use Rattle.call_layout.specs.Layout.{layout_checks, laid_out_of}
use Rattle.call_missing.specs.Missing.{missing_checks, explained_of}
use Rattle.call_window.specs.Window.{window_checks}
use Rattle.window_theorems.specs.Window.{EachLine, StaysSideways, least_sideways, FromLeast}

-- ---- (a) each line

-- none of the widths is above n
none_above : (n : ℕ) (widths : List ℕ) → any_above n widths ≡ false → (i : ℕ) → i < length widths → ltb n (at widths i) ≡ false
unfolding any_above
none_above n [] e i l = absurd (not-suc-le-zero l)
none_above n (w ∷ ws) e zero l = (neither (ltb n w) (any_above n ws) e).0
none_above n (w ∷ ws) e (suc i) l = none_above n ws (neither (ltb n w) (any_above n ws) e).1 i (le_of_suc-le-suc l)

module _ (s : List ℕ) (line wrap raw : ℕ) (widths buffers : List ℕ) (p : passes (window_checks s line wrap raw widths buffers) ≡ true) where
  parts : (passes (window_arguments wrap raw widths buffers) ≡ true) × (passes (asked_checks s line) ≡ true)
  parts = both _ _ (sym (passes_append (window_arguments wrap raw widths buffers) (asked_checks s line)) ∙ p)

  settings : (ltb max_wrap wrap || ltb 1 raw || any_above max_width widths) ≡ false
  settings = (passes_both _ _ (passes_both _ _ parts.0).1).0

  module _ (i : ℕ) (l : i < length widths) where
    setting : (ltb max_wrap wrap || ltb 1 raw || ltb max_width (at widths i)) ≡ false
    setting =
        let (a, b) = neither (ltb max_wrap wrap || ltb 1 raw) (any_above max_width widths) settings in
        rw (a, none_above max_width widths b i l) refl

    laying : passes (layout_checks s line wrap raw (at widths i) (max_lines ∷ []) (max_entries ∷ max_entries ∷ [])) ≡ true
    unfolding first_answer passes any_shorter
    laying = rw setting parts.1

    explaining : passes (missing_checks s line wrap raw (at widths i) (max_entries ∷ []) (max_lines ∷ [])) ≡ true
    unfolding first_answer passes any_shorter
    explaining = rw setting parts.1

pub each_line : EachLine
unfolding laid_out_of explained_of
each_line s line wrap raw widths buffers p i l =
    record {
      layout =
          layout_with (way_at s line wrap raw (at widths i)) (length (entries_of (rows_at s line))) (columns_at s line) (width_at s line wrap raw (at widths i));
      causes = causes_with (length (missing_at s line wrap raw (at widths i))) (columns_at s line);
      layout_is = first_passes Err _ _ (laying s line wrap raw widths buffers p i l);
      causes_are = first_passes Err _ _ (explaining s line wrap raw widths buffers p i l);
      way = get_or-map (λ (w : ℕ). way_number (way_at s line wrap raw w)) widths i 0 0 l;
      wide = get_or-map (λ (w : ℕ). width_at s line wrap raw w) widths i 0 0 l;
      missing = get_or-map (λ (w : ℕ). length (missing_at s line wrap raw w)) widths i 0 0 l;
    }

-- ---- (b), (c) from which width on a table lies sideways

pub stays_sideways : StaysSideways
stays_sideways s line wrap v w e l =
    let (raw, some, fit) = side_only 0 v (leasts_at s line wrap) e in
    side_then 0 w (leasts_at s line wrap) raw (omega arith) (omega arith)

-- there is a least width for each column
count : (s : List ℕ) (line wrap : ℕ) → length (leasts_at s line wrap) ≡ columns_at s line
count s line wrap = length_up_to (columns_at s line) (largest_at least_of (flat (boxes_at s line wrap)))

pub from_least : FromLeast
from_least s line wrap =
    record {
      lies = side_then 0 (least_sideways s line wrap) (leasts_at s line wrap) (λ e. omega arith) (omega arith) (omega (arith, count s line wrap));
      none_smaller =
          λ w e.
          let (raw, some, fit) = side_only 0 w (leasts_at s line wrap) e in
          omega (arith, count s line wrap);
    }
