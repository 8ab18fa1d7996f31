-- The lines of the report: a table at one width, and the loop over the widths.
use mathlib.Core.Path.{◌≡◌, sym, ap, ◌∙◌}
use mathlib.Core.List.{List, ◌++◌, map}
use Prim.Native.Nat.{ℕ, ◌+◌, ◌≤◌, ◌<◌}
use native.Mathlib.Omega.{arith}
use lib.ListN.{length, get_or, take, drop, set, length-map}
use Rattle.std.proofs.lemmas.List.{get_or-map}
use Rattle.common.proofs.Write.{write_more, write_all}
use Rattle.records.specs.declared.Entry.{Entry}
use Rattle.widths.specs.Widths.{way_of, table_width}
use Rattle.answers.specs.Numbers.{way_number}
use Rattle.window.specs.declared.AtWidth.{AtWidth}
use Rattle.window.specs.inner.Counting.{missing_count}
use Rattle.window.specs.inner.Lines.{finals, AtWidthPost, WriteLinesPre}

-- ---- one slice: its first i places are written

abbrev Front : (f : ℕ → ℕ) (widths slice₀ slice : List ℕ) (i : ℕ) → Type 0
Front f widths slice₀ slice i = slice ≡ take i (map f widths) ++ drop i slice₀

module _ (f : ℕ → ℕ) (widths slice₀ : List ℕ) (e : length slice₀ ≡ length widths) where
  same : length (map f widths) ≡ length slice₀
  same = length-map widths f ∙ sym e

  line_more : {slice : List ℕ} {i v : ℕ} → i < length widths → Front f widths slice₀ slice i → v ≡ f (get_or widths i 0)
      → Front f widths slice₀ (set slice i v) (i + 1)
  line_more {slice} {i} {v} h w q =
      write_more (map f widths) slice₀ same slice i v (omega (arith, e)) w (q ∙ sym (get_or-map f widths i 0 0 h))

  line_all : {slice : List ℕ} {i : ℕ} → length widths ≤ i → Front f widths slice₀ slice i → slice ≡ map f widths
  line_all {slice} {i} h w = write_all (map f widths) slice₀ same slice i (omega (arith, e)) w

-- ---- the three slices

abbrev way_line : (leasts : List ℕ) (raw w : ℕ) → ℕ
way_line leasts raw w = way_number (way_of raw w leasts)

abbrev wide_line : (sizes leasts : List ℕ) (raw w : ℕ) → ℕ
wide_line sizes leasts raw w = table_width (way_of raw w leasts) (finals sizes leasts raw w) w

abbrev missing_line : (es : List Entry) (sizes leasts : List ℕ) (raw w : ℕ) → ℕ
missing_line es sizes leasts raw w = missing_count (finals sizes leasts raw w) es

-- the first i lines are written
pub record LinesWritten (es : List Entry) (sizes leasts : List ℕ) (raw : ℕ) (widths way₀ wide₀ missing₀ way wide missing : List ℕ) (i : ℕ) : Type 0 where
  pub ways : Front (way_line leasts raw) widths way₀ way i
  pub wides : Front (wide_line sizes leasts raw) widths wide₀ wide i
  pub missings : Front (missing_line es sizes leasts raw) widths missing₀ missing i

module _ {es : List Entry} {sizes leasts : List ℕ} {raw : ℕ} {widths way₀ wide₀ missing₀ : List ℕ} (p : WriteLinesPre widths way₀ wide₀ missing₀) where
  module _ {way wide missing : List ℕ} {i : ℕ} (z : LinesWritten es sizes leasts raw widths way₀ wide₀ missing₀ way wide missing i) where
    pub lines_more : i < length widths → {r : AtWidth} → AtWidthPost es sizes leasts raw (get_or widths i 0) r → {number : ℕ} → number ≡ way_number r.laid.way
        → LinesWritten es sizes leasts raw widths way₀ wide₀ missing₀ (set way i number) (set wide i r.laid.width) (set missing i r.missing) (i + 1)
    lines_more h t e =
        record {
          ways = line_more (way_line leasts raw) widths way₀ p.way_length h z.ways (e ∙ ap way_number t.way_is);
          wides = line_more (wide_line sizes leasts raw) widths wide₀ p.wide_length h z.wides t.width_is;
          missings = line_more (missing_line es sizes leasts raw) widths missing₀ p.missing_length h z.missings t.missing_is;
        }
