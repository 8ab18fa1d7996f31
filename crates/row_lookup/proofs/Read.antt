-- What is found in one table of a measured sheet is what is found in the sheet.
use Rattle.common.specs.declared.Refusal.{Refusal}
use Rattle.std.specs.Prelude.{Err, Result, Some}
use mathlib.Core.Path.{◌≡◌, sym, ◌∙◌}
use mathlib.Core.List.{List}
use Prim.Native.Nat.{ℕ, ◌+◌, ◌-◌}
use native.Mathlib.Omega.{arith}
use lib.ListN.{length, take}
use Rattle.text.specs.declared.Estimate.{Estimate}
use Rattle.records.specs.declared.NodeRecord.{NodeRecord}
use Rattle.sheet.proofs.First.{first_passes}
use Rattle.sheet_load.specs.Opening.{open_checks, opened_of}
use Rattle.sheet_figures.specs.inner.Opened.{LinesOf}
use Rattle.sheet_figures.proofs.Openings.{failed, told, opened_passed, opened_apt}
use Rattle.row_lookup.specs.declared.Span.{Span}
use Rattle.row_lookup.specs.inner.Ranges.{PlacesCapacity, FindRowPost, RangeFound}

-- slices that are as long as they were have the same room
pub room_still : {x wide x' wide' : List ℕ} → length x' ≡ length x → length wide' ≡ length wide → PlacesCapacity x wide → PlacesCapacity x' wide'
room_still e f o = record { x_capacity = omega (arith, o.x_capacity); wide_capacity = omega (arith, o.wide_capacity) }

-- ---- of the table asked for

module _ {s : List ℕ} {line wrap raw width row : ℕ} {x wide : List ℕ} where
  pub spot_found : {n : ℕ} {lines : List NodeRecord} {figures : List Estimate} → LinesOf s line wrap n lines figures → {r : Result Span Refusal}
      → FindRowPost (take n lines) (line - 1) figures raw width row r x wide → RangeFound (open_checks (Some line) s) s line wrap raw width row r x wide
  spot_found w g =
      let m = rw w.opened.holds at g in
      let b = (opened_apt w.opened).from_one in
      let k : line - 1 + 1 ≡ line = omega arith in
      let l = rw k at (m.made wrap (record { cells = w.measured.cells })) in
      record { answer = l.answer ∙ sym (first_passes Err _ (open_checks (Some line) s) (opened_passed w.opened).all); told = λ q. l.told }

  pub spot_refused : {why : Refusal} → opened_of (Some line) s ≡ Err why → RangeFound (open_checks (Some line) s) s line wrap raw width row (Err why) x wide
  spot_refused {why} o =
      let p = failed (Some line) s why o in
      record {
        answer = sym (told (Some line) s Err _ why o);
        told = λ q. let z : ◌≡◌ {A = ℕ} 0 1 = cc in absurd (omega arith);
      }
