-- What the call returns of every filler: by the first text inside its owner; and whose cell the owner is.
use mathlib.Core.Path.{◌≡◌, refl, sym, ap, ◌∙◌}
use mathlib.Core.Logic.{◌⊎◌, inl, inr}
use mathlib.Core.Bool.{Bool, true, false, cond, true≢false}
use mathlib.Core.List.{List, [], ◌∷◌}
use Prim.Native.Nat.{ℕ, ◌-◌, ◌≤◌, ◌<◌}
use native.Mathlib.Omega.{arith}
use lib.Dec.{eqb}
use lib.ListN.{length, length-map}
use borrow.Author.Tests.{eqb-true, eqb-false}
use Rattle.std.specs.Prelude.{Option, Some, None, Ok, Err}
use Rattle.std.proofs.lemmas.List.{nil_from_length}
use Rattle.common.specs.Lists.{mem}
use Rattle.common.specs.Refusals.{check, passes}
use Rattle.common.specs.declared.Reason.TheVariants.{NoTable}
use Rattle.common.proofs.Tests.{both}
use Rattle.answers.specs.declared.Part.{Part}
use Rattle.sheet.specs.Sheet.{sheet_checks}
use Rattle.sheet.specs.Reading.{record_of}
use Rattle.sheet.specs.Sheet.{sheet_lines}
use Rattle.sheet.proofs.First.{first_passes, passes_append, passes_both}
use Rattle.sheet_load.specs.Opening.{nodes_of, open_checks, opened_of, after_reading}
use Rattle.sheet_load.proofs.Opens.{opened_asked}
use Rattle.sheet_load.proofs.Passing.{passed}
use Rattle.sheet_load.proofs.Ready.{nodes_lined}
use Rattle.sheet_load.proofs.Answers.{table_apt}
use Rattle.sheet_figures.specs.Figures.{table_at, rows_at}
use Rattle.grid.specs.Grid.{entries_of}
use Rattle.grid.specs.Facts.{CellOf}
use Rattle.grid.proofs.GridCells.{grid_cells, owner_cell}
use Rattle.grid.specs.Owners.{CellAbove, bodies_at}
use Rattle.grid.proofs.Owned.{owners_above}
use Rattle.spoken_text.specs.Text.{text_inside, text_of, text_part, part_for, part_with, line_end}
use Rattle.spoken_text.specs.inner.Places.{TextPartPre}
use Rattle.spoken_text.proofs.Inside.{inside_within}
use Rattle.spoken_text.proofs.Parts.{text_stands}
use Rattle.call_spoken.specs.Spoken.{owner_at, is_none, spoken_checks, place_of, reply}
use Rattle.call_spoken.proofs.Owners.{grid_entries, found_owner}
use Rattle.call_spoken.proofs.Places.{place_owned, owner_within}
use Rattle.spoken_theorems.specs.Spoken.{OfSheet, OfWording, Owner, Spoken}
use Rattle.spoken_theorems.proofs.Inside.{first_found, none_first, one_first}
use Rattle.spoken_theorems.proofs.Rows.{in_row}

-- a text's part is as long as the text; where it has none, the text is empty
part_long : (s : List ℕ) (k : ℕ) (p : Part) → text_part s k ≡ Some p → 0 < p.length
unfolding text_part
part_long s k p e = go (length (text_of s k)) e
  where
    long : (n : ℕ) (b : Bool) → eqb n 0 ≡ b → cond b None (Some (part_with (line_end s k - n) n)) ≡ Some p → 0 < p.length
    long n true q f = let z : ◌≡◌ {A = ℕ} 0 1 = cc in absurd (omega arith)
    long n false q f =
        let z : part_with (line_end s k - n) n ≡ p = cc in
        omega (arith, eqb-false n 0 q, ap (λ (x : Part). x.length) z)

    go : (n : ℕ) → cond (eqb n 0) None (Some (part_with (line_end s k - n) n)) ≡ Some p → 0 < p.length
    go n f = long n (eqb n 0) refl f

part_none : (s : List ℕ) (k : ℕ) → text_part s k ≡ None → text_of s k ≡ []
unfolding text_part
part_none s k e = go (eqb (length (text_of s k)) 0) refl e
  where
    go : (b : Bool) → eqb (length (text_of s k)) 0 ≡ b → cond b None (Some (part_with (line_end s k - length (text_of s k)) (length (text_of s k)))) ≡ None → text_of s k ≡ []
    go true q f = nil_from_length (text_of s k) (eqb-true (length (text_of s k)) 0 q)
    go false q f = let z : ◌≡◌ {A = ℕ} 0 1 = cc in absurd (omega arith)

module _ (s : List ℕ) (line e : ℕ) (p : passes (spoken_checks s line e) ≡ true) where
  parts : (passes (open_checks (Some line) s) ≡ true) × (passes (check (is_none (owner_at s line e)) NoTable 0 ∷ []) ≡ true)
  unfolding after_reading
  parts = both _ _ (sym (passes_append (open_checks (Some line) s) (check (is_none (owner_at s line e)) NoTable 0 ∷ [])) ∙ p)

  read : passes (sheet_checks s) ≡ true
  read = (both _ _ (sym (passes_append (sheet_checks s) (after_reading (Some line) (nodes_of s))) ∙ parts.0)).0

  -- ---- what is returned

  module _ (wording : List ℕ) (c : ℕ) (o : owner_at s line e ≡ Some c) where
    abbrev Returned : Type 0
    Returned = OfSheet s wording line e c ⊎ OfWording s wording line e c

    place : place_of s line e ≡ Ok (part_for (text_inside (nodes_of s) c) s)
    place = place_owned s line e parts.0 o

    ready : (k : ℕ) → text_inside (nodes_of s) c ≡ Some k → TextPartPre s k
    ready k t =
        let w = inside_within (nodes_of s) c k (owner_within s line parts.0 e o).1 t in
        record { accepted = read; from_one = w.0; within = omega (arith, w.1, length-map (sheet_lines s) record_of) }

    no_text : text_inside (nodes_of s) c ≡ None → OfWording s wording line e c
    unfolding part_for reply
    no_text t =
        let q : place_of s line e ≡ Ok None = place ∙ ap (λ (x : Option ℕ). Ok (part_for x s)) t in
        record { place = q; none = λ k f. absurd (none_first (nodes_of s) c t k f); returned = ap (reply s wording) q }

    of_text : (k : ℕ) → text_inside (nodes_of s) c ≡ Some k → (r : Option Part) → text_part s k ≡ r → Returned
    unfolding part_for reply
    of_text k t None g =
        let q : place_of s line e ≡ Ok None = place ∙ ap (λ (x : Option ℕ). Ok (part_for x s)) t ∙ ap Ok g in
        let first = first_found (nodes_of s) c k t in
        inr (record {
          place = q;
          none = λ i f. ap (text_of s) (one_first (nodes_of s) c i k f first) ∙ part_none s k g;
          returned = ap (reply s wording) q;
        })
    of_text k t (Some a) g =
        let q : place_of s line e ≡ Ok (Some a) = place ∙ ap (λ (x : Option ℕ). Ok (part_for x s)) t ∙ ap Ok g in
        let w = text_stands (ready k t) g in
        inl (record {
          part = a;
          place = q;
          text = k;
          first = first_found (nodes_of s) c k t;
          within = w.0;
          stands = w.1;
          some = part_long s k a g;
          returned = ap (reply s wording) q ∙ w.1;
        })

    returns : Returned
    returns = go (text_inside (nodes_of s) c) refl
      where
        go : (t : Option ℕ) → text_inside (nodes_of s) c ≡ t → Returned
        go None t = inr (no_text t)
        go (Some k) t = of_text k t (text_part s k) refl

  -- ---- the owner

  owner_is : (o : Option ℕ) → owner_at s line e ≡ o → is_none o ≡ false → (c : ℕ) × (owner_at s line e ≡ Some c)
  unfolding is_none
  owner_is None o f = absurd (true≢false f)
  owner_is (Some c) o f = (c, o)

  accepted : opened_of (Some line) s ≡ Ok (length (sheet_lines s))
  unfolding opened_of
  accepted = first_passes Err _ (open_checks (Some line) s) parts.0

  abbrev Cell : ℕ → Type 0
  Cell q = (1 ≤ q) × CellOf (nodes_of s) (line - 1) (q - 1)

  -- the line of each entry's owner is that of a cell of the table
  cell_is : (c : ℕ) → owner_at s line e ≡ Some c → Cell c
  cell_is c o =
      let t = table_apt (nodes_of s) line (opened_asked (Some line) s _ accepted line refl) in
      let z = nodes_lined s _ (passed (Some line) s _ accepted).reading in
      let b = table_at s line in
      found_owner Cell (entries_of (rows_at s line)) e c
      (grid_entries Cell b (λ q m. owner_cell z (line - 1) (omega (arith, t.from_one, t.within)) q (ap (mem q) (grid_cells b) ∙ m))) o

  owned : Owner s line e
  owned =
      let (c, o) = owner_is (owner_at s line e) refl (passes_both _ _ parts.1).0 in
      let g = rows_at s line in
      let w = in_row (λ i x. CellAbove (bodies_at (nodes_of s) (line - 1)) g i x) g (owners_above.of_table (nodes_of s) (line - 1)) e c o in
      record { owner = c; owner_is = o; from_one = (cell_is c o).0; cell = (cell_is c o).1; row = w.row; here = w.here; above = w.has }

pub spoken_at_fillers : Spoken
spoken_at_fillers = record { owned = owned; spoken = λ s wording line e c p o. returns s line e p wording c o }
