-- The reply of `joined_spoken`: the owner that is found in the grids of both tables is a line of the sheet, or 0; and where the reply stands: where opening
-- the sheet refuses, where 5 or 6 applies, where the entry is no filler, and where there is an owner.
use mathlib.Core.Path.{◌≡◌, refl, sym, ap, ◌∙◌}
use mathlib.Core.Bool.{true, false, true≢false}
use mathlib.Core.List.{List, [], ◌∷◌, ◌++◌, append-nil}
use Prim.{tt}
use Prim.Native.Nat.{ℕ, ◌+◌, ◌-◌, ◌≤◌, ◌<◌}
use native.Mathlib.Omega.{arith}
use lib.ListN.{length, length-map}
use borrow.Author.Tests.{lt-ltb, le-ltb, le-leb, not-false}
use Rattle.std.specs.Prelude.{Option, Some, None, Result, Ok, Err}
use Rattle.common.specs.Lists.{mem, All}
use Rattle.common.specs.Limits.{max_position, max_entries}
use Rattle.common.specs.declared.Reason.TheVariants.{RowEnd, TooManyEntries, NoTable}
use Rattle.common.specs.declared.Refusal.{Refusal}
use Rattle.common.specs.Refusals.{Check, check, first_answer, passes, verdict_of, refusal}
use Rattle.common.proofs.All.{all_append}
use Rattle.common.proofs.Tests.{both}
use Rattle.records.specs.declared.NodeRecord.{NodeRecord}
use Rattle.records.specs.declared.Entry as records
use Rattle.records.specs.declared.RowEnd as ends
use Rattle.resolved_rows.specs.Listed.{table_rows}
use Rattle.answers.specs.declared.Part.{Part}
use Rattle.grid.specs.Grid.{Entry, GridRow, grid_of, columns_of, entries_of}
use Rattle.grid.specs.Judging.{Lined}
use Rattle.grid.proofs.GridCells.{grid_cells, owner_cell}
use Rattle.sheet.specs.Sheet.{sheet_checks, sheet_lines}
use Rattle.sheet.specs.Reading.{record_of}
use Rattle.sheet.proofs.First.{first_append, first_passes, first_accepts, first_carries, first_told, passes_both, passes_append}
use Rattle.sheet_load.specs.Opening.{nodes_of, line_check, open_checks, opened_of, after_reading}
use Rattle.sheet_load.specs.inner.Opened.{Apt}
use Rattle.sheet_load.proofs.Passing.{passed}
use Rattle.sheet_load.proofs.Ready.{nodes_lined}
use Rattle.sheet_load.proofs.Answers.{table_apt}
use Rattle.sheet_figures.specs.Calls.{every_table}
use Rattle.owners.specs.Owner.{filler_owner}
use Rattle.spoken_text.specs.Text.{first_text, text_inside, part_for}
use Rattle.spoken_text.specs.inner.Places.{TextPartPre}
use Rattle.spoken_text.proofs.Inside.{inside_within}
use Rattle.spoken_text.proofs.Parts.{text_stands}
use Rattle.grid_join.specs.Joined.{joined, joined_checks}
use Rattle.grid_join.specs.inner.Reading.{grid_in}
use Rattle.grid_join.proofs.Rereading.{count_records}
use Rattle.joined_tables.specs.Tables.{joined_grid}
use Rattle.joined_tables.proofs.Grids.{joined_each}
use Rattle.joined_owners.specs.inner.Places.{JoinedOwnerPre}
use Rattle.call_spoken.specs.Spoken.{is_none, part_of_owner}
use Rattle.call_spoken.specs.inner.Found.{verdict_at, PartInside}
use Rattle.call_spoken.proofs.Owners.{grid_entries, found_owner}
use Rattle.call_joined.specs.Joined as calls
use Rattle.call_joined.specs.Joined.{two_checks, joined_spoken_checks, joined_place_of}
use Rattle.call_joined.specs.inner.Speaking.{owner_answer, PartOfPre}
use Rattle.call_joined.proofs.Opening.{decided, opening, late, in_turn, two_refused, two_opened}

-- ---- the owner, and 5 and 6

module _ {ks : List NodeRecord} {l r : ℕ} {les : List records.Entry} {lrs : List ends.RowEnd} {c : ℕ} {res : List records.Entry} {rrs : List ends.RowEnd} {d : ℕ}
    (p : JoinedOwnerPre ks l r les lrs c res rrs d) (e : ℕ) where
  abbrev lm : c ≡ columns_of (table_rows ks l)
  lm = p.left_table.made.columns_are

  abbrev rm : d ≡ columns_of (table_rows ks r)
  rm = p.right_table.made.columns_are

  pub owner_5 : max_position < c + d → owner_answer ks l r e ≡ Err (refusal RowEnd (l + 1))
  unfolding first_answer joined_checks
  owner_5 h = rw (sym lm, sym rm, lt-ltb max_position (c + d) h)

  entries_are : {n : ℕ} → n ≡ length (entries_of (joined c d (grid_in lrs les) (grid_in rrs res))) → n ≡ length (entries_of (joined_grid ks l r))
  entries_are q =
      q
      ∙ count_records c d (grid_of (table_rows ks l)) (grid_of (table_rows ks r))
      (record { entries_are = p.left_table.made.entries_are; rows_are = p.left_table.made.rows_are })
      (record { entries_are = p.right_table.made.entries_are; rows_are = p.right_table.made.rows_are })
      ∙ rw (lm, rm)

  module _ (h : c + d ≤ max_position) {n : ℕ} (q : n ≡ length (entries_of (joined c d (grid_in lrs les) (grid_in rrs res)))) where
    few : columns_of (table_rows ks l) + columns_of (table_rows ks r) ≤ max_position
    few = omega (arith, h, lm, rm)

    pub owner_6 : max_entries < n → owner_answer ks l r e ≡ Err (refusal TooManyEntries (l + 1))
    unfolding first_answer joined_checks
    owner_6 k =
        let m : max_entries < length (entries_of (joined_grid ks l r)) = omega (arith, k, entries_are q) in
        rw (le-ltb max_position _ few, lt-ltb max_entries _ m)

    pub owner_found : n ≤ max_entries → owner_answer ks l r e ≡ Ok (filler_owner (entries_of (joined_grid ks l r)) e)
    unfolding first_answer joined_checks
    owner_found k =
        let m : length (entries_of (joined_grid ks l r)) ≤ max_entries = omega (arith, k, entries_are q) in
        rw (le-ltb max_position _ few, le-ltb max_entries _ m)

-- ---- the owner is a line of the sheet, or 0

rows_entries : (P : Entry → Type 0) (g : List GridRow) → All (λ x. All P x.entries) g → All P (entries_of g)
unfolding All entries_of
rows_entries P [] a = tt
rows_entries P (x ∷ g) a = all_append P x.entries (entries_of g) a.0 (rows_entries P g a.1)

pub owner_within : (ks : List NodeRecord) (l r e : ℕ) {c : ℕ} → Lined ks → l < length ks → r < length ks → filler_owner (entries_of (joined_grid ks l r)) e ≡ Some c → c ≤ length ks
owner_within ks l r e {c} z a b f = found_owner P (entries_of (joined_grid ks l r)) e c all f
  where
    P : ℕ → Type 0
    P q = q ≤ length ks

    Q : Entry → Type 0
    Q x = x.owner ≤ length ks

    table : (at : ℕ) → at < length ks → All Q (entries_of (grid_of (table_rows ks at)))
    table at h =
        grid_entries P (table_rows ks at)
        (λ q m.
        let w = owner_cell z at h q (ap (mem q) (grid_cells (table_rows ks at)) ∙ m) in
        omega (arith, w.0, w.1.within))

    all : All Q (entries_of (joined_grid ks l r))
    all =
        rows_entries Q (joined_grid ks l r)
        (joined_each Q (λ p q. omega arith) (columns_of (table_rows ks l)) (λ x h. h) (columns_of (table_rows ks r)) (grid_of (table_rows ks l)) (grid_of (table_rows ks r))
        (table l a) (table r b))

-- nothing stands inside line 0
pub none_inside : (ks : List NodeRecord) → text_inside ks 0 ≡ None
unfolding first_text
none_inside [] = refl
none_inside (k ∷ ks) = rw (le-leb k.depth k.depth (omega arith))

-- ---- the checks

module _ (s : List ℕ) (l r e : ℕ) where
  abbrev last : Check
  last = check (is_none (calls.joined_owner s l r e)) NoTable 0

  place_turn : joined_place_of s l r e ≡ first_answer Err (first_answer Err (Ok (part_of_owner s (calls.joined_owner s l r e))) (last ∷ [])) (two_checks s l r)
  unfolding joined_place_of
  place_turn = first_append Err (Ok (part_of_owner s (calls.joined_owner s l r e))) (two_checks s l r) (last ∷ [])

  -- refused before 5 and 6
  pub place_refused : {why : Refusal} → opened_of (Some (decided s l r)) s ≡ Err why → joined_place_of s l r e ≡ Err why
  place_refused o = place_turn ∙ two_refused s l r Err _ o

  module _ (p : passes (opening s l r) ≡ true) where
    opened_place : joined_place_of s l r e ≡ first_answer Err (first_answer Err (Ok (part_of_owner s (calls.joined_owner s l r e))) (last ∷ [])) (late s l r)
    opened_place = place_turn ∙ two_opened s l r Err _ p

    -- refused by 5 or 6
    pub place_late : {why : Refusal} → owner_answer (nodes_of s) (l - 1) (r - 1) e ≡ Err why → joined_place_of s l r e ≡ Err why
    place_late {why} o =
        opened_place
        ∙ ap (first_answer Err _) (sym (append-nil (late s l r)))
        ∙ first_carries Err (Ok (calls.joined_owner s l r e)) Err _ why (λ w f. cc) (λ f. let z : ◌≡◌ {A = ℕ} 0 1 = cc in omega arith) (late s l r) [] o

    accepted_late : {o : Option ℕ} → owner_answer (nodes_of s) (l - 1) (r - 1) e ≡ Ok o → (passes (late s l r) ≡ true) × (◌≡◌ {A = Result (Option ℕ) Refusal} (Ok (calls.joined_owner s l r e)) (Ok o))
    accepted_late {o} f = first_accepts Err (Ok (calls.joined_owner s l r e)) (Ok o) (late s l r) (λ why g. let z : ◌≡◌ {A = ℕ} 0 1 = cc in omega arith) f

    pub owner_is : {o : Option ℕ} → owner_answer (nodes_of s) (l - 1) (r - 1) e ≡ Ok o → calls.joined_owner s l r e ≡ o
    owner_is f = let q = (accepted_late f).1 in cc

    late_place : {o : Option ℕ} → owner_answer (nodes_of s) (l - 1) (r - 1) e ≡ Ok o → joined_place_of s l r e ≡ first_answer Err (Ok (part_of_owner s (calls.joined_owner s l r e))) (last ∷ [])
    late_place f = opened_place ∙ first_passes Err _ (late s l r) (accepted_late f).0

    pub place_none : owner_answer (nodes_of s) (l - 1) (r - 1) e ≡ Ok None → joined_place_of s l r e ≡ Err (refusal NoTable 0)
    unfolding first_answer is_none
    place_none f = late_place f ∙ rw (owner_is f)

    pub place_owned : {c : ℕ} → owner_answer (nodes_of s) (l - 1) (r - 1) e ≡ Ok (Some c) → joined_place_of s l r e ≡ Ok (part_for (text_inside (nodes_of s) c) s)
    unfolding first_answer is_none part_of_owner
    place_owned f = late_place f ∙ rw (owner_is f)

  -- the verdict is that of the checks
  pub verdict_judged : verdict_at (joined_place_of s l r e) ≡ verdict_of (joined_spoken_checks s l r e)
  unfolding joined_place_of verdict_of verdict_at
  verdict_judged = first_told verdict_at Err (Ok (part_of_owner s (calls.joined_owner s l r e))) (joined_spoken_checks s l r e)

-- ---- a part of the sheet

module _ (s : List ℕ) (l r e : ℕ) (p : passes (opening s l r) ≡ true) (x : Apt (nodes_of s) l) (y : Apt (nodes_of s) r) where
  sheet_passes : passes (sheet_checks s) ≡ true
  sheet_passes = (both _ _ (sym (passes_append (sheet_checks s) (after_reading (Some (decided s l r)) (nodes_of s))) ∙ p)).0

  accepted : opened_of (Some (decided s l r)) s ≡ Ok (length (sheet_lines s))
  unfolding opened_of
  accepted = first_passes Err _ (open_checks (Some (decided s l r)) s) p

  owner_bound : {c : ℕ} → calls.joined_owner s l r e ≡ Some c → c ≤ length (nodes_of s)
  owner_bound f =
      owner_within (nodes_of s) (l - 1) (r - 1) e (nodes_lined s _ (passed (Some (decided s l r)) s _ accepted).reading)
      (omega (arith, x.from_one, x.within)) (omega (arith, y.from_one, y.within)) f

  pub part_ready : {c : ℕ} → calls.joined_owner s l r e ≡ Some c → PartOfPre s (nodes_of s) c
  part_ready f = record { accepted = sheet_passes; lines_are = refl; within = owner_bound f }

  part_inside : {q : Part} → part_of_owner s (calls.joined_owner s l r e) ≡ Some q → q.from + q.length ≤ length s
  unfolding part_of_owner part_for
  part_inside {q} f = by_owner (calls.joined_owner s l r e) refl f
    where
      by_text : (c : ℕ) → calls.joined_owner s l r e ≡ Some c → (t : Option ℕ) → text_inside (nodes_of s) c ≡ t → part_for t s ≡ Some q → q.from + q.length ≤ length s
      by_text c o None i g = let z : ◌≡◌ {A = ℕ} 0 1 = cc in absurd (omega arith)
      by_text c o (Some k) i g =
          let w = inside_within (nodes_of s) c k (owner_bound o) i in
          let t : TextPartPre s k = record { accepted = sheet_passes; from_one = w.0; within = omega (arith, w.1, length-map (sheet_lines s) record_of) } in
          (text_stands t g).0

      by_owner : (o : Option ℕ) → calls.joined_owner s l r e ≡ o → part_of_owner s o ≡ Some q → q.from + q.length ≤ length s
      by_owner None o g = let z : ◌≡◌ {A = ℕ} 0 1 = cc in absurd (omega arith)
      by_owner (Some c) o g = by_text c o (text_inside (nodes_of s) c) refl g

module _ (s : List ℕ) (l r e : ℕ) where
  abbrev front : List Check
  front = line_check (nodes_of s) l ∷ line_check (nodes_of s) r ∷ every_table s

  -- a call that passes has two tables
  both_apt : passes (two_checks s l r) ≡ true → Apt (nodes_of s) l × Apt (nodes_of s) r
  both_apt p =
      let a = (both _ _ (sym (passes_append (sheet_checks s ++ front) (late s l r)) ∙ p)).0 in
      let b = (both _ _ (sym (passes_append (sheet_checks s) front) ∙ a)).1 in
      let c = passes_both _ _ b in
      let d = passes_both _ _ c.1 in
      (table_apt (nodes_of s) l (not-false _ c.0), table_apt (nodes_of s) r (not-false _ d.0))

  -- and is opened
  opening_passes : passes (two_checks s l r) ≡ true → passes (opening s l r) ≡ true
  unfolding passes
  opening_passes p =
      (first_accepts (λ why. false) _ true (opening s l r) (λ why g. true≢false (sym g)) (sym (in_turn s l r (λ why. false) true) ∙ p)).0

  pub place_inside : PartInside s (joined_place_of s l r e)
  unfolding PartInside joined_place_of
  place_inside = go (joined_place_of s l r e) refl
    where
      go : (q : Result (Option Part) Refusal) → joined_place_of s l r e ≡ q → PartInside s q
      go (Ok (Some q)) f =
          let (p, a) =
          first_accepts Err (Ok (part_of_owner s (calls.joined_owner s l r e))) (Ok (Some q)) (joined_spoken_checks s l r e) (λ why g. let z : ◌≡◌ {A = ℕ} 0 1 = cc in omega arith) f in
          let b = (both _ _ (sym (passes_append (two_checks s l r) (last s l r e ∷ [])) ∙ p)).0 in
          let t = both_apt b in
          part_inside s l r e (opening_passes b) t.0 t.1 cc
      go (Ok None) f = tt
      go (Err why) f = tt
