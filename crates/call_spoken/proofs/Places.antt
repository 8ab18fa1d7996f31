-- Where the reply of the call stands: where opening the sheet refuses, where the entry is no filler, and where there is an owner.
use mathlib.Core.Path.{◌≡◌, refl, sym, ap, ◌∙◌}
use mathlib.Core.Bool.{true}
use mathlib.Core.List.{List, [], ◌∷◌}
use Prim.Native.Nat.{ℕ, ◌+◌, ◌-◌, ◌≤◌}
use native.Mathlib.Omega.{arith}
use lib.ListN.{length, take, drop, length-map}
use borrow.Author.Tests.{ne_eqb}
use Rattle.std.specs.Prelude.{Option, Some, None, Result, Ok, Err}
use Rattle.common.specs.declared.Reason.TheVariants.{NoTable}
use Rattle.common.specs.declared.Refusal.{Refusal}
use Rattle.common.specs.Refusals.{Check, check, first_answer, passes, verdict_of, refusal}
use Rattle.common.proofs.Tests.{both}
use Rattle.answers.specs.declared.Part.{Part}
use Rattle.sheet.specs.Sheet.{sheet_checks, sheet_lines}
use Rattle.sheet.specs.Reading.{record_of}
use Rattle.sheet.proofs.First.{first_append, first_passes, first_accepts, first_told, passes_append}
use Rattle.sheet_load.specs.Opening.{nodes_of, open_checks, opened_of, after_reading}
use Rattle.sheet_load.proofs.Opens.{opened_asked}
use Rattle.sheet_load.proofs.Passing.{passed}
use Rattle.sheet_load.proofs.Ready.{nodes_lined}
use Rattle.sheet_load.proofs.Answers.{table_apt}
use Rattle.sheet_figures.proofs.Openings.{told}
use Rattle.spoken_text.specs.Text.{text_inside, text_of, text_part, part_for, part_with, line_end}
use Rattle.spoken_text.specs.inner.Places.{TextPartPre, SpokenPartPre}
use Rattle.spoken_text.proofs.Inside.{inside_within}
use Rattle.spoken_text.proofs.Parts.{text_stands}
use Rattle.call_spoken.specs.Spoken.{owner_at, is_none, spoken_checks, part_of_owner, part_at, place_of, reply, SpeaksText}
use Rattle.call_spoken.specs.inner.Found.{verdict_at, PartInside}
use Rattle.call_spoken.proofs.Owners.{owner_line}

-- ---- the checks

module _ (s : List ℕ) (line e : ℕ) where
  abbrev last : Check
  last = check (is_none (owner_at s line e)) NoTable 0

  in_turn : {A : Type 0} (refused : Refusal → A) (accepted : A)
      → first_answer refused accepted (spoken_checks s line e) ≡ first_answer refused (first_answer refused accepted (last ∷ [])) (open_checks (Some line) s)
  unfolding after_reading
  in_turn refused accepted = first_append refused accepted (open_checks (Some line) s) (last ∷ [])

  -- refused before the entry is asked
  pub place_refused : {why : Refusal} → opened_of (Some line) s ≡ Err why → place_of s line e ≡ Err why
  unfolding place_of
  place_refused {why} o = in_turn Err (Ok (part_at s line e)) ∙ told (Some line) s Err _ why o

  module _ (p : passes (open_checks (Some line) s) ≡ true) where
    opened : place_of s line e ≡ first_answer Err (Ok (part_at s line e)) (last ∷ [])
    unfolding place_of
    opened = in_turn Err (Ok (part_at s line e)) ∙ first_passes Err _ (open_checks (Some line) s) p

    pub place_none : owner_at s line e ≡ None → place_of s line e ≡ Err (refusal NoTable 0)
    unfolding first_answer is_none
    place_none o = opened ∙ rw o

    pub place_owned : {c : ℕ} → owner_at s line e ≡ Some c → place_of s line e ≡ Ok (part_for (text_inside (nodes_of s) c) s)
    unfolding first_answer is_none part_of_owner
    place_owned o = opened ∙ rw o

  -- the verdict is that of the checks
  pub verdict_judged : verdict_at (place_of s line e) ≡ verdict_of (spoken_checks s line e)
  unfolding place_of verdict_of verdict_at
  verdict_judged = first_told verdict_at Err (Ok (part_at s line e)) (spoken_checks s line e)

-- ---- a part of the sheet

-- the text of line k stands there
pub record TextStands (s : List ℕ) (p : Part) : Type 0 where
  pub line : ℕ
  pub inside : p.from + p.length ≤ length s
  pub text : take p.length (drop p.from s) ≡ text_of s line

module _ (s : List ℕ) (line : ℕ) (p : passes (open_checks (Some line) s) ≡ true) where
  sheet_passes : passes (sheet_checks s) ≡ true
  sheet_passes = (both _ _ (sym (passes_append (sheet_checks s) (after_reading (Some line) (nodes_of s))) ∙ p)).0

  accepted : opened_of (Some line) s ≡ Ok (length (sheet_lines s))
  unfolding opened_of
  accepted = first_passes Err _ (open_checks (Some line) s) p

  -- the owner is a line of the sheet
  pub owner_within : (e : ℕ) {c : ℕ} → owner_at s line e ≡ Some c → (1 ≤ c) × (c ≤ length (nodes_of s))
  owner_within e {c} o =
      let t = table_apt (nodes_of s) line (opened_asked (Some line) s _ accepted line refl) in
      owner_line (nodes_of s) (line - 1) e c (nodes_lined s _ (passed (Some line) s _ accepted).reading) (omega (arith, t.from_one, t.within)) o

  pub part_ready : (e : ℕ) {c : ℕ} → owner_at s line e ≡ Some c → SpokenPartPre s (nodes_of s) c
  part_ready e o = let w = owner_within e o in record { accepted = sheet_passes; lines_are = refl; from_one = w.0; within = w.1 }

  -- and so is a text inside it
  text_ready : (e : ℕ) {c k : ℕ} → owner_at s line e ≡ Some c → text_inside (nodes_of s) c ≡ Some k → TextPartPre s k
  text_ready e {c} {k} o i =
      let w = inside_within (nodes_of s) c k (owner_within e o).1 i in
      record { accepted = sheet_passes; from_one = w.0; within = omega (arith, w.1, length-map (sheet_lines s) record_of) }

  pub part_text : (e : ℕ) {q : Part} → part_at s line e ≡ Some q → TextStands s q
  unfolding part_of_owner part_for
  part_text e {q} f = by_owner (owner_at s line e) refl f
    where
      by_text : (c : ℕ) → owner_at s line e ≡ Some c → (t : Option ℕ) → text_inside (nodes_of s) c ≡ t → part_for t s ≡ Some q → TextStands s q
      by_text c o None i g = let z : ◌≡◌ {A = ℕ} 0 1 = cc in absurd (omega arith)
      by_text c o (Some k) i g =
          let r = text_stands (text_ready e o i) g in
          record { line = k; inside = r.0; text = r.1 }

      by_owner : (o : Option ℕ) → owner_at s line e ≡ o → part_of_owner s o ≡ Some q → TextStands s q
      by_owner None o g = let z : ◌≡◌ {A = ℕ} 0 1 = cc in absurd (omega arith)
      by_owner (Some c) o g = by_text c o (text_inside (nodes_of s) c) refl g

module _ (s : List ℕ) (line e : ℕ) where
  -- a part of the sheet is the whole text of one of its lines
  pub place_text : {q : Part} → place_of s line e ≡ Ok (Some q) → TextStands s q
  unfolding place_of after_reading
  place_text {q} f =
      let (p, a) =
      first_accepts Err (Ok (part_at s line e)) (Ok (Some q)) (spoken_checks s line e) (λ why g. let z : ◌≡◌ {A = ℕ} 0 1 = cc in omega arith) f in
      part_text s line (both _ _ (sym (passes_append (open_checks (Some line) s) (last s line e ∷ [])) ∙ p)).0 e cc

  pub place_inside : PartInside s (place_of s line e)
  unfolding PartInside
  place_inside = go (place_of s line e) refl
    where
      go : (r : Result (Option Part) Refusal) → place_of s line e ≡ r → PartInside s r
      go (Ok (Some q)) f = (place_text f).inside
      go (Ok None) f = tt
      go (Err why) f = tt

  -- the reply is that text
  pub whole_text : (wording : List ℕ) {r : List ℕ} → r ≡ reply s wording (place_of s line e) → SpeaksText s line e r
  unfolding reply part_for text_part after_reading
  whole_text wording q c k p o i h =
      let open_passes = (both _ _ (sym (passes_append (open_checks (Some line) s) (last s line e ∷ [])) ∙ p)).0 in
      let n = length (text_of s k) in
      let there : text_part s k ≡ Some (part_with (line_end s k - n) n) = rw (ne_eqb n 0 (λ z. omega (arith, h, z))) in
      q
      ∙ ap (reply s wording) (place_owned s line e open_passes o ∙ ap (λ (t : Option ℕ). Ok (part_for t s)) i ∙ ap Ok there)
      ∙ (text_stands (text_ready s line open_passes e o i) there).1
