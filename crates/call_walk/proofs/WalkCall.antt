-- The call `walk`: what is found in the sheet is what it answers and leaves.
use Rattle.records.specs.declared.NodeRecord.{NodeRecord}
use Rattle.common.specs.declared.Refusal.{Refusal}
use Rattle.std.specs.Prelude.{Err, Ok, Result, Option, MatchResult, None, Some}
use Rattle.std.specs.Option.{is_some, unwrap_or}
use mir.Val.{bool_byte}
use mathlib.Core.Path.{◌≡◌, refl, sym, ap, ◌∙◌}
use mathlib.Core.Bool.{Bool, true, false}
use mathlib.Core.List.{List, [], ◌∷◌, map}
use Prim.Native.Nat.{ℕ, ◌≤◌}
use native.Mathlib.Omega.{arith}
use lib.ListN.{length, take}
use lib.Seq.{length-take-le}
use Rattle.common.specs.Lists.{padded}
use Rattle.common.specs.Limits.{max_lines}
use Rattle.common.specs.Refusals.{Check, first_answer, verdict_of, passes, if_passes}
use Rattle.text.specs.declared.Estimate.{Estimate}
use Rattle.sheet.specs.Sheet.{sheet_lines}
use Rattle.sheet.specs.inner.Steps.{line_bound}
use Rattle.sheet.proofs.First.{first_passes, first_accepts, figures_fail, front_pass}
use Rattle.sheet_load.specs.Opening.{after_reading}
use Rattle.arguments.specs.Arguments.{walk_arguments}
use Rattle.arguments.specs.declared.Settings.{Settings}
use Rattle.arguments.specs.inner.Asked.{Asks, verdict_in}
use Rattle.arguments.proofs.Opened.{opened}
use Rattle.arguments.proofs.Shorter.{two_fit}
use Rattle.sheet_figures.specs.inner.Opened.{lines_in}
use Rattle.sheet_figures.specs.inner.Early.{early}
use Rattle.sheet_figures.proofs.Early.{early_nines, none_nines, fits, leaving}
use Rattle.available_width.specs.Walk.{given_number, width_number}
use Rattle.call_walk.specs.Walks.{walk_checks, walked_of, for_walk, WalkAnswer}
use Rattle.sheet_walk.specs.inner.Found.{WalkSheetPost}
use Rattle.sheet_walk.specs.Sheets.{walked_checks}
use Rattle.call_walk.specs.inner.Found.{WriteWidthsPost, WalkCapacity, WalkFound}
use Rattle.sheet_walk.proofs.Opening.{opened_passed}

-- ---- what is told

-- whether a line has a width, and which, as the functions of `Option` say it
pub given_is : (w : Option ℕ) → bool_byte (is_some w) ≡ given_number w
unfolding given_number
given_is None = refl
given_is (Some v) = refl

pub width_is : (w : Option ℕ) → unwrap_or w 0 ≡ width_number w
unfolding width_number
width_is None = refl
width_is (Some v) = refl

module _ {asked : Option ℕ} {s : List ℕ} {wrap raw width overflow : ℕ} {r : Result ℕ Refusal} {lines : List NodeRecord} {figures : List Estimate} {ps : List (Option ℕ)}
    (w : WalkSheetPost asked s wrap raw width overflow r lines figures ps) where
  -- there are no more lines than there is room for
  pub lines_few : {n : ℕ} → r ≡ Ok n → (n ≤ line_bound s) × (n ≤ max_lines)
  lines_few {n} e = let p = opened_passed (w.opened n e) n refl in (p.capacity, p.few)

  pub walk_found : {n : ℕ} → r ≡ Ok n → n ≤ length ps → {given wide : List ℕ} → WriteWidthsPost (take n ps) given wide
      → WalkFound (walked_checks asked s wrap raw width overflow) s wrap raw width (Ok n) given wide
  unfolding lines_in
  walk_found {n} e h {given} {wide} t =
      let cs = walked_checks asked s wrap raw width overflow in
      let p = (first_accepts Err (Ok (length (sheet_lines s))) (Ok n) cs (λ why d. let z : ◌≡◌ {A = ℕ} 0 1 = cc in omega arith) (sym w.answer ∙ e)).0 in
      let l : n ≡ length (take n ps) = sym (length-take-le n ps h) in
      record {
        answer = sym e ∙ w.answer;
        few = (lines_few e).1;
        givens = front_pass given cs p l (t.givens ∙ ap (map given_number) (w.widths n e));
        wides = front_pass wide cs p l (t.wides ∙ ap (map width_number) (w.widths n e));
      }

  pub walk_refused : {why : Refusal} → r ≡ Err why → {given wide : List ℕ} → WalkFound (walked_checks asked s wrap raw width overflow) s wrap raw width (Err why) given wide
  unfolding lines_in
  walk_refused {why} e =
      let cs = walked_checks asked s wrap raw width overflow in
      let p = refuse (passes cs) refl in
      record {
        answer = sym e ∙ w.answer;
        few = omega arith;
        givens = sym (figures_fail cs _ p);
        wides = sym (figures_fail cs _ p);
      }
    where
      refuse : (t : Bool) → passes (walked_checks asked s wrap raw width overflow) ≡ t → t ≡ false
      refuse true p =
          let z = sym (first_passes Err (Ok (length (sheet_lines s))) (walked_checks asked s wrap raw width overflow) p) ∙ sym w.answer ∙ e in let y : ◌≡◌ {A = ℕ} 0 1 = cc in absurd (omega arith)
      refuse false p = refl

-- ---- refused for the arguments, or not

walk_early : (why : Refusal) (cs : List Check) (s : List ℕ) (wrap raw width : ℕ) (given wide : List ℕ)
    → WalkFound (early (Err why) ∷ cs) s wrap raw width (Err why) given wide
unfolding first_answer early if_passes lines_in
walk_early why cs s wrap raw width given wide = record { answer = refl; few = omega arith; givens = refl; wides = refl }

walk_late : {cs : List Check} {s : List ℕ} {wrap raw width : ℕ} {r : Result ℕ Refusal} {given wide : List ℕ}
    → WalkFound cs s wrap raw width r given wide → WalkFound (early (Ok tt) ∷ cs) s wrap raw width r given wide
unfolding first_answer early if_passes
walk_late f = record { answer = f.answer; few = f.few; givens = f.givens; wides = f.wides }

pub walk_opened : {asked : Result Settings Refusal} {s : List ℕ} {wrap raw width overflow : ℕ} {r : Result ℕ Refusal} {given wide : List ℕ}
    → Asks asked wrap raw width overflow
    → MatchResult asked (λ g. WalkFound (walked_checks None s g.wrap g.raw g.width g.overflow) s g.wrap g.raw g.width r given wide) (λ why. r ≡ Err why)
    → WalkFound (early (verdict_in asked) ∷ walked_checks None s wrap raw width overflow) s wrap raw width r given wide
walk_opened {asked} {s} {wrap} {raw} {width} {overflow} {r} {given} {wide} =
    let cs = walked_checks None s in
    opened (λ v q. WalkFound (early v ∷ cs wrap raw width overflow) s wrap raw width q given wide) (λ p q l o. WalkFound (cs p q l o) s p q l r given wide)
    asked (λ why. walk_early why (cs wrap raw width overflow) s wrap raw width given wide) walk_late

-- where the arguments are not refused, each lent buffer has room
fit : (wrap raw width overflow : ℕ) (v : Result (Unit {0}) Refusal) (a b : ℕ) → v ≡ verdict_of (walk_arguments wrap raw width overflow (a ∷ b ∷ [])) → v ≡ (Ok tt) → (max_lines ≤ a) × (max_lines ≤ b)
fit wrap raw width overflow v a b judged z = two_fit max_lines a b (none_nines _ _ (sym judged ∙ z)).1

pub walk_fit : (wrap raw width overflow : ℕ) (v : Result (Unit {0}) Refusal) (given wide : List ℕ) → v ≡ verdict_of (walk_arguments wrap raw width overflow (for_walk given wide)) → v ≡ (Ok tt)
    → WalkCapacity given wide
walk_fit wrap raw width overflow v given wide judged z =
    let (a, b) = fit wrap raw width overflow v (length given) (length wide) judged z in
    record { given_capacity = a; wide_capacity = b }

pub walk_rooms : {s : List ℕ} (wrap raw width overflow : ℕ) {v : Result (Unit {0}) Refusal} (a b : ℕ) {r : Result ℕ Refusal} {given wide : List ℕ} (ds : List Check)
    → v ≡ verdict_of (walk_arguments wrap raw width overflow (a ∷ b ∷ [])) → WalkFound (early v ∷ ds) s wrap raw width r given wide → (lines_in r ≤ a) × (lines_in r ≤ b)
unfolding lines_in
walk_rooms wrap raw width overflow {v} a b {r} ds judged found =
    let f = fit wrap raw width overflow v a b judged in (
      fits Err _ lines_in (λ why. refl) v ds r max_lines a found.answer found.few (λ z. (f z).0),
      fits Err _ lines_in (λ why. refl) v ds r max_lines b found.answer found.few (λ z. (f z).1),
    )

module _ {s : List ℕ} {wrap raw width overflow : ℕ} {v : Result (Unit {0}) Refusal} {given₀ wide₀ : List ℕ} {r : Result ℕ Refusal} {given wide : List ℕ}
    (judged : v ≡ verdict_of (walk_arguments wrap raw width overflow (for_walk given₀ wide₀)))
    (found : WalkFound (early v ∷ walked_checks None s wrap raw width overflow) s wrap raw width r given wide) where
  pub walk_answered : {t : Result ℕ Refusal} {n : ℕ} {a b : List ℕ} → t ≡ r → n ≡ lines_in r → length given ≡ length given₀ → length wide ≡ length wide₀
      → a ≡ padded (length given) (take n given) → b ≡ padded (length wide) (take n wide) → WalkAnswer s wrap raw width overflow given₀ wide₀ t a b
  unfolding walked_of after_reading if_passes
  walk_answered t k ka kb a b =
      let cs = walked_checks None s wrap raw width overflow in
      let f : (xs : List ℕ) → first_answer (λ why. []) xs (early v ∷ cs) ≡ first_answer (λ why. []) xs (walk_checks s wrap raw width overflow (for_walk given₀ wide₀)) =
      λ xs. early_nines (λ why. []) xs v cs _ _ judged in
      record {
        answer =
            t ∙ found.answer
            ∙ early_nines Err (Ok (length (sheet_lines s))) v cs _ _ judged;
        left = record { givens = leaving given₀ given (f _) k ka a found.givens; wides = leaving wide₀ wide (f _) k kb b found.wides };
      }
