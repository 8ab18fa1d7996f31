-- What is asked after the lines, place by place: the first table or body left empty.
use mathlib.Core.Path.{◌≡◌, refl, sym, ap, ap₂, ◌∙◌}
use mathlib.Core.Bool.{Bool, true, false, ◌||◌}
use mathlib.Core.List.{List, [], ◌∷◌, map}
use Prim.Native.Nat.{ℕ, suc, ◌+◌, ◌≤◌, ◌<◌}
use native.Mathlib.Numerals.{add-one}
use native.Mathlib.Omega.{arith}
use native.Mathlib.Decide.{dec_lt}
use lib.Dec.{leb}
use lib.ListN.{length, get_or, drop, drop_of_length-le, length-map, get_or-map}
use lib.Seq.{drop-cons}
use borrow.Author.Tests.{le-leb, lt-leb}
use Rattle.kinds.specs.Kinds.{kind_number}
use Rattle.std.specs.Prelude.{Err, Ok}
use Rattle.common.specs.declared.Reason.TheVariants.{Nesting}
use Rattle.common.specs.Refusals.{Check, check, first_answer, refusal}
use Rattle.records.specs.NodeRecord.{no_node}
use Rattle.records.specs.declared.NodeRecord.{NodeRecord}
use Rattle.line.specs.Fields.{Line, no_line}
use Rattle.sheet.specs.Nesting.{childless, left_empty}
use Rattle.sheet.specs.inner.Nesting.{depth_at}
use Rattle.sheet.specs.Sheet.{empty_checks}
use Rattle.sheet.specs.Reading.{record_of}
use Rattle.sheet.specs.inner.Steps.{empty_at, line_end, bare_line, bare}

-- the line at a place is left empty by what stands at the next place

abbrev pub left_empty_at : List Line → ℕ → Bool
left_empty_at ls i = left_empty (get_or ls i no_line) (drop (i + 1) ls)

module _ (ls : List Line) (i : ℕ) where
  pub childless_at : childless (get_or ls i no_line) (drop (i + 1) ls) ≡ (leb (length ls) (i + 1) || leb (depth_at ls (i + 1)) (depth_at ls i))
  unfolding childless
  childless_at = at (dec_lt (i + 1) (length ls))
    where
      at : Dec (i + 1 < length ls) → childless (get_or ls i no_line) (drop (i + 1) ls) ≡ (leb (length ls) (i + 1) || leb (depth_at ls (i + 1)) (depth_at ls i))
      at (yes h) = rw (drop-cons ls (i + 1) no_line h, lt-leb (length ls) (i + 1) h)
      at (no h) = rw (drop_of_length-le ls {i = i + 1} (omega arith), le-leb (length ls) (i + 1) (omega arith))

-- no more than depth and kind is asked

pub bare_length : (xs : List NodeRecord) → length (bare xs) ≡ length xs
bare_length xs = length-map xs bare_line

pub bare_empty : (ks : List NodeRecord) (i : ℕ) → empty_at ks i ≡ left_empty_at (bare ks) i
unfolding empty_at
bare_empty ks i =
    let at : (j : ℕ) → get_or (bare ks) j no_line ≡ bare_line (get_or ks j no_node) = λ j. get_or-map bare_line ks j no_node in
    let d : (j : ℕ) → depth_at (bare ks) j ≡ (get_or ks j no_node).depth = λ j. ap (λ (l : Line). l.depth) (at j) in
    rw (childless_at (bare ks) i, length-map ks bare_line, d (i + 1), d i, ap (λ (l : Line). kind_number l.kind) (at i))

bare_checks : (k : ℕ) (ls : List Line) → empty_checks k (bare (map record_of ls)) ≡ empty_checks k ls
unfolding empty_checks childless
bare_checks k [] = refl
bare_checks k (l ∷ []) = refl
bare_checks k (l ∷ m ∷ ls) = ap (λ (cs : List Check). check (left_empty l (m ∷ ls)) Nesting k ∷ cs) (bare_checks (suc k) (m ∷ ls))

pub bare_end : (ls : List Line) → line_end (bare (map record_of ls)) ≡ line_end ls
unfolding line_end
bare_end [] = refl
bare_end (l ∷ ls) =
    ap₂ (λ (m : ℕ) (cs : List Check). first_answer Err (Ok m) (check false Nesting 0 ∷ cs))
    (length-map (map record_of (l ∷ ls)) bare_line ∙ length-map (l ∷ ls) record_of)
    (bare_checks 1 (l ∷ ls))

-- asked from a place on

module _ (ls : List Line) where
  unfoldable pub EndsFrom : ℕ → Type 0
  EndsFrom i = line_end ls ≡ first_answer Err (Ok (length ls)) (empty_checks (suc i) (drop i ls))

  pub ends_none : length ls ≡ 0 → Err (refusal Nesting 0) ≡ line_end ls
  unfolding line_end first_answer
  ends_none e = at ls e
    where
      at : (ms : List Line) → length ms ≡ 0 → Err (refusal Nesting 0) ≡ line_end ms
      at [] e = refl
      at (m ∷ ms) e = absurd (omega arith)

  pub ends_start : 0 < length ls → EndsFrom 0
  unfolding EndsFrom line_end first_answer
  ends_start h = at ls h
    where
      at : (ms : List Line) → 0 < length ms → line_end ms ≡ first_answer Err (Ok (length ms)) (empty_checks 1 ms)
      at [] h = absurd (omega arith)
      at (m ∷ ms) h = refl

  module _ (i : ℕ) (h : i < length ls) (f : EndsFrom i) where
    pub ends_more : left_empty_at ls i ≡ false → EndsFrom (i + 1)
    unfolding EndsFrom empty_checks first_answer
    ends_more e = f ∙ rw (add-one i, drop-cons ls i no_line h, (rw (add-one i) at e))

    pub ends_at : left_empty_at ls i ≡ true → Err (refusal Nesting (i + 1)) ≡ line_end ls
    unfolding EndsFrom empty_checks first_answer
    ends_at e = sym (f ∙ rw (add-one i, drop-cons ls i no_line h, (rw (add-one i) at e)))

  pub ends_all : (i : ℕ) → length ls ≤ i → EndsFrom i → Ok (length ls) ≡ line_end ls
  unfolding EndsFrom empty_checks first_answer
  ends_all i h f = sym (f ∙ rw (drop_of_length-le ls h))
