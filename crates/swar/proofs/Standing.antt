-- EightPost bytes that stand at a place: bytes of one number are the same bytes.
use mathlib.Core.Path.{◌≡◌, refl, sym, ap, ap₂, ◌∙◌}
use mathlib.Core.Bool.{Bool, true, ◌&&◌}
use mathlib.Core.List.{List, [], ◌∷◌, ◌++◌}
use Prim.Native.Nat.{ℕ, ◌+◌, ◌≤◌, ◌<◌}
use native.Mathlib.Omega.{arith}
use lib.Dec.{ltb}
use lib.ListN.{length, get_or, take, drop, take-append-drop}
use lib.Seq.{drop-drop, take-take}
use borrow.Author.Tests.{ltb-true}
use Rattle.std.proofs.lemmas.List.{drop_more}
use Rattle.common.proofs.Tests.{both}
use Rattle.common.specs.Lists.{All}
use Rattle.swar.specs.inner.Digits.{as_number, EightPost}

abbrev byte : ℕ → Type 0
byte b = b < 256

same_bytes : (cs bs : List ℕ) → length cs ≡ length bs → All byte cs → All byte bs → as_number cs ≡ as_number bs → cs ≡ bs
unfolding All
same_bytes [] [] n p q e = refl
same_bytes [] (b ∷ bs) n p q e = absurd (omega arith)
same_bytes (a ∷ cs) [] n p q e = absurd (omega arith)
same_bytes (a ∷ cs) (b ∷ bs) n (p, ps) (q, qs) e =
    let first : a ≡ b = omega arith in
    let others : as_number cs ≡ as_number bs = omega arith in
    ap₂ (λ (x : ℕ) (xs : List ℕ). x ∷ xs) first (same_bytes cs bs (omega arith) ps qs others)

abbrev pub eight_of : List ℕ → ℕ → List ℕ
eight_of s at =
    get_or s at 0 ∷ get_or s (at + 1) 0 ∷ get_or s (at + 2) 0 ∷ get_or s (at + 3) 0 ∷ get_or s (at + 4) 0 ∷ get_or s (at + 5) 0 ∷ get_or s (at + 6) 0 ∷ get_or s (at + 7) 0 ∷ []

eight_here : (s : List ℕ) (at : ℕ) → at + 8 ≤ length s → take 8 (drop at s) ≡ eight_of s at
eight_here s at h =
    let n₂ : at + 1 + 1 ≡ at + 2 = omega arith in
    let n₃ : at + 2 + 1 ≡ at + 3 = omega arith in
    let n₄ : at + 3 + 1 ≡ at + 4 = omega arith in
    let n₅ : at + 4 + 1 ≡ at + 5 = omega arith in
    let n₆ : at + 5 + 1 ≡ at + 6 = omega arith in
    let n₇ : at + 6 + 1 ≡ at + 7 = omega arith in
    rw (
      drop_more s at 0 (omega arith),
      drop_more s (at + 1) 0 (omega arith),
      n₂,
      drop_more s (at + 2) 0 (omega arith),
      n₃,
      drop_more s (at + 3) 0 (omega arith),
      n₄,
      drop_more s (at + 4) 0 (omega arith),
      n₅,
      drop_more s (at + 5) 0 (omega arith),
      n₆,
      drop_more s (at + 6) 0 (omega arith),
      n₇,
      drop_more s (at + 7) 0 (omega arith),
    )

pub eight_stands : (s : List ℕ) (at r : ℕ) → at + 8 ≤ length s → ((i : ℕ) → get_or s i 0 < 256) → r ≡ as_number (eight_of s at) → EightPost s at r
unfolding All
eight_stands s at r h small e =
    let here = eight_here s at h in
    record {
      octets = rw here (record { long = refl; small = (small _, (small _, (small _, (small _, (small _, (small _, (small _, (small _, tt)))))))) });
      is = rw here e;
    }

-- which bytes they are

pub stand : {s : List ℕ} {at r : ℕ} → EightPost s at r → (bs : List ℕ) → length bs ≡ 8 → All byte bs → r ≡ as_number bs → take 8 (drop at s) ≡ bs
stand e bs n a q = same_bytes _ bs (e.octets.long ∙ sym n) e.octets.small a (sym e.is ∙ q)

abbrev bytes : List ℕ → Bool
bytes [] = true
bytes (b ∷ bs) = ltb b 256 && bytes bs

all_bytes : (bs : List ℕ) → bytes bs ≡ true → All byte bs
unfolding All
all_bytes [] e = tt
all_bytes (b ∷ bs) e = let (p, q) = both (ltb b 256) (bytes bs) e in (ltb-true b 256 p, all_bytes bs q)

pub stand_given : {s : List ℕ} {at r : ℕ} → EightPost s at r → (bs : List ℕ) → length bs ≡ 8 → bytes bs ≡ true → r ≡ as_number bs → take 8 (drop at s) ≡ bs
stand_given e bs n p q = stand e bs n (all_bytes bs p) q

-- bytes that stand from a place on, where two comparisons overlap: the front of the one, then the other
pub joined : (s cs bs : List ℕ) (at k : ℕ) → k ≤ 8 → take 8 (drop at s) ≡ cs → take 8 (drop (at + k) s) ≡ bs → drop at s ≡ take k cs ++ (bs ++ drop (at + k + 8) s)
joined s cs bs at k h p q =
    let front : take k (drop at s) ≡ take k cs = sym (take-take k 8 (drop at s) h) ∙ ap (take k) p in
    let later : drop (at + k) s ≡ bs ++ drop (at + k + 8) s = sym (take-append-drop 8 (drop (at + k) s)) ∙ rw (q, drop-drop 8 (at + k) s) in
    sym (take-append-drop k (drop at s)) ∙ rw (front, drop-drop k at s, later)
