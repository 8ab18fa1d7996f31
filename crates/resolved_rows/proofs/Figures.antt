-- Figures of records: how many there are, one of them read and one written, the front and the rest of them, a part, and a part put back.
use mathlib.Core.Path.{◌≡◌, refl, sym, ap, ap₂, ◌∙◌}
use mathlib.Core.List.{List, [], ◌∷◌, ◌++◌, map, map-append}
use Prim.Native.Nat.{ℕ, zero, suc, ◌+◌, ◌*◌, ◌-◌, ◌/◌, ◌≤◌, ◌<◌}
use native.Mathlib.Nat.{add-zero, zero-add, suc-add, mul-zero, mul-suc, mul-add, mul-add-div, mul-div_right}
use native.Mathlib.Omega.{arith}
use lib.ListN.{length, get_or, set, take, drop, length-map, length-append, length-drop, take-append-drop}
use lib.Seq.{take-append-le, drop-append-le, length-take-le, take_at, drop_at, set-get_or}
use borrow.Rule.Slice.PartMut.{put_mid}
use Rattle.std.proofs.lemmas.List.{get_or-map, map-set, take-map, drop-map}
use Rattle.records.specs.inner.Records.{records, records_of}
use Rattle.records.proofs.Records.{length_of, of_at, number_at}
use Rattle.resolved_rows.specs.inner.Held.{figures}
use Rattle.resolved_rows.specs.inner.Spans.{part}

-- ---- lists

-- lists of one length have as many
pub maps_still : {A : Type 0} (f : A → ℕ) (l m : List A) → length m ≡ length l → length (map f m) ≡ length (map f l)
maps_still f l m e = length-map m f ∙ e ∙ sym (length-map l f)

pub part_map : {A : Type 0} (f : A → ℕ) (a e : ℕ) (l : List A) → part a e (map f l) ≡ map f (take (e - a) (drop a l))
part_map f a e l = ap (take (e - a)) (drop-map f a l) ∙ take-map f (e - a) (drop a l)

empty_is : (xs : List ℕ) → length xs ≡ 0 → xs ≡ []
empty_is [] e = refl
empty_is (x ∷ xs) e = absurd (omega arith)

-- a record of three numbers read
pub three_read : {A : Type 0} (build : ℕ → ℕ → ℕ → A) (xs : List ℕ) (i : ℕ) → i < length xs / 3
    → build (get_or xs (3 * i) 0) (get_or xs (3 * i + 1) 0) (get_or xs (3 * i + 2) 0) ≡ get_or (records_of 3 (λ r. build (get_or r 0 0) (get_or r 1 0) (get_or r 2 0)) xs) i (build 0 0 0)
three_read build xs i h =
    let f : (k : ℕ) → k < 3 → get_or (get_or (records 3 (length xs / 3) xs) i []) k 0 ≡ get_or xs (3 * i + k) 0 =
    number_at 3 (λ r. build (get_or r 0 0) (get_or r 1 0) (get_or r 2 0)) xs i h in
    sym (of_at 3 (λ r. build (get_or r 0 0) (get_or r 1 0) (get_or r 2 0)) xs i ∙ rw (f 0 (omega arith), add-zero (3 * i), f 1 (omega arith), f 2 (omega arith)))

-- records of one list after those of another
records_append : (w n : ℕ) (ys : List ℕ) (m : ℕ) (xs : List ℕ) → length xs ≡ w * m → records w (m + n) (xs ++ ys) ≡ records w m xs ++ records w n ys
unfolding records
records_append w n ys zero xs e = rw (zero-add, empty_is xs (omega (arith, mul-zero w)))
records_append w n ys (suc m) xs e =
    let h : w ≤ length xs = omega (arith, mul-suc w m) in
    rw (suc-add, take-append-le w xs ys h, drop-append-le w xs ys h)
    (ap (λ (l : List (List ℕ)). take w xs ∷ l) (records_append w n ys m (drop w xs) (omega (arith, mul-suc w m, length-drop w xs))))

times_sub : (w a e : ℕ) → a ≤ e → w * e - w * a ≡ w * (e - a)
times_sub w a e h = let s : a + (e - a) ≡ e = omega arith in omega (arith, mul-add w a (e - a), ap (λ (x : ℕ). w * x) s)

times_le : (w a e : ℕ) → a ≤ e → w * a ≤ w * e
times_le w a e h = let s : a + (e - a) ≡ e = omega arith in omega (arith, mul-add w a (e - a), ap (λ (x : ℕ). w * x) s)

-- ---- figures

module _ {A : Type 0} (w : ℕ) (make : List ℕ → A) (f : A → ℕ) where
  abbrev F : List ℕ → List ℕ
  F xs = figures w make f xs

  pub length_figures : (xs : List ℕ) → length (figures w make f xs) ≡ length xs / w
  unfolding figures
  length_figures xs = length-map (records_of w make xs) f ∙ length_of w make xs

  pub figure_at_lem : (xs : List ℕ) (i : ℕ) → i < length xs / w → get_or (figures w make f xs) i 0 ≡ f (get_or (records_of w make xs) i (make []))
  unfolding figures
  figure_at_lem xs i h = get_or-map f (records_of w make xs) i (make []) 0 (omega (arith, length_of w make xs))

  pub figure_set : (xs ys : List ℕ) (i : ℕ) (a : A) → records_of w make ys ≡ set (records_of w make xs) i a → figures w make f ys ≡ set (figures w make f xs) i (f a)
  unfolding figures
  figure_set xs ys i a e = ap (map f) e ∙ map-set f (records_of w make xs) i a

  pub figure_put : (xs ys : List ℕ) (i : ℕ) (a : A) (v : ℕ) → records_of w make ys ≡ set (records_of w make xs) i a → f a ≡ v
      → figures w make f ys ≡ set (figures w make f xs) i v
  figure_put xs ys i a v e q = figure_set xs ys i a e ∙ ap (set (figures w make f xs) i) q

  -- slices of one length have as many
  pub figures_still : (xs ys : List ℕ) → length ys ≡ length xs → length (figures w make f ys) ≡ length (figures w make f xs)
  figures_still xs ys e = length_figures ys ∙ ap (λ (n : ℕ). n / w) e ∙ sym (length_figures xs)

  -- a record written that has the same figure
  pub figure_same : (xs ys : List ℕ) (i : ℕ) (a : A) → i < length xs / w → records_of w make ys ≡ set (records_of w make xs) i a
      → f a ≡ f (get_or (records_of w make xs) i (make [])) → figures w make f ys ≡ figures w make f xs
  figure_same xs ys i a h e g =
      figure_set xs ys i a e ∙ ap (set (figures w make f xs) i) (g ∙ sym (figure_at_lem xs i h)) ∙ set-get_or (figures w make f xs) i 0

  module _ (p : 0 < w) where
    pub of_append : (m : ℕ) (xs ys : List ℕ) → length xs ≡ w * m → records_of w make (xs ++ ys) ≡ records_of w make xs ++ records_of w make ys
    unfolding records_of
    of_append m xs ys e =
        let a : length (xs ++ ys) / w ≡ m + length ys / w = ap (λ (k : ℕ). k / w) (length-append xs ys ∙ ap (λ (k : ℕ). k + length ys) e) ∙ mul-add-div p m (length ys) in
        let b : length xs / w ≡ m = ap (λ (k : ℕ). k / w) e ∙ mul-div_right m p in
        rw (a, b)
        (ap (map make) (records_append w (length ys / w) ys m xs e)
        ∙ map-append make (records w m xs) (records w (length ys / w) ys))

    pub figures_append : (m : ℕ) (xs ys : List ℕ) → length xs ≡ w * m → figures w make f (xs ++ ys) ≡ figures w make f xs ++ figures w make f ys
    unfolding figures
    figures_append m xs ys e = ap (map f) (of_append m xs ys e) ∙ map-append f (records_of w make xs) (records_of w make ys)

    length_front : (m : ℕ) (xs : List ℕ) → length xs ≡ w * m → length (F xs) ≡ m
    length_front m xs e = length_figures xs ∙ ap (λ (k : ℕ). k / w) e ∙ mul-div_right m p

    module _ (m : ℕ) (xs : List ℕ) (h : w * m ≤ length xs) where
      front : length (take (w * m) xs) ≡ w * m
      front = length-take-le (w * m) xs h

      split : F xs ≡ F (take (w * m) xs) ++ F (drop (w * m) xs)
      split = ap F (sym (take-append-drop (w * m) xs)) ∙ figures_append m (take (w * m) xs) (drop (w * m) xs) front

      pub figures_take : figures w make f (take (w * m) xs) ≡ take m (figures w make f xs)
      figures_take = sym (ap (take m) split ∙ take_at (F (take (w * m) xs)) (F (drop (w * m) xs)) m (length_front m (take (w * m) xs) front))

      pub figures_drop : figures w make f (drop (w * m) xs) ≡ drop m (figures w make f xs)
      figures_drop = sym (ap (drop m) split ∙ drop_at (F (take (w * m) xs)) (F (drop (w * m) xs)) m (length_front m (take (w * m) xs) front))

    module _ (a e : ℕ) (xs : List ℕ) (h : a ≤ e) (g : w * e ≤ length xs) where
      before : w * a ≤ length xs
      before = omega (arith, times_le w a e h)

      within : w * (e - a) ≤ length (drop (w * a) xs)
      within = omega (arith, times_sub w a e h, length-drop (w * a) xs)

      pub figures_part : figures w make f (take (w * e - w * a) (drop (w * a) xs)) ≡ part a e (figures w make f xs)
      figures_part =
          ap (λ (k : ℕ). F (take k (drop (w * a) xs))) (times_sub w a e h)
          ∙ figures_take (e - a) (drop (w * a) xs) within
          ∙ ap (take (e - a)) (figures_drop a xs before)

      pub figures_put : (ys : List ℕ) → length ys ≡ length (take (w * e - w * a) (drop (w * a) xs))
          → figures w make f (put_mid (w * a) (w * e - w * a) xs ys) ≡ put_mid a (e - a) (figures w make f xs) (figures w make f ys)
      figures_put ys q =
          let n : length ys ≡ w * (e - a) =
          q ∙ ap (λ (k : ℕ). length (take k (drop (w * a) xs))) (times_sub w a e h) ∙ length-take-le (w * (e - a)) (drop (w * a) xs) within in
          let r = drop (w * e - w * a) (drop (w * a) xs) in
          figures_append a (take (w * a) xs) (ys ++ r) (length-take-le (w * a) xs before)
          ∙ ap₂ (λ (x y : List ℕ). x ++ y) (figures_take a xs before)
          (figures_append (e - a) ys r n
          ∙ ap (λ (y : List ℕ). F ys ++ y)
          (ap (λ (k : ℕ). F (drop k (drop (w * a) xs))) (times_sub w a e h)
          ∙ figures_drop (e - a) (drop (w * a) xs) within
          ∙ ap (drop (e - a)) (figures_drop a xs before)))
