-- In a row as the third demand has it, the answer is exact both ways: the answer is right, and cells and gaps lie apart, so that what is there
-- is what is answered.
use mathlib.Core.Bool.{Bool, true, false}
use mathlib.Core.Path.{◌≡◌, refl, sym, ap}
use mathlib.Core.List.{List, []}
use Prim.Native.Nat.{ℕ, ◌+◌, ◌-◌, ◌<◌}
use native.Mathlib.Decide.{dec_lt}
use native.Mathlib.Omega.{arith}
use lib.ListN.{length, get_or}
use Rattle.columns.specs.Boxes.{Box}
use Rattle.placement.specs.Place.{Placed, place_row}
use Rattle.placement.proofs.Placing.{length_row}
use Rattle.answers.specs.declared.Way.TheVariants.{Sideways}
use Rattle.placement.specs.Promise.{printed, InRow, Side}
use Rattle.hit_test.specs.Point.{past, pointed, is_gap, gap_at, joint_of, joined}
use Rattle.hit_test.specs.Exact.{entry, Covers, Between, Exactly, GapExactly, Joins}
use Rattle.answers.specs.declared.Under.{Under}
use Rattle.answers.specs.declared.Under.TheVariants.{Cell, Gap, Nothing}
use Rattle.hit_test.proofs.Answer.{Answer, cell, gap, nothing, answer, clash, none_printed}
use Rattle.hit_test.proofs.Apart.{Apart, apart_order, in_row_apart}

module _ (c : ℕ) (ps : List Placed) (x : ℕ) (a : Apart c ps) where
  not_before : (i j : ℕ) → Covers ps x i → Covers ps x j → i < j → ⊥
  not_before i j g h l = omega (arith, apart_order c ps i j a g.printed h.printed l, g.upto, h.from)

  one_cell : (i j : ℕ) → Covers ps x i → Covers ps x j → i ≡ j
  one_cell i j g h = go (dec_lt i j) (dec_lt j i)
    where
      go : Dec (i < j) → Dec (j < i) → i ≡ j
      go (yes l) m = absurd (not_before i j g h l)
      go (no l) (yes m) = absurd (not_before j i h g m)
      go (no l) (no m) = omega arith

  no_gap : (j : ℕ) → Covers ps x j → Between ps x → ⊥
  no_gap j h b = go (dec_lt j b.left) (dec_lt b.left j)
    where
      go : Dec (j < b.left) → Dec (b.left < j) → ⊥
      go (yes l) m = omega (arith, apart_order c ps j b.left a h.printed b.left_printed l, h.upto, b.closed)
      go (no l) (yes m) = omega (arith, apart_order c ps b.left j a b.left_printed h.printed m, h.from, b.closed)
      go (no l) (no m) =
          let e : j ≡ b.left = omega arith in
          let d : past (entry ps j) ≡ past (entry ps b.left) = ap (λ (i : ℕ). past (entry ps i)) e in
          omega (arith, d, h.upto, b.closed)

  exact_by : (k : ℕ) (u : Under ℕ) → Answer k ps x u → Exactly k ps x u
  exact_by k u (cell j n e h) =
      record {
        cell_only = λ m d.
            let y : m ≡ n = cc in
            let z : m - k ≡ j = omega arith in
            (omega arith, rw z h);
        cell_then = λ i g. let y = one_cell j i h g in let z : n ≡ k + i = omega arith in ap Cell z;
        gap_only = λ d. absurd (let z : ◌≡◌ {A = ℕ} 0 1 = cc in omega arith);
        gap_then = λ b. absurd (no_gap j h b);
        nothing_only = λ d. absurd (let z : ◌≡◌ {A = ℕ} 0 1 = cc in omega arith);
        nothing_then = λ f g. absurd (f j h);
        one = one_cell;
      }
  exact_by k u (gap b) =
      record {
        cell_only = λ m d. absurd (let z : ◌≡◌ {A = ℕ} 0 1 = cc in omega arith);
        cell_then = λ i g. absurd (no_gap i g b);
        gap_only = λ d. b;
        gap_then = λ b. refl;
        nothing_only = λ d. absurd (let z : ◌≡◌ {A = ℕ} 0 1 = cc in omega arith);
        nothing_then = λ f g. absurd (g b);
        one = one_cell;
      }
  exact_by k u (nothing f g) =
      record {
        cell_only = λ m d. absurd (let z : ◌≡◌ {A = ℕ} 0 1 = cc in omega arith);
        cell_then = λ i h. absurd (f i h);
        gap_only = λ d. absurd (let z : ◌≡◌ {A = ℕ} 0 1 = cc in omega arith);
        gap_then = λ b. absurd (g b);
        nothing_only = λ d. (f, g);
        nothing_then = λ f g. refl;
        one = one_cell;
      }

module _ (width : ℕ) (bs : List Box) (ps : List Placed) (e : length bs ≡ length ps) (r : InRow width (printed bs ps)) where
  pub pointed_exact : (k x : ℕ) → Exactly k ps x (pointed k x ps)
  pointed_exact k x = exact_by 0 ps x (in_row_apart width bs ps e r) k (pointed k x ps) (answer k x ps)

  pub gap_exact : (x : ℕ) → GapExactly ps x (gap_at x ps)
  unfolding gap_at is_gap
  gap_exact x =
      record {
        only = λ d. (pointed_exact 0 x).gap_only (go (pointed 0 x ps) d);
        then = λ b. ap is_gap ((pointed_exact 0 x).gap_then b);
      }
    where
      go : (u : Under ℕ) → is_gap u ≡ true → u ≡ Gap
      go (Cell n) t = clash false t refl
      go Gap t = refl
      go Nothing t = clash false t refl

joins_by : (above below : List Placed) (x : ℕ) (a b : Bool) → GapExactly above x a → GapExactly below x b → Joins above below x (joint_of a b)
unfolding joint_of
joins_by above below x true true g h =
    record {
      both_only = λ e. (g.only refl, h.only refl);
      up_only = λ e. absurd (let z : ◌≡◌ {A = ℕ} 0 1 = cc in omega arith);
      down_only = λ e. absurd (let z : ◌≡◌ {A = ℕ} 0 1 = cc in omega arith);
      plain_only = λ e. absurd (let z : ◌≡◌ {A = ℕ} 0 1 = cc in omega arith);
      both_then = λ u d. refl;
      up_then = λ u d. absurd (d (h.only refl));
      down_then = λ u d. absurd (u (g.only refl));
      plain_then = λ u d. absurd (u (g.only refl));
    }
joins_by above below x true false g h =
    record {
      both_only = λ e. absurd (let z : ◌≡◌ {A = ℕ} 0 1 = cc in omega arith);
      up_only = λ e. (g.only refl, λ d. clash false (h.then d) refl);
      down_only = λ e. absurd (let z : ◌≡◌ {A = ℕ} 0 1 = cc in omega arith);
      plain_only = λ e. absurd (let z : ◌≡◌ {A = ℕ} 0 1 = cc in omega arith);
      both_then = λ u d. clash false (h.then d) refl;
      up_then = λ u d. refl;
      down_then = λ u d. clash false (h.then d) refl;
      plain_then = λ u d. absurd (u (g.only refl));
    }
joins_by above below x false true g h =
    record {
      both_only = λ e. absurd (let z : ◌≡◌ {A = ℕ} 0 1 = cc in omega arith);
      up_only = λ e. absurd (let z : ◌≡◌ {A = ℕ} 0 1 = cc in omega arith);
      down_only = λ e. (λ u. clash false (g.then u) refl, h.only refl);
      plain_only = λ e. absurd (let z : ◌≡◌ {A = ℕ} 0 1 = cc in omega arith);
      both_then = λ u d. clash false (g.then u) refl;
      up_then = λ u d. clash false (g.then u) refl;
      down_then = λ u d. refl;
      plain_then = λ u d. absurd (d (h.only refl));
    }
joins_by above below x false false g h =
    record {
      both_only = λ e. absurd (let z : ◌≡◌ {A = ℕ} 0 1 = cc in omega arith);
      up_only = λ e. absurd (let z : ◌≡◌ {A = ℕ} 0 1 = cc in omega arith);
      down_only = λ e. absurd (let z : ◌≡◌ {A = ℕ} 0 1 = cc in omega arith);
      plain_only = λ e. (λ u. clash false (g.then u) refl, λ d. clash false (h.then d) refl);
      both_then = λ u d. clash false (g.then u) refl;
      up_then = λ u d. clash false (g.then u) refl;
      down_then = λ u d. clash false (h.then d) refl;
      plain_then = λ u d. refl;
    }

pub joined_exact : (above below : List Placed) (x : ℕ) → GapExactly above x (gap_at x above) → GapExactly below x (gap_at x below) →
    Joins above below x (joined x above below)
joined_exact above below x = joins_by above below x (gap_at x above) (gap_at x below)

-- below the last row stands no gap
pub no_row : (x : ℕ) → GapExactly [] x (gap_at x [])
unfolding gap_at is_gap pointed
no_row x = record { only = λ d. clash false d refl; then = λ b. absurd (none_printed b.left b.left_printed) }

-- every row of a table that lies sideways, by the third demand
module _ (columns : ℕ) (sizes leasts ss ws : List ℕ) (width : ℕ) (rows : List (List Box)) (s : Side columns sizes leasts ss ws width rows)
    (i : ℕ) (h : i < length rows) where
  pub side_pointed : (k x : ℕ) →
      Exactly k (place_row Sideways ws width (get_or rows i [])) x (pointed k x (place_row Sideways ws width (get_or rows i [])))
  side_pointed =
      pointed_exact width (get_or rows i []) (place_row Sideways ws width (get_or rows i [])) (sym (length_row Sideways ws width (get_or rows i [])))
      (s.row i h)

  pub side_gap : (x : ℕ) → GapExactly (place_row Sideways ws width (get_or rows i [])) x (gap_at x (place_row Sideways ws width (get_or rows i [])))
  side_gap =
      gap_exact width (get_or rows i []) (place_row Sideways ws width (get_or rows i [])) (sym (length_row Sideways ws width (get_or rows i [])))
      (s.row i h)
