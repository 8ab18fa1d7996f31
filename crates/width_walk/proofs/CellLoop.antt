-- The widths of a table's entries, written from the last entry back to the first: the loop of `print_cells` on plain lists, and what then stands at a
-- place: the width of the first entry that shows its line, and what stood there if there is none.
use mathlib.Core.Path.{◌≡◌, refl, sym, ap, ◌∙◌}
use mathlib.Core.Bool.{Bool, true, false, cond, ◌||◌, true≢false}
use mathlib.Core.List.{List, [], ◌∷◌, ◌++◌, map, append-nil, append_assoc}
use Prim.Native.Nat.{ℕ, suc, ◌-◌, ◌<◌}
use native.Mathlib.Decide.{ℕ_discrete}
use native.Mathlib.Omega.{arith}
use lib.Dec.{eqb}
use lib.ListN.{length, get_or, take, drop, set, length-append, length-set, take-append-drop}
use lib.Seq.{length-take-le, get_or-set_same, get_or-set_other}
use borrow.Author.Tests.{eq-eqb, ne_eqb}
use Rattle.std.proofs.lemmas.List.{nil_from_length}
use Rattle.std.specs.Prelude.{Option, None}
use Rattle.std.specs.List.{push}
use Rattle.common.specs.Lists.{mem}
use Rattle.records.specs.inner.Figures.{entry_cell}
use Rattle.records.specs.declared.Entry.{Entry}
use Rattle.available_width.specs.Walk.{printed, printed_in}
use Rattle.width_walk.specs.inner.Steps.{printed_by, PrintCellsPre}

-- ---- the loop

-- the entries are those that are left and those that are passed, and so the widths, of which some may stand behind; what is passed is written
pub record Sofar (es : List Entry) (wide : List ℕ) (ps₀ ps : List (Option ℕ)) (es₁ : List Entry) (wide₁ : List ℕ) : Type 0 where
  pub passed : List Entry
  pub behind : List ℕ
  pub first : es ≡ es₁ ++ passed
  pub second : wide ≡ wide₁ ++ behind
  pub as_many : length wide₁ ≡ length es₁
  pub written : ps ≡ printed_by (map entry_cell passed) behind ps₀

pub start : {es : List Entry} {wide : List ℕ} {ps : List (Option ℕ)} → PrintCellsPre es wide ps → Sofar es wide ps ps es (take (length es) wide)
unfolding printed_by
start {es} {wide} f = record {
  passed = [];
  behind = drop (length es) wide;
  first = sym (append-nil es);
  second = sym (take-append-drop (length es) wide);
  as_many = length-take-le (length es) wide f.wide_in;
  written = refl;
}

module _ {es : List Entry} {wide : List ℕ} {ps₀ ps : List (Option ℕ)} {es₁ : List Entry} {wide₁ : List ℕ} (z : Sofar es wide ps₀ ps es₁ wide₁) where
  -- the last of both that are left is passed, and written
  pub pass : (e : Entry) (w : ℕ) {es₂ : List Entry} {wide₂ : List ℕ} → (es₁ ≡ push es₂ e) × (wide₁ ≡ push wide₂ w) → (ps' : List (Option ℕ))
      → ps' ≡ cond (eqb e.cell 0) ps (set ps (e.cell - 1) (printed w)) → Sofar es wide ps₀ ps' es₂ wide₂
  unfolding printed_by
  pass e w {es₂} {wide₂} n ps' r = record {
    passed = e ∷ z.passed;
    behind = w ∷ z.behind;
    first = z.first ∙ ap (λ l. l ++ z.passed) n.0 ∙ append_assoc es₂ (e ∷ []) z.passed;
    second = z.second ∙ ap (λ l. l ++ z.behind) n.1 ∙ append_assoc wide₂ (w ∷ []) z.behind;
    as_many = omega (arith, z.as_many, ap length n.0, ap length n.1, length-append es₂ (e ∷ []), length-append wide₂ (w ∷ []));
    written = r ∙ ap (λ l. cond (eqb e.cell 0) l (set l (e.cell - 1) (printed w))) z.written;
  }

  pub stop : length es₁ ≡ 0 → ps ≡ printed_by (map entry_cell es) wide ps₀
  stop n = rw (z.first, z.second, nil_from_length es₁ n, nil_from_length wide₁ (z.as_many ∙ n)) z.written

-- ---- what stands at a place

pub length_by : (lines wides : List ℕ) (ps : List (Option ℕ)) → length (printed_by lines wides ps) ≡ length ps
unfolding printed_by
length_by [] wides ps = refl
length_by (c ∷ lines) [] ps = refl
length_by (c ∷ lines) (v ∷ wides) ps = go (eqb c 0) (length_by lines wides ps)
  where
    go : (b : Bool) → length (printed_by lines wides ps) ≡ length ps → length (cond b (printed_by lines wides ps) (set (printed_by lines wides ps) (c - 1) (printed v))) ≡ length ps
    go true r = r
    go false r = length-set (printed_by lines wides ps) (c - 1) (printed v) ∙ r

-- no entry shows its line
pub place_other : (lines wides : List ℕ) (ps : List (Option ℕ)) (p : ℕ) → mem (suc p) lines ≡ false → get_or (printed_by lines wides ps) p None ≡ get_or ps p None
unfolding printed_by mem
place_other [] wides ps p m = refl
place_other (c ∷ lines) [] ps p m = refl
place_other (c ∷ lines) (v ∷ wides) ps p m = go (eqb c 0) refl (eqb (suc p) c) refl m (λ r. place_other lines wides ps p r)
  where
    go : (b : Bool) → eqb c 0 ≡ b → (a : Bool) → eqb (suc p) c ≡ a → (a || mem (suc p) lines) ≡ false
        → (mem (suc p) lines ≡ false → get_or (printed_by lines wides ps) p None ≡ get_or ps p None)
        → get_or (cond b (printed_by lines wides ps) (set (printed_by lines wides ps) (c - 1) (printed v))) p None ≡ get_or ps p None
    go b e true f n ih = absurd (true≢false n)
    go true e false f n ih = ih n
    go false e false f n ih = get_or-set_other (printed_by lines wides ps) (c - 1) p (printed v) None (λ q. differ q) ∙ ih n
      where
        differ : p ≡ c - 1 → ⊥
        differ q = absurd (zero_case (ℕ_discrete c 0))
          where
            zero_case : Dec (c ≡ 0) → ⊥
            zero_case (yes z) = true≢false (sym (eq-eqb c 0 z) ∙ e)
            zero_case (no z) = true≢false (sym (eq-eqb (suc p) c (omega arith)) ∙ f)

-- the first entry that shows its line
pub place_cell : (lines wides : List ℕ) (ps : List (Option ℕ)) (p : ℕ) → length wides ≡ length lines → mem (suc p) lines ≡ true → p < length ps
    → get_or (printed_by lines wides ps) p None ≡ (printed_in lines wides (suc p))
unfolding printed_by printed_in mem
place_cell [] wides ps p l m h = absurd (true≢false (sym m))
place_cell (c ∷ lines) [] ps p l m h = absurd (omega arith)
place_cell (c ∷ lines) (v ∷ wides) ps p l m h = go (ℕ_discrete c (suc p)) (λ r. place_cell lines wides ps p (omega arith) r h)
  where
    go : Dec (c ≡ suc p) → (mem (suc p) lines ≡ true → get_or (printed_by lines wides ps) p None ≡ (printed_in lines wides (suc p)))
        → get_or (cond (eqb c 0) (printed_by lines wides ps) (set (printed_by lines wides ps) (c - 1) (printed v))) p None
        ≡ (cond (eqb c (suc p)) (printed v) (printed_in lines wides (suc p)))
    go (yes e) ih =
        let o : c - 1 ≡ p = omega arith in
        rw (ne_eqb c 0 (λ z. omega arith), eq-eqb c (suc p) e, o)
        (get_or-set_same (printed_by lines wides ps) p (printed v) None (omega (arith, length_by lines wides ps)))
    go (no e) ih = rw (ne_eqb c (suc p) e) (rest (ℕ_discrete c 0))
      where
        later : mem (suc p) lines ≡ true
        later = rw (ne_eqb (suc p) c (λ z. e (sym z))) at m

        rest : Dec (c ≡ 0) → get_or (cond (eqb c 0) (printed_by lines wides ps) (set (printed_by lines wides ps) (c - 1) (printed v))) p None
            ≡ (printed_in lines wides (suc p))
        rest (yes z) = rw (eq-eqb c 0 z) (ih later)
        rest (no z) =
            rw (ne_eqb c 0 z)
            (get_or-set_other (printed_by lines wides ps) (c - 1) p (printed v) None (λ q. e (omega arith)) ∙ ih later)
