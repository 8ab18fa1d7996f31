-- The entries each of whose columns has a cause are those that are missing, if the rows of boxes tile the columns: a column has a cause exactly if it
-- is 0 wide, and an entry is missing exactly if its columns sum to 0, or down the page if the page has width 0.
use mathlib.Core.Path.{◌≡◌, refl, sym, ap, ap₂, ◌∙◌}
use mathlib.Core.Bool.{Bool, true, false, cond}
use mathlib.Core.List.{List, [], ◌∷◌, ◌++◌, map}
use Prim.Native.Nat.{ℕ, zero, suc, ◌+◌, ◌≤◌, ◌<◌}
use native.Mathlib.Decide.{ℕ_discrete}
use native.Mathlib.Omega.{arith}
use lib.Dec.{eqb}
use lib.ListN.{length, get_or, take, drop, replicate, length-drop, get_or-replicate}
use lib.Seq.{length-take-le, get_or-take, get_or-drop}
use borrow.Author.Tests.{eq-eqb, ne_eqb, lt-ltb, le-ltb}
use Rattle.common.specs.Lists.{sum, Tiles}
use Rattle.common.proofs.Tiles.{tiles_start}
use Rattle.records.specs.declared.Entry.{Entry}
use Rattle.text.specs.declared.Estimate.{Estimate}
use Rattle.columns.specs.Boxes.{Box, flat}
use Rattle.columns.specs.inner.Boxes.{box_first, box_span, BoxesTile, TilesAll}
use Rattle.columns.specs.Columns.{size_of, least_of, largest_at, largest}
use Rattle.columns.proofs.Upto.{length_up_to, at_up_to}
use Rattle.cutting.specs.Cut as cut
use Rattle.widths.specs.Share.{shares}
use Rattle.widths.specs.Widths.{way_of, final_widths}
use Rattle.answers.specs.declared.Way.{Way}
use Rattle.answers.specs.declared.Way.TheVariants.{Sideways, Down}
use Rattle.widths.proofs.Whole.{way_raw, way_zero}
use Rattle.widths.proofs.Laying.{final_down, length_final}
use Rattle.placement.specs.Place.{Placed, across, place_down, place_row, place_rows}
use Rattle.placement.specs.inner.Rows.{own, next, bare_boxes}
use Rattle.placement.proofs.Placing.{place_by, side_by, length_row, own_missing, missing_own}
use Rattle.placement.proofs.Spread.{narrow_spread, spread_floor}
use Rattle.column_sizes.specs.inner.Sizing.{entry_box}
use Rattle.table_layout.specs.Laying.{way_in, widths_in, places_in}
use Rattle.causes.specs.Causes.{cause_of, cause_number, causes, cause_at, missing_from}
use Rattle.causes.specs.declared.Cause.TheVariants.{Empty, Little, Cut}
use Rattle.causes.specs.inner.Hidden.{none_shown, hidden, hidden_from}

-- ---- a column

-- a column's cause is 0 exactly if it is not 0 wide
abbrev Tied : ℕ → ℕ → Type 0
Tied c w = (c ≡ 0 → 1 ≤ w) × (1 ≤ w → c ≡ 0)

cause_page : (width size share wide : ℕ) → width ≡ 0 → cause_number (cause_of width size share wide) ≡ 4
unfolding cause_of cause_number
cause_page width size share wide e = rw (eq-eqb width 0 e)

cause_shown : (width size share wide : ℕ) → (width ≡ 0 → ⊥) → 1 ≤ wide → cause_number (cause_of width size share wide) ≡ 0
unfolding cause_of cause_number
cause_shown width size share wide n h = rw (ne_eqb width 0 n, lt-ltb 0 wide h)

some : (a b : Bool) → 1 ≤ cause_number (cond a Empty (cond b Little Cut))
unfolding cause_number
some true b = omega arith
some false true = omega arith
some false false = omega arith

cause_some : (width size share wide : ℕ) → (width ≡ 0 → ⊥) → wide ≡ 0 → 1 ≤ cause_number (cause_of width size share wide)
unfolding cause_of
cause_some width size share wide n e = rw (ne_eqb width 0 n, le-ltb 0 wide (omega arith)) (some (eqb size 0) (eqb share 0))

tied : (width size share wide : ℕ) → (width ≡ 0 → wide ≡ 0) → Tied (cause_number (cause_of width size share wide)) wide
tied width size share wide z = go (ℕ_discrete width 0) (ℕ_discrete wide 0)
  where
    go : Dec (width ≡ 0) → Dec (wide ≡ 0) → Tied (cause_number (cause_of width size share wide)) wide
    go (yes p) d = ((λ e. omega (arith, cause_page width size share wide p)), (λ h. omega (arith, z p)))
    go (no p) (yes e) = ((λ f. omega (arith, cause_some width size share wide p e)), (λ h. omega arith))
    go (no p) (no e) = ((λ f. omega arith), (λ h. cause_shown width size share wide p h))

-- ---- the columns of a box

zero_before : (w s : ℕ) → (1 ≤ w → ⊥) → s ≡ w + s
zero_before zero s f = omega arith
zero_before (suc w) s f = absurd (f (omega arith))

none_sum : (cs ws : List ℕ) → length cs ≡ length ws → ((j : ℕ) → j < length ws → Tied (get_or cs j 0) (get_or ws j 0)) → none_shown cs ≡ eqb (sum ws) 0
unfolding none_shown sum
none_sum [] [] e t = refl
none_sum [] (w ∷ ws) e t = absurd (omega arith)
none_sum (c ∷ cs) [] e t = absurd (omega arith)
none_sum (c ∷ cs) (w ∷ ws) e t = go (ℕ_discrete c 0) (none_sum cs ws (omega arith) (λ j h. t (suc j) (omega arith)))
  where
    go : Dec (c ≡ 0) → none_shown cs ≡ eqb (sum ws) 0 → cond (eqb c 0) false (none_shown cs) ≡ eqb (w + sum ws) 0
    go (yes q) r = rw (eq-eqb c 0 q, ne_eqb (w + sum ws) 0 (λ z. omega (arith, (t 0 (omega arith)).0 q)))
    go (no q) r =
        let back : 1 ≤ w → c ≡ 0 = (t 0 (omega arith)).1 in
        rw (ne_eqb c 0 q) (r ∙ ap (λ k. eqb k 0) (zero_before w (sum ws) (λ h. q (back h))))

module _ (n : ℕ) (cs ws : List ℕ) (c : length cs ≡ n) (w : length ws ≡ n) (t : (j : ℕ) → j < n → Tied (get_or cs j 0) (get_or ws j 0)) where
  part_length : (l : List ℕ) → length l ≡ n → (b : Box) → b.first + b.span ≤ n → length (take b.span (drop b.first l)) ≡ b.span
  part_length l e b h = length-take-le b.span (drop b.first l) (omega (arith, length-drop b.first l))

  part_at : (l : List ℕ) (b : Box) (j : ℕ) → j < b.span → get_or (take b.span (drop b.first l)) j 0 ≡ get_or l (b.first + j) 0
  part_at l b j h = get_or-take b.span (drop b.first l) j 0 h ∙ get_or-drop b.first l j 0

  hidden_side : (b : Box) → 1 ≤ b.span → b.first + b.span ≤ n → hidden cs b ≡ eqb (across ws b) 0
  hidden_side b s h =
      none_sum (take b.span (drop b.first cs)) (take b.span (drop b.first ws)) (part_length cs c b h ∙ sym (part_length ws w b h))
      (λ j l. let k : j < b.span = omega (arith, part_length ws w b h) in rw (part_at cs b j k, part_at ws b j k) (t (b.first + j) (omega arith)))

  hidden_down : (width : ℕ) → ws ≡ replicate n width → (b : Box) → 1 ≤ b.span → b.first + b.span ≤ n → hidden cs b ≡ eqb width 0
  hidden_down width e b s h = hidden_side b s h ∙ go (ℕ_discrete width 0)
    where
      all : (j : ℕ) → j < n → get_or ws j 0 ≡ width
      all j l = rw e (get_or-replicate n j width 0 l)

      go : Dec (width ≡ 0) → eqb (across ws b) 0 ≡ eqb width 0
      go (yes q) = rw (eq-eqb width 0 q) (eq-eqb (across ws b) 0 (narrow_spread ws b (λ j p l. all j (omega arith) ∙ q)))
      go (no q) =
          rw (ne_eqb width 0 q)
          (ne_eqb (across ws b) 0 (λ z. omega (arith, spread_floor ws b 1 (λ j p l. omega (arith, all j (omega arith))))))

-- ---- a row

own_zero : (q s : ℕ) → 1 ≤ s → eqb (own q s) 0 ≡ eqb q 0
own_zero q s h = go (ℕ_discrete q 0)
  where
    go : Dec (q ≡ 0) → eqb (own q s) 0 ≡ eqb q 0
    go (yes e) = eq-eqb (own q s) 0 (own_missing q s e) ∙ sym (eq-eqb q 0 e)
    go (no e) = ne_eqb (own q s) 0 (λ z. e (missing_own q s h z)) ∙ sym (ne_eqb q 0 e)

missed_by : (n : ℕ) (f : Box → ℕ) (cs : List ℕ) → ((b : Box) → 1 ≤ b.span → b.first + b.span ≤ n → hidden cs b ≡ eqb (f b) 0)
    → (k x p : ℕ) (bs : List Box) → BoxesTile n p bs → missing_from k (place_by f x bs) ≡ hidden_from k bs cs
unfolding missing_from place_by hidden_from Tiles
missed_by n f cs g k x p [] t = refl
missed_by n f cs g k x p (b ∷ bs) t =
    let here = own_zero (f b) b.span t.1 ∙ sym (g b t.1 (omega (arith, t.0, tiles_start box_first box_span n (p + b.span) bs t.2))) in
    ap₂ (λ (y : Bool) (r : List ℕ). cond y (k ∷ r) r) here (missed_by n f cs g (suc k) (next x (f b) b.span) (p + b.span) bs t.2)

missed_down : (n width : ℕ) (cs : List ℕ) → ((b : Box) → 1 ≤ b.span → b.first + b.span ≤ n → hidden cs b ≡ eqb width 0)
    → (k p : ℕ) (bs : List Box) → BoxesTile n p bs → missing_from k (place_down width bs) ≡ hidden_from k bs cs
unfolding missing_from place_down hidden_from Tiles
missed_down n width cs g k p [] t = refl
missed_down n width cs g k p (b ∷ bs) t =
    ap₂ (λ (y : Bool) (r : List ℕ). cond y (k ∷ r) r) (sym (g b t.1 (omega (arith, t.0, tiles_start box_first box_span n (p + b.span) bs t.2))))
    (missed_down n width cs g (suc k) (p + b.span) bs t.2)

-- ---- all rows

joined : (y : Bool) (k : ℕ) (xs ys : List ℕ) → cond y (k ∷ (xs ++ ys)) (xs ++ ys) ≡ cond y (k ∷ xs) xs ++ ys
joined true k xs ys = refl
joined false k xs ys = refl

missing_append : (k : ℕ) (ps qs : List Placed) → missing_from k (ps ++ qs) ≡ missing_from k ps ++ missing_from (k + length ps) qs
unfolding missing_from
missing_append k [] qs = ap (λ (m : ℕ). missing_from m qs) (omega arith)
missing_append k (p ∷ ps) qs =
    ap (λ (r : List ℕ). cond (eqb p.width 0) (k ∷ r) r) (missing_append (suc k) ps qs)
    ∙ joined (eqb p.width 0) k (missing_from (suc k) ps) (missing_from (suc k + length ps) qs)
    ∙ ap (λ (m : ℕ). missing_from k (p ∷ ps) ++ missing_from m qs) (omega arith)

hidden_append : (cs : List ℕ) (k : ℕ) (xs bs : List Box) → hidden_from k (xs ++ bs) cs ≡ hidden_from k xs cs ++ hidden_from (k + length xs) bs cs
unfolding hidden_from
hidden_append cs k [] bs = ap (λ (m : ℕ). hidden_from m bs cs) (omega arith)
hidden_append cs k (a ∷ xs) bs =
    ap (λ (r : List ℕ). cond (hidden cs a) (k ∷ r) r) (hidden_append cs (suc k) xs bs)
    ∙ joined (hidden cs a) k (hidden_from (suc k) xs cs) (hidden_from (suc k + length xs) bs cs)
    ∙ ap (λ (m : ℕ). hidden_from k (a ∷ xs) cs ++ hidden_from m bs cs) (omega arith)

-- to being hidden only first columns and spans count
pub hidden_entries : (figures : List Estimate) (cs : List ℕ) (k : ℕ) (es : List Entry) →
    hidden_from k (bare_boxes es) cs ≡ hidden_from k (map (entry_box figures) es) cs
unfolding hidden_from
hidden_entries figures cs k [] = refl
hidden_entries figures cs k (e ∷ es) = rw (hidden_entries figures cs (suc k) es)

-- the missing ones of a row, either way, where its columns have their final widths
module _ (n : ℕ) (cs zs ls : List ℕ) (width : ℕ) (z : length zs ≡ n) (c : length cs ≡ n) where
  missed_row : (way : Way) → ((j : ℕ) → j < n → Tied (get_or cs j 0) (get_or (final_widths way zs ls width) j 0)) → (k : ℕ) (r : List Box) → BoxesTile n 0 r
      → missing_from k (place_row way (final_widths way zs ls width) width r) ≡ hidden_from k r cs
  unfolding place_row final_widths
  missed_row Sideways t k r h =
      let ws = final_widths Sideways zs ls width in
      ap (missing_from k) (side_by ws 0 r)
      ∙ missed_by n (across ws) cs (hidden_side n cs ws c (length_final Sideways zs ls width ∙ z) t) k 0 0 r h
  missed_row Down t k r h =
      let ws = final_widths Down zs ls width in
      missed_down n width cs (hidden_down n cs ws c (length_final Down zs ls width ∙ z) t width (ap (λ (m : ℕ). replicate m width) z)) k 0 r h

  pub missed_rows : (way : Way) → ((j : ℕ) → j < n → Tied (get_or cs j 0) (get_or (final_widths way zs ls width) j 0)) → (k : ℕ) (rows : List (List Box)) → TilesAll n rows
      → missing_from k (place_rows way (final_widths way zs ls width) width rows) ≡ hidden_from k (flat rows) cs
  unfolding place_rows flat TilesAll missing_from hidden_from
  missed_rows way t k [] h = refl
  missed_rows way t k (r ∷ rows) h =
      let ps = place_row way (final_widths way zs ls width) width r in
      missing_append k ps (place_rows way (final_widths way zs ls width) width rows)
      ∙ ap₂ (λ (xs ys : List ℕ). xs ++ ys) (missed_row way t k r h.0)
      (ap (λ (m : ℕ). missing_from (k + m) (place_rows way (final_widths way zs ls width) width rows)) (length_row way (final_widths way zs ls width) width r)
      ∙ missed_rows way t (k + length r) rows h.2)
      ∙ sym (hidden_append cs k r (flat rows))

-- on a page of width 0 every column is 0 wide
down_at_0 : (raw width : ℕ) (zs ls : List ℕ) (j : ℕ) → j < length zs → width ≡ 0 → get_or (final_widths (way_of raw width ls) zs ls width) j 0 ≡ 0
down_at_0 raw width zs ls j h e =
    ap (λ (ws : List ℕ). get_or ws j 0) (final_down (way_of raw width ls) zs ls width (down (ℕ_discrete raw 1))) ∙ get_or-replicate (length zs) j width 0 h ∙ e
  where
    down : Dec (raw ≡ 1) → way_of raw width ls ≡ Down
    down (yes r) = way_raw raw width ls r
    down (no r) = way_zero raw width ls r e

-- the law: of rows that tile the columns, laid out, the entries whose columns all have a cause are the missing ones
pub missing_are : (columns : ℕ) (rows : List (List Box)) (raw width : ℕ) → TilesAll columns rows →
    hidden_from 0 (flat rows) (causes (largest size_of (flat rows) columns) (largest least_of (flat rows) columns) (widths_in columns rows raw width) width)
    ≡ missing_from 0 (places_in columns rows raw width)
missing_are columns rows raw width t =
    sym (missed_rows columns cs zs ls width z (length_up_to (length zs) g ∙ z) (way_in columns rows raw width) each 0 rows t)
  where
    zs : List ℕ
    zs = largest size_of (flat rows) columns

    ls : List ℕ
    ls = largest least_of (flat rows) columns

    ws : List ℕ
    ws = widths_in columns rows raw width

    g : ℕ → ℕ
    g j = cause_number (cause_at zs ls ws width j)

    cs : List ℕ
    cs = causes zs ls ws width

    z : length zs ≡ columns
    z = length_up_to columns (largest_at size_of (flat rows))

    each : (j : ℕ) → j < columns → Tied (get_or cs j 0) (get_or ws j 0)
    each j h =
        rw (at_up_to (length zs) g j (omega (arith, z)))
        (tied width (cut.at zs j) (cut.at (shares zs ls width) j) (cut.at ws j) (down_at_0 raw width zs ls j (omega (arith, z))))
