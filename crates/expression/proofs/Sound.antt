-- A text that has a result reads as a tree with that result: at each byte, what was read so far is a part of such a reading.
use mathlib.Core.Bool.{Bool, true, false, cond}
use mathlib.Core.Path.{◌≡◌, refl, sym, ap, ◌∙◌, subst}
use Rattle.std.specs.Prelude.{Option, None, Some}
use mathlib.Core.List.{List, [], ◌∷◌, ◌++◌, append_assoc, append-nil}
use Prim.Native.Nat.{ℕ, zero, suc, ◌+◌, ◌*◌, ◌-◌, ◌≤◌, ◌<◌}
use native.Mathlib.Omega.{arith}
use lib.Dec.{eqb, ltb}
use lib.ListN.{length, length-append}
use borrow.Author.Tests.{ltb-true, eqb-true}
use Rattle.expression.specs.declared.Op.{Op}
use Rattle.expression.specs.Tree.{Tree, number, node}
use Rattle.expression.specs.Grammar.{digit, all_digits, decimal_from, Numeral, Loose, plus, minus, Tight, times, over, sign, Level, factor, term, expr, Reads, digits, bracket, one_factor, product, one_term, sum, ReadsAs}
use Rattle.expression.specs.Machine.{Kit, Waiting, waiting, fresh, Place, wrong, want, within, have, State, state, total, wanted, operator, inner, opened, closed, step, finish, run, start}
use Rattle.expression.proofs.Bytes.{digits_snoc, decimal_snoc}
use Rattle.expression.proofs.Complete.{Meaning}

pick : {X : Type 0} (P : X → Type 0) (b : Bool) {x y : X} → (b ≡ true → P x) → (b ≡ false → P y) → P (cond b x y)
pick P true f g = f refl
pick P false f g = g refl

-- the text s begins with an l, worth x, and r is the rest
pub record Worth {A : Type 0} (k : Kit A) (m : Meaning k) (l : Level) (d : ℕ) (s r : List ℕ) (x : A) : Type 0 where
  pub text : List ℕ
  pub tree : Tree
  pub splits : s ≡ text ++ r
  pub reads : Reads l d text tree
  pub worth : m.of tree ≡ x

module _ {A : Type 0} (k : Kit A) (m : Meaning k) where
  w_digits : {d : ℕ} {w r : List ℕ} → Numeral w → Worth k m factor d (w ++ r) r (k.lit (decimal_from 0 w))
  w_digits {d} {w} {r} n = record { text = w; tree = number (decimal_from 0 w); splits = refl; reads = digits n; worth = m.of_number (decimal_from 0 w) }

  w_bracket : {d : ℕ} {s r : List ℕ} {x : A} → Worth k m expr d s (41 ∷ r) x → Worth k m factor (suc d) (40 ∷ s) r x
  w_bracket {r = r} h =
      record {
        text = 40 ∷ (h.text ++ (41 ∷ []));
        tree = h.tree;
        splits = ap (λ (l : List ℕ). 40 ∷ l) (h.splits ∙ sym (append_assoc h.text (41 ∷ []) r));
        reads = bracket h.reads;
        worth = h.worth;
      }

  w_factor : {d : ℕ} {s r : List ℕ} {x : A} → Worth k m factor d s r x → Worth k m term d s r x
  w_factor h = record { text = h.text; tree = h.tree; splits = h.splits; reads = one_factor h.reads; worth = h.worth }

  w_term : {d : ℕ} {s r : List ℕ} {x : A} → Worth k m term d s r x → Worth k m expr d s r x
  w_term h = record { text = h.text; tree = h.tree; splits = h.splits; reads = one_term h.reads; worth = h.worth }

  joined : (o : Op) {l l' : Level} {d : ℕ} {s u r : List ℕ} {x y : A} (g : Worth k m l d s (sign o ∷ u) x) (h : Worth k m l' d u r y) → s ≡ (g.text ++ (sign o ∷ h.text)) ++ r
  joined o {r = r} g h =
      g.splits ∙ ap (λ (l : List ℕ). g.text ++ (sign o ∷ l)) h.splits ∙ sym (append_assoc g.text (sign o ∷ h.text) r)

  -- two with a sign between them
  w_node : {o : Op} {l l' q : Level} {d : ℕ} {s u r : List ℕ} {x y : A} (g : Worth k m l d s (sign o ∷ u) x) (h : Worth k m l' d u r y)
      → Reads q d (g.text ++ (sign o ∷ h.text)) (node o g.tree h.tree) → Worth k m q d s r (k.join o x y)
  w_node {o} g h reads =
      record {
        text = g.text ++ (sign o ∷ h.text);
        tree = node o g.tree h.tree;
        splits = joined o g h;
        reads = reads;
        worth = m.of_node o g.tree h.tree ∙ cc (g.worth, h.worth);
      }

  w_product : {o : Op} {d : ℕ} {s u r : List ℕ} {x y : A} → Tight o → Worth k m term d s (sign o ∷ u) x → Worth k m factor d u r y → Worth k m term d s r (k.join o x y)
  w_product i g h = w_node g h (product i g.reads h.reads)

  w_sum : {o : Op} {d : ℕ} {s u r : List ℕ} {x y : A} → Loose o → Worth k m expr d s (sign o ∷ u) x → Worth k m term d u r y → Worth k m expr d s r (k.join o x y)
  w_sum i g h = w_node g h (sum i g.reads h.reads)

  -- what waits makes an expr of a term, and a term of a factor
  abbrev Sums : ℕ → (A → A) → List ℕ → List ℕ → Type 0
  Sums d f s u = (r : List ℕ) (x : A) → Worth k m term d u r x → Worth k m expr d s r (f x)

  abbrev Products : ℕ → (A → A) → List ℕ → List ℕ → Type 0
  Products d f s u = (r : List ℕ) (x : A) → Worth k m factor d u r x → Worth k m term d s r (f x)

  module _ (whole : List ℕ) where
    -- the innermost open bracket, or the whole text, has the text s from its start on
    data Outer : ℕ → List (Waiting A) → List ℕ → Type 0 where
      top : Outer 32 [] whole
      below : {d : ℕ} {f : Waiting A} {fs : List (Waiting A)} {s u v : List ℕ} → Outer (suc d) fs s → Sums (suc d) f.sum s u → Products (suc d) f.product u (40 ∷ v) → Outer d (f ∷ fs) v

    depth : {d : ℕ} {fs : List (Waiting A)} {s : List ℕ} → Outer d fs s → d + length fs ≡ 32
    depth top = refl
    depth (below o h g) = omega (arith, depth o)

    record Begun (f : Waiting A) (fs : List (Waiting A)) (r : List ℕ) : Type 0 where
      d : ℕ
      from : List ℕ
      mid : List ℕ
      outer : Outer d fs from
      sums : Sums d f.sum from mid
      products : Products d f.product mid r

    record Numbered (n v : ℕ) (f : Waiting A) (fs : List (Waiting A)) (r : List ℕ) : Type 0 where
      text : List ℕ
      begun : Begun f fs (text ++ r)
      all : all_digits text ≡ true
      is : decimal_from 0 text ≡ v
      count : length text ≡ n
      least : 1 ≤ n
      most : n ≤ 9

    record Had (f : A → A) (p : A) (fs : List (Waiting A)) (r : List ℕ) : Type 0 where
      d : ℕ
      from : List ℕ
      mid : List ℕ
      outer : Outer d fs from
      sums : Sums d f from mid
      read : Worth k m term d mid r p

    record Ended (x : A) (fs : List (Waiting A)) (r : List ℕ) : Type 0 where
      d : ℕ
      from : List ℕ
      outer : Outer d fs from
      read : Worth k m expr d from r x

    Inv : Place A → List (Waiting A) → List ℕ → Type 0
    Inv wrong fs r = Unit {0}
    Inv (want f) fs r = Begun f fs r
    Inv (within n v f) fs r = Numbered n v f fs r
    Inv (have f p) fs r = Had f p fs r

    InvOf : List ℕ → State A → Type 0
    InvOf r s = Inv s.place s.outer r

    EndedBy : Option A → List (Waiting A) → List ℕ → Type 0
    EndedBy None fs r = Unit {0}
    EndedBy (Some x) fs r = Ended x fs r

    numbered : {n v : ℕ} {f : Waiting A} {fs : List (Waiting A)} {r : List ℕ} → Numbered n v f fs r → Had f.sum (f.product (k.lit v)) fs r
    numbered {n} {v} {f} {fs} {r} h =
        let w = h.text in
        let c = h.count in
        let q : Numeral w = record { digits = h.all; some_digit = omega (arith, h.least); at_most_nine = omega (arith, h.most) } in
        record {
          d = h.begun.d;
          from = h.begun.from;
          mid = h.begun.mid;
          outer = h.begun.outer;
          sums = h.begun.sums;
          read =
              subst (λ (z : ℕ). Worth k m term h.begun.d h.begun.mid r (f.product (k.lit z))) h.is
              (h.begun.products r (k.lit (decimal_from 0 w)) (w_digits q));
        }

    had : {f : A → A} {p : A} {fs : List (Waiting A)} {r : List ℕ} → Had f p fs r → Ended (f p) fs r
    had {f} {p} {fs} {r} h = record { d = h.d; from = h.from; outer = h.outer; read = h.sums r p h.read }

    ended : (p : Place A) (fs : List (Waiting A)) (r : List ℕ) → Inv p fs r → EndedBy (total k p) fs r
    unfolding Inv EndedBy total
    ended wrong fs r h = tt
    ended (want f) fs r h = tt
    ended (within n v f) fs r h = had (numbered h)
    ended (have f p) fs r h = had h

    -- the state after each kind of byte
    at_close : (o : Option A) (fs : List (Waiting A)) (r : List ℕ) → EndedBy o fs (41 ∷ r) → InvOf r (closed o fs)
    unfolding EndedBy InvOf Inv closed
    at_close None fs r h = tt
    at_close (Some x) [] r h = tt
    at_close (Some x) (f ∷ fs) r h = up h.outer h.read
      where
        up : {d : ℕ} {s : List ℕ} → Outer d (f ∷ fs) s → Worth k m expr d s (41 ∷ r) x → Had f.sum (f.product x) fs r
        up (below {d} {u = u} o g q) e =
            record { d = suc d; from = _; mid = u; outer = o; sums = g; read = q r x (w_bracket e) }

    fresh_at : {d : ℕ} {f : Waiting A} {fs : List (Waiting A)} {s u r : List ℕ} → Outer d fs s → Sums d f.sum s u → Products d f.product u (40 ∷ r) → length fs < 32 → Begun fresh (f ∷ fs) r
    fresh_at {d = zero} {r = r} o g q h = absurd (omega (arith, depth o))
    fresh_at {d = suc d} {r = r} o g q h =
        record { d = d; from = r; mid = r; outer = below o g q; sums = λ r' x w. w_term w; products = λ r' x w. w_factor w }

    at_open : (p : Place A) (fs : List (Waiting A)) (r : List ℕ) → Inv p fs (40 ∷ r) → InvOf r (opened (wanted p) fs)
    unfolding InvOf Inv opened wanted
    at_open wrong fs r h = tt
    at_open (want f) fs r h =
        pick (InvOf r) (ltb (length fs) 32)
        (λ e. fresh_at {f = f} h.outer h.sums h.products (ltb-true (length fs) 32 e)) (λ e. tt)
    at_open (within n v f) fs r h = tt
    at_open (have f p) fs r h = tt

    multiplied : {o : Op} (i : Tight o) {f : A → A} {p : A} {fs : List (Waiting A)} {r : List ℕ} → Had f p fs (sign o ∷ r) → Begun (waiting f (k.join o p)) fs r
    multiplied i {r = r} h =
        record {
          d = h.d;
          from = h.from;
          mid = h.mid;
          outer = h.outer;
          sums = h.sums;
          products = λ r' x w. w_product i h.read w;
        }

    added : {o : Op} (i : Loose o) {f : A → A} {p : A} {fs : List (Waiting A)} {r : List ℕ} → Had f p fs (sign o ∷ r) → Begun (waiting (k.join o (f p)) (λ x. x)) fs r
    added {o} i {f} {p} {fs} {r} h =
        record {
          d = h.d;
          from = h.from;
          mid = r;
          outer = h.outer;
          sums = λ r' x w. w_sum i (h.sums (sign o ∷ r) p h.read) w;
          products = λ r' x w. w_factor w;
        }

    at_operator : (c : ℕ) (f : A → A) (p : A) (fs : List (Waiting A)) (r : List ℕ) → Had f p fs (c ∷ r) → Inv (operator k c f p) fs r
    unfolding Inv operator
    at_operator c f p fs r h =
        pick (λ (z : Place A). Inv z fs r) (eqb c 42) (λ e. multiplied times (is 42 e))
        (λ e. pick (λ (z : Place A). Inv z fs r) (eqb c 47) (λ e. multiplied over (is 47 e))
        (λ e. pick (λ (z : Place A). Inv z fs r) (eqb c 43) (λ e. added plus (is 43 e))
        (λ e. pick (λ (z : Place A). Inv z fs r) (eqb c 45) (λ e. added minus (is 45 e)) (λ e. tt))))
      where
        is : (n : ℕ) → eqb c n ≡ true → Had f p fs (n ∷ r)
        is n e = subst (λ (z : ℕ). Had f p fs (z ∷ r)) (eqb-true c n e) h

    first : (c : ℕ) {f : Waiting A} {fs : List (Waiting A)} {r : List ℕ} → digit c ≡ true → Begun f fs (c ∷ r) → Numbered 1 (c - 48) f fs r
    unfolding all_digits decimal_from
    first c e h =
        record { text = c ∷ []; begun = h; all = rw e; is = omega arith; count = refl; least = omega arith; most = omega arith }

    another : (c : ℕ) {n v : ℕ} {f : Waiting A} {fs : List (Waiting A)} {r : List ℕ} → digit c ≡ true → n < 9 → Numbered n v f fs (c ∷ r) → Numbered (n + 1) (10 * v + (c - 48)) f fs r
    another c {n} {v} {f} {fs} {r} e l h =
        record {
          text = h.text ++ (c ∷ []);
          begun = subst (Begun f fs) (sym (append_assoc h.text (c ∷ []) r)) h.begun;
          all = digits_snoc h.text c h.all e;
          is = decimal_snoc 0 h.text c ∙ ap (λ (z : ℕ). 10 * z + (c - 48)) h.is;
          count = length-append h.text (c ∷ []) ∙ ap (λ (z : ℕ). z + 1) h.count;
          least = omega arith;
          most = omega arith;
        }

    at_inner : (c : ℕ) (p : Place A) (fs : List (Waiting A)) (r : List ℕ) → Inv p fs (c ∷ r) → Inv (inner k c p) fs r
    unfolding Inv inner
    at_inner c wrong fs r h = tt
    at_inner c (want f) fs r h = pick (λ (z : Place A). Inv z fs r) (digit c) (λ e. first c e h) (λ e. tt)
    at_inner c (within n v f) fs r h =
        pick (λ (z : Place A). Inv z fs r) (digit c)
        (λ e. pick (λ (z : Place A). Inv z fs r) (ltb n 9) (λ l. another c e (ltb-true n 9 l) h) (λ l. tt))
        (λ e. at_operator c f.sum (f.product (k.lit v)) fs r (numbered h))
    at_inner c (have f p) fs r h = at_operator c f p fs r h

    at_step : (c : ℕ) (p : Place A) (fs : List (Waiting A)) (r : List ℕ) → Inv p fs (c ∷ r) → InvOf r (step k (state p fs) c)
    unfolding InvOf step
    at_step c p fs r h =
        pick (InvOf r) (eqb c 40) (λ e. at_open p fs r (subst (λ (z : ℕ). Inv p fs (z ∷ r)) (eqb-true c 40 e) h))
        (λ e. pick (InvOf r) (eqb c 41)
        (λ e. at_close (total k p) fs r (ended p fs (41 ∷ r) (subst (λ (z : ℕ). Inv p fs (z ∷ r)) (eqb-true c 41 e) h)))
        (λ e. at_inner c p fs r h))

    Read : Option A → Type 0
    Read None = Unit {0}
    Read (Some x) = (t : Tree) × ReadsAs whole t × (m.of t ≡ x)

    at_end : (o : Option A) (fs : List (Waiting A)) → EndedBy o fs [] → Read (finish o fs)
    unfolding Read EndedBy finish
    at_end None [] h = tt
    at_end None (f ∷ fs) h = tt
    at_end (Some x) [] h = up h.outer h.read
      where
        up : {d : ℕ} {s : List ℕ} → Outer d [] s → Worth k m expr d s [] x → (t : Tree) × ReadsAs whole t × (m.of t ≡ x)
        up top w =
            (w.tree, subst (λ (l : List ℕ). ReadsAs l w.tree) (sym (w.splits ∙ append-nil w.text)) w.reads, w.worth)
    at_end (Some x) (f ∷ fs) h = tt

    goes : (r : List ℕ) (s : State A) → InvOf r s → Read (run k s r)
    unfolding run InvOf
    goes [] s h = at_end (total k s.place) s.outer (ended s.place s.outer [] h)
    goes (c ∷ r) s h = goes r (step k s c) (at_step c s.place s.outer r h)

    begin : InvOf whole start
    unfolding InvOf Inv
    begin =
        record { d = 32; from = whole; mid = whole; outer = top; sums = λ r x w. w_term w; products = λ r x w. w_factor w }

  pub sound : (w : List ℕ) (x : A) → run k start w ≡ Some x → (t : Tree) × ReadsAs w t × (m.of t ≡ x)
  unfolding Read
  sound w x e = subst (Read w) e (goes w w start (begin w))
