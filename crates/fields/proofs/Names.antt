-- Names of kinds, by their bytes: a name whose length and bytes are a kind's is that kind's, and one that differs from each is no kind's.
use mathlib.Core.Path.{◌≡◌, refl, sym, ap, ◌∙◌}
use mathlib.Core.Bool.{Bool, true, false, false≢true}
use mathlib.Core.List.{List, [], ◌∷◌}
use Prim.Native.Nat.{ℕ, suc, ◌<◌}
use native.Mathlib.Omega.{arith}
use lib.Dec.{eqb}
use lib.ListN.{length, get_or, drop, length-drop}
use lib.Seq.{drop-cons}
use borrow.Author.Tests.{eqb-true}
use Rattle.std.specs.Prelude.{Some, None}
use Rattle.std.specs.Bool.{⊤}
use Rattle.std.proofs.lemmas.Slice.Eq.{HasBytesAt, text_from_reads}
use Rattle.kinds.specs.declared.Kind.{Kind}
use Rattle.kinds.specs.declared.Kind.TheVariants.{Text, Img, Svg, Container, Link, Em, Strong, Strike, Code, Block, Head, Div, Quote, Ul, Ol, Dl, Dt, Dd, Break, Table, Body, Row, Cell, Frag, Item, Sup, Calc}
use Rattle.kinds.specs.Kinds.{kind_number, kind_at, same, place, kind_of, kind_names}
use Rattle.fields.specs.inner.Reading.{kind_named}
use Rattle.fields.proofs.OnField.{and_0, and_1}

-- the bytes from a place on are these
abbrev pub Differs : List ℕ → ℕ → List ℕ → Type 0
Differs s i [] = ⊥
Differs s i (c ∷ m) = get_or s i 0 ≡ c → Differs s (suc i) m

-- bytes differ from each of these names
abbrev pub Unlike : List ℕ → List (List ℕ) → Type 0
Unlike s [] = ⊤
Unlike s (m ∷ ms) = (length s ≡ length m → Differs s 0 m) × Unlike s ms

pub same_eq : (f m : List ℕ) → same f m ≡ true → f ≡ m
unfolding same
same_eq [] [] e = refl
same_eq [] (c ∷ m) e = absurd (false≢true e)
same_eq (b ∷ f) [] e = absurd (false≢true e)
same_eq (b ∷ f) (c ∷ m) e =
    let bytes : b ≡ c = eqb-true b c (and_0 (eqb b c) (same f m) e) in
    ap (λ (x : ℕ). x ∷ f) bytes ∙ ap (λ (l : List ℕ). c ∷ l) (same_eq f m (and_1 (eqb b c) (same f m) e))

reads_differ : (s m : List ℕ) (i : ℕ) → HasBytesAt s i m → Differs s i m → ⊥
reads_differ s [] i h d = d
reads_differ s (c ∷ m) i h d = reads_differ s m (suc i) h.1 (d h.0)

reads_from : (s m : List ℕ) (i : ℕ) → drop i s ≡ m → HasBytesAt s i m
reads_from s [] i e = tt
reads_from s (c ∷ m) i e = (ap (λ (l : List ℕ). get_or l 0 0) both, reads_from s m (suc i) (ap (drop 1) both))
  where
    inside : i < length s
    inside = omega (arith, length-drop i s, ap length e)

    both : get_or s i 0 ∷ drop (suc i) s ≡ c ∷ m
    both = sym (drop-cons s i 0 inside) ∙ e

not_same : (s m : List ℕ) → (length s ≡ length m → Differs s 0 m) → same s m ≡ false
not_same s m h = go (same s m) refl
  where
    go : (t : Bool) → same s m ≡ t → t ≡ false
    go true e = absurd (reads_differ s m 0 (reads_from s m 0 (same_eq s m e)) (h (ap length (same_eq s m e))))
    go false e = refl

nowhere : (s : List ℕ) (ms : List (List ℕ)) → Unlike s ms → place s ms ≡ length ms
unfolding place
nowhere s [] u = refl
nowhere s (m ∷ ms) u = rw (not_same s m u.0) (ap suc (nowhere s ms u.1))

pub no_name : (s : List ℕ) → Unlike s kind_names → None ≡ kind_named (kind_of s)
unfolding kind_of
no_name s u = rw (nowhere s kind_names u)

-- the name of a kind, whose kind is the kind itself

abbrev pub name_of : Kind → List ℕ
name_of k = get_or kind_names (kind_number k) []

own : (k : Kind) → Some k ≡ kind_named (kind_of (name_of k))
unfolding kind_at kind_of place same
own Text = refl
own Img = refl
own Svg = refl
own Container = refl
own Link = refl
own Em = refl
own Strong = refl
own Strike = refl
own Code = refl
own Block = refl
own Head = refl
own Div = refl
own Quote = refl
own Ul = refl
own Ol = refl
own Dl = refl
own Dt = refl
own Dd = refl
own Break = refl
own Table = refl
own Body = refl
own Row = refl
own Cell = refl
own Frag = refl
own Item = refl
own Sup = refl
own Calc = refl

-- a name has these bytes
abbrev pub Is : List ℕ → List ℕ → Type 0
Is s m = (length s ≡ length m) × HasBytesAt s 0 m

pub named : (k : Kind) (s : List ℕ) → Is s (name_of k) → Some k ≡ kind_named (kind_of s)
named k s h = own k ∙ ap (λ (n : List ℕ). kind_named (kind_of n)) (sym (text_from_reads s (name_of k) h.0 h.1))
