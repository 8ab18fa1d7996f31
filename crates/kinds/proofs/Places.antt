-- The kind at each of the 27 places has that place, and the kind at the place of a kind is that kind.
use mathlib.Core.Path.{◌≡◌, refl, sym, ap, ◌∙◌}
use mathlib.Core.List.{List, [], ◌∷◌}
use Prim.Native.Nat.{ℕ, zero, suc, ◌+◌, ◌<◌}
use native.Mathlib.Nat.{zero-add, not-suc-le-zero, le_of_suc-le-suc}
use native.Mathlib.Omega.{arith}
use mathlib.Core.Bool.{false}
use lib.Dec.{eqb}
use lib.ListN.{get_or, get_or-map}
use borrow.Author.Tests.{ne_eqb}
use Rattle.kinds.specs.Kinds.{kinds, kind_number, kind_at, kind_count}
use Rattle.kinds.specs.declared.Kind.{Kind}
use Rattle.kinds.specs.declared.Kind.TheVariants.{Text, Img, Svg, Container, Link, Em, Strong, Strike, Code, Block, Head, Div, Quote, Ul, Ol, Dl, Dt, Dd, Break, Table, Body, Row, Cell, Frag, Item, Sup, Calc}

abbrev from_on : ℕ → ℕ → List ℕ
from_on k zero = []
from_on k (suc n) = k ∷ from_on (suc k) n

from_at : (k n i : ℕ) → i < n → get_or (from_on k n) i 0 ≡ k + i
from_at k zero i h = absurd (not-suc-le-zero h)
from_at k (suc n) zero h = omega arith
from_at k (suc n) (suc i) h = from_at (suc k) n i (le_of_suc-le-suc h) ∙ omega arith

pub number_of_at : (n : ℕ) → n < kind_count → kind_number (kind_at n) ≡ n
unfolding kind_at
number_of_at n h = sym (get_or-map kind_number kinds n Text) ∙ from_at 0 27 n h ∙ zero-add n

pub at_of_number : (k : Kind) → kind_at (kind_number k) ≡ k
unfolding kind_at
at_of_number Text = refl
at_of_number Img = refl
at_of_number Svg = refl
at_of_number Container = refl
at_of_number Link = refl
at_of_number Em = refl
at_of_number Strong = refl
at_of_number Strike = refl
at_of_number Code = refl
at_of_number Block = refl
at_of_number Head = refl
at_of_number Div = refl
at_of_number Quote = refl
at_of_number Ul = refl
at_of_number Ol = refl
at_of_number Dl = refl
at_of_number Dt = refl
at_of_number Dd = refl
at_of_number Break = refl
at_of_number Table = refl
at_of_number Body = refl
at_of_number Row = refl
at_of_number Cell = refl
at_of_number Frag = refl
at_of_number Item = refl
at_of_number Sup = refl
at_of_number Calc = refl

-- kinds of one place are the same, and others have other places
pub same_number : (k l : Kind) → kind_number k ≡ kind_number l → k ≡ l
same_number k l q = sym (at_of_number k) ∙ ap kind_at q ∙ at_of_number l

pub apart : (k l : Kind) → (k ≡ l → ⊥) → eqb (kind_number k) (kind_number l) ≡ false
apart k l h = ne_eqb (kind_number k) (kind_number l) (λ q. h (same_number k l q))
