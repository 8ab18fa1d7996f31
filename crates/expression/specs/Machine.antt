-- A reader that goes through a text byte by byte, over any kind of results: trees, or values.
use Rattle.std.specs.Prelude.{cond, List, [], ◌∷◌, ℕ, ◌+◌, ◌*◌, ◌-◌, eqb, ltb, length, Option, None, Some}
use Rattle.expression.specs.declared.Op.{Op}
use Rattle.expression.specs.declared.Op.TheVariants.{Plus, Minus, Times, Over}
use Rattle.expression.specs.Grammar.{digit}

-- the result of a number, and of an operation on two results
pub record Kit (A : Type 0) : Type 0 where
  pub lit : ℕ → A
  pub join : Op → A → A → A

-- what the operators that still wait do: `product` to the factor that comes, and `sum` to the term that ends then
pub record Waiting (A : Type 0) : Type 0 where
  pub sum : A → A
  pub product : A → A

abbrev pub waiting : {A : Type 0} → (A → A) → (A → A) → Waiting A
waiting s p = record { sum = s; product = p }

abbrev pub fresh : {A : Type 0} → Waiting A
fresh = waiting (λ x. x) (λ x. x)

-- within the innermost open bracket: not to be read; a factor has to come; a number of n digits so far, worth v; a factor has come, which makes the term p
pub data Place (A : Type 0) : Type 0 where
  wrong : Place A
  want : Waiting A → Place A
  within : ℕ → ℕ → Waiting A → Place A
  have : (A → A) → A → Place A

-- with the operators that wait outside each open bracket, the innermost first
pub record State (A : Type 0) : Type 0 where
  pub place : Place A
  pub outer : List (Waiting A)

abbrev pub state : {A : Type 0} → Place A → List (Waiting A) → State A
state p fs = record { place = p; outer = fs }

-- the result of what stands within the innermost bracket, if it may end here
unfoldable pub total : {A : Type 0} → Kit A → Place A → Option A
total k wrong = None
total k (want f) = None
total k (within n v f) = Some (f.sum (f.product (k.lit v)))
total k (have s p) = Some (s p)

-- the operators that wait, if a factor has to come here
unfoldable pub wanted : {A : Type 0} → Place A → Option (Waiting A)
wanted wrong = None
wanted (want f) = Some f
wanted (within n v f) = None
wanted (have s p) = None

-- an operator after a factor
unfoldable pub operator : {A : Type 0} → Kit A → ℕ → (A → A) → A → Place A
operator k c s p =
    cond (eqb c 42) (want (waiting s (k.join Times p)))
    (cond (eqb c 47) (want (waiting s (k.join Over p)))
    (cond (eqb c 43) (want (waiting (k.join Plus (s p)) (λ x. x)))
    (cond (eqb c 45) (want (waiting (k.join Minus (s p)) (λ x. x))) wrong)))

-- a byte that is no bracket
unfoldable pub inner : {A : Type 0} → Kit A → ℕ → Place A → Place A
inner k c wrong = wrong
inner k c (want f) = cond (digit c) (within 1 (c - 48) f) wrong
inner k c (within n v f) =
    cond (digit c) (cond (ltb n 9) (within (n + 1) (10 * v + (c - 48)) f) wrong)
    (operator k c f.sum (f.product (k.lit v)))
inner k c (have s p) = operator k c s p

-- a bracket that opens, where a factor has to come
unfoldable pub opened : {A : Type 0} → Option (Waiting A) → List (Waiting A) → State A
opened None fs = state wrong fs
opened (Some f) fs = cond (ltb (length fs) 32) (state (want fresh) (f ∷ fs)) (state wrong fs)

-- a bracket that closes
unfoldable pub closed : {A : Type 0} → Option A → List (Waiting A) → State A
closed None fs = state wrong fs
closed (Some x) [] = state wrong []
closed (Some x) (f ∷ fs) = state (have f.sum (f.product x)) fs

unfoldable pub step : {A : Type 0} → Kit A → State A → ℕ → State A
step k s c =
    cond (eqb c 40) (opened (wanted s.place) s.outer)
    (cond (eqb c 41) (closed (total k s.place) s.outer) (state (inner k c s.place) s.outer))

unfoldable pub finish : {A : Type 0} → Option A → List (Waiting A) → Option A
finish r [] = r
finish r (f ∷ fs) = None

-- the result of a text that is read on from a state
unfoldable pub run : {A : Type 0} → Kit A → State A → List ℕ → Option A
run k s [] = finish (total k s.place) s.outer
run k s (c ∷ cs) = run k (step k s c) cs

abbrev pub start : {A : Type 0} → State A
start = state (want fresh) []
