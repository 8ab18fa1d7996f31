-- `fields::naming::common_kind` meets its contract: where it answers, a kind's name and a space stand at the place (`front_named`).
use mathlib.Core.Path.{refl}
use mathlib.Core.List.{[], ◌∷◌}
use Prim.Native.Nat.{◌+◌}
use native.Mathlib.Omega.{arith}
use Rattle.kinds.specs.declared.Kind.TheVariants.{Text, Table, Body, Row, Cell}
use Rattle.kinds.specs.Kinds.{kind_at, same, place, kind_of}
use Rattle.fields.specs.Blanks.{until_blank}
use Rattle.fields.specs.inner.Reading.{kind_read}
use Rattle.fields.proofs.Commonest.{front_named}
use Rattle.fields.proofs.naming.common_kind.Goals as goal

pub returns-in-99 : goal.returns-in-99
unfolding kind_read until_blank kind_of place same kind_at
returns-in-99 c =
    front_named (99 ∷ 101 ∷ 108 ∷ 108 ∷ []) Cell (λ p t. refl) c.args.bytes.now c.args.at {next = c.args.at + 5} c.in_ok-rest.ensures.lookup.0.2 (omega (arith, c.if-rest-lt-LONGEST.false)) (omega arith) (omega arith) (omega arith)

pub returns-in-116 : goal.returns-in-116
unfolding kind_read until_blank kind_of place same kind_at
returns-in-116 c =
    front_named (116 ∷ 101 ∷ 120 ∷ 116 ∷ []) Text (λ p t. refl) c.args.bytes.now c.args.at {next = c.args.at + 5} c.in_ok-rest.ensures.lookup.0.2 (omega (arith, c.if-rest-lt-LONGEST.false)) (omega arith) (omega arith) (omega arith)

pub returns-in-114 : goal.returns-in-114
unfolding kind_read until_blank kind_of place same kind_at
returns-in-114 c =
    front_named (114 ∷ 111 ∷ 119 ∷ []) Row (λ p t. refl) c.args.bytes.now c.args.at {next = c.args.at + 4} c.in_ok-rest.ensures.lookup.0.2 (omega (arith, c.if-rest-lt-LONGEST.false)) (omega arith) (omega arith) (omega arith)

pub returns-in-98 : goal.returns-in-98
unfolding kind_read until_blank kind_of place same kind_at
returns-in-98 c =
    front_named (98 ∷ 111 ∷ 100 ∷ 121 ∷ []) Body (λ p t. refl) c.args.bytes.now c.args.at {next = c.args.at + 5} c.in_ok-rest.ensures.lookup.0.2 (omega (arith, c.if-rest-lt-LONGEST.false)) (omega arith) (omega arith) (omega arith)

pub returns-in-116-rest : goal.returns-in-116-rest
unfolding kind_read until_blank kind_of place same kind_at
returns-in-116-rest c =
    front_named (116 ∷ 97 ∷ 98 ∷ 108 ∷ 101 ∷ []) Table (λ p t. refl) c.args.bytes.now c.args.at {next = c.args.at + 6} c.in_ok-rest.ensures.lookup.0.2 (omega (arith, c.if-rest-lt-LONGEST.false)) (omega arith) (omega arith) (omega arith)
