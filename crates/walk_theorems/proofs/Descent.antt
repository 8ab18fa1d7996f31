-- The theorems about the walk of every accepted sheet.
use Rattle.walk_theorems.specs.Descent.{Descent}
use Rattle.walk_theorems.proofs.Accepted.{sheet, sound, not_narrow}
use Rattle.walk_theorems.proofs.Narrowing.{narrowing}
use Rattle.walk_theorems.proofs.Without.{without}

pub descent : Descent
descent = record {
  narrowing = λ s wrap raw width p.
      narrowing wrap raw width (sheet s wrap raw width _ p) (sound s wrap raw width _ p) (not_narrow s wrap raw width _ p);
  without_width = λ s wrap raw width overflow p. without wrap raw width (sheet s wrap raw width overflow p);
}
