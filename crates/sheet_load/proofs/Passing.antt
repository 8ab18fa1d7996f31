-- What an opened sheet has passed.
use Rattle.std.specs.Prelude.{Err, Ok, Option}
use mathlib.Core.Path.{◌≡◌}
use mathlib.Core.Bool.{true}
use mathlib.Core.List.{List}
use Prim.Native.Nat.{ℕ, ◌≤◌}
use native.Mathlib.Omega.{arith}
use lib.ListN.{length}
use Rattle.common.specs.Limits.{max_lines}
use Rattle.common.specs.Refusals.{passes}
use Rattle.sheet.specs.Sheet.{sheet_lines}
use Rattle.sheet.specs.inner.Steps.{line_bound}
use Rattle.sheet.specs.inner.Reading.{reading_of}
use Rattle.sheet.proofs.First.{first_accepts}
use Rattle.sheet.proofs.Bounds.{accepted_lines, accepted_capacity}
use Rattle.sheet_load.specs.Opening.{nodes_of, open_checks, opened_of}
use Rattle.sheet_load.proofs.Ready.{node_count_lem}
use Rattle.sheet_load.proofs.Opens.{opened_reads}

-- ---- the checks

module _ (asked : Option ℕ) (s : List ℕ) where
  -- an opened sheet has passed every check
  pub record Passed (n : ℕ) : Type 0 where
    pub all : passes (open_checks asked s) ≡ true
    pub reading : reading_of s ≡ Ok n
    pub count : n ≡ length (sheet_lines s)
    pub kept : n ≡ length (nodes_of s)
    pub few : n ≤ max_lines
    pub capacity : n ≤ line_bound s

  pub passed : (n : ℕ) → opened_of asked s ≡ Ok n → Passed n
  unfolding opened_of
  passed n e =
      let (p, q) =
      first_accepts Err (Ok (length (sheet_lines s))) (Ok n) (open_checks asked s) (λ why f. let z : ◌≡◌ {A = ℕ} 0 1 = cc in omega arith) e in
      let r : reading_of s ≡ Ok n = opened_reads asked s n e in
      let c = accepted_lines s n r in
      record { all = p; reading = r; count = c.0; kept = node_count_lem s n r; few = omega arith; capacity = accepted_capacity s n r }
