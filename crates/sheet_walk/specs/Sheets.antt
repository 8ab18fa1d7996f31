-- The walk of a sheet, by its bytes, and what a call that walks refuses after its arguments.
use Rattle.std.specs.Prelude.{List, ◌++◌, ℕ, Option}
use Rattle.common.specs.Refusals.{Check}
use Rattle.sheet_load.specs.Opening.{nodes_of, open_checks}
use Rattle.available_width.specs.Walk.{narrow_checks, walk}

-- the widths of a sheet's lines, where the first has this width
abbrev pub walk_of : List ℕ → ℕ → ℕ → ℕ → List (Option ℕ)
walk_of s wrap raw width = walk wrap raw width (nodes_of s)

-- 12 comes last
abbrev pub walked_checks : Option ℕ → List ℕ → ℕ → ℕ → ℕ → ℕ → List Check
walked_checks asked s wrap raw width overflow = open_checks asked s ++ narrow_checks wrap raw width overflow (nodes_of s)
