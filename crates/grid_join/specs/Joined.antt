-- Two grids side by side as one grid, and the refusals 5 and 6.
use Rattle.std.specs.Prelude.{cond, true, List, [], ◌∷◌, ◌++◌, map, ℕ, ◌+◌, ◌-◌, ltb, length}
use Rattle.common.specs.Limits.{max_position, max_entries}
use Rattle.common.specs.Refusals.{Check, check}
use Rattle.common.specs.declared.Reason.TheVariants.{RowEnd, TooManyEntries}
use Rattle.grid.specs.Grid.{Entry, entry, GridRow, entries_of}

-- an empty entry, a filler without an owner, over the columns from p up to but not including q; none if there is no such column
abbrev pub empty_entries : ℕ → ℕ → List Entry
empty_entries p q = cond (ltb p q) (entry 0 true p (q - p) ∷ []) []

-- an entry moved by k columns: span and owner stay
abbrev pub moved : ℕ → Entry → Entry
moved k e = entry e.owner e.filler (k + e.first) e.span

-- the column before which a row ends whose first entry starts at p
unfoldable pub end_from : ℕ → List Entry → ℕ
end_from p [] = p
end_from p (e ∷ es) = end_from (e.first + e.span) es

-- a left row, and what it lacks of c columns
abbrev pub filled : ℕ → List Entry → List Entry
filled c es = es ++ empty_entries (end_from 0 es) c

-- a row by its line and its entries
abbrev pub row_with : ℕ → List Entry → GridRow
row_with line es = record { line = line; entries = es }

-- the left grid has c columns and the right one d. Row by row: the left row filled up, and the right row moved; an empty entry stands in where
-- one grid has no row any more; the line is the left row's, or the right's where there is no left row
unfoldable pub joined : (c d : ℕ) → List GridRow → List GridRow → List GridRow
joined c d [] [] = []
joined c d [] (r ∷ rs) = row_with r.line (empty_entries 0 c ++ map (moved c) r.entries) ∷ joined c d [] rs
joined c d (l ∷ ls) [] = row_with l.line (filled c l.entries ++ empty_entries c (c + d)) ∷ joined c d ls []
joined c d (l ∷ ls) (r ∷ rs) = row_with l.line (filled c l.entries ++ map (moved c) r.entries) ∷ joined c d ls rs

-- 5 and 6, on the line of the left table
unfoldable pub joined_checks : ℕ → (c d : ℕ) → List GridRow → List GridRow → List Check
joined_checks line c d ls rs =
    check (ltb max_position (c + d)) RowEnd line
    ∷ check (ltb max_entries (length (entries_of (joined c d ls rs)))) TooManyEntries line
    ∷ []
