-- The limits of sheets and settings, each named once.
use Rattle.std.specs.Prelude.{ℕ, suc}

-- bytes of a sheet, and of a text that is measured by itself
abbrev pub max_bytes : ℕ
max_bytes = 65536

-- node lines of a sheet; the places of a buffer for lines, for rows and for columns
abbrev pub max_lines : ℕ
max_lines = 4096

-- line feeds of a sheet: the heading's and each node line's
abbrev pub max_feeds : ℕ
max_feeds = 4097

-- the depth of a line
abbrev pub max_depth : ℕ
max_depth = 24

-- how many depths there are, from 0 on
abbrev pub depths : ℕ
depths = suc max_depth

-- the cols and the rows of a cell, as they are written
abbrev pub max_cols : ℕ
max_cols = 1000

abbrev pub max_rows : ℕ
max_rows = 65534

-- the position at which a row ends
abbrev pub max_position : ℕ
max_position = 4096

-- entries of a table; the places of a buffer for entries
abbrev pub max_entries : ℕ
max_entries = 8192

-- the settings wrap and width
abbrev pub max_wrap : ℕ
max_wrap = 1000

abbrev pub max_width : ℕ
max_width = 65535

-- the widths of one call of `window`
abbrev pub max_widths : ℕ
max_widths = 1024

-- no size passes this, and no table lies wider
abbrev pub max_size : ℕ
max_size = 33554432
