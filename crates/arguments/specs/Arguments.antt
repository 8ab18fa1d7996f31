-- What the arguments of a call are refused for, before its sheet is looked at: 16 of a list of widths, then 9, then 11.
use Rattle.std.specs.Prelude.{Bool, false, ◌||◌, List, [], ◌∷◌, ℕ, ltb, eqb, length}
use Rattle.common.specs.Limits.{max_wrap, max_width, max_widths, max_lines, max_entries}
use Rattle.common.specs.declared.Reason.TheVariants.{Setting, ShortBuffer, WidthList}
use Rattle.common.specs.Refusals.{Check, check}

-- 9: a setting out of range
abbrev pub wrap_check : ℕ → Check
wrap_check wrap = check (ltb max_wrap wrap) Setting 0

abbrev pub settings_check : ℕ → ℕ → ℕ → Check
settings_check wrap raw width = check (ltb max_wrap wrap || ltb 1 raw || ltb max_width width) Setting 0

-- 11: one of the buffers, whose lengths follow, is shorter than it must be
unfoldable pub any_shorter : ℕ → List ℕ → Bool
any_shorter n [] = false
any_shorter n (l ∷ ls) = ltb l n || any_shorter n ls

-- of each call; the lists are the lengths of the lent buffers
abbrev pub estimates_arguments : ℕ → List ℕ → List Check
estimates_arguments wrap lines = wrap_check wrap ∷ check (any_shorter max_lines lines) ShortBuffer 0 ∷ []

abbrev pub grid_arguments : List ℕ → List ℕ → List Check
grid_arguments entries rows = check (any_shorter max_entries entries || any_shorter max_lines rows) ShortBuffer 0 ∷ []

abbrev pub layout_arguments : ℕ → ℕ → ℕ → List ℕ → List ℕ → List Check
layout_arguments wrap raw width columns entries =
    settings_check wrap raw width ∷ check (any_shorter max_lines columns || any_shorter max_entries entries) ShortBuffer 0 ∷ []

abbrev pub missing_arguments : ℕ → ℕ → ℕ → List ℕ → List ℕ → List Check
missing_arguments wrap raw width entries columns =
    settings_check wrap raw width ∷ check (any_shorter max_entries entries || any_shorter max_lines columns) ShortBuffer 0 ∷ []

-- of the calls that point into a row; only `within` has a buffer
abbrev pub pointing_arguments : ℕ → ℕ → ℕ → List Check
pointing_arguments wrap raw width = settings_check wrap raw width ∷ []

abbrev pub within_arguments : ℕ → ℕ → ℕ → List ℕ → List Check
within_arguments wrap raw width entries = settings_check wrap raw width ∷ check (any_shorter max_entries entries) ShortBuffer 0 ∷ []

-- a walk has one setting more: whether widths may overflow
abbrev pub walk_settings : ℕ → ℕ → ℕ → ℕ → Check
walk_settings wrap raw width overflow = check (ltb max_wrap wrap || ltb 1 raw || ltb max_width width || ltb 1 overflow) Setting 0

abbrev pub walk_arguments : ℕ → ℕ → ℕ → ℕ → List ℕ → List Check
walk_arguments wrap raw width overflow lines = walk_settings wrap raw width overflow ∷ check (any_shorter max_lines lines) ShortBuffer 0 ∷ []

abbrev pub nested_arguments : ℕ → ℕ → ℕ → ℕ → List ℕ → List ℕ → List Check
nested_arguments wrap raw width overflow columns entries =
    walk_settings wrap raw width overflow ∷ check (any_shorter max_lines columns || any_shorter max_entries entries) ShortBuffer 0 ∷ []

-- 16: an empty list of widths, or one of more than 1,024
abbrev pub list_check : List ℕ → Check
list_check widths = check (eqb (length widths) 0 || ltb max_widths (length widths)) WidthList 0

unfoldable pub any_above : ℕ → List ℕ → Bool
any_above n [] = false
any_above n (w ∷ ws) = ltb n w || any_above n ws

-- a call with a list of widths: 16 comes before 9, and each buffer has a place for each width
abbrev pub window_arguments : ℕ → ℕ → List ℕ → List ℕ → List Check
window_arguments wrap raw widths buffers =
    list_check widths
    ∷ check (ltb max_wrap wrap || ltb 1 raw || any_above max_width widths) Setting 0
    ∷ check (any_shorter (length widths) buffers) ShortBuffer 0
    ∷ []
