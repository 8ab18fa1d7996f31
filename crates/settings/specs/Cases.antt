-- Cases on the settings: what is read, and what is malformed, about the definitions.
use Rattle.std.specs.Prelude.{◌≡◌, refl, List, [], ◌∷◌, ◌++◌, ℕ, Ok}
use Rattle.kinds.specs.Kinds.{same}
use Rattle.fields.specs.Numbers.{number_of, natural_of, negative_of, is_natural, all_digits, value_from}
use Rattle.settings.specs.Settings.{settings_heading, until, then_setting, settings_in, settings_of, Settled, malformed}

-- what follows the heading's line feed
abbrev after : List ℕ → Settled
after bytes = settings_of (settings_heading ++ bytes)

-- "3 0 9" and a line feed: the sheet starts at place 21
pub plain_settings : after (51 ∷ 32 ∷ 48 ∷ 32 ∷ 57 ∷ 10 ∷ []) ≡ Ok (record { wrap = 3; raw = 0; width = 9; sheet = 21 })
unfolding settings_of settings_in then_setting until same number_of natural_of negative_of is_natural all_digits value_from
plain_settings = refl

-- "1000 1 65535", a line feed, and a sheet that begins with a "d": the largest settings, the sheet at place 28
pub largest_settings : after (49 ∷ 48 ∷ 48 ∷ 48 ∷ 32 ∷ 49 ∷ 32 ∷ 54 ∷ 53 ∷ 53 ∷ 51 ∷ 53 ∷ 10 ∷ 100 ∷ [])
    ≡ Ok (record { wrap = 1000; raw = 1; width = 65535; sheet = 28 })
unfolding settings_of settings_in then_setting until same number_of natural_of negative_of is_natural all_digits value_from
largest_settings = refl

-- nothing; the heading alone; its first word alone; "3 0 9" without a line feed
pub cut_short : settings_of [] ∷ after [] ∷ settings_of (119 ∷ 114 ∷ 97 ∷ 112 ∷ []) ∷ after (51 ∷ 32 ∷ 48 ∷ 32 ∷ 57 ∷ []) ∷ []
    ≡ malformed ∷ malformed ∷ malformed ∷ malformed ∷ []
unfolding settings_of settings_in then_setting until same number_of natural_of negative_of is_natural all_digits value_from
cut_short = refl

-- "03 0 9", "3 -0 9", "3  0 9", "-3 0 9", "3 0 +9", "3 0 9 ", each with a line feed
pub ill_written :
    after (48 ∷ 51 ∷ 32 ∷ 48 ∷ 32 ∷ 57 ∷ 10 ∷ [])
    ∷ after (51 ∷ 32 ∷ 45 ∷ 48 ∷ 32 ∷ 57 ∷ 10 ∷ [])
    ∷ after (51 ∷ 32 ∷ 32 ∷ 48 ∷ 32 ∷ 57 ∷ 10 ∷ [])
    ∷ after (45 ∷ 51 ∷ 32 ∷ 48 ∷ 32 ∷ 57 ∷ 10 ∷ [])
    ∷ after (51 ∷ 32 ∷ 48 ∷ 32 ∷ 43 ∷ 57 ∷ 10 ∷ [])
    ∷ after (51 ∷ 32 ∷ 48 ∷ 32 ∷ 57 ∷ 32 ∷ 10 ∷ [])
    ∷ []
    ≡ malformed ∷ malformed ∷ malformed ∷ malformed ∷ malformed ∷ malformed ∷ []
unfolding settings_of settings_in then_setting until same number_of natural_of negative_of is_natural all_digits value_from
ill_written = refl

-- "3 0 65536", "1001 0 9", "3 2 9", and a wrap of 2 ^ 64 + 3, each with a line feed
pub out_of_range :
    after (51 ∷ 32 ∷ 48 ∷ 32 ∷ 54 ∷ 53 ∷ 53 ∷ 51 ∷ 54 ∷ 10 ∷ [])
    ∷ after (49 ∷ 48 ∷ 48 ∷ 49 ∷ 32 ∷ 48 ∷ 32 ∷ 57 ∷ 10 ∷ [])
    ∷ after (51 ∷ 32 ∷ 50 ∷ 32 ∷ 57 ∷ 10 ∷ [])
    ∷ after (49 ∷ 56 ∷ 52 ∷ 52 ∷ 54 ∷ 55 ∷ 52 ∷ 52 ∷ 48 ∷ 55 ∷ 51 ∷ 55 ∷ 48 ∷ 57 ∷ 53 ∷ 53 ∷ 49 ∷ 54 ∷ 49 ∷ 57 ∷ 32 ∷ 48 ∷ 32 ∷ 57 ∷ 10 ∷ [])
    ∷ []
    ≡ malformed ∷ malformed ∷ malformed ∷ malformed ∷ []
unfolding settings_of settings_in then_setting until same number_of natural_of negative_of is_natural all_digits value_from
out_of_range = refl
