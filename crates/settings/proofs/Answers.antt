-- The answers of `settings`, in the order of the code: no heading, each of the three settings that cannot be read, and all three.
use mathlib.Core.Path.{◌≡◌}
use mathlib.Core.Bool.{true, false}
use mathlib.Core.List.{List}
use Prim.Native.Nat.{ℕ}
use lib.ListN.{length, take, drop}
use Rattle.std.specs.Prelude.{Some, None, Ok}
use Rattle.common.specs.Limits.{max_wrap, max_width}
use Rattle.fields.specs.Lines.{feed}
use Rattle.kinds.specs.Kinds.{same}
use Rattle.fields.specs.inner.Reading.{FieldRead, written_at}
use Rattle.fields.specs.declared.Scanned.{Scanned}
use Rattle.settings.specs.Settings.{settings_heading, settings_in, settings_of, malformed}
use Rattle.settings.proofs.Told.{setting_told, setting_none, setting_place}

module _ (s : List ℕ) where
  abbrev read : ℕ → ℕ → ℕ → FieldRead ℕ
  read stop most at = written_at stop most at (drop at s)

  pub no_heading : same (take 15 s) settings_heading ≡ false → settings_of s ≡ malformed
  unfolding settings_of
  no_heading e = rw e

  module _ (headed : same (take 15 s) settings_heading ≡ true) where
    inside : settings_of s ≡ settings_in (length s) (drop 15 s)
    unfolding settings_of
    inside = rw headed

    pub no_wrap : read 32 max_wrap 15 ≡ None → settings_of s ≡ malformed
    unfolding settings_in
    no_wrap e = rw inside (setting_none 32 max_wrap 15 s e _)

    module _ {wrap : Scanned ℕ} (e₁ : read 32 max_wrap 15 ≡ Some wrap) where
      pub no_raw : read 32 1 wrap.next ≡ None → settings_of s ≡ malformed
      unfolding settings_in
      no_raw e = rw (inside, setting_told 32 max_wrap 15 s e₁) (setting_none 32 1 wrap.next s e _)

      module _ {raw : Scanned ℕ} (e₂ : read 32 1 wrap.next ≡ Some raw) where
        pub no_width : read feed max_width raw.next ≡ None → settings_of s ≡ malformed
        unfolding settings_in
        no_width e = rw (inside, setting_told 32 max_wrap 15 s e₁, setting_told 32 1 wrap.next s e₂) (setting_none feed max_width raw.next s e _)

        pub all_set : {width : Scanned ℕ} → read feed max_width raw.next ≡ Some width
            → settings_of s ≡ Ok (record { wrap = wrap.value; raw = raw.value; width = width.value; sheet = width.next })
        unfolding settings_in
        all_set e =
            rw (
              inside,
              setting_told 32 max_wrap 15 s e₁,
              setting_told 32 1 wrap.next s e₂,
              setting_told feed max_width raw.next s e,
              setting_place feed max_width raw.next s e,
            )
