-- How many bytes the heading has: computed.
use Rattle.std.specs.Prelude.{◌≡◌, refl, length}
use Rattle.fields.specs.Lines.{heading, heading_bytes}

heading_counted : length heading ≡ heading_bytes
heading_counted = refl
