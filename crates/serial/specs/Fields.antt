-- A field of four bytes, the lowest first. Assumes nothing.
use Rattle.std.specs.Prelude.{ℕ, ◌+◌, ◌*◌, ◌/◌, Bool, true, false, if◌then◌else◌, Some, None, Option}
use Rattle.serial.specs.declared.field.Place.{Place}
use Rattle.serial.specs.declared.field.Place.TheVariants.{First, Second, Third, Fourth}
use Rattle.serial.specs.declared.field.Field.{Field}

abbrev pub following : Place → Place
following First = Second
following Second = Third
following Third = Fourth
following Fourth = First

-- the next byte is the last of the field
abbrev pub is_last : Place → Bool
is_last First = false
is_last Second = false
is_last Third = false
is_last Fourth = true

abbrev pub empty_field : Field
empty_field = record { value = 0; next = First }

-- a byte enters a shift register at the top
abbrev pub shifted : Field → ℕ → Field
shifted f byte = record { value = f.value / 256 + byte * 0x1000000; next = following f.next }

-- the word, if this byte is the field's last
abbrev pub whole : Field → ℕ → Option ℕ
whole f byte = if is_last f.next then Some (shifted f byte).value else None
