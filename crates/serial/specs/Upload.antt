-- The upload protocol, byte by byte. Assumes nothing.
use Rattle.std.specs.Prelude.{ℕ, zero, suc, ◌+◌, ◌-◌, ◌%◌, ◌^◌, Bool, true, false, if◌then◌else◌, Some, None, Option, ◌==◌, nat_lt}
use Rattle.crc.specs.declared.Crc32c.{Crc32c}
use Rattle.crc.specs.Crc.{no_bytes, updated, crc_value}
use Rattle.serial.specs.declared.bridge.Bridge.{Bridge}
use Rattle.serial.specs.declared.bridge.Bridge.TheVariants.{Address, Count, Word, Check, Stopped}
use Rattle.serial.specs.declared.bridge.Payload.{Payload}
use Rattle.serial.specs.declared.bridge.Step.{Step}
use Rattle.serial.specs.declared.bridge.Step.TheVariants.{Write, Reply}
use Rattle.serial.specs.declared.field.Field.{Field}
use Rattle.serial.specs.Fields.{empty_field, is_last, shifted}

-- an address without its two lowest bits
abbrev pub aligned_down : ℕ → ℕ
aligned_down a = a - a % 4

-- an address of 32 bits; none past the last
abbrev pub in_memory : ℕ → Option ℕ
in_memory a = if nat_lt a (2 ^ 32) then Some a else None

-- ---- the states

-- before an upload
abbrev pub fresh : Bridge
fresh = Address empty_field

-- after the address
abbrev pub counting : ℕ → Bridge
counting a = Count (aligned_down a) empty_field

-- before so many words, the first of them at the address; after the last one comes the CRC
abbrev pub expecting : Option ℕ → ℕ → Crc32c → Bridge
expecting a zero c = Check c empty_field
expecting a (suc n) c = Word (record { address = a; following = n; crc = c }) empty_field

-- after a word for an address
abbrev pub written : Option ℕ → ℕ → Crc32c → Bridge
written (Some a) n c = expecting (in_memory (a + 4)) n c
written None n c = Stopped

abbrev pub is_stopped : Bridge → Bool
is_stopped (Address f) = false
is_stopped (Count a f) = false
is_stopped (Word p f) = false
is_stopped (Check c f) = false
is_stopped Stopped = true

-- ---- the answers, in numbers

-- What follows from a byte. The kind is 0 for nothing, 1 for a word to write at an address, 2 for a reply.
pub record Answer : Type 0 where
  pub kind : ℕ
  pub address : ℕ
  pub value : ℕ

abbrev pub nothing : Answer
nothing = record { kind = 0; address = 0; value = 0 }

abbrev pub write : ℕ → ℕ → Answer
write a w = record { kind = 1; address = a; value = w }

abbrev pub reply : ℕ → Answer
reply byte = record { kind = 2; address = 0; value = byte }

-- each case of a step in numbers
abbrev pub told_step : Step → Answer
told_step (Write a w) = write a w
told_step (Reply byte) = reply byte

-- what follows from a byte, in numbers: no step is nothing
abbrev pub told : Option Step → Answer
told None = nothing
told (Some step) = told_step step

-- a word is to be written; one that has no address is refused
abbrev pub asked : Option ℕ → ℕ → Answer
asked (Some a) w = write a w
asked None w = reply 0xE0

-- whether the CRC that was sent is that of the words
abbrev pub verdict : Crc32c → ℕ → Answer
verdict c check = reply (if check == crc_value c then 0x59 else 0x23)

-- ---- a byte: each field goes on to the next at its fourth

-- the word in the field with a byte more
abbrev pub word : Field → ℕ → ℕ
word f byte = (shifted f byte).value

-- the CRC goes over each byte of a word
abbrev pub checked : Payload → ℕ → Payload
checked p byte = record { address = p.address; following = p.following; crc = updated p.crc byte }

unfoldable pub after : Bridge → ℕ → Bridge
after (Address f) byte = if is_last f.next then counting (word f byte) else Address (shifted f byte)
after (Count a f) byte = if is_last f.next then expecting (Some a) (word f byte) no_bytes else Count a (shifted f byte)
after (Word p f) byte =
    if is_last f.next then written p.address p.following (updated p.crc byte) else Word (checked p byte) (shifted f byte)
after (Check c f) byte = if is_last f.next then fresh else Check c (shifted f byte)
after Stopped byte = Stopped

unfoldable pub answer : Bridge → ℕ → Answer
answer (Address f) byte = nothing
answer (Count a f) byte = nothing
answer (Word p f) byte = if is_last f.next then asked p.address (word f byte) else nothing
answer (Check c f) byte = if is_last f.next then verdict c (word f byte) else nothing
answer Stopped byte = nothing
