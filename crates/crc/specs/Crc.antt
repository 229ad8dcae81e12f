-- CRC-32C, bit by bit. Assumes nothing.
use Rattle.std.specs.Prelude.{ℕ, zero, suc, ◌*◌, ◌/◌, ◌%◌, Bool, true, ◌&&◌, List, [], ◌∷◌, ◌==◌, bit_xor}
use Rattle.std.specs.List.{fold}
use Rattle.crc.specs.declared.digest.Crc32c.{Crc32c}

-- One bit: the register moves down by one, and takes the polynomial where the bit that left it was 1. The polynomial
-- is 0x1EDC6F41 with its 32 bits in reverse, as the lowest bit of a byte comes first.
unfoldable pub bit_step : ℕ → ℕ
bit_step n = bit_xor (n / 2) (n % 2 * 0x82F63B78)

abbrev pub bit_steps : ℕ → ℕ → ℕ
bit_steps zero n = n
bit_steps (suc k) n = bit_step (bit_steps k n)

-- each entry of a table is what eight steps make of its place, counted from i
abbrev pub right : ℕ → List ℕ → Bool
right i [] = true
right i (x ∷ xs) = x == bit_steps 8 i && right (suc i) xs

-- One byte enters at the low end, and eight bits leave.
unfoldable pub byte_step : ℕ → ℕ → ℕ
byte_step n byte = bit_steps 8 (bit_xor n byte)

-- The register starts with 32 ones, and the value has its bits inverted.
abbrev pub no_bytes : Crc32c
no_bytes = record { register = 0xFFFFFFFF }

abbrev pub updated : Crc32c → ℕ → Crc32c
updated c byte = record { register = byte_step c.register byte }

abbrev pub crc_value : Crc32c → ℕ
crc_value c = bit_xor c.register 0xFFFFFFFF

abbrev pub updated_by : Crc32c → List ℕ → Crc32c
updated_by c bytes = fold updated c bytes

-- the CRC-32C of some bytes
abbrev pub crc_of : List ℕ → ℕ
crc_of bytes = crc_value (updated_by no_bytes bytes)
