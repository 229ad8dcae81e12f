-- The bits of a word. Assumes nothing.
use Rattle.std.specs.Prelude.{ℕ, ◌+◌, ◌*◌, ◌/◌, ◌%◌, ◌^◌, Bool, ◌==◌, bit_and, bit_xor}

-- bit k of a number
abbrev pub bit : ℕ → ℕ → Bool
bit k n = n / 2 ^ k % 2 == 1

-- a word of 32 bits without the bits b
abbrev pub without : ℕ → ℕ → ℕ
without w b = bit_and w (bit_xor 0xFFFFFFFF b)

-- the bits of the bytes that a lane mask lets change: lane i has byte i
abbrev pub lane_bits : ℕ → ℕ
lane_bits l = l % 2 * 0xFF + l / 2 % 2 * 0xFF00 + l / 4 % 2 * 0xFF0000 + l / 8 % 2 * 0xFF000000
