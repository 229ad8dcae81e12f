-- What an access does to a register, by the number of its alias: 0 main, 1 SET, 2 CLEAR, 3 INVERT. Assumes nothing.
use Rattle.std.specs.Prelude.{◌≡◌, ℕ, zero, suc, ◌<◌, Bool, if◌then◌else◌, not, ◌&&◌, ◌||◌, bit_and, bit_or, bit_xor}
use Rattle.registers.specs.Bits.{bit, without}

-- The word after a write of v that may change the bits `mask`.
abbrev pub written : ℕ → ℕ → ℕ → ℕ → ℕ
written zero w v mask = bit_or (without w mask) (bit_and v mask)
written (suc zero) w v mask = bit_or w (bit_and v mask)
written (suc (suc zero)) w v mask = without w (bit_and v mask)
written (suc (suc (suc n))) w v mask = bit_xor w (bit_and v mask)

-- The same of bits that software can only clear.
abbrev pub cleared : ℕ → ℕ → ℕ → ℕ → ℕ
cleared zero w v mask = without w (without mask v)
cleared (suc zero) w v mask = w
cleared (suc (suc zero)) w v mask = without w (bit_and v mask)
cleared (suc (suc (suc n))) w v mask = without w (bit_and v mask)

-- What a read shows of a word: all of it at the main address, else 0.
abbrev pub shown : ℕ → ℕ → ℕ
shown zero w = w
shown (suc n) w = 0

-- One bit that may change, from what it was and the value's bit: main takes the value's,
-- SET, CLEAR and INVERT act where the value's bit is 1.
abbrev pub written_bit : ℕ → Bool → Bool → Bool
written_bit zero old v = v
written_bit (suc zero) old v = old || v
written_bit (suc (suc zero)) old v = old && not v
written_bit (suc (suc (suc n))) old v = if v then not old else old

-- A clear-only bit goes to 0 on a main write of 0, a CLEAR of 1 or an INVERT of 1, and never to 1.
abbrev pub cleared_bit : ℕ → Bool → Bool → Bool
cleared_bit zero old v = old && v
cleared_bit (suc zero) old v = old
cleared_bit (suc (suc zero)) old v = old && not v
cleared_bit (suc (suc (suc n))) old v = old && not v

-- Each bit of the mask goes by the rule, and no other bit of the word changes.
abbrev pub EachBit : (Bool → Bool → Bool) → ℕ → ℕ → ℕ → ℕ → Type 0
EachBit rule w v mask r = (k : ℕ) → k < 32 → bit k r ≡ (if bit k mask then rule (bit k w) (bit k v) else bit k w)
