-- The words after an access, bit by bit; the bits of the lanes; the alias of an address. Assumes nothing.
use Rattle.std.proofs.Common.{◌≡◌, ℕ, zero, suc, ◌/◌, ◌<◌, Bool, true, if◌then◌else◌, not, ◌&&◌, refl, ap, ◌∙◌, arith, bit_and}
use Rattle.std.proofs.lemmas.Bool.Decides.{nat_tests}
use Rattle.registers.specs.Address.{word_address}
use Rattle.registers.specs.Aliases.{alias_at}
use Rattle.registers.specs.Bits.{bit, without, lane_bits}
use Rattle.registers.specs.Writes.{written, cleared, written_bit, cleared_bit, EachBit}
use Rattle.registers.proofs.Digits.{bit-bit_and, bit-bit_or, bit-bit_xor, bit-without, every, at_each}

-- bits that are taken away through a mask
without_masked : (w v mask k : ℕ) → k < 32 → bit k (without w (bit_and v mask)) ≡ (if bit k mask then bit k w && not (bit k v) else bit k w)
without_masked w v mask k h = grind (arith, nat_tests, bit-without k w (bit_and v mask) h, bit-bit_and k v mask)

each_written : (n w v mask : ℕ) → EachBit (written_bit n) w v mask (written n w v mask)
each_written zero w v mask k h = grind (arith, nat_tests, bit-bit_or k (without w mask) (bit_and v mask), bit-without k w mask h, bit-bit_and k v mask)
each_written (suc zero) w v mask k h = grind (arith, nat_tests, bit-bit_or k w (bit_and v mask), bit-bit_and k v mask)
each_written (suc (suc zero)) w v mask k h = without_masked w v mask k h
each_written (suc (suc (suc n))) w v mask k h = grind (arith, nat_tests, bit-bit_xor k w (bit_and v mask), bit-bit_and k v mask)

each_cleared : (n w v mask : ℕ) → EachBit (cleared_bit n) w v mask (cleared n w v mask)
each_cleared zero w v mask k h = grind (arith, nat_tests, bit-without k w (without mask v) h, bit-without k mask v h)
each_cleared (suc zero) w v mask k h = grind (arith, nat_tests)
each_cleared (suc (suc zero)) w v mask k h = without_masked w v mask k h
each_cleared (suc (suc (suc n))) w v mask k h = without_masked w v mask k h

-- the same of any word that is known to be the one after
pub by_written : (n w v mask r : ℕ) → r ≡ written n w v mask → EachBit (written_bit n) w v mask r
by_written n w v mask r e k h = ap (bit k) e ∙ each_written n w v mask k h

pub by_cleared : (n w v mask r : ℕ) → r ≡ cleared n w v mask → EachBit (cleared_bit n) w v mask r
by_cleared n w v mask r e k h = ap (bit k) e ∙ each_cleared n w v mask k h

-- the lanes' rule, as one test over all masks and bits
abbrev alike : Bool → Bool → Bool
alike a b = if a then b else not b

alike_same : (a b : Bool) → alike a b ≡ true → a ≡ b
alike_same a b e = grind arith

pub lane_bit : (l : ℕ) → l < 16 → (k : ℕ) → k < 32 → bit k (lane_bits l) ≡ bit (k / 8) l
lane_bit l h k j =
    alike_same (bit k (lane_bits l)) (bit (k / 8) l)
    (at_each (λ i. alike (bit i (lane_bits l)) (bit (i / 8) l)) 32
    (at_each (λ m. every 32 (λ i. alike (bit i (lane_bits m)) (bit (i / 8) m))) 16 refl l h) k j)

-- the two lowest bits of an address do not matter to the alias
pub alias_word : (a : ℕ) → alias_at (word_address a) ≡ alias_at a
alias_word a = omega arith
