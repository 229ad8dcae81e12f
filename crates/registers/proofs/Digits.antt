-- The bits of a conjunction, a disjunction, a difference, a complement and a half. Assumes nothing.
use Rattle.std.proofs.Common.{◌≡◌, ℕ, zero, suc, ◌-◌, ◌/◌, ◌^◌, ◌<◌, Bool, true, not, ◌&&◌, ◌||◌, if◌then◌else◌, refl, arith, bit_and, bit_or, bit_xor}
use Rattle.std.specs.Int.Bits.{xor_add_and}
use Rattle.std.proofs.lemmas.Nat.{and_comm, and_mask}
use Rattle.std.proofs.lemmas.Nat.Bits.{bit_at-suc, bit_at_and, bit_at_or, bit_at_xor, bit_at-lt}
use Rattle.std.proofs.lemmas.Bool.Decides.{nat_tests, Decides-below_and}
use Rattle.registers.specs.Bits.{bit, without}

-- exclusive or
abbrev pub differs : Bool → Bool → Bool
differs a b = if b then not a else a

pub bit-bit_and : (k a b : ℕ) → bit k (bit_and a b) ≡ (bit k a && bit k b)
bit-bit_and k a b = grind (arith, nat_tests, bit_at_and a b k, bit_at-lt a k, bit_at-lt b k)

pub bit-bit_or : (k a b : ℕ) → bit k (bit_or a b) ≡ (bit k a || bit k b)
bit-bit_or k a b = grind (arith, nat_tests, bit_at_or a b k, bit_at-lt a k, bit_at-lt b k)

pub bit-bit_xor : (k a b : ℕ) → bit k (bit_xor a b) ≡ differs (bit k a) (bit k b)
bit-bit_xor k a b = grind (arith, nat_tests, bit_at_xor a b k, bit_at-lt a k, bit_at-lt b k)

-- the bits of a number's half
pub bit_half : (k w : ℕ) → bit k (w / 2) ≡ bit (suc k) w
bit_half k w = grind (arith, bit_at-suc w k)

-- a test that passes at each number below n
abbrev pub every : ℕ → (ℕ → Bool) → Bool
every zero f = true
every (suc n) f = f n && every n f

pub at_each : (f : ℕ → Bool) (n : ℕ) → every n f ≡ true → (k : ℕ) → k < n → f k ≡ true
at_each f n = (Decides-below_and f (λ k. f k ≡ true) (λ m. every m f) (λ k. (λ e. e, λ e. e)) refl (λ _. refl) n).0

-- each of the 32 bits of the word of ones is 1
ones_bit : (k : ℕ) → k < 32 → bit k 0xFFFFFFFF ≡ true
ones_bit = at_each (λ k. bit k 0xFFFFFFFF) 32 refl

pub bit-without : (k w b : ℕ) → k < 32 → bit k (without w b) ≡ (bit k w && not (bit k b))
bit-without k w b h = grind (arith, nat_tests, bit-bit_and k w (bit_xor 0xFFFFFFFF b), bit-bit_xor k 0xFFFFFFFF b, ones_bit k h)

-- the complement, as the machine has it
pub complement : (x : ℕ) → x < 2 ^ 32 → bit_xor 0xFFFFFFFF x ≡ 0xFFFFFFFF - x
complement x h = omega (arith, xor_add_and 0xFFFFFFFF x, and_comm 0xFFFFFFFF x, and_mask x 32)
