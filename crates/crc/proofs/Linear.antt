-- The steps of the register go bit by bit, so those of its low byte come apart from the rest. Assumes nothing.
use Rattle.std.proofs.Common.{◌≡◌, ℕ, zero, suc, ◌*◌, ◌/◌, ◌%◌, ◌^◌, ◌<◌, ◌⊎◌, refl, ◌∙◌, arith, bit_xor}
use Rattle.std.proofs.Math.Nat.{pow-succ', mul_assoc}
use Rattle.std.specs.Int.Bits.{xor_shr, xor_mod, xor_assoc, xor_comm, xor_zero_l, xor_zero_r, xor_self, xor_shifted}
use Rattle.crc.specs.Crc.{bit_step, bit_steps}

-- what the bit that left brings in
digit : (x y : ℕ) → x < 2 → y < 2 → bit_xor x y * 0x82F63B78 ≡ bit_xor (x * 0x82F63B78) (y * 0x82F63B78)
digit x y h k =
    let p : (x ≡ 0) ⊎ (x ≡ 1) = grind arith in
    let q : (y ≡ 0) ⊎ (y ≡ 1) = grind arith in
    grind (arith, xor_zero_l, xor_zero_r, xor_self)

bit_linear : (a b : ℕ) → bit_step (bit_xor a b) ≡ bit_xor (bit_step a) (bit_step b)
unfolding bit_step
bit_linear a b =
    let e = digit (a % 2) (b % 2) (omega arith) (omega arith) in
    grind (arith, xor_shr a b 1, xor_mod a b 1, e, xor_assoc, xor_comm)

linear : (k a b : ℕ) → bit_steps k (bit_xor a b) ≡ bit_xor (bit_steps k a) (bit_steps k b)
linear zero a b = refl
linear (suc k) a b = grind (arith, linear k a b, bit_linear)

-- a bit that is 0 brings nothing in
bit_even : (a : ℕ) → bit_step (a * 2) ≡ a
unfolding bit_step
bit_even a = grind (arith, xor_zero_r a)

-- what stands above the low k bits moves down by them
above : (k a : ℕ) → bit_steps k (a * 2 ^ k) ≡ a
above zero a = omega arith
above (suc k) a =
    let e : a * 2 ^ suc k ≡ a * 2 * 2 ^ k = grind (arith, pow-succ', mul_assoc) in
    grind (arith, e, above k (a * 2), bit_even)

pub by_byte : (n : ℕ) → bit_xor (bit_steps 8 (n % 256)) (n / 256) ≡ bit_steps 8 n
by_byte n =
    let parts : bit_xor (n / 256 * 2 ^ 8) (n % 256) ≡ n
    = xor_shifted (n / 256) 8 (n % 256) (omega arith) ∙ omega arith in
    grind (arith, xor_comm, above 8 (n / 256), linear 8 (n / 256 * 2 ^ 8) (n % 256), parts)
