-- The order in which masks are joined makes no difference. Assumes nothing.
use Rattle.std.proofs.Common.{◌≡◌, ℕ, arith, bit_or}
use Rattle.std.proofs.lemmas.Nat.{or_comm}
use Rattle.std.proofs.lemmas.Nat.Bits.{same_from_bits, bit_at_or}

pub or_assoc : (a b c : ℕ) → bit_or (bit_or a b) c ≡ bit_or a (bit_or b c)
or_assoc a b c =
    same_from_bits (bit_or (bit_or a b) c) (bit_or a (bit_or b c)) (λ i. grind (arith, bit_at_or))

-- two unions, joined crosswise
pub or_cross : (a b c d : ℕ) → bit_or (bit_or a b) (bit_or c d) ≡ bit_or (bit_or a c) (bit_or b d)
or_cross a b c d = grind (arith, or_assoc, or_comm)
