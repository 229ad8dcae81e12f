-- The rule of the table, at all of its entries by computing once. Assumes nothing.
use Rattle.std.proofs.Common.{◌≡◌, ℕ, zero, suc, ◌+◌, ◌<◌, true, List, [], ◌∷◌, length, get_or, arith}
use Rattle.std.proofs.lemmas.Bool.Decides.{nat_tests}
use Rattle.crc.specs.Crc.{bit_steps, right}

from : (xs : List ℕ) (i k : ℕ) → right i xs ≡ true → k < length xs → get_or xs k 0 ≡ bit_steps 8 (i + k)
from [] i k e h = absurd (omega arith)
from (x ∷ xs) i zero e h = grind (arith, nat_tests)
from (x ∷ xs) i (suc k) e h = grind (arith, nat_tests, from xs (suc i) k)

pub at_place : (xs : List ℕ) (k : ℕ) → right 0 xs ≡ true → k < length xs → get_or xs k 0 ≡ bit_steps 8 k
at_place xs k e h = grind (arith, from xs 0 k e h)
