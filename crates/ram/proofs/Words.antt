-- Where a word stands in the used bytes. Assumes nothing.
use Rattle.std.proofs.Common.{◌≡◌, ℕ, ◌+◌, ◌%◌, ◌<◌, ◌≤◌, true, List, take, Some, Ok, arith, get_or-take}
use Rattle.std.proofs.lemmas.Bool.Decides.{nat_tests}
use Rattle.registers.specs.Address.{word_address}
use Rattle.peripheral.specs.Bus.{located}
use Rattle.ram.specs.Memory.{used, owns, offset, word_at}

-- what it says that the word at address a stands at i, among the used ones of so many bytes
pub record Stands (len a i : ℕ) : Type 0 where
  pub owned : owns (used len) (word_address a) ≡ true
  pub from : 0x10000000 ≤ word_address a
  pub place : i ≡ offset (word_address a)
  pub whole : i + 3 < used len
  pub aligned : i % 4 ≡ 0

-- a word that is found stands there
pub found_stands : (len a i : ℕ) → Ok i ≡ located a (owns (used len) (word_address a)) (Some (offset (word_address a))) → Stands len a i
found_stands len a i e = record {
  owned = grind arith;
  from = grind (arith, nat_tests);
  place = grind (arith, nat_tests);
  whole = grind (arith, nat_tests);
  aligned = grind (arith, nat_tests);
}

-- it reads the same in the used bytes
pub word-take : (xs : List ℕ) (n i : ℕ) → i + 3 < n → word_at (take n xs) i ≡ word_at xs i
word-take xs n i h = grind (arith, get_or-take)
