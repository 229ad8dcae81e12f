-- The bytes of a word that is stored. Assumes nothing.
use Rattle.std.proofs.Common.{◌≡◌, ℕ, zero, suc, ◌+◌, ◌/◌, ◌%◌, ◌^◌, ◌<◌, ◌≤◌, cond, ◌≢◌, List, [], ◌∷◌, length, get_or, take, set, Some, Ok, refl, ap, ◌∙◌, inl, inr, add-zero, arith, get_or-set_other, get_or-set_same}
use lib.Seq.{take-set-lt}
use Rattle.std.proofs.lemmas.Bool.{cases_eq}
use Rattle.std.proofs.lemmas.Bool.Decides.{nat_tests}
use Rattle.std.proofs.lemmas.Grind.{common_steps}
use Rattle.registers.specs.Address.{word_address}
use Rattle.registers.specs.Bits.{bit}
use Rattle.peripheral.specs.Bus.{located, read_at, write_at, kept}
use Rattle.ram.specs.Memory.{used, owns, offset, word_at, byte, stored}
use Rattle.ram.specs.Rules.{model_over, state_over, length-stored}
use Rattle.ram.specs.Law.{Stores}
use Rattle.ram.proofs.Words.{Stands, found_stands, word-take}

-- byte k of a word, as `to_le_bytes` gives it
pub byte_is : (v k : ℕ) → k < 4 → get_or (v % 256 ∷ v / 256 % 256 ∷ v / 65536 % 256 ∷ v / 16777216 % 256 ∷ []) k 0 ≡ byte k v
byte_is v k h = grind (arith, common_steps)

module _ (xs : List ℕ) (i v l : ℕ) where
  -- one lane more
  pub stored_on : (k : ℕ) → l / 2 ^ k % 2 ≡ 1 → stored xs i v l (k + 1) ≡ set (stored xs i v l k) (i + k) (byte k v)
  stored_on k h = grind (arith, nat_tests)

  pub stored_off : (k : ℕ) → (l / 2 ^ k % 2 ≡ 1 → ⊥) → stored xs i v l (k + 1) ≡ stored xs i v l k
  stored_off k h = grind (arith, nat_tests)

  -- in the first n bytes
  stored-take : (n k : ℕ) → i + k ≤ n → take n (stored xs i v l k) ≡ stored (take n xs) i v l k
  stored-take n zero h = refl
  stored-take n (suc k) h = let rest = stored-take n k (omega arith) in grind (arith, take-set-lt, rest)

  -- a byte outside of the first k stays
  outside : (k j : ℕ) → ((q : ℕ) → q < k → j ≢ i + q) → get_or (stored xs i v l k) j 0 ≡ get_or xs j 0
  outside zero j h = refl
  outside (suc k) j h =
      let rest = outside k j (λ q lt. h q (omega arith)) in let other = h k (omega arith) in grind (arith, get_or-set_other, rest)

  -- byte q of the word
  inside : (k q : ℕ) → q < k → i + k ≤ length xs → get_or (stored xs i v l k) (i + q) 0 ≡ cond (bit q l) (byte q v) (get_or xs (i + q) 0)
  inside zero q h room = absurd (omega arith)
  inside (suc k) q h room =
      elim (cases_eq q k) [
        | inl e ↦
            let long = length-stored xs i v l k in
            let rest = outside k (i + k) (λ p lt eq. omega arith) in grind (arith, get_or-set_same, rest)
        | inr ne ↦ let rest = inside k q (omega arith) (omega arith) in grind (arith, get_or-set_other, rest)
      ]

-- ---- what a write makes of the bytes where it finds its word

module _ (xs ys : List ℕ) (a v l i : ℕ) (found : Ok i ≡ located a (owns (used (length xs)) (word_address a)) (Some (offset (word_address a)))) (e : ys ≡ stored xs i v l 4) where
  stands : Stands (length xs) a i
  stands = found_stands (length xs) a i found

  count : length ys ≡ length xs
  count = ap length e ∙ length-stored xs i v l 4

  pub stored_state : state_over ys ≡ kept (state_over xs) (write_at (model_over xs) (state_over xs) a v l)
  stored_state =
      let at = stands in
      let same = count in
      let rest = stored-take xs i v l (used (length xs)) 4 (omega arith) in grind (arith, rest)

  pub stores : Stores xs a v l ys
  stores =
      let at = stands in record {
        count = count;
        each = λ j. elim (cases_eq (word_address (0x10000000 + j)) (word_address a)) [
          | inl same ↦
              let is : j ≡ i + j % 4 = omega arith in
              let low : j < used (length xs) = omega arith in
              let laid = inside xs i v l 4 (j % 4) (omega arith) (omega arith) in grind (arith, nat_tests, laid, is)
          | inr other ↦ let rest = outside xs i v l 4 j (λ q lt e. other (omega arith)) in grind (arith, nat_tests, rest)
        ];
      }

  -- a word that is written whole has all four bytes of v
  laid : l ≡ 15 → (q : ℕ) → q < 4 → get_or ys (i + q) 0 ≡ cond (bit q 15) (byte q v) (get_or xs (i + q) 0)
  laid all q h = let at = stands in let byte_q = inside xs i v l 4 q h (omega arith) in rw (← e, all) at byte_q

  whole_word : l ≡ 15 → v < 2 ^ 32 → word_at ys i ≡ v
  whole_word all h =
      let first = rw add-zero at (laid all 0 (omega arith)) in
      let second : get_or ys (i + 1) 0 ≡ v / 256 % 256 = laid all 1 (omega arith) in
      let third : get_or ys (i + 2) 0 ≡ v / 65536 % 256 = laid all 2 (omega arith) in
      let fourth : get_or ys (i + 3) 0 ≡ v / 16777216 % 256 = laid all 3 (omega arith) in
      omega arith

  pub reads_back : l ≡ 15 → v < 2 ^ 32 → read_at (model_over ys) (state_over ys) a ≡ Ok v
  reads_back all h =
      let at = stands in
      let same = count in grind (arith, word-take ys (used (length xs)) i at.whole, whole_word all h)
