-- A word of flags, bit by bit. Assumes nothing.
use Rattle.std.proofs.Common.{◌≡◌, ℕ, zero, suc, ◌+◌, ◌*◌, ◌/◌, ◌<◌, Bool, true, List, [], ◌∷◌, length, get_or, sym, ap, ◌∙◌, inl, inr, arith}
use Rattle.std.proofs.lemmas.Bool.{cases_Bool}
use Rattle.std.proofs.lemmas.Bool.Decides.{nat_tests}
use Rattle.registers.specs.Bits.{bit}
use Rattle.registers.proofs.Digits.{bit_half}
use Rattle.timers.specs.Timer.{number}
use Rattle.timers.specs.Unit.{flags}

pub bit-flags : {A : Type 0} (p : A → Bool) (d : A) (xs : List A) (i : ℕ) → i < length xs → bit i (flags p xs) ≡ p (get_or xs i d)
bit-flags p d [] i h = absurd (omega arith)
bit-flags p d (x ∷ xs) zero h = grind (arith, nat_tests)
bit-flags p d (x ∷ xs) (suc i) h =
    let e : (flags p xs * 2 + number (p x)) / 2 ≡ flags p xs = grind arith in
    sym (bit_half i (flags p xs * 2 + number (p x))) ∙ ap (bit i) e ∙ bit-flags p d xs i (omega arith)

-- a word that is not 0 has a flag, and then it is not 0
pub some_flag : {A : Type 0} (p : A → Bool) (d : A) (xs : List A) → 0 < flags p xs → (i : ℕ) × (i < length xs) × (p (get_or xs i d) ≡ true)
some_flag p d [] h = absurd (omega arith)
some_flag p d (x ∷ xs) h =
    elim (cases_Bool (p x)) [
      | inl e ↦ (0, omega arith, e)
      | inr e ↦ let r = some_flag p d xs (grind arith) in (suc r.0, omega (arith, r.1), r.2)
    ]

pub flag_some : {A : Type 0} (p : A → Bool) (d : A) (xs : List A) (i : ℕ) → i < length xs → p (get_or xs i d) ≡ true → 0 < flags p xs
flag_some p d [] i h e = absurd (omega arith)
flag_some p d (x ∷ xs) zero h e = grind arith
flag_some p d (x ∷ xs) (suc i) h e = omega (arith, flag_some p d xs i (omega arith) e)
