-- What a block of registers answers on the bus. Assumes nothing.
use Rattle.std.specs.Prelude.{ℕ, Bool, Option, Result}
use Rattle.std.specs.Option.{option_map}
use Rattle.faults.specs.Faults.{Code}
use Rattle.registers.specs.Address.{word_address}
use Rattle.registers.specs.Aliases.{alias_at}
use Rattle.registers.specs.Writes.{shown}
use Rattle.peripheral.specs.Bus.{located}

-- `found` gives the register that stands at the address of a word; None where none does
module _ {C R : Type 0} (found : ℕ → Option R) where
  -- the word that a read shows, where `word_of` gives that of each register
  abbrev pub shown_at : (C → R → ℕ) → C → ℕ → Option ℕ
  shown_at word_of c a = option_map (λ r. shown (alias_at a) (word_of c r)) (found a)

  -- what a write of a value under a lane mask leaves, where `after_write` says so of each alias and register
  abbrev pub put_at : (C → ℕ → ℕ → ℕ → R → C) → C → ℕ → ℕ → ℕ → Option C
  put_at after_write c a v l = option_map (after_write c (alias_at a) v l) (found a)

  -- the same of any address, if the block owns it
  module _ (owned : ℕ → Bool) where
    abbrev pub read_register : (C → R → ℕ) → C → ℕ → Result ℕ Code
    read_register word_of c a = located a (owned (word_address a)) (shown_at word_of c (word_address a))

    abbrev pub written_register : (C → ℕ → ℕ → ℕ → R → C) → C → ℕ → ℕ → ℕ → Result C Code
    written_register after_write c a v l = located a (owned (word_address a)) (put_at after_write c (word_address a) v l)
