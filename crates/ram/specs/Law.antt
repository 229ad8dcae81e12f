-- What a write makes of the lent bytes, byte by byte, and what a read then answers. Assumes nothing.
use Rattle.std.specs.Prelude.{◌≡◌, ℕ, ◌+◌, ◌%◌, Bool, cond, ◌&&◌, List, length, Ok, Result, ◌==◌, nat_lt, slice_index}
use Rattle.registers.specs.Address.{word_address}
use Rattle.registers.specs.Bits.{bit}
use Rattle.peripheral.specs.Bus.{Code, read_at}
use Rattle.ram.specs.Memory.{used, byte}
use Rattle.ram.specs.Rules.{model_over, state_over}

-- whether a write to address a under a lane mask reaches byte j of n used ones: it lies in the word at a, and its lane is on
abbrev pub reaches : ℕ → ℕ → ℕ → ℕ → Bool
reaches n a l j = nat_lt j n && (word_address (0x10000000 + j) == word_address a && bit (j % 4) l)

-- The bytes that the write reaches become those of the value. Every other byte stays, spare ones too.
pub record Stores (old : List ℕ) (a v l : ℕ) (new : List ℕ) : Type 0 where
  pub count : length new ≡ length old
  pub each : (j : ℕ) → slice_index new j ≡ cond (reaches (used (length old)) a l j) (byte (j % 4) v) (slice_index old j)

-- a word that is written whole, if the write is accepted, is then read at its address
abbrev pub ReadsBack : Result (Unit {0}) Code → ℕ → ℕ → ℕ → List ℕ → Type 0
ReadsBack answer a v l new = answer ≡ Ok tt → l ≡ 15 → read_at (model_over new) (state_over new) a ≡ Ok v
