-- What a peripheral answers on the bus, to an address as it was given. Assumes nothing.
use Rattle.std.specs.Prelude.{ℕ, Bool, true, false, List, Some, None, Ok, Err, Option, Result}
use Rattle.faults.specs.Faults.{refusal_number, layer_number}
pub use Rattle.faults.specs.Faults.{Code, code_of, told}
use Rattle.faults.specs.declared.Layer.TheVariants.{Register, Bus}
use Rattle.faults.specs.declared.Refusal.TheVariants.{Unclaimed, NoRegister}
use Rattle.registers.specs.Address.{word_address}
use Rattle.peripheral.specs.Model.{Model}

-- no peripheral claims the address
abbrev pub unclaimed : ℕ → Code
unclaimed a = record { refusal = refusal_number Unclaimed; layer = layer_number Bus; place = a }

-- no register stands at the address
abbrev pub no_register : ℕ → Code
no_register a = record { refusal = refusal_number NoRegister; layer = layer_number Register; place = a }

-- what a rule gives at an address, if the address is claimed and a register stands there
abbrev pub located : {A : Type 0} → ℕ → Bool → Option A → Result A Code
located a false o = Err (unclaimed a)
located a true None = Err (no_register a)
located a true (Some x) = Ok x

-- the word that a read answers
abbrev pub read_at : Model → List ℕ → ℕ → Result ℕ Code
read_at m s a = located a (m.claims (word_address a)) (m.read s (word_address a))

-- the state that a write leaves, or why it is refused
abbrev pub write_at : Model → List ℕ → ℕ → ℕ → ℕ → Result (List ℕ) Code
write_at m s a v l = located a (m.claims (word_address a)) (m.write s (word_address a) v l)

-- a write answers only that it was done
abbrev pub done : {A : Type 0} → Result A Code → Result (Unit {0}) Code
done (Ok x) = Ok tt
done (Err c) = Err c

-- a refused write leaves what was there
abbrev pub left : {C : Type 0} → C → Result C Code → C
left c (Ok d) = d
left c (Err f) = c

-- what a write leaves of a peripheral's state
abbrev pub kept : List ℕ → Result (List ℕ) Code → List ℕ
kept = left
