-- Addresses on the bus. Assumes nothing.
use Rattle.std.specs.Prelude.{ℕ, ◌-◌, ◌%◌}

-- the bus clears the two lowest bits of an address
abbrev pub word_address : ℕ → ℕ
word_address a = a - a % 4
