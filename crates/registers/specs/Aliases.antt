-- The four addresses of a register. Assumes nothing.
use Rattle.std.specs.Prelude.{ℕ, ◌/◌, ◌%◌}
use Rattle.registers.specs.declared.aliases.Alias.{Alias}
use Rattle.registers.specs.declared.aliases.Alias.TheVariants.{Main, Set, Clear, Invert}

-- the number of each alias
abbrev pub alias_number : Alias → ℕ
alias_number Main = 0
alias_number Set = 1
alias_number Clear = 2
alias_number Invert = 3

-- the number of the alias at an address: its last hexadecimal digit, 0, 4, 8 or C, over 4
abbrev pub alias_at : ℕ → ℕ
alias_at a = a / 4 % 4
