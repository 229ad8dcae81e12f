-- What an action makes of a board. Assumes nothing.
use Rattle.std.specs.Prelude.{ℕ, List, bit_or}
use Rattle.registers.specs.declared.Alias.{Alias}
use Rattle.registers.specs.declared.Alias.TheVariants as alias
use Rattle.peripheral.specs.Model.{Model, clocks}
use Rattle.peripheral.specs.Bus.{write_at, kept}
use Rattle.relay.specs.declared.job.Action.{Action}
use Rattle.relay.specs.declared.job.Action.TheVariants as action
use Rattle.relay.specs.declared.job.Register.{Register}
use Rattle.relay.specs.declared.job.Register.TheVariants.{Port, Latch, Dir, Cnr, Cnf, CnState, IntStatus, Lamps, At}

abbrev pub address_of : Register → ℕ
address_of Port = 0x1B001000
address_of Latch = 0x1B001010
address_of Dir = 0x1B001020
address_of Cnr = 0x1B001030
address_of Cnf = 0x1B001040
address_of CnState = 0x1B001050
address_of IntStatus = 0x1B0010F0
address_of Lamps = 0x1B008000
address_of (At a) = a

abbrev pub alias_of : Register → Alias → ℕ
alias_of r alias.Main = address_of r
alias_of r alias.Set = bit_or (address_of r) 4
alias_of r alias.Clear = bit_or (address_of r) 8
alias_of r alias.Invert = bit_or (address_of r) 12

-- the state of a board of this model after an action
abbrev pub state_after : Model → List ℕ → Action → List ℕ
state_after m s (action.For p) = s
state_after m s (action.Write r a v) = kept s (write_at m s (alias_of r a) v 15)
state_after m s (action.Read r) = s
state_after m s (action.Feed i v) = m.feed s i v
state_after m s (action.Advance n) = clocks m n s
state_after m s action.Reset = m.reset s
