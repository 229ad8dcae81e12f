-- Where the registers of the GPIO stand. Assumes nothing.
use Rattle.std.specs.Prelude.{ℕ, ◌/◌, ◌%◌, Bool, if◌then◌else◌, ◌&&◌, Some, None, Option, ◌==◌, nat_le, nat_lt}
use Rattle.gpio.specs.declared.map.PortRegister.TheVariants.{Pins, Latch, Dir, Cnr, Cnf, CnState}
use Rattle.gpio.specs.declared.map.Register.{Register}
use Rattle.gpio.specs.declared.map.Register.TheVariants.{OfPort, IntStatus}

-- the GPIO claims 0x1B001000 to 0x1B001FFF
abbrev pub owns : ℕ → Bool
owns a = nat_le 0x1B001000 a && nat_le a 0x1B001FFF

-- the registers of port p, by address bits 7 to 4
abbrev pub of_port : ℕ → ℕ → Option Register
of_port p r =
    if r == 0 then Some (OfPort p Pins)
    else if r == 1 then Some (OfPort p Latch)
    else if r == 2 then Some (OfPort p Dir)
    else if r == 3 then Some (OfPort p Cnr)
    else if r == 4 then Some (OfPort p Cnf)
    else if r == 5 then Some (OfPort p CnState)
    else None

-- INT_STATUS is at offset 0x0F0; address bits 11 to 8 give the port; nothing else has a register
abbrev pub register_at : ℕ → Option Register
register_at a =
    if a / 256 % 16 == 0 && a / 16 % 16 == 15 then Some IntStatus
    else if nat_lt (a / 256 % 16) 2 then of_port (a / 256 % 16) (a / 16 % 16)
    else None
