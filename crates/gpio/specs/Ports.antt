-- Both ports, and the interrupt that they share. Assumes nothing.
use Rattle.std.specs.Prelude.{ℕ, if◌then◌else◌, ◌||◌, ◌==◌, bit_or}
use Rattle.registers.specs.Writes as access
use Rattle.gpio.specs.declared.Gpio.{Gpio}
use Rattle.gpio.specs.declared.ports.Port.{Port}
use Rattle.gpio.specs.declared.map.Register.{Register}
use Rattle.gpio.specs.declared.map.Register.TheVariants.{OfPort, IntStatus}
use Rattle.gpio.specs.Pins as pins

-- the port of a number, and the GPIO with another port there
abbrev pub port_of : Gpio → ℕ → Port
port_of g i = if i == 0 then g.first else g.second

abbrev pub with_port : Gpio → ℕ → Port → Gpio
with_port g i p = record { first = if i == 0 then p else g.first; second = if i == 0 then g.second else p; int_status = g.int_status }

abbrev pub word : Gpio → Register → ℕ
word g (OfPort i r) = pins.word (port_of g i) r
word g IntStatus = g.int_status

abbrev pub written : Gpio → Register → ℕ → ℕ → ℕ → Gpio
written g (OfPort i r) n v mask = with_port g i (pins.written (port_of g i) r n v mask)
written g IntStatus n v mask = record { first = g.first; second = g.second; int_status = access.cleared n g.int_status v mask }

-- at a clock each port with a noticed pin sets its bit of INT_STATUS
abbrev pub clocked : Gpio → Gpio
clocked g = record {
  first = pins.clocked g.first;
  second = pins.clocked g.second;
  int_status = bit_or (bit_or g.int_status (pins.flag g.first 1)) (pins.flag g.second 2);
}

-- and raises interrupt 15, which is bit 7
abbrev pub raised : Gpio → ℕ
raised g = if pins.changed g.first || pins.changed g.second then 128 else 0

-- with nothing to raise it stays quiet for ever; otherwise the next clock is an event
abbrev pub calm : Gpio → ℕ
calm g = if raised g == 0 then 4294967295 else 0

abbrev pub cleared : Gpio → Gpio
cleared g = record { first = pins.cleared g.first; second = pins.cleared g.second; int_status = 0 }
