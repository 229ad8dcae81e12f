-- One pulse-width module, which runs on one of the timers. Assumes nothing.
use Rattle.std.specs.Prelude.{ℕ, ◌-◌, ◌/◌, ◌%◌, Bool, if◌then◌else◌, ◌&&◌, List, ◌==◌, bit_and, nat_lt, slice_index_or}
use Rattle.registers.specs.Writes as register
use Rattle.timers.specs.declared.timer.Timer.{Timer}
use Rattle.timers.specs.declared.pwm.Pwm.{Pwm}
use Rattle.timers.specs.declared.map.PwmRegister.{PwmRegister}
use Rattle.timers.specs.declared.map.PwmRegister.TheVariants.{Control, Value, NextValue}
use Rattle.timers.specs.Timer.{idle, running}

abbrev pub off : Pwm
off = record { control = 0; value = 0; next_value = 0 }

-- bit 8 of CONTROL is ENABLE, bits 3 to 0 are TIMER_ID
abbrev pub enabled : Pwm → Bool
enabled m = m.control / 256 % 2 == 1

unfoldable pub timer_of : List Timer → Pwm → Timer
timer_of ts m = slice_index_or ts (m.control % 16) idle

-- a tick of its timer copies NEXT_VALUE to VALUE, enabled or not; `ticked` tells which timers ticked
unfoldable pub loaded : (Timer → Bool) → List Timer → Pwm → Pwm
loaded ticked ts m = record { control = m.control; value = if ticked (timer_of ts m) then m.next_value else m.value; next_value = m.next_value }

-- its output is high while COUNT is below VALUE
unfoldable pub high : List Timer → Pwm → Bool
high ts m = enabled m && nat_lt (timer_of ts m).count m.value

-- the clocks for which the output stays, if the timer does not tick in them: a low one can only rise at a tick
unfoldable pub calm : List Timer → Pwm → ℕ
calm ts m = if high ts m && running (timer_of ts m) then m.value - (timer_of ts m).count - 1 else 4294967295

-- ---- its registers

abbrev pub word : Pwm → PwmRegister → ℕ
word m Control = m.control
word m Value = m.value
word m NextValue = m.next_value

-- a write of v that may change the bits `mask`, by the alias k; VALUE is read-only
abbrev pub written : Pwm → PwmRegister → ℕ → ℕ → ℕ → Pwm
written m Control k v mask = record { control = register.written k m.control v (bit_and mask 0x10F); value = m.value; next_value = m.next_value }
written m Value k v mask = m
written m NextValue k v mask = record { control = m.control; value = m.value; next_value = register.written k m.next_value v mask }
