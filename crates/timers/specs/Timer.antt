-- One timer. Assumes nothing.
use Rattle.std.specs.Prelude.{ℕ, zero, suc, ◌+◌, ◌-◌, ◌%◌, ◌^◌, min, Bool, if◌then◌else◌, ◌&&◌, ◌==◌, bit_and, nat_le, nat_lt}
use Rattle.registers.specs.Bits.{lane_bits}
use Rattle.registers.specs.Writes as register
use Rattle.timers.specs.declared.timer.Timer.{Timer}
use Rattle.timers.specs.declared.map.TimerRegister.{TimerRegister}
use Rattle.timers.specs.declared.map.TimerRegister.TheVariants.{Control, Count, Period}

abbrev pub idle : Timer
idle = record { control = 0; count = 0; period = 0 }

-- bit 0 of CONTROL is RUN
abbrev pub running : Timer → Bool
running t = t.control % 2 == 1

-- the clocks from one tick to the next: a PERIOD of 0 means 2^32
unfoldable pub limit : Timer → ℕ
limit t = if t.period == 0 then 2 ^ 32 else t.period

-- ---- one clock

-- a running timer ticks where one more makes PERIOD, and where COUNT is found at PERIOD or above
unfoldable pub ticks : Timer → Bool
ticks t = running t && nat_le (limit t) (t.count + 1)

abbrev pub number : Bool → ℕ
number b = if b then 1 else 0

abbrev pub counted : Timer → ℕ → Timer
counted t c = record { control = t.control; count = c; period = t.period }

-- a tick sends COUNT to 0, and else a running timer adds 1
unfoldable pub clocked : Timer → Timer
clocked t = counted t (if ticks t then 0 else t.count + number (running t))

-- ---- n clocks

-- how often it ticks in them, and whether it does
unfoldable pub ticks_in : ℕ → Timer → ℕ
ticks_in zero t = 0
ticks_in (suc n) t = number (ticks t) + ticks_in n (clocked t)

unfoldable pub ticks_within : ℕ → Timer → Bool
ticks_within n t = nat_lt 0 (ticks_in n t)

-- the count that clocks go on from: one at PERIOD or above ticks at the next clock, as the last one below it does
unfoldable pub base : Timer → ℕ
base t = min t.count (limit t - 1)

-- the clocks that pass before the one at which it ticks
unfoldable pub calm : Timer → ℕ
calm t = if running t then limit t - 1 - base t else 4294967295

-- ---- its registers

abbrev pub word : Timer → TimerRegister → ℕ
word t Control = t.control
word t Count = t.count
word t Period = t.period

-- a write of v under lanes l, by the alias k: PERIOD begins anew if any lane is on, and COUNT is read-only
abbrev pub written : Timer → TimerRegister → ℕ → ℕ → ℕ → Timer
written t Control k v l = record { control = register.written k t.control v (bit_and (lane_bits l) 1); count = t.count; period = t.period }
written t Count k v l = t
written t Period k v l = record { control = t.control; count = if l == 0 then t.count else 0; period = register.written k t.period v (lane_bits l) }
