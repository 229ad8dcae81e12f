-- What clocks do, as it is seen from outside. Assumes nothing.
use Rattle.std.specs.Prelude.{◌≡◌, ℕ, zero, suc, ◌+◌, ◌/◌, ◌%◌, ◌<◌, min, true, false, ◌||◌, ◌⊎◌, nat_lt}
use Rattle.registers.specs.Bits.{bit}
use Rattle.peripheral.specs.Model.{steps}
use Rattle.timers.specs.declared.timer.Timer.{Timer}
use Rattle.timers.specs.Timer.{number, running, limit, base, counted, ticks}
use Rattle.timers.specs.Pwm.{enabled, timer_of}
use Rattle.timers.specs.declared.Bank.{Bank}
use Rattle.timers.specs.Unit.{timer_at, pwm_at, clocked, output}

-- at how many of the next n clocks timer i ticks
unfoldable pub ticks_of : ℕ → ℕ → Bank → ℕ
ticks_of i zero u = 0
ticks_of i (suc n) u = number (ticks (timer_at u i)) + ticks_of i n (clocked u)

-- in how many of the next n clocks output i is high
unfoldable pub high_of : ℕ → ℕ → Bank → ℕ
high_of i zero u = 0
high_of i (suc n) u = high_of i n u + number (bit i (output (steps clocked n u)))

-- some timer ticks in n clocks
abbrev pub SomeTick : ℕ → Bank → Type 0
SomeTick n u = (i : ℕ) × (i < 16) × (0 < ticks_of i n u)

-- What n clocks make of a unit, and the mask that they raise. A timer counts by division and remainder: the quotient
-- is how often it ticks, from any COUNT, and the remainder is COUNT after.
pub record Counts (old : Bank) (n : ℕ) (new : Bank) (mask : ℕ) : Type 0 where
  pub ticked : (i : ℕ) → i < 16 → running (timer_at old i) ≡ true → ticks_of i n old ≡ (base (timer_at old i) + n) / limit (timer_at old i)
  pub count : (i : ℕ) → i < 16 → 0 < n → running (timer_at old i) ≡ true
      → timer_at new i ≡ counted (timer_at old i) ((base (timer_at old i) + n) % limit (timer_at old i))
  -- a timer that does not run stays as it is and does not tick
  pub stopped : (i : ℕ) → i < 16 → running (timer_at old i) ≡ false → (ticks_of i n old ≡ 0) × (timer_at new i ≡ timer_at old i)
  -- a tick sets its INT_STATUS bit, and nothing clears one
  pub status : (i : ℕ) → i < 16 → bit i new.status ≡ (bit i old.status || nat_lt 0 (ticks_of i n old))
  -- interrupt 11 is raised exactly when some timer ticks, and no other ever is
  pub raise : ((mask ≡ 8) × SomeTick n old) ⊎ ((mask ≡ 0) × (SomeTick n old → ⊥))

-- the timer that module i runs on
abbrev pub timer_by : Bank → ℕ → Timer
timer_by u i = timer_of u.timers (pwm_at u i)

-- module i is enabled, and its timer runs
abbrev pub Pulses : Bank → ℕ → Type 0
Pulses u i = (i < 6) × (enabled (pwm_at u i) ≡ true) × (running (timer_by u i) ≡ true)

-- of the next PERIOD clocks, output i is high in the lesser of VALUE and PERIOD
abbrev pub HighByValue : Bank → ℕ → Type 0
HighByValue u i = high_of i (limit (timer_by u i)) u ≡ min (pwm_at u i).value (limit (timer_by u i))

-- So it is over any whole period: from tick to tick whatever NEXT_VALUE is, and from any COUNT below PERIOD where it
-- is VALUE.
pub record Duty (u : Bank) : Type 0 where
  pub whole : (i : ℕ) → Pulses u i → (timer_by u i).count ≡ 0 → HighByValue u i
  pub steady : (i : ℕ) → Pulses u i → (timer_by u i).count < limit (timer_by u i) → (pwm_at u i).next_value ≡ (pwm_at u i).value → HighByValue u i
