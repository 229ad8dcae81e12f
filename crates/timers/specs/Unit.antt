-- The timer unit: all timers and modules. Assumes nothing.
use Rattle.std.specs.Prelude.{ℕ, ◌+◌, ◌*◌, min, Bool, if◌then◌else◌, List, [], ◌∷◌, map, replicate, bit_or, nat_lt, slice_index_or, slice_set, fold}
use Rattle.registers.specs.Bits.{lane_bits}
use Rattle.registers.specs.Writes.{cleared}
use Rattle.timers.specs.declared.timer.Timer.{Timer}
use Rattle.timers.specs.declared.pwm.Pwm.{Pwm}
use Rattle.timers.specs.declared.Bank.{Bank}
use Rattle.timers.specs.declared.Timers.{Timers}
use Rattle.timers.specs.declared.map.Register.{Register}
use Rattle.timers.specs.declared.map.Register.TheVariants.{OfTimer, OfPwm, IntStatus}
use Rattle.timers.specs.Timer as timer
use Rattle.timers.specs.Timer.{number, idle, ticks}
use Rattle.timers.specs.Pwm as pwm
use Rattle.timers.specs.Pwm.{off, loaded, high}

abbrev pub bank_of : Timers → Bank
bank_of x = x.bank

-- the word in which bit i tells whether p holds of the element at i
abbrev pub flags : {A : Type 0} → (A → Bool) → List A → ℕ
flags p [] = 0
flags p (x ∷ xs) = flags p xs * 2 + number (p x)

-- ---- clocks

-- after clocks that take each timer by `after`, and in which those tick that `ticked` tells
unfoldable pub passed : (Timer → Timer) → (Timer → Bool) → Bank → Bank
passed after ticked u = record {
  timers = map after u.timers;
  modules = map (loaded ticked u.timers) u.modules;
  status = bit_or u.status (flags ticked u.timers);
}

-- one clock
unfoldable pub clocked : Bank → Bank
clocked u = passed timer.clocked ticks u

-- interrupt 11, as bit 11 - 8, where any timer ticks
unfoldable pub raise : (Timer → Bool) → Bank → ℕ
raise ticked u = if nat_lt 0 (flags ticked u.timers) then 8 else 0

-- the one output word: bit i for module i
unfoldable pub output : Bank → ℕ
output u = flags (high u.timers) u.modules

-- the least of q and f of each element
abbrev pub least : {A : Type 0} → (A → ℕ) → ℕ → List A → ℕ
least f q xs = fold min q (map f xs)

-- the clocks for which nothing happens: the next tick and the next edge of an output bound them, and nothing else
unfoldable pub calm : Bank → ℕ
calm u = least (pwm.calm u.timers) (least timer.calm 4294967295 u.timers) u.modules

-- ---- registers

abbrev pub timer_at : Bank → ℕ → Timer
timer_at u i = slice_index_or u.timers i idle

abbrev pub pwm_at : Bank → ℕ → Pwm
pwm_at u i = slice_index_or u.modules i off

unfoldable pub word : Bank → Register → ℕ
word u (OfTimer i r) = timer.word (timer_at u i.index) r
word u (OfPwm i r) = pwm.word (pwm_at u i.index) r
word u IntStatus = u.status

-- a write of v under lanes l, by the alias k; INT_STATUS is clear-only
unfoldable pub written : Bank → Register → ℕ → ℕ → ℕ → Bank
written u (OfTimer i r) k v l = record { timers = slice_set u.timers i.index (timer.written (timer_at u i.index) r k v l); modules = u.modules; status = u.status }
written u (OfPwm i r) k v l = record { timers = u.timers; modules = slice_set u.modules i.index (pwm.written (pwm_at u i.index) r k v (lane_bits l)); status = u.status }
written u IntStatus k v l = record { timers = u.timers; modules = u.modules; status = cleared k u.status v (lane_bits l) }

-- a reset zeroes all
unfoldable pub zeroed : Bank
zeroed = record { timers = replicate 16 idle; modules = replicate 6 off; status = 0 }
