-- Where the registers of the timer unit stand. Assumes nothing.
use Rattle.std.specs.Prelude.{ℕ, ◌/◌, ◌%◌, min, Bool, if◌then◌else◌, ◌&&◌, Some, None, Option, ◌==◌, nat_le, nat_lt}
use Rattle.std.proofs.Common.{arith}
use Rattle.std.specs.Option.{option_map}
use Rattle.timers.specs.declared.number.Number.{Number}
use Rattle.timers.specs.declared.map.TimerRegister.TheVariants as timer
use Rattle.timers.specs.declared.map.PwmRegister.TheVariants as pwm
use Rattle.timers.specs.declared.map.Register.{Register}
use Rattle.timers.specs.declared.map.Register.TheVariants.{OfTimer, OfPwm, IntStatus}

-- the unit claims 0x1B002000 to 0x1B003FFF
abbrev pub owns : ℕ → Bool
owns a = nat_le 0x1B002000 a && nat_le a 0x1B003FFF

-- the number i, for i up to the last
abbrev pub number_to : (last i : ℕ) → Number last
number_to last i = record { index = min i last; within = omega arith }

-- the number that address bits 11 to 8 give, if it is none past the last
abbrev pub numbered : (last a : ℕ) → Option (Number last)
numbered last a = if nat_le (a / 256 % 16) last then Some (number_to last (a / 256 % 16)) else None

-- the registers of a timer, by address bits 7 to 4; INT_STATUS stands among those of timer 0
abbrev pub of_timer : Option (Number 15) → ℕ → ℕ → Option Register
of_timer n i r =
    if r == 0 then option_map (λ k. OfTimer k timer.Control) n
    else if r == 1 then option_map (λ k. OfTimer k timer.Count) n
    else if r == 2 then option_map (λ k. OfTimer k timer.Period) n
    else if i == 0 && r == 15 then Some IntStatus
    else None

-- the registers of a module
abbrev pub of_pwm : Option (Number 5) → ℕ → Option Register
of_pwm n r =
    if r == 0 then option_map (λ k. OfPwm k pwm.Control) n
    else if r == 1 then option_map (λ k. OfPwm k pwm.Value) n
    else if r == 2 then option_map (λ k. OfPwm k pwm.NextValue) n
    else None

-- Timer i is at 0x1B002i00, module i at 0x1B003i00: address bits 11 to 8 give the number. There are timers 0 to 15 and
-- modules 0 to 5; nothing else has a register.
abbrev pub register_at : ℕ → Option Register
register_at a =
    if nat_lt a 0x1B003000 then of_timer (numbered 15 a) (a / 256 % 16) (a / 16 % 16)
    else of_pwm (numbered 5 a) (a / 16 % 16)
