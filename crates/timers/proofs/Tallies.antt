-- How often each timer ticks in n clocks of the unit, and what shows it. Assumes nothing.
use Rattle.std.proofs.Common.{◌≡◌, ℕ, zero, suc, ◌<◌, ◌||◌, ltb, ◌⊎◌, sym, refl, ◌∙◌, inl, inr, arith}
use Rattle.std.proofs.lemmas.Bool.{cases_lt, lt-ltb, ltb-true}
use Rattle.std.proofs.lemmas.Bool.Decides.{nat_tests}
use Rattle.registers.specs.Bits.{bit}
use Rattle.registers.proofs.Digits.{bit-bit_or}
use Rattle.peripheral.specs.Model.{steps}
use Rattle.timers.specs.Timer as timer
use Rattle.timers.specs.Timer.{idle, number, ticks, ticks_in, ticks_within}
use Rattle.timers.specs.declared.Bank.{Bank}
use Rattle.timers.specs.declared.Timers.{Timers}
use Rattle.timers.specs.Unit.{bank_of, timer_at, flags, passed, clocked, raise}
use Rattle.timers.specs.Rules.{Shaped, shaped_bank}
use Rattle.timers.specs.Law.{ticks_of, SomeTick, Counts}
use Rattle.timers.proofs.Counting.{steps_some, steps_stopped, ticks_running, ticks_stopped}
use Rattle.timers.proofs.Banks.{get_or-map, clock_idle}
use Rattle.timers.proofs.Modules.{steps-idle}
use Rattle.timers.proofs.Flagging.{bit-flags, some_flag, flag_some}

-- the unit's clock is each timer's own
timer_clocked : (u : Bank) (i : ℕ) → timer_at (clocked u) i ≡ timer.clocked (timer_at u i)
unfolding clocked passed
timer_clocked u i = get_or-map timer.clocked idle clock_idle u.timers i

ticks_of_timer : (i n : ℕ) (u : Bank) → ticks_of i n u ≡ ticks_in n (timer_at u i)
unfolding ticks_of ticks_in
ticks_of_timer i zero u = refl
ticks_of_timer i (suc n) u = rw (ticks_of_timer i n (clocked u), timer_clocked u i)

within_of : (i n : ℕ) (u : Bank) → ticks_within n (timer_at u i) ≡ ltb 0 (ticks_of i n u)
unfolding ticks_within
within_of i n u = rw (ticks_of_timer i n u)

module _ (u : Bank) (shaped : Shaped u) (n : ℕ) where
  after : Bank
  after = passed (steps timer.clocked n) (ticks_within n) u

  timer_after : (i : ℕ) → timer_at after i ≡ steps timer.clocked n (timer_at u i)
  unfolding after passed
  timer_after i = get_or-map (steps timer.clocked n) idle (steps-idle n) u.timers i

  status_after : (i : ℕ) → i < 16 → bit i after.status ≡ (bit i u.status || ltb 0 (ticks_of i n u))
  unfolding after passed
  status_after i h = rw (bit-bit_or, bit-flags (ticks_within n) idle u.timers i (omega (arith, shaped.timers)), within_of i n u)

  some_tick : 0 < flags (ticks_within n) u.timers → SomeTick n u
  some_tick h =
      let r = some_flag (ticks_within n) idle u.timers h in
      (r.0, omega (arith, r.1, shaped.timers), ltb-true 0 (ticks_of r.0 n u) (sym (within_of r.0 n u) ∙ r.2))

  tick_some : SomeTick n u → 0 < flags (ticks_within n) u.timers
  tick_some r =
      flag_some (ticks_within n) idle u.timers r.0 (omega (arith, r.1, shaped.timers)) (within_of r.0 n u ∙ lt-ltb 0 (ticks_of r.0 n u) r.2)

  raise-after : ((raise (ticks_within n) u ≡ 8) × SomeTick n u) ⊎ ((raise (ticks_within n) u ≡ 0) × (SomeTick n u → ⊥))
  unfolding raise
  raise-after =
      elim (cases_lt 0 (flags (ticks_within n) u.timers)) [
        | inl h ↦ inl (grind (arith, nat_tests), some_tick h)
        | inr h ↦ inr (grind (arith, nat_tests), λ r. let k = tick_some r in omega arith)
      ]

  counts_after : Counts u n after (raise (ticks_within n) u)
  counts_after = record {
    ticked = λ i h r. ticks_of_timer i n u ∙ ticks_running n (timer_at u i) r;
    count = λ i h p r. timer_after i ∙ steps_some n (timer_at u i) r p;
    stopped = λ i h r. (ticks_of_timer i n u ∙ ticks_stopped n (timer_at u i) r, timer_after i ∙ steps_stopped (timer_at u i) r n);
    status = status_after;
    raise = raise-after;
  }

pub counts : (x : Timers) (n : ℕ) (new : Bank) (mask : ℕ) → new ≡ passed (steps timer.clocked n) (ticks_within n) (bank_of x) → mask ≡ raise (ticks_within n) (bank_of x) → Counts (bank_of x) n new mask
unfolding after
counts x n new mask e f = rw (e, f) (counts_after (bank_of x) (shaped_bank x) n)
