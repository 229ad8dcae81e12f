-- For how many clocks of a period an output is high. Assumes nothing.
use Rattle.std.proofs.Common.{◌≡◌, ℕ, zero, suc, ◌+◌, ◌-◌, ◌/◌, ◌%◌, ◌<◌, ◌≤◌, min, true, false, if◌then◌else◌, ltb, map, ◌∙◌, inl, inr, mod-eq_of_lt, arith}
use native.Mathlib.Nat.{mod-eq-sub-mod, div-eq_of_lt, div-eq-sub-div}
use Rattle.std.proofs.lemmas.Bool.{cases_lt}
use Rattle.std.proofs.lemmas.Bool.Decides.{nat_tests}
use Rattle.registers.specs.Bits.{bit}
use Rattle.peripheral.specs.Model.{steps}
use Rattle.timers.specs.declared.timer.Timer.{Timer}
use Rattle.timers.specs.Timer as timer
use Rattle.timers.specs.Timer.{number, running, limit, base, ticks_in, ticks_within}
use Rattle.timers.specs.declared.pwm.Pwm.{Pwm}
use Rattle.timers.specs.Pwm.{off, enabled, timer_of, loaded, high}
use Rattle.timers.specs.declared.Bank.{Bank}
use Rattle.timers.specs.declared.Timers.{Timers}
use Rattle.timers.specs.Unit.{bank_of, pwm_at, clocked, output}
use Rattle.timers.specs.Rules.{Shaped, shaped_bank}
use Rattle.timers.specs.Law.{high_of, timer_by, Duty}
use Rattle.timers.proofs.Counting.{limit_pos, steps_some, ticks_running}
use Rattle.timers.proofs.Banks.{timer_of-map}
use Rattle.timers.proofs.Modules.{steps-idle}
use Rattle.timers.proofs.Quieting.{output-after}
use Rattle.timers.proofs.Flagging.{bit-flags}

-- ---- a running timer in the first period from a count below PERIOD

module _ (t : Timer) (r : running t ≡ true) (below : t.count < limit t) where
  base-count : base t ≡ t.count
  unfolding base
  base-count = omega arith

  count_round : (k : ℕ) → (steps timer.clocked k t).count ≡ (t.count + k) % limit t
  unfolding steps
  count_round zero = let e = mod-eq_of_lt below in grind (arith, e)
  count_round (suc k) = rw (steps_some (suc k) t r (omega arith), base-count)

  before_tick : (k : ℕ) → t.count + k < limit t → ((steps timer.clocked k t).count ≡ t.count + k) × (ticks_within k t ≡ false)
  unfolding ticks_within
  before_tick k h = (rw (count_round k, mod-eq_of_lt h), rw (ticks_running k t r, base-count, div-eq_of_lt h))

  after-tick : (k : ℕ) → limit t ≤ t.count + k → k < limit t → ((steps timer.clocked k t).count ≡ t.count + k - limit t) × (ticks_within k t ≡ true)
  unfolding ticks_within
  after-tick k h j =
      let l : t.count + k - limit t < limit t = omega arith in
      let e : ticks_in k t ≡ (t.count + k - limit t) / limit t + 1 = rw (ticks_running k t r, base-count, div-eq-sub-div (limit_pos t) h) in
      (rw (count_round k, mod-eq-sub-mod h, mod-eq_of_lt l), grind (arith, nat_tests, e))

-- ---- the clocks of a period that are high: up to the tick by VALUE, after it by NEXT_VALUE

abbrev highs : ℕ → ℕ → ℕ → ℕ → ℕ → ℕ
highs l c v x n = min v (min l (c + n)) - min v c + min x (c + n - l)

high_before : (l c v x n : ℕ) → c + n < l → highs l c v x n + number (ltb (c + n) v) ≡ highs l c v x (suc n)
high_before l c v x n h = grind (arith, nat_tests)

high-later : (l c v x n : ℕ) → l ≤ c + n → highs l c v x n + number (ltb (c + n - l) x) ≡ highs l c v x (suc n)
high-later l c v x n h = grind (arith, nat_tests)

-- a whole period
highs_whole : (l c v x : ℕ) → c ≡ 0 → highs l c v x l ≡ min v l
highs_whole l c v x z = omega arith

highs_steady : (l c v x : ℕ) → c < l → x ≡ v → highs l c v x l ≡ min v l
highs_steady l c v x h e = omega arith

module _ (u : Bank) (shaped : Shaped u) (i : ℕ) (six : i < 6) (on : enabled (pwm_at u i) ≡ true)
    (r : running (timer_by u i) ≡ true) (below : (timer_by u i).count < limit (timer_by u i)) where
  abbrev t : Timer
  t = timer_by u i

  -- the output after k clocks
  bit-after : (k : ℕ) → bit i (output (steps clocked k u)) ≡ ltb (steps timer.clocked k t).count (if ticks_within k t then (pwm_at u i).next_value else (pwm_at u i).value)
  unfolding high loaded timer_of
  bit-after k =
      let levels = λ (x : Pwm). high (map (steps timer.clocked k) u.timers) (loaded (ticks_within k) u.timers x) in
      rw (output-after k u, bit-flags levels off u.modules i (omega (arith, shaped.modules)), on, timer_of-map (steps timer.clocked k) (steps-idle k) u.timers (pwm_at u i))

  -- clock by clock
  high_so_far : (n : ℕ) → n ≤ limit t → high_of i n u ≡ highs (limit t) t.count (pwm_at u i).value (pwm_at u i).next_value n
  unfolding high_of
  high_so_far zero h = omega arith
  high_so_far (suc n) h =
      let c = t.count in
      let l = limit t in
      let v = (pwm_at u i).value in
      let x = (pwm_at u i).next_value in
      let ih : high_of i n u ≡ highs l c v x n = high_so_far n (omega arith) in
      elim (cases_lt (c + n) l) [
        | inl j ↦ let p = before_tick t r below n j in rw (ih, bit-after n, p.0, p.1, high_before l c v x n j)
        | inr j ↦ let p = after-tick t r below n j (omega arith) in rw (ih, bit-after n, p.0, p.1, high-later l c v x n j)
      ]

pub duty : (x : Timers) → Duty (bank_of x)
duty x =
    let u = bank_of x in
    let shaped = shaped_bank x in record {
      whole = λ i p z.
          let t = timer_by u i in
          let below : t.count < limit t = omega (arith, limit_pos t) in
          high_so_far u shaped i p.0 p.1 p.2 below (limit t) (omega arith) ∙ highs_whole (limit t) t.count (pwm_at u i).value (pwm_at u i).next_value z;
      steady = λ i p below e.
          let t = timer_by u i in
          high_so_far u shaped i p.0 p.1 p.2 below (limit t) (omega arith) ∙ highs_steady (limit t) t.count (pwm_at u i).value (pwm_at u i).next_value below e;
    }
