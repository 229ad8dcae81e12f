-- Many clocks of one timer, by division and remainder. Assumes nothing.
use Rattle.std.proofs.Common.{◌≡◌, ℕ, zero, suc, ◌+◌, ◌-◌, ◌*◌, ◌/◌, ◌%◌, ◌<◌, ◌≤◌, min, Bool, true, false, cond, leb, sym, refl, ap, ◌∙◌, inl, inr, mod-lt, mod-eq_of_lt, arith}
use native.Mathlib.Nat.{mod-add-mod, div-eq_of_lt, div_self, div-add-mod, mul-add-div}
use Rattle.std.proofs.lemmas.Bool.{cases_lt, cases_Bool}
use Rattle.std.proofs.lemmas.Bool.Decides.{nat_tests}
use Rattle.peripheral.specs.Model.{steps}
use Rattle.peripheral.proofs.Steps.{still_steps}
use Rattle.timers.specs.declared.timer.Timer.{Timer}
use Rattle.timers.specs.Timer.{running, limit, ticks, number, counted, clocked, ticks_in, ticks_within, base, calm}

-- ---- the number of a flag

pub number_le : (b : Bool) → number b ≤ 1
number_le b = grind arith

-- ---- PERIOD, and the count that clocks go on from

pub limit_pos : (t : Timer) → 0 < limit t
unfolding limit
limit_pos t = grind (arith, nat_tests)

pub base_below : (t : Timer) → base t < limit t
unfolding base
base_below t = omega (arith, limit_pos t)

base-counted : (t : Timer) (c : ℕ) → c < limit t → base (counted t c) ≡ c
unfolding base limit
base-counted t c h = omega arith

-- ---- one clock

-- under a limit l and from a count c
next_tick : (l c : ℕ) → 0 < l → number (leb l (c + 1)) ≡ (min c (l - 1) + 1) / l
next_tick l c p =
    elim (cases_lt (c + 1) l) [
      | inl h ↦ let k : min c (l - 1) + 1 < l = omega arith in grind (arith, nat_tests, div-eq_of_lt k)
      | inr h ↦ let e : l ≡ min c (l - 1) + 1 = omega arith in grind (arith, nat_tests, div_self p, e)
    ]

module _ (t : Timer) (r : running t ≡ true) where
  clock_running : clocked t ≡ counted t ((base t + 1) % limit t)
  unfolding clocked ticks base
  clock_running = let p = limit_pos t in grind (arith, nat_tests)

  tick-running : number (ticks t) ≡ (base t + 1) / limit t
  unfolding ticks base
  tick-running = rw r (next_tick (limit t) t.count (limit_pos t))

module _ (t : Timer) (r : running t ≡ false) where
  clock_stopped : clocked t ≡ t
  unfolding clocked ticks
  clock_stopped = grind arith

  tick_stopped : ticks t ≡ false
  unfolding ticks
  tick_stopped = rw r

  pub steps_stopped : (n : ℕ) → steps clocked n t ≡ t
  steps_stopped n = still_steps clocked t clock_stopped n

-- ---- n clocks

-- the first clock brings COUNT below PERIOD, and from there on it goes round
steps-running : (n : ℕ) (t : Timer) → running t ≡ true → steps clocked (suc n) t ≡ counted t ((base t + suc n) % limit t)
unfolding steps limit
steps-running zero t r = clock_running t r
steps-running (suc n) t r =
    let l = limit t in
    let c = (base t + 1) % l in
    let h : c < l = mod-lt (base t + 1) (limit_pos t) in
    let e : base t + 1 + suc n ≡ base t + suc (suc n) = omega arith in
    rw (clock_running t r, steps-running n (counted t c) r, base-counted t c h, mod-add-mod (base t + 1) l (suc n), e)

pub steps_some : (n : ℕ) (t : Timer) → running t ≡ true → 0 < n → steps clocked n t ≡ counted t ((base t + n) % limit t)
steps_some zero t r h = absurd (omega arith)
steps_some (suc n) t r h = steps-running n t r

div_carry : (x n l : ℕ) → 0 < l → x / l + (x % l + n) / l ≡ (x + n) / l
div_carry x n l p =
    let e : l * (x / l) + (x % l + n) ≡ x + n = omega (arith, div-add-mod x l) in
    sym (mul-add-div p (x / l) (x % l + n)) ∙ ap (λ y. y / l) e

pub ticks_running : (n : ℕ) (t : Timer) → running t ≡ true → ticks_in n t ≡ (base t + n) / limit t
unfolding ticks_in limit
ticks_running zero t r =
    let h : base t + 0 < limit t = omega (arith, base_below t) in sym (div-eq_of_lt h)
ticks_running (suc n) t r =
    let l = limit t in
    let c = (base t + 1) % l in
    let h : c < l = mod-lt (base t + 1) (limit_pos t) in
    let e : base t + 1 + n ≡ base t + suc n = omega arith in
    rw (tick-running t r, clock_running t r, ticks_running n (counted t c) r, base-counted t c h, div_carry (base t + 1) n l (limit_pos t), e)

pub ticks_stopped : (n : ℕ) (t : Timer) → running t ≡ false → ticks_in n t ≡ 0
unfolding ticks_in
ticks_stopped zero t r = refl
ticks_stopped (suc n) t r = rw (tick_stopped t r, clock_stopped t r, ticks_stopped n t r)

-- the last of them
ticks_end : (n : ℕ) (t : Timer) → ticks_in (suc n) t ≡ ticks_in n t + number (ticks (steps clocked n t))
unfolding ticks_in steps
ticks_end zero t = omega arith
ticks_end (suc n) t = omega (arith, ticks_end n (clocked t))

-- ---- until the next tick

pub calm-running : (t : Timer) → running t ≡ true → calm t ≡ limit t - 1 - base t
unfolding calm
calm-running t r = rw r

pub calm_stopped : (t : Timer) → running t ≡ false → calm t ≡ 4294967295
unfolding calm
calm_stopped t r = rw r

pub calm-ticks : (n : ℕ) (t : Timer) → n ≤ calm t → ticks_in n t ≡ 0
calm-ticks n t h =
    elim (cases_Bool (running t)) [
      | inl r ↦ let k : base t + n < limit t = omega (arith, calm-running t r, base_below t) in ticks_running n t r ∙ div-eq_of_lt k
      | inr r ↦ ticks_stopped n t r
    ]

pub calm_within : (n : ℕ) (t : Timer) → n ≤ calm t → ticks_within n t ≡ false
unfolding ticks_within
calm_within n t h = rw (calm-ticks n t h)

-- no clock before it ticks, and it does
pub calm-tick : (k : ℕ) (t : Timer) → k < calm t → ticks (steps clocked k t) ≡ false
calm-tick k t h =
    let none = calm-ticks (suc k) t (omega arith) in grind (arith, ticks_end k t, none)

pub calm_end : (t : Timer) → calm t < 4294967295 → ticks (steps clocked (calm t) t) ≡ true
calm_end t h =
    elim (cases_Bool (running t)) [
      | inl r ↦
          let n = calm t in
          let e : base t + suc n ≡ limit t = omega (arith, calm-running t r, base_below t) in
          let one : ticks_in (suc n) t ≡ 1 = ticks_running (suc n) t r ∙ ap (λ x. x / limit t) e ∙ div_self (limit_pos t) in
          grind (arith, ticks_end n t, one, calm-ticks n t (omega arith))
      | inr r ↦ absurd (omega (arith, calm_stopped t r))
    ]

-- COUNT goes straight on
count_before : (n : ℕ) (t : Timer) → running t ≡ true → n ≤ calm t → steps clocked n t ≡ counted t (t.count + n)
unfolding steps base
count_before zero t r h = grind arith
count_before (suc n) t r h =
    let k : base t + suc n < limit t = omega (arith, calm-running t r) in grind (arith, calm-running t r, steps-running n t r, mod-eq_of_lt k)

pub count-calm : (n : ℕ) (t : Timer) → n ≤ calm t → (steps clocked n t).count ≡ t.count + cond (running t) n 0
count-calm n t h = elim (cases_Bool (running t)) [ inl r ↦ grind (arith, count_before n t r h) | inr r ↦ grind (arith, steps_stopped t r n) ]
