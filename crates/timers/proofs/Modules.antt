-- One pulse-width module: when it is loaded, and how long its output stays. Assumes nothing.
use Rattle.std.proofs.Common.{◌≡◌, ℕ, suc, ◌+◌, ◌-◌, ◌<◌, ◌≤◌, Bool, if◌then◌else◌, ◌&&◌, ltb, List, map, sym, refl, ap, ◌∙◌, ap₂, arith}
use Rattle.std.proofs.lemmas.Bool.Decides.{nat_tests}
use Rattle.peripheral.specs.Model.{steps}
use Rattle.timers.specs.declared.timer.Timer.{Timer}
use Rattle.timers.specs.declared.pwm.Pwm.{Pwm}
use Rattle.timers.specs.Timer as timer
use Rattle.timers.specs.Timer.{idle, running, ticks_within}
use Rattle.timers.specs.Pwm.{enabled, timer_of, loaded, high, calm}
use Rattle.timers.proofs.Counting.{calm_within, count-calm, steps_stopped}
use Rattle.timers.proofs.Banks.{timer_of-map}

-- ---- n clocks in which the timer does not tick

pub steps-idle : (n : ℕ) → steps timer.clocked n idle ≡ idle
steps-idle n = steps_stopped idle refl n

-- the output that follows, by the count alone
high_at : (n : ℕ) (ts : List Timer) (m : Pwm) → n ≤ timer.calm (timer_of ts m)
    → high (map (steps timer.clocked n) ts) (loaded (ticks_within n) ts m) ≡ (enabled m && ltb ((timer_of ts m).count + (if running (timer_of ts m) then n else 0)) m.value)
unfolding high loaded timer_of
high_at n ts m h =
    ap₂ (λ c b. enabled m && ltb c (if b then m.next_value else m.value))
    (ap (λ t. t.count) (timer_of-map (steps timer.clocked n) (steps-idle n) ts m) ∙ count-calm n (timer_of ts m) h)
    (calm_within n (timer_of ts m) h)

-- it is the same up to the edge, and then another
held : (e r : Bool) (c v n : ℕ) → n ≤ (if (e && ltb c v) && r then v - c - 1 else 4294967295) → (e && ltb (c + (if r then n else 0)) v) ≡ (e && ltb c v)
held e r c v n k = grind (arith, nat_tests)

ends : (e r : Bool) (c v n : ℕ) → n ≡ (if (e && ltb c v) && r then v - c - 1 else 4294967295) → n < 4294967295 → (e && ltb (c + (if r then suc n else 0)) v) ≡ (e && ltb c v) → ⊥
ends e r c v n k h s = grind (arith, nat_tests)

pub high-calm : (n : ℕ) (ts : List Timer) (m : Pwm) → n ≤ timer.calm (timer_of ts m) → n ≤ calm ts m
    → high (map (steps timer.clocked n) ts) (loaded (ticks_within n) ts m) ≡ high ts m
unfolding high calm
high-calm n ts m h k = high_at n ts m h ∙ held (enabled m) (running (timer_of ts m)) (timer_of ts m).count m.value n k

pub calm_ends : (ts : List Timer) (m : Pwm) → calm ts m < 4294967295 → suc (calm ts m) ≤ timer.calm (timer_of ts m)
    → high (map (steps timer.clocked (suc (calm ts m))) ts) (loaded (ticks_within (suc (calm ts m))) ts m) ≡ high ts m → ⊥
unfolding high calm
calm_ends ts m h j s =
    let n = calm ts m in
    ends (enabled m) (running (timer_of ts m)) (timer_of ts m).count m.value n refl h (sym (high_at (suc n) ts m j) ∙ s)
