-- How long nothing happens in the whole unit, and no longer. Assumes nothing.
use Rattle.std.proofs.Common.{◌≡◌, ℕ, zero, suc, ◌+◌, ◌*◌, ◌<◌, ◌≤◌, min, Bool, false, if◌then◌else◌, ltb, List, [], ◌∷◌, map, length, get_or, sym, refl, ap, ◌∙◌, ap₂, inl, inr, arith}
use Rattle.std.specs.List.{AllByRecursion as All}
use Rattle.std.proofs.lemmas.Bool.{cases_lt, both_ways}
use Rattle.std.proofs.lemmas.Bool.Decides.{nat_tests}
use Rattle.std.proofs.ByRecursion.{All-get_or, All-from_get_or, All-weaker}
use Rattle.peripheral.specs.Model.{Quiet, steps}
use Rattle.peripheral.proofs.Stored.{quiet_of, idle_of}
use Rattle.timers.specs.declared.timer.Timer.{Timer}
use Rattle.timers.specs.declared.pwm.Pwm.{Pwm}
use Rattle.timers.specs.Timer as timer
use Rattle.timers.specs.Timer.{idle, number, ticks, ticks_within}
use Rattle.timers.specs.Pwm as pwm
use Rattle.timers.specs.Pwm.{off, timer_of, loaded, high}
use Rattle.timers.specs.declared.Bank.{Bank}
use Rattle.timers.specs.Unit.{flags, least, passed, clocked, raise, output, calm}
use Rattle.timers.specs.Rules.{Shaped, encode, rules, coded, timers_model}
use Rattle.timers.proofs.Counting.{calm-tick, calm_end}
use Rattle.timers.proofs.Banks.{flags-map, flags_none, steps_bank}
use Rattle.timers.proofs.Modules.{high-calm, calm_ends}

-- ---- the least

least_start : {A : Type 0} (f : A → ℕ) (q : ℕ) (xs : List A) → least f q xs ≤ q
least_start f q [] = omega arith
least_start f q (x ∷ xs) = omega (arith, least_start f (min q (f x)) xs)

least_all : {A : Type 0} (f : A → ℕ) (q : ℕ) (xs : List A) (n : ℕ) → n ≤ least f q xs → All (λ x. n ≤ f x) xs
least_all f q [] n h = tt
least_all f q (x ∷ xs) n h = (omega (arith, least_start f (min q (f x)) xs), least_all f (min q (f x)) xs n h)

least_from : {A : Type 0} (f : A → ℕ) (q : ℕ) (xs : List A) (n : ℕ) → n ≤ q → All (λ x. n ≤ f x) xs → n ≤ least f q xs
least_from f q [] n h k = h
least_from f q (x ∷ xs) n h k = let j = k.0 in least_from f (min q (f x)) xs n (omega arith) k.1

-- ---- a word of flags tells its tests

flags_same : {A : Type 0} (p q : A → Bool) (xs : List A) → All (λ x. p x ≡ q x) xs → flags p xs ≡ flags q xs
flags_same p q [] h = refl
flags_same p q (x ∷ xs) h = ap₂ (λ n b. n * 2 + number b) (flags_same p q xs h.1) h.0

flags_tell : {A : Type 0} (p q : A → Bool) (xs : List A) → flags p xs ≡ flags q xs → All (λ x. p x ≡ q x) xs
flags_tell p q [] e = tt
flags_tell p q (x ∷ xs) e = (grind arith, flags_tell p q xs (grind arith))

-- ---- the timer of a module is calm if all timers are

all-get_or : {A : Type 0} (P : A → Type 0) (d : A) → P d → (xs : List A) (i : ℕ) → All P xs → P (get_or xs i d)
all-get_or P d z [] i h = z
all-get_or P d z (x ∷ xs) zero h = h.0
all-get_or P d z (x ∷ xs) (suc i) h = all-get_or P d z xs i h.1

calm-timer_of : (n : ℕ) (ts : List Timer) (m : Pwm) → n ≤ 4294967295 → All (λ t. n ≤ timer.calm t) ts → n ≤ timer.calm (timer_of ts m)
unfolding timer_of timer.calm
calm-timer_of n ts m z h = all-get_or (λ t. n ≤ timer.calm t) idle z ts _ h

-- ---- the unit: at each clock, by what its timers and modules do

-- what the next clock raises after k, and the output after one more
raised-after : (k : ℕ) (u : Bank) → raise ticks (steps clocked k u) ≡ (if ltb 0 (flags (λ t. ticks (steps timer.clocked k t)) u.timers) then 8 else 0)
unfolding raise passed
raised-after k u = rw (steps_bank k u, flags-map ticks (steps timer.clocked k) u.timers)

pub output-after : (n : ℕ) (u : Bank) → output (steps clocked n u) ≡ flags (λ m. high (map (steps timer.clocked n) u.timers) (loaded (ticks_within n) u.timers m)) u.modules
unfolding output passed
output-after n u = rw (steps_bank n u, flags-map (high (map (steps timer.clocked n) u.timers)) (loaded (ticks_within n) u.timers) u.modules)

-- of each of some, where no one is less
all_least : {A : Type 0} (f : A → ℕ) (n : ℕ) (xs : List A) (d : A) → ((i : ℕ) → i < length xs → f (get_or xs i d) < n → ⊥) → All (λ x. n ≤ f x) xs
all_least f n xs d never = All-from_get_or (λ x. n ≤ f x) xs d (λ i b. elim (cases_lt (f (get_or xs i d)) n) [ inl less ↦ absurd (never i b less) | inr more ↦ more ])

module _ (u : Bank) (shaped : Shaped u) where
  -- the output of a module after n clocks
  abbrev high_after : ℕ → Pwm → Bool
  high_after n m = high (map (steps timer.clocked n) u.timers) (loaded (ticks_within n) u.timers m)

  -- it is quiet while all are calm
  quiet_at : (k : ℕ) → k < calm u → (raise ticks (steps clocked k u) ≡ 0) × (output (steps clocked (suc k) u) ≡ output u)
  unfolding calm output
  quiet_at k l =
      let ts = u.timers in
      let ms = u.modules in
      let top = least_start timer.calm 4294967295 ts in
      let some = least_start (pwm.calm ts) (least timer.calm 4294967295 ts) ms in
      let a : All (λ t. suc k ≤ timer.calm t) ts = least_all timer.calm 4294967295 ts (suc k) (omega arith) in
      let b : All (λ m. suc k ≤ pwm.calm ts m) ms = least_all (pwm.calm ts) (least timer.calm 4294967295 ts) ms (suc k) l in
      let still = All-weaker (λ t. suc k ≤ timer.calm t) (λ t. ticks (steps timer.clocked k t) ≡ false) (calm-tick k) ts a in
      let same = All-weaker (λ m. suc k ≤ pwm.calm ts m) (λ m. high_after (suc k) m ≡ high ts m) (λ m. high-calm (suc k) ts m (calm-timer_of (suc k) ts m (omega arith) a)) ms b in (
        rw (raised-after k u, flags_same (λ t. ticks (steps timer.clocked k t)) (λ _. false) ts still, flags_none ts),
        output-after (suc k) u ∙ flags_same (high_after (suc k)) (high ts) ms same,
      )

  pub quiet_calm : Quiet timers_model (encode u) (calm u)
  unfolding rules
  quiet_calm = quiet_of rules coded u (calm u) shaped (λ k l. ((quiet_at k l).0, ap (λ w. w ∷ []) (quiet_at k l).1))

  -- and no longer
  module _ (n : ℕ) (small : n ≤ 4294967295) (q : Quiet timers_model (encode u) n) where
    idle_at : (k : ℕ) → k < n → (raise ticks (steps clocked k u) ≡ 0) × (output (steps clocked (suc k) u) ≡ output u)
    unfolding rules
    idle_at k l = let s = idle_of rules coded u n shaped q k l in (s.0, ap (λ ws. get_or ws 0 0) s.1)

    no_tick : (k : ℕ) → k < n → All (λ t. ticks (steps timer.clocked k t) ≡ false) u.timers
    no_tick k l =
        let p : Timer → Bool = λ t. ticks (steps timer.clocked k t) in
        let none = rw raised-after at (idle_at k l).0 in
        let e : flags p u.timers ≡ 0 = grind (arith, nat_tests, none) in
        flags_tell p (λ _. false) u.timers (e ∙ sym (flags_none u.timers))

    all_calm : All (λ t. n ≤ timer.calm t) u.timers
    all_calm = all_least timer.calm n u.timers idle (λ i b less.
        let t = get_or u.timers i idle in
        let j = timer.calm t in
        both_ways (ticks (steps timer.clocked j t)) (All-get_or (λ x. ticks (steps timer.clocked j x) ≡ false) u.timers i idle b (no_tick j less)) (calm_end t (omega arith)))

    no_edge : (k : ℕ) → k < n → All (λ m. high_after (suc k) m ≡ high u.timers m) u.modules
    unfolding output
    no_edge k l = flags_tell (high_after (suc k)) (high u.timers) u.modules (sym (output-after (suc k) u) ∙ (idle_at k l).1)

    all_hold : All (λ m. n ≤ pwm.calm u.timers m) u.modules
    all_hold = all_least (pwm.calm u.timers) n u.modules off (λ i b less.
        let m = get_or u.modules i off in
        let j = pwm.calm u.timers m in
        let z = calm-timer_of n u.timers m small all_calm in
        calm_ends u.timers m (omega arith) (omega arith) (All-get_or (λ x. high_after (suc j) x ≡ high u.timers x) u.modules i off b (no_edge j less)))

    pub quiet_most : n ≤ calm u
    unfolding calm
    quiet_most =
        least_from (pwm.calm u.timers) (least timer.calm 4294967295 u.timers) u.modules n
        (least_from timer.calm 4294967295 u.timers n small all_calm) all_hold
