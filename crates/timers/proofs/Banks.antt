-- n clocks of the whole unit are those of each timer. Assumes nothing.
use Rattle.std.proofs.Common.{◌≡◌, ℕ, zero, suc, ◌+◌, ◌*◌, Bool, false, if◌then◌else◌, ◌||◌, ltb, List, [], ◌∷◌, map, get_or, sym, refl, ap, ◌∙◌, ap₂, map-id, arith}
use Rattle.std.proofs.Math.ListN as list
use mathlib.Core.Path.{fun_ext}
use mathlib.Core.List.{map-map}
use lib.Bits.{bit_or, or_block, or_zero_r}
use Rattle.std.proofs.lemmas.Bool.Decides.{nat_tests}
use Rattle.peripheral.specs.Model.{steps, union}
use Rattle.peripheral.proofs.Or.{or_assoc}
use Rattle.std.proofs.lemmas.Nat.{le_or_l}
use Rattle.timers.specs.declared.timer.Timer.{Timer}
use Rattle.timers.specs.declared.pwm.Pwm.{Pwm}
use Rattle.timers.specs.Timer as timer
use Rattle.timers.specs.Timer.{idle, number, limit, ticks, ticks_in, ticks_within}
use Rattle.timers.specs.Pwm.{timer_of, loaded}
use Rattle.timers.specs.declared.Bank.{Bank}
use Rattle.timers.specs.Unit.{flags, passed, clocked, raise}
use Rattle.timers.proofs.Counting.{number_le}

-- ---- words of flags

pub flags_none : {A : Type 0} (xs : List A) → flags (λ _. false) xs ≡ 0
flags_none [] = refl
flags_none (x ∷ xs) = ap (λ n. n * 2 + 0) (flags_none xs)

pub flags-map : {A B : Type 0} (p : B → Bool) (f : A → B) (xs : List A) → flags p (map f xs) ≡ flags (λ x. p (f x)) xs
flags-map p f [] = refl
flags-map p f (x ∷ xs) = ap (λ n. n * 2 + number (p (f x))) (flags-map p f xs)

number_or : (a b : Bool) → bit_or (number a) (number b) ≡ number (a || b)
number_or a b = grind arith

flags_or : {A : Type 0} (p q : A → Bool) (xs : List A) → bit_or (flags p xs) (flags q xs) ≡ flags (λ x. p x || q x) xs
flags_or p q [] = refl
flags_or p q (x ∷ xs) =
    or_block 1 (flags p xs) (flags q xs) (number (p x)) (number (q x)) (omega (arith, number_le (p x))) (omega (arith, number_le (q x)))
    ∙ ap₂ (λ n m. n * 2 + m) (flags_or p q xs) (number_or (p x) (q x))

-- ---- the timer of a module

pub get_or-map : {A : Type 0} (f : A → A) (d : A) → f d ≡ d → (xs : List A) (i : ℕ) → get_or (map f xs) i d ≡ f (get_or xs i d)
get_or-map f d e xs i = ap (get_or (map f xs) i) (sym e) ∙ list.get_or-map f xs i d

pub timer_of-map : (f : Timer → Timer) → f idle ≡ idle → (ts : List Timer) (m : Pwm) → timer_of (map f ts) m ≡ f (timer_of ts m)
unfolding timer_of
timer_of-map f e ts m = get_or-map f idle e ts _

-- ---- clocks after clocks

loaded-loaded : (f : Timer → Timer) (p q : Timer → Bool) → f idle ≡ idle → (ts : List Timer) (m : Pwm)
    → loaded q (map f ts) (loaded p ts m) ≡ loaded (λ t. p t || q (f t)) ts m
unfolding loaded timer_of
loaded-loaded f p q e ts m = rw (timer_of-map f e ts m) (grind arith)

passed-passed : (f g : Timer → Timer) (p q : Timer → Bool) → f idle ≡ idle → (u : Bank)
    → passed g q (passed f p u) ≡ passed (λ t. g (f t)) (λ t. p t || q (f t)) u
unfolding passed
passed-passed f g p q e u =
    let ts = u.timers in
    let loads = fun_ext (loaded-loaded f p q e ts) in
    rw (map-map g f ts, map-map (loaded q (map f ts)) (loaded p ts) u.modules, loads, or_assoc, flags-map q f ts, flags_or p (λ t. q (f t)) ts)

passed_none : (u : Bank) → passed (λ t. t) (λ _. false) u ≡ u
unfolding passed loaded
passed_none u = rw (map-id u.timers, map-id u.modules, flags_none u.timers, or_zero_r)

-- ---- the interrupts

raise-both : (a b : ℕ) → bit_or (if ltb 0 a then 8 else 0) (if ltb 0 b then 8 else 0) ≡ (if ltb 0 (bit_or a b) then 8 else 0)
raise-both zero b = refl
raise-both (suc a) b = let h = le_or_l (suc a) b in grind (arith, nat_tests)

raise-passed : (f : Timer → Timer) (p q : Timer → Bool) (u : Bank) → bit_or (raise p u) (raise q (passed f p u)) ≡ raise (λ t. p t || q (f t)) u
unfolding raise passed
raise-passed f p q u = let ts = u.timers in rw (raise-both, flags-map q f ts, flags_or p (λ t. q (f t)) ts)

-- ---- n clocks

pub clock_idle : timer.clocked idle ≡ idle
unfolding timer.clocked ticks limit
clock_idle = refl

-- it ticks in the first clock or in those after
within_none : (t : Timer) → ticks_within 0 t ≡ false
unfolding ticks_within ticks_in
within_none t = refl

either : (b : Bool) (k : ℕ) → (b || ltb 0 k) ≡ ltb 0 (number b + k)
either b k = grind (arith, nat_tests)

within_more : (n : ℕ) (t : Timer) → (ticks t || ticks_within n (timer.clocked t)) ≡ ticks_within (suc n) t
unfolding ticks_within ticks_in
within_more n t = either (ticks t) (ticks_in n (timer.clocked t))

pub steps_bank : (n : ℕ) (u : Bank) → steps clocked n u ≡ passed (steps timer.clocked n) (ticks_within n) u
unfolding steps clocked
steps_bank zero u = sym (passed_none u) ∙ ap (λ p. passed (λ t. t) p u) (sym (fun_ext within_none))
steps_bank (suc n) u =
    steps_bank n (clocked u)
    ∙ passed-passed timer.clocked (steps timer.clocked n) ticks (ticks_within n) clock_idle u
    ∙ ap (λ p. passed (λ t. steps timer.clocked n (timer.clocked t)) p u) (fun_ext (within_more n))

raise_none : (u : Bank) → raise (λ _. false) u ≡ 0
unfolding raise
raise_none u = rw (flags_none u.timers)

pub union_bank : (n : ℕ) (u : Bank) → union clocked (raise ticks) n u ≡ raise (ticks_within n) u
unfolding union clocked
union_bank zero u = sym (ap (λ p. raise p u) (fun_ext within_none) ∙ raise_none u)
union_bank (suc n) u =
    ap (bit_or (raise ticks u)) (union_bank n (clocked u))
    ∙ raise-passed timer.clocked ticks (ticks_within n) u
    ∙ ap (λ p. raise p u) (fun_ext (within_more n))
