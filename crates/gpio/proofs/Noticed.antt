-- What a clock notices, pin by pin. Assumes nothing.
use Rattle.std.proofs.Common.{◌≡◌, ℕ, zero, suc, ◌/◌, ◌%◌, ◌^◌, ◌<◌, Bool, true, false, if◌then◌else◌, ◌||◌, ◌⊎◌, Decides, sym, refl, ◌∙◌, subst, inl, inr, bit_or, pow-suc, arith}
use Rattle.std.proofs.lemmas.Bool.{cases_eq, both_ways}
use Rattle.std.proofs.lemmas.Bool.Decides.{nat_tests, Decides-or}
use Rattle.std.proofs.lemmas.Grind.{common_steps}
use Rattle.registers.specs.Bits.{bit}
use Rattle.registers.proofs.Digits.{bit-bit_and, bit-bit_or, bit-bit_xor, bit_half}
use Rattle.registers.proofs.Accesses.{by_written}
use Rattle.gpio.specs.declared.Gpio.{Gpio}
use Rattle.gpio.specs.declared.ports.Port.{Port}
use Rattle.gpio.specs.Pins.{level, noticed, pins, hits, changed, flag}
use Rattle.gpio.specs.Ports.{port_of, clocked, raised}
use Rattle.gpio.specs.Law.{SomePin, SomePort, Raises, Flags, Records, Notices}

-- a pin's state: its latch stands in for its input where DIR is 1
bit-pins : (p : Port) (k : ℕ) → k < 32 → bit k (pins p) ≡ level p k
bit-pins p = by_written 0 p.input p.latch p.dir (pins p) refl

bit-hits : (p : Port) (k : ℕ) → k < 32 → bit k (hits p) ≡ noticed p k
bit-hits p k h =
    let e = bit-pins p k h in rw (bit-bit_and, bit-bit_xor, e, bit-bit_or, bit-bit_and k (pins p) p.cnr, e, bit-bit_and) (grind arith)

-- a number of n bits that is not 0 has a bit that is 1
some_bit : (n w : ℕ) → w < 2 ^ n → (w ≡ 0 → ⊥) → (k : ℕ) × (k < n) × (bit k w ≡ true)
some_bit zero w h z = absurd (z (omega arith))
some_bit (suc n) w h z =
    elim (cases_eq (w % 2) 1) [
      | inl e ↦ (0, omega arith, grind (arith, nat_tests))
      | inr d ↦ let r = some_bit n (w / 2) (omega (arith, pow-suc 2 n)) (λ e. z (omega arith)) in (suc r.0, omega (arith, r.1), sym (bit_half r.0 w) ∙ r.2)
    ]

-- the mask of hits tells whether some pin was noticed
pub decides_pin : (p : Port) → hits p < 2 ^ 32 → Decides (changed p) (SomePin p)
decides_pin p h = (
  λ e. let r = some_bit 32 (hits p) h (grind (arith, nat_tests)) in (r.0, r.1, sym (bit-hits p r.0 r.1) ∙ r.2),
  λ r. let e : bit r.0 (hits p) ≡ true = bit-hits p r.0 r.1 ∙ r.2 in grind (arith, common_steps),
)

-- CN_STATE takes the hits in
records : (g : Gpio) → Records g (clocked g)
records g zero k h j = rw (bit-bit_or, bit-hits g.first k j)
records g (suc zero) k h j = rw (bit-bit_or, bit-hits g.second k j)
records g (suc (suc i)) k h j = absurd (omega arith)

-- what is told of each of two: whether some is, and a word that takes a bit in for each
module _ (P : ℕ → Type 0) (a b : Bool) (x : Decides a (P 0)) (y : Decides b (P 1)) where
  some : (i : ℕ) × (i < 2) × P i → P 0 ⊎ P 1
  some (zero, h, p) = inl p
  some (suc zero, h, p) = inr p
  some (suc (suc i), h, p) = absurd (omega arith)

  decides_some : Decides (a || b) ((i : ℕ) × (i < 2) × P i)
  decides_some =
      let d = Decides-or a b x y in
      (λ e. elim (d.0 e) [ inl p ↦ (0, omega arith, p) | inr p ↦ (1, omega arith, p) ], λ r. d.1 (some r))

  decides_each : (s i : ℕ) → i < 2 → Decides (bit i (bit_or (bit_or s (if a then 1 else 0)) (if b then 2 else 0))) ((bit i s ≡ true) ⊎ P i)
  decides_each s zero h = rw (bit-bit_or, bit-bit_or) (grind (arith, x, y))
  decides_each s (suc zero) h = rw (bit-bit_or, bit-bit_or) (grind (arith, x, y))
  decides_each s (suc (suc i)) h = absurd (omega arith)

raises_by : (g : Gpio) (b : Bool) → Decides b (SomePort g) → Raises g (if b then 128 else 0)
raises_by g true d = inl (refl, d.0 refl)
raises_by g false d = inr (refl, λ r. both_ways false refl (d.1 r))

module _ (g : Gpio) (x : Decides (changed g.first) (SomePin g.first)) (y : Decides (changed g.second) (SomePin g.second)) where
  abbrev pins_of : ℕ → Type 0
  pins_of i = SomePin (port_of g i)

  pub flags : {a b : ℕ} → a ≡ flag g.first 1 → b ≡ flag g.second 2 → Flags g (record { first = g.first; second = g.second; int_status = bit_or (bit_or g.int_status a) b })
  flags p q = rw (p, q) (decides_each pins_of (changed g.first) (changed g.second) x y g.int_status)

  pub raises : (mask : ℕ) → mask ≡ raised g → Raises g mask
  raises mask e = rw e (raises_by g (changed g.first || changed g.second) (decides_some pins_of (changed g.first) (changed g.second) x y))

pub notices : (g new : Gpio) (n mask : ℕ) → 0 < n → new ≡ clocked g → Flags g new → Raises g mask → Notices g n new mask
notices g new n mask h e f r = record {
  none = λ z. absurd (omega arith);
  pins = λ _. subst (Records g) (sym e) (records g);
  flags = λ _. f;
  raise = λ _. r;
}
