-- A first clock settles the pins. Assumes nothing.
use Rattle.std.proofs.Common.{◌≡◌, sym, ℕ, zero, suc, ◌<◌, refl, arith, ap, ◌∙◌}
use lib.Bits.{xor_self, or_zero_r}
use Rattle.peripheral.specs.Model.{Quiet, steps, clocks, raises}
use Rattle.peripheral.proofs.Steps.{settled_steps, settled_union, settled_idle}
use Rattle.peripheral.proofs.Stored.{clocks_of, raises_of, quiet_of}
use Rattle.gpio.specs.declared.Gpio.{Gpio}
use Rattle.gpio.specs.declared.ports.Port.{Port}
use Rattle.gpio.specs.Pins as port
use Rattle.gpio.specs.Ports.{clocked, raised}
use Rattle.gpio.specs.Rules.{rules, coded, encode, gpio_model}

-- after a clock the pins are those of the last clock
hits_still : (p : Port) → port.hits (port.clocked p) ≡ 0
hits_still p = rw (xor_self (port.pins p))

clock_still : (g : Gpio) → clocked (clocked g) ≡ clocked g
clock_still g = simp (hits_still g.first, hits_still g.second, or_zero_r)

raised_still : (g : Gpio) → raised (clocked g) ≡ 0
raised_still g = rw (hits_still g.first, hits_still g.second)

-- so n clocks are the first one
pub clocks_some : (g new : Gpio) (n : ℕ) → 0 < n → new ≡ clocked g → encode new ≡ clocks gpio_model n (encode g)
clocks_some g new n h e = ap encode (e ∙ sym (settled_steps clocked g (clock_still g) n h)) ∙ sym (clocks_of rules coded n g tt)

pub raises_some : (g : Gpio) (n mask : ℕ) → 0 < n → mask ≡ raised g → mask ≡ raises gpio_model n (encode g)
raises_some g n mask h e = e ∙ sym (settled_union clocked raised g (clock_still g) (raised_still g) n h) ∙ sym (raises_of rules coded n g tt)

-- and it is quiet for ever or not at all
pub quiet_still : (g : Gpio) → raised g ≡ 0 → (n : ℕ) → Quiet gpio_model (encode g) n
quiet_still g z n = quiet_of rules coded g n tt (settled_idle clocked raised rules.outputs g (clock_still g) (raised_still g) z refl n)

pub quiet_none : (g : Gpio) (n : ℕ) → Quiet gpio_model (encode g) n → (raised g ≡ 0 → ⊥) → n ≡ 0
unfolding steps
quiet_none g zero q z = refl
quiet_none g (suc n) q z = absurd (z (q 0 (omega arith)).0)
