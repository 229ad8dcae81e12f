-- What clocks notice, pin by pin. Assumes nothing.
use Rattle.std.specs.Prelude.{◌≡◌, ℕ, ◌<◌, true, ◌||◌, ◌⊎◌, Decides}
use Rattle.registers.specs.Bits.{bit}
use Rattle.gpio.specs.declared.Gpio.{Gpio}
use Rattle.gpio.specs.declared.ports.Port.{Port}
use Rattle.gpio.specs.Pins.{noticed}
use Rattle.gpio.specs.Ports.{port_of}

-- some pin of a port rose with CNR or fell with CNF since the last clock; some pin of either port did
abbrev pub SomePin : Port → Type 0
SomePin p = (k : ℕ) × (k < 32) × (noticed p k ≡ true)

abbrev pub SomePort : Gpio → Type 0
SomePort g = (i : ℕ) × (i < 2) × SomePin (port_of g i)

-- interrupt 15 is raised exactly when some pin was noticed, and no other ever is
abbrev pub Raises : Gpio → ℕ → Type 0
Raises g mask = ((mask ≡ 128) × SomePort g) ⊎ ((mask ≡ 0) × (SomePort g → ⊥))

-- a port's INT_STATUS bit is 1 exactly when it was 1, or some pin of the port was noticed
abbrev pub Flags : Gpio → Gpio → Type 0
Flags old new = (i : ℕ) → i < 2 → Decides (bit i new.int_status) ((bit i old.int_status ≡ true) ⊎ SomePin (port_of old i))

-- a pin's CN_STATE bit is 1 exactly when it was 1, or the pin was noticed
abbrev pub Records : Gpio → Gpio → Type 0
Records old new = (i k : ℕ) → i < 2 → k < 32 → bit k (port_of new i).cn_state ≡ (bit k (port_of old i).cn_state || noticed (port_of old i) k)

-- What n clocks make of a GPIO, and the mask that they raise: however many they are, they notice what the first
-- one notices and no more.
pub record Notices (old : Gpio) (n : ℕ) (new : Gpio) (mask : ℕ) : Type 0 where
  pub none : n ≡ 0 → (new ≡ old) × (mask ≡ 0)
  pub pins : 0 < n → Records old new
  pub flags : 0 < n → Flags old new
  pub raise : 0 < n → Raises old mask
