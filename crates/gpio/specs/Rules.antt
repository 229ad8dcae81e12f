-- The GPIO as a model. Assumes nothing.
use Rattle.std.specs.Prelude.{ℕ, ◌||◌, List, [], ◌∷◌, nat_lt, slice_index, refl}
use Rattle.std.proofs.Common.{lit<}
use Rattle.registers.specs.Aliases.{alias_at}
use Rattle.registers.specs.Bits.{lane_bits}
use Rattle.peripheral.specs.Model.{Model, Keeps}
use Rattle.peripheral.specs.Block.{shown_at, put_at}
use Rattle.peripheral.specs.Rules.{Rules, Coded, model_of, Any, all_good, mask_fits, keeps_of}
use Rattle.gpio.specs.declared.Gpio.{Gpio}
use Rattle.gpio.specs.declared.map.Register.{Register}
use Rattle.gpio.specs.Map.{owns, register_at}
use Rattle.gpio.specs.Pins.{fed, changed}
use Rattle.gpio.specs.Ports.{port_of, with_port, word, written, clocked, raised, cleared}

-- the state: seven numbers for each port, and INT_STATUS
abbrev pub encode : Gpio → List ℕ
encode g =
    g.first.latch ∷ g.first.dir ∷ g.first.cnr ∷ g.first.cnf ∷ g.first.cn_state ∷ g.first.input ∷ g.first.before
    ∷ g.second.latch ∷ g.second.dir ∷ g.second.cnr ∷ g.second.cnf ∷ g.second.cn_state ∷ g.second.input ∷ g.second.before
    ∷ g.int_status ∷ []

abbrev pub decode : List ℕ → Gpio
decode s = record {
  first = record { latch = slice_index s 0; dir = slice_index s 1; cnr = slice_index s 2; cnf = slice_index s 3; cn_state = slice_index s 4; input = slice_index s 5; before = slice_index s 6 };
  second = record { latch = slice_index s 7; dir = slice_index s 8; cnr = slice_index s 9; cnf = slice_index s 10; cn_state = slice_index s 11; input = slice_index s 12; before = slice_index s 13 };
  int_status = slice_index s 14;
}

-- a write by the alias k, of v under lanes l
abbrev pub after_write : Gpio → ℕ → ℕ → ℕ → Register → Gpio
after_write g k v l r = written g r k v (lane_bits l)

-- input i feeds port i; the outputs are LATCH 0, DIR 0, LATCH 1, DIR 1
abbrev pub rules : Rules Gpio
rules = record {
  size = 15;
  encode = encode;
  decode = decode;
  claims = owns;
  read = shown_at register_at word;
  write = put_at register_at after_write;
  input = λ i. nat_lt i 2;
  feed = λ g i v. with_port g i (fed (port_of g i) v);
  clock = clocked;
  raised = raised;
  outputs = λ g. g.first.latch ∷ g.first.dir ∷ g.second.latch ∷ g.second.dir ∷ [];
  width = 4;
  reset = cleared;
}

abbrev pub gpio_model : Model
gpio_model = model_of rules

-- every GPIO goes by it, and holds no lent memory
abbrev pub model_in : Gpio → Model
model_in g = gpio_model

abbrev pub spare_in : Gpio → List ℕ
spare_in g = []

-- ---- it keeps its rules

pub coded : Coded rules Any
coded = record {
  decoded = λ s h. tt;
  back = λ g _. refl;
  sized = λ g _. refl;
  write = λ g a v l _. all_good Any (after_write g (alias_at a) v l) (register_at a) (λ _. tt);
  feed = λ g i v _. tt;
  clock = λ g _. tt;
  raised = λ g _. mask_fits (changed g.first || changed g.second) 128 (lit< tt);
  outputs = λ g _. refl;
  reset = λ g _. tt;
}

pub gpio_keeps : Keeps gpio_model
gpio_keeps = keeps_of rules coded
