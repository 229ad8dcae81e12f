-- The lamps of a front panel: a word, one bit for each lamp. Assumes nothing.
use Rattle.std.specs.Prelude.{ℕ, ◌/◌, ◌%◌, Bool, false, if◌then◌else◌, ◌&&◌, List, [], ◌∷◌, Some, None, Option, ◌==◌, nat_le, slice_index, refl}
use Rattle.std.proofs.Common.{lit<}
use Rattle.registers.specs.Aliases.{alias_at}
use Rattle.registers.specs.Bits.{lane_bits}
use Rattle.registers.specs.Writes.{written}
use Rattle.panel.specs.declared.Register.{Register}
use Rattle.panel.specs.declared.Register.TheVariants.{Lamps}
use Rattle.peripheral.specs.Model.{Model, Keeps}
use Rattle.peripheral.specs.Block.{shown_at, put_at}
use Rattle.peripheral.specs.Rules.{Rules, Coded, model_of, Any, all_good, keeps_of}

-- the panel claims 0x1B008000 to 0x1B008FFF
abbrev pub owns : ℕ → Bool
owns a = nat_le 0x1B008000 a && nat_le a 0x1B008FFF

-- its one register is at offset 0
abbrev pub register_at : ℕ → Option Register
register_at a = if a / 16 % 256 == 0 then Some Lamps else None

-- what it shows
abbrev pub word_of : ℕ → Register → ℕ
word_of w r = w

-- the lamps after a write by an alias, of a value, under a lane mask
abbrev pub after_write : ℕ → ℕ → ℕ → ℕ → Register → ℕ
after_write w n v l r = written n w v (lane_bits l)

-- the state is the word
abbrev pub encode : ℕ → List ℕ
encode w = w ∷ []

abbrev pub decode : List ℕ → ℕ
decode s = slice_index s 0

-- no inputs, nothing raised, and clocks change nothing; the word is the one output, and a reset puts all lamps out
abbrev pub rules : Rules ℕ
rules = record {
  size = 1;
  encode = encode;
  decode = decode;
  claims = owns;
  read = shown_at register_at word_of;
  write = put_at register_at after_write;
  input = λ i. false;
  feed = λ w i v. w;
  clock = λ w. w;
  raised = λ w. 0;
  outputs = λ w. w ∷ [];
  width = 1;
  reset = λ w. 0;
}

abbrev pub panel_model : Model
panel_model = model_of rules

pub coded : Coded rules Any
coded = record {
  decoded = λ s h. tt;
  back = λ w _. refl;
  sized = λ w _. refl;
  write = λ w a v l _. all_good Any (after_write w (alias_at a) v l) (register_at a) (λ _. tt);
  feed = λ w i v _. tt;
  clock = λ w _. tt;
  raised = λ w _. lit< tt;
  outputs = λ w _. refl;
  reset = λ w _. tt;
}

pub panel_keeps : Keeps panel_model
panel_keeps = keeps_of rules coded
