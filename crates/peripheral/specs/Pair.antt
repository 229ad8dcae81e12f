-- The model of a pair, worked out from its two sides. Assumes nothing.
use Rattle.std.specs.Prelude.{ℕ, ◌+◌, if◌then◌else◌, ◌||◌, List, ◌++◌, take, drop, bit_or}
use Rattle.std.specs.Option.{option_map}
use Rattle.peripheral.specs.Model.{Model}

-- a state of the pair is the first's and then the second's
abbrev pub first_part : Model → List ℕ → List ℕ
first_part m s = take m.size s

abbrev pub second_part : Model → List ℕ → List ℕ
second_part m s = drop m.size s

-- The first that claims an address serves it; inputs, clocks and resets go to both sides; raises are joined.
abbrev pub pair : Model → Model → Model
pair m n = record {
  size = m.size + n.size;
  claims = λ a. m.claims a || n.claims a;
  read = λ s a. if m.claims a then m.read (first_part m s) a else n.read (second_part m s) a;
  write = λ s a v l. if m.claims a
      then option_map (λ t. t ++ second_part m s) (m.write (first_part m s) a v l)
      else option_map (λ t. first_part m s ++ t) (n.write (second_part m s) a v l);
  input = λ i. m.input i || n.input i;
  feed = λ s i v. m.feed (first_part m s) i v ++ n.feed (second_part m s) i v;
  clock = λ s. m.clock (first_part m s) ++ n.clock (second_part m s);
  raised = λ s. bit_or (m.raised (first_part m s)) (n.raised (second_part m s));
  outputs = λ s. m.outputs (first_part m s) ++ n.outputs (second_part m s);
  width = m.width + n.width;
  reset = λ s. m.reset (first_part m s) ++ n.reset (second_part m s);
}
