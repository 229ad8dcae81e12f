-- How three peripherals are nested in pairs makes no difference. Assumes nothing.
use Rattle.std.proofs.Common.{◌≡◌, ℕ, ◌+◌, Bool, if◌then◌else◌, ◌||◌, List, ◌++◌, Option, sym, ◌∙◌, append_assoc, add_assoc, arith, take-append-drop, take-take, drop-drop, take-add, bit_or}
use Rattle.std.proofs.Math.Bool.{or_assoc as either_assoc}
use Rattle.std.specs.Option.{option_map}
use Rattle.std.proofs.lemmas.List.{drop-take}
use Rattle.registers.specs.Address.{word_address}
use Rattle.peripheral.specs.Model.{Model, Same}
use Rattle.peripheral.specs.Pair.{pair, first_part, second_part}
use Rattle.peripheral.proofs.Or.{or_assoc}

-- the first of three that claims an address, asked in either order
first_of : {X : Type 0} (x y : Bool) (p q r : X) → (if x || y then if x then p else q else r) ≡ (if x then p else if y then q else r)
first_of x y p q r = grind arith

-- a write to one of three parts x, y and z
write_parts : (x y z : List ℕ) (o p q : Option (List ℕ)) (b c : Bool)
    → (if b || c then option_map (λ t. t ++ z) (if b then option_map (λ t. t ++ y) o else option_map (λ t. x ++ t) p) else option_map (λ t. (x ++ y) ++ t) q)
    ≡ (if b then option_map (λ t. t ++ (y ++ z)) o else option_map (λ t. x ++ t) (if c then option_map (λ t. t ++ z) p else option_map (λ t. y ++ t) q))
write_parts x y z o p q b c = grind (arith, append_assoc)

module _ (l m n : Model) (s : List ℕ) where
  -- the three parts of a state, and two of them together
  one : first_part l (first_part (pair l m) s) ≡ first_part l s
  one = take-take l.size (l.size + m.size) s (omega arith)

  two : second_part l (first_part (pair l m) s) ≡ first_part m (second_part l s)
  two = drop-take l.size m.size s

  three : second_part (pair l m) s ≡ second_part m (second_part l s)
  three = sym (drop-drop m.size l.size s)

  first_two : first_part (pair l m) s ≡ first_part l s ++ first_part m (second_part l s)
  first_two = take-add l.size m.size s

  last_two : first_part m (second_part l s) ++ second_part m (second_part l s) ≡ second_part l s
  last_two = take-append-drop m.size (second_part l s)

  -- a rule that goes to all three
  all_three : (f g h : List ℕ → List ℕ)
      → (f (first_part l (first_part (pair l m) s)) ++ g (second_part l (first_part (pair l m) s))) ++ h (second_part (pair l m) s)
      ≡ f (first_part l s) ++ (g (first_part m (second_part l s)) ++ h (second_part m (second_part l s)))
  all_three f g h =
      (λ i. (f (one i) ++ g (two i)) ++ h (three i))
      ∙ append_assoc (f (first_part l s)) (g (first_part m (second_part l s))) (h (second_part m (second_part l s)))

  raised_three : (pair (pair l m) n).raised s ≡ (pair l (pair m n)).raised s
  raised_three =
      (λ i. bit_or (bit_or (l.raised (one i)) (m.raised (two i))) (n.raised (three i)))
      ∙ or_assoc (l.raised (first_part l s)) (m.raised (first_part m (second_part l s))) (n.raised (second_part m (second_part l s)))

  read_three : (a : ℕ) → (pair (pair l m) n).read s a ≡ (pair l (pair m n)).read s a
  read_three a =
      (λ i. if l.claims a || m.claims a then if l.claims a then l.read (one i) a else m.read (two i) a else n.read (three i) a)
      ∙ first_of (l.claims a) (m.claims a) (l.read (first_part l s) a) (m.read (first_part m (second_part l s)) a) (n.read (second_part m (second_part l s)) a)

  write_three : (a v k : ℕ) → (pair (pair l m) n).write s a v k ≡ (pair l (pair m n)).write s a v k
  write_three a v k =
      let x = first_part l s in
      let y = first_part m (second_part l s) in
      let z = second_part m (second_part l s) in
      (λ i. if l.claims a || m.claims a
      then option_map (λ t. t ++ three i) (if l.claims a then option_map (λ t. t ++ two i) (l.write (one i) a v k) else option_map (λ t. one i ++ t) (m.write (two i) a v k))
      else option_map (λ t. first_two i ++ t) (n.write (three i) a v k))
      ∙ write_parts x y z (l.write x a v k) (m.write y a v k) (n.write z a v k) (l.claims a) (m.claims a)
      ∙ (λ i. if l.claims a then option_map (λ t. t ++ last_two i) (l.write x a v k)
      else option_map (λ t. x ++ t) (if m.claims a then option_map (λ t. t ++ z) (m.write y a v k) else option_map (λ t. y ++ t) (n.write z a v k)))

pub regrouped : (l m n : Model) → Same (pair (pair l m) n) (pair l (pair m n))
regrouped l m n = record {
  size = add_assoc l.size m.size n.size;
  claims = λ a _. either_assoc (l.claims (word_address a)) (m.claims (word_address a)) (n.claims (word_address a));
  read = λ s a _ _ _. read_three l m n s (word_address a);
  write = λ s a v k _ _ _ _ _. write_three l m n s (word_address a) v k;
  input = λ i _. either_assoc (l.input i) (m.input i) (n.input i);
  feed = λ s i v _ _ _ _. all_three l m n s (λ t. l.feed t i v) (λ t. m.feed t i v) (λ t. n.feed t i v);
  clock = λ s _. all_three l m n s l.clock m.clock n.clock;
  raised = λ s _. raised_three l m n s;
  outputs = λ s _. all_three l m n s l.outputs m.outputs n.outputs;
  reset = λ s _. all_three l m n s l.reset m.reset n.reset;
}
