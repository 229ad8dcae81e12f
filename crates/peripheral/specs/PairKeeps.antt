-- A pair of two models that keep their rules keeps its own. Assumes nothing.
use Rattle.std.specs.Prelude.{◌≡◌, ℕ, ◌+◌, Bool, if◌then◌else◌, List, ◌++◌, length, Some, Option}
use Rattle.std.proofs.Common.{ap₂, ◌∙◌, arith, length-append, length-drop, take-append-drop, length-take-le}
use Rattle.std.proofs.lemmas.Nat.{or_lt}
use Rattle.std.specs.Option.{option_map}
use Rattle.std.proofs.lemmas.Bool.{or_parts}
use Rattle.peripheral.specs.Model.{Model, Keeps}
use Rattle.peripheral.specs.Pair.{pair, first_part, second_part}

-- what a write gives has the size, if the part that it changed has its own
mapped_sized : (f : List ℕ → List ℕ) (k n : ℕ) (o : Option (List ℕ)) (t : List ℕ)
    → ((u : List ℕ) → length u ≡ k → length (f u) ≡ n) → ((u : List ℕ) → o ≡ Some u → length u ≡ k)
    → option_map f o ≡ Some t → length t ≡ n
mapped_sized f k n o t g h e = grind (arith, g, h)

-- the same of a write to one of two parts
written_sized : (x y : List ℕ) (i j : ℕ) (o p : Option (List ℕ)) (b : Bool) (t : List ℕ) → length x ≡ i → length y ≡ j
    → ((u : List ℕ) → o ≡ Some u → length u ≡ i) → ((u : List ℕ) → p ≡ Some u → length u ≡ j)
    → (if b then option_map (λ u. u ++ y) o else option_map (λ u. x ++ u) p) ≡ Some t → length t ≡ i + j
written_sized x y i j o p b t hx hy ho hp e = grind (arith, length-append, ho, hp)

pub joined_sized : (s t : List ℕ) (k n : ℕ) → length s ≡ k → length t ≡ n → length (s ++ t) ≡ k + n
joined_sized s t k n h j = length-append s t ∙ ap₂ ◌+◌ h j

module _ (m n : Model) (s : List ℕ) (h : length s ≡ m.size + n.size) where
  pub first_sized : length (first_part m s) ≡ m.size
  first_sized = length-take-le m.size s (omega arith)

  pub second_sized : length (second_part m s) ≡ n.size
  second_sized = omega (arith, length-drop m.size s)

  -- a rule of each side, on its part
  both_sized : (f g : List ℕ → List ℕ) (k l : ℕ) → ((t : List ℕ) → length t ≡ m.size → length (f t) ≡ k)
      → ((t : List ℕ) → length t ≡ n.size → length (g t) ≡ l) → length (f (first_part m s) ++ g (second_part m s)) ≡ k + l
  both_sized f g k l p q = joined_sized (f (first_part m s)) (g (second_part m s)) k l (p (first_part m s) first_sized) (q (second_part m s) second_sized)

pub pair_keeps : (m n : Model) → Keeps m → Keeps n → Keeps (pair m n)
pair_keeps m n p q = record {
  write = λ s t a v l h e.
      let x = first_part m s in
      let y = second_part m s in
      let hx = first_sized m n s h in
      let hy = second_sized m n s h in
      written_sized x y m.size n.size (m.write x a v l) (n.write y a v l) (m.claims a) t hx hy (λ u. p.write x u a v l hx) (λ u. q.write y u a v l hy) e;
  feed = λ s i v h. both_sized m n s h (λ t. m.feed t i v) (λ t. n.feed t i v) m.size n.size (λ t. p.feed t i v) (λ t. q.feed t i v);
  other = λ s i v h e.
      let none = or_parts (m.input i) (n.input i) e in
      ap₂ ◌++◌ (p.other (first_part m s) i v (first_sized m n s h) none.0) (q.other (second_part m s) i v (second_sized m n s h) none.1)
      ∙ take-append-drop m.size s;
  clock = λ s h. both_sized m n s h m.clock n.clock m.size n.size p.clock q.clock;
  raised = λ s h. or_lt 16 (m.raised (first_part m s)) (n.raised (second_part m s)) (p.raised (first_part m s) (first_sized m n s h)) (q.raised (second_part m s) (second_sized m n s h));
  outputs = λ s h. both_sized m n s h m.outputs n.outputs m.width n.width p.outputs q.outputs;
  reset = λ s h. both_sized m n s h m.reset n.reset m.size n.size p.reset q.reset;
}

pub pair_sized : (m n : Model) (s t : List ℕ) → length s ≡ m.size → length t ≡ n.size → length (s ++ t) ≡ (pair m n).size
pair_sized m n s t h k = joined_sized s t m.size n.size h k
