-- What an access answers and leaves where a function is put over what stands at its address. Assumes nothing.
use Rattle.std.proofs.Common.{◌≡◌, ℕ, Bool, IfSome, Option, arith}
use Rattle.std.specs.Option.{option_map}
use Rattle.peripheral.specs.Bus.{located, done, left}

module _ {X Y : Type 0} (f : X → Y) (a : ℕ) where
  pub done_mapped : (b : Bool) (o : Option X) → done (located a b (option_map f o)) ≡ done (located a b o)
  done_mapped b o = grind arith

  pub left_mapped : (x : X) (b : Bool) (o : Option X) → left (f x) (located a b (option_map f o)) ≡ f (left x (located a b o))
  left_mapped x b o = grind arith

-- what holds before a write, and of all that it may leave, holds after it
pub left_with : {X : Type 0} (P : X → Type 0) (a : ℕ) (x : X) (b : Bool) (o : Option X) → P x → IfSome o P → P (left x (located a b o))
left_with P a x b o p q = grind arith
