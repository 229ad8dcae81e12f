-- A register that is found, or not, and what is made of it. Assumes nothing.
use Rattle.std.proofs.Common.{◌≡◌, ℕ, Bool, true, false, List, IfSome, IsErrAnd, IfOk, Some, None, Ok, Err, Option, Result, sym, ap, subst, arith}
use Rattle.std.specs.Option.{option_map}
use Rattle.faults.specs.declared.Fault.{Fault}
use Rattle.faults.specs.Faults.{Code, code_of, told}
use Rattle.peripheral.specs.Bus.{located, done, kept, unclaimed, no_register}

module _ {X Y : Type 0} (f : X → Y) (a : ℕ) where
  -- what a rule makes of a register that is found
  pub found : (b : Bool) (o : Option X) (x : X) → Ok x ≡ located a b o → located a b (option_map f o) ≡ Ok (f x)
  found true (Some y) x e = let q : x ≡ y = cc in ap (λ z. Ok (f z)) (sym q)
  found true None x e = let z : ◌≡◌ {A = ℕ} 0 1 = cc in let w : ⊥ = omega arith in absurd w
  found false o x e = let z : ◌≡◌ {A = ℕ} 0 1 = cc in let w : ⊥ = omega arith in absurd w

  -- where none is found, nothing is made of it
  pub missing : (b : Bool) (o : Option X) (c : Code) → Err c ≡ located a b o → located a b (option_map f o) ≡ Err c
  missing true (Some y) c e = let z : ◌≡◌ {A = ℕ} 0 1 = cc in let w : ⊥ = omega arith in absurd w
  missing true None c e = let q : c ≡ no_register a = cc in ap Err (sym q)
  missing false o c e = let q : c ≡ unclaimed a = cc in ap Err (sym q)

-- a write: f makes a new value of the register, and `encode` stores it
module _ {X Y : Type 0} (f : X → Y) (encode : Y → List ℕ) (a : ℕ) (b : Bool) (o : Option X) where
  pub found_kept : (s : List ℕ) (x : X) → Ok x ≡ located a b o → kept s (located a b (option_map encode (option_map f o))) ≡ encode (f x)
  found_kept s x e = ap (kept s) (found encode a b (option_map f o) (f x) (sym (found f a b o x e)))

  pub found_done : (x : X) → Ok x ≡ located a b o → done (located a b (option_map encode (option_map f o))) ≡ Ok tt
  found_done x e = ap done (found encode a b (option_map f o) (f x) (sym (found f a b o x e)))

  pub missing_kept : (s : List ℕ) (c : Code) → Err c ≡ located a b o → kept s (located a b (option_map encode (option_map f o))) ≡ s
  missing_kept s c e = ap (kept s) (missing encode a b (option_map f o) c (sym (missing f a b o c e)))

  pub missing_done : (c : Code) → Err c ≡ located a b o → done (located a b (option_map encode (option_map f o))) ≡ Err c
  missing_done c e = ap done (missing encode a b (option_map f o) c (sym (missing f a b o c e)))

-- what holds of every register holds of one that is found
pub found_with : {X : Type 0} (P : X → Type 0) (a : ℕ) (b : Bool) (o : Option X) (r : Result X Fault) → told r ≡ located a b o → IfSome o P
    → IfOk r P
found_with P a b o (Err f) e p = tt
found_with P a true (Some x) (Ok y) e p = let q : x ≡ y = cc in subst P q p
found_with P a true None (Ok y) e p = let z : ◌≡◌ {A = ℕ} 0 1 = cc in let w : ⊥ = omega arith in absurd w
found_with P a false o (Ok y) e p = let z : ◌≡◌ {A = ℕ} 0 1 = cc in let w : ⊥ = omega arith in absurd w

-- the fault that `?` hands on
pub told_exit : {T : Type 0} (r : Result T Fault) (f : Fault) → IsErrAnd r (λ e. e ≡ f) → told r ≡ Err (code_of f)
told_exit (Ok x) f e = absurd e
told_exit (Err g) f e = ap (λ h. Err (code_of h)) e
