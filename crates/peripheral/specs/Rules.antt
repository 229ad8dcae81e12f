-- A model from rules over a type of the peripheral's own, whose values are stored as lists of numbers. Assumes nothing.
use Rattle.std.specs.Prelude.{◌≡◌, ℕ, ◌^◌, ◌<◌, Bool, true, false, if◌then◌else◌, List, length, IfSome, Some, None, Option}
use Rattle.std.proofs.Common.{arith, lit<}
use Rattle.std.specs.Option.{option_map}
use Rattle.std.proofs.lemmas.Bool.{cond-false}
use Rattle.peripheral.specs.Model.{Model, Keeps}

-- The rules as a model has them, over values U, and how such a value is stored. `feed` is asked of inputs that are there.
pub record Rules (U : Type 0) : Type 0 where
  pub size : ℕ
  pub encode : U → List ℕ
  pub decode : List ℕ → U
  pub claims : ℕ → Bool
  pub read : U → ℕ → Option ℕ
  pub write : U → ℕ → ℕ → ℕ → Option U
  pub input : ℕ → Bool
  pub feed : U → ℕ → ℕ → U
  pub clock : U → U
  pub raised : U → ℕ
  pub outputs : U → List ℕ
  pub width : ℕ
  pub reset : U → U

abbrev pub model_of : {U : Type 0} → Rules U → Model
model_of r = record {
  size = r.size;
  claims = r.claims;
  read = λ s a. r.read (r.decode s) a;
  write = λ s a v l. option_map r.encode (r.write (r.decode s) a v l);
  input = r.input;
  feed = λ s i v. if r.input i then r.encode (r.feed (r.decode s) i v) else s;
  clock = λ s. r.encode (r.clock (r.decode s));
  raised = λ s. r.raised (r.decode s);
  outputs = λ s. r.outputs (r.decode s);
  width = r.width;
  reset = λ s. r.encode (r.reset (r.decode s));
}

-- The rules keep to values that are good: what is stored of one has the size, and is read back as that value.
pub record Coded {U : Type 0} (r : Rules U) (Good : U → Type 0) : Type 0 where
  pub decoded : (s : List ℕ) → length s ≡ r.size → Good (r.decode s)
  pub back : (u : U) → Good u → r.decode (r.encode u) ≡ u
  pub sized : (u : U) → Good u → length (r.encode u) ≡ r.size
  pub write : (u : U) (a v l : ℕ) → Good u → IfSome (r.write u a v l) Good
  pub feed : (u : U) (i v : ℕ) → Good u → Good (r.feed u i v)
  pub clock : (u : U) → Good u → Good (r.clock u)
  pub raised : (u : U) → Good u → r.raised u < 2 ^ 16
  pub outputs : (u : U) → Good u → length (r.outputs u) ≡ r.width
  pub reset : (u : U) → Good u → Good (r.reset u)

-- any value will do
abbrev pub Any : {U : Type 0} → U → Type 0
Any u = Unit {0}

-- a mask of sixteen bits that is raised or not
pub mask_fits : (b : Bool) (mask : ℕ) → mask < 2 ^ 16 → (if b then mask else 0) < 2 ^ 16
mask_fits true mask h = h
mask_fits false mask h = lit< tt

-- what a write makes is good, if it is for every register
pub all_good : {X U : Type 0} (Good : U → Type 0) (f : X → U) (o : Option X) → ((x : X) → Good (f x)) → IfSome (option_map f o) Good
all_good Good f (Some x) h = h x
all_good Good f None h = tt

module _ {U : Type 0} (r : Rules U) {Good : U → Type 0} (k : Coded r Good) where
  write_sized : (o : Option U) (t : List ℕ) → IfSome o Good → option_map r.encode o ≡ Some t → length t ≡ r.size
  write_sized o t g e = grind (arith, k.sized)

  feed_sized : (b : Bool) (u : U) (s : List ℕ) → Good u → length s ≡ r.size → length (if b then r.encode u else s) ≡ r.size
  feed_sized b u s g h = grind (arith, k.sized)

  -- such a model keeps its rules
  pub keeps_of : Keeps (model_of r)
  keeps_of = record {
    write = λ s t a v l h e. write_sized (r.write (r.decode s) a v l) t (k.write (r.decode s) a v l (k.decoded s h)) e;
    feed = λ s i v h. feed_sized (r.input i) (r.feed (r.decode s) i v) s (k.feed (r.decode s) i v (k.decoded s h)) h;
    other = λ s i v h e. cond-false (r.input i) (r.encode (r.feed (r.decode s) i v)) s e;
    clock = λ s h. k.sized (r.clock (r.decode s)) (k.clock (r.decode s) (k.decoded s h));
    raised = λ s h. k.raised (r.decode s) (k.decoded s h);
    outputs = λ s h. k.outputs (r.decode s) (k.decoded s h);
    reset = λ s h. k.sized (r.reset (r.decode s)) (k.reset (r.decode s) (k.decoded s h));
  }
