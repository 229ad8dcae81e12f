-- The RAM as a model. Assumes nothing.
use Rattle.std.specs.Prelude.{◌≡◌, ℕ, zero, suc, ◌+◌, true, false, if◌then◌else◌, List, [], length, take, drop, Some, slice_set, refl}
use Rattle.std.proofs.Common.{◌∙◌, arith, lit<, length-set, length-take-le}
use Rattle.registers.specs.Bits.{bit}
use Rattle.peripheral.specs.Model.{Model, Keeps}
use Rattle.peripheral.specs.Rules.{Rules, Coded, model_of, keeps_of}
use Rattle.ram.specs.Memory.{used, owns, offset, word_at, byte, stored}

-- The state is n bytes, a number each, and each of their words is plain. There are no inputs and no outputs, nothing is
-- raised, and clocks and resets change nothing.
abbrev pub rules : ℕ → Rules (List ℕ)
rules n = record {
  size = n;
  encode = λ s. s;
  decode = λ s. s;
  claims = owns n;
  read = λ s a. Some (word_at s (offset a));
  write = λ s a v l. Some (stored s (offset a) v l 4);
  input = λ i. false;
  feed = λ s i v. s;
  clock = λ s. s;
  raised = λ s. 0;
  outputs = λ s. [];
  width = 0;
  reset = λ s. s;
}

-- lent bytes: the model that they go by, the used ones, which are the state, and the spare ones past them
abbrev pub model_over : List ℕ → Model
model_over xs = model_of (rules (used (length xs)))

abbrev pub state_over : List ℕ → List ℕ
state_over xs = take (used (length xs)) xs

abbrev pub spare_over : List ℕ → List ℕ
spare_over xs = drop (used (length xs)) xs

-- ---- it keeps its rules

pub length-stored : (s : List ℕ) (i v l k : ℕ) → length (stored s i v l k) ≡ length s
length-stored s i v l zero = refl
length-stored s i v l (suc k) =
    elim (bit k l) as (λ b. length (if b then slice_set (stored s i v l k) (i + k) (byte k v) else stored s i v l k) ≡ length s) [
      | true ↦ length-set (stored s i v l k) (i + k) (byte k v) ∙ length-stored s i v l k
      | false ↦ length-stored s i v l k
    ]

-- any n numbers will do
abbrev Sized : ℕ → List ℕ → Type 0
Sized n s = length s ≡ n

pub coded : (n : ℕ) → Coded (rules n) (Sized n)
coded n = record {
  decoded = λ s h. h;
  back = λ s _. refl;
  sized = λ s h. h;
  write = λ s a v l h. length-stored s (offset a) v l 4 ∙ h;
  feed = λ s i v h. h;
  clock = λ s h. h;
  raised = λ s _. lit< tt;
  outputs = λ s _. refl;
  reset = λ s h. h;
}

pub keeps_over : (xs : List ℕ) → Keeps (model_over xs)
keeps_over xs = keeps_of (rules (used (length xs))) (coded (used (length xs)))

pub sized_over : (xs : List ℕ) → length (state_over xs) ≡ used (length xs)
sized_over xs = length-take-le (used (length xs)) xs (omega arith)
