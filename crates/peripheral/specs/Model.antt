-- What a peripheral does: its rules, over its whole state, a list of numbers. Assumes nothing.
use Rattle.std.specs.Prelude.{◌≡◌, ℕ, zero, suc, ◌^◌, ◌<◌, ◌≤◌, Bool, true, false, List, length, Some, Option, bit_or}
use Rattle.registers.specs.Address.{word_address}

-- The rules of a peripheral. They are asked about states of `size` numbers, and about addresses of words.
pub record Model : Type 0 where
  -- how many numbers a state has
  pub size : ℕ
  -- which addresses are its own, whatever the state
  pub claims : ℕ → Bool
  -- the word at a claimed address; None where no register stands there
  pub read : List ℕ → ℕ → Option ℕ
  -- the state after a write to a claimed address of a value under a lane mask; None where no register stands there
  pub write : List ℕ → ℕ → ℕ → ℕ → Option (List ℕ)
  -- which input numbers it has
  pub input : ℕ → Bool
  -- the state after a word is put on an input
  pub feed : List ℕ → ℕ → ℕ → List ℕ
  -- the state after one clock
  pub clock : List ℕ → List ℕ
  -- the interrupts that this clock raises: bit k for ID 8 + k
  pub raised : List ℕ → ℕ
  -- the output words, and how many there are
  pub outputs : List ℕ → List ℕ
  pub width : ℕ
  -- the state after a reset
  pub reset : List ℕ → List ℕ

-- A model keeps its rules: they give states of its size and outputs of its width, raise IDs 8 to 23 alone,
-- and an input that it lacks leaves the state.
pub record Keeps (m : Model) : Type 0 where
  pub write : (s t : List ℕ) (a v l : ℕ) → length s ≡ m.size → m.write s a v l ≡ Some t → length t ≡ m.size
  pub feed : (s : List ℕ) (i v : ℕ) → length s ≡ m.size → length (m.feed s i v) ≡ m.size
  pub other : (s : List ℕ) (i v : ℕ) → length s ≡ m.size → m.input i ≡ false → m.feed s i v ≡ s
  pub clock : (s : List ℕ) → length s ≡ m.size → length (m.clock s) ≡ m.size
  pub raised : (s : List ℕ) → length s ≡ m.size → m.raised s < 2 ^ 16
  pub outputs : (s : List ℕ) → length s ≡ m.size → length (m.outputs s) ≡ m.width
  pub reset : (s : List ℕ) → length s ≡ m.size → length (m.reset s) ≡ m.size

-- Two models are the same where each rule gives the same for everything that it can be asked: states of the size,
-- addresses of words that are claimed, inputs that are there, values of 32 bits and masks of four lanes.
pub record Same (m n : Model) : Type 0 where
  pub size : m.size ≡ n.size
  pub claims : (a : ℕ) → a < 2 ^ 32 → m.claims (word_address a) ≡ n.claims (word_address a)
  pub read : (s : List ℕ) (a : ℕ) → length s ≡ m.size → a < 2 ^ 32 → m.claims (word_address a) ≡ true → m.read s (word_address a) ≡ n.read s (word_address a)
  pub write : (s : List ℕ) (a v l : ℕ) → length s ≡ m.size → a < 2 ^ 32 → v < 2 ^ 32 → l < 16 → m.claims (word_address a) ≡ true → m.write s (word_address a) v l ≡ n.write s (word_address a) v l
  pub input : (i : ℕ) → i < 2 ^ 32 → m.input i ≡ n.input i
  pub feed : (s : List ℕ) (i v : ℕ) → length s ≡ m.size → i < 2 ^ 32 → v < 2 ^ 32 → m.input i ≡ true → m.feed s i v ≡ n.feed s i v
  pub clock : (s : List ℕ) → length s ≡ m.size → m.clock s ≡ n.clock s
  pub raised : (s : List ℕ) → length s ≡ m.size → m.raised s ≡ n.raised s
  pub outputs : (s : List ℕ) → length s ≡ m.size → m.outputs s ≡ n.outputs s
  pub reset : (s : List ℕ) → length s ≡ m.size → m.reset s ≡ n.reset s

-- n steps of f
unfoldable pub steps : {S : Type 0} → (S → S) → ℕ → S → S
steps f zero s = s
steps f (suc n) s = steps f n (f s)

-- the union of the masks that g gives at each of n steps of f
unfoldable pub union : {S : Type 0} → (S → S) → (S → ℕ) → ℕ → S → ℕ
union f g zero s = 0
union f g (suc n) s = bit_or (g s) (union f g n (f s))

-- the state after n clocks, and what they raise together
abbrev pub clocks : Model → ℕ → List ℕ → List ℕ
clocks m = steps m.clock

abbrev pub raises : Model → ℕ → List ℕ → ℕ
raises m = union m.clock m.raised

-- in the next n steps of f nothing is raised, and the outputs stay
abbrev pub Idle : {S : Type 0} → (S → S) → (S → ℕ) → (S → List ℕ) → S → ℕ → Type 0
Idle f raised outputs s n = (k : ℕ) → k < n → (raised (steps f k s) ≡ 0) × (outputs (steps f (suc k) s) ≡ outputs s)

-- in the next n clocks nothing is raised and no output word changes
abbrev pub Quiet : Model → List ℕ → ℕ → Type 0
Quiet m = Idle m.clock m.raised m.outputs

-- no larger number of 32 bits is quiet
abbrev pub Largest : Model → List ℕ → ℕ → Type 0
Largest m s r = (n : ℕ) → n < 2 ^ 32 → Quiet m s n → n ≤ r
