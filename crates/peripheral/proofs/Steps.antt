-- Many steps: the last of them, and what settles at the first. Assumes nothing.
use Rattle.std.proofs.Common.{◌≡◌, ℕ, zero, suc, ◌<◌, List, length, refl, ap, ◌∙◌, arith, bit_or}
use Rattle.std.specs.Int.Bits.{or_zero_r}
use Rattle.peripheral.specs.Model.{Model, Keeps, Idle, steps, union, clocks}

module _ {S : Type 0} (f : S → S) where
  -- a step more is a step at the end
  pub steps_end : (n : ℕ) (s : S) → steps f (suc n) s ≡ f (steps f n s)
  unfolding steps
  steps_end zero s = refl
  steps_end (suc n) s = steps_end n (f s)

  -- a property that each step keeps
  pub steps_keep : (P : S → Type 0) → ((s : S) → P s → P (f s)) → (n : ℕ) (s : S) → P s → P (steps f n s)
  unfolding steps
  steps_keep P h zero s p = p
  steps_keep P h (suc n) s p = steps_keep P h n (f s) (h s p)

  -- where a step changes nothing
  pub still_steps : (s : S) → f s ≡ s → (n : ℕ) → steps f n s ≡ s
  unfolding steps
  still_steps s e zero = refl
  still_steps s e (suc n) = grind (arith, still_steps s e n)

  pub still_union : (g : S → ℕ) (s : S) → f s ≡ s → g s ≡ 0 → (n : ℕ) → union f g n s ≡ 0
  unfolding union
  still_union g s e z zero = refl
  still_union g s e z (suc n) = grind (arith, still_union g s e z n)

  -- where the first step settles all: more steps change and give nothing more
  pub settled_steps : (s : S) → f (f s) ≡ f s → (n : ℕ) → 0 < n → steps f n s ≡ f s
  unfolding steps
  settled_steps s e zero h = absurd (omega arith)
  settled_steps s e (suc n) h = still_steps (f s) e n

  pub settled_union : (g : S → ℕ) (s : S) → f (f s) ≡ f s → g (f s) ≡ 0 → (n : ℕ) → 0 < n → union f g n s ≡ g s
  unfolding union
  settled_union g s e z zero h = absurd (omega arith)
  settled_union g s e z (suc n) h = ap (bit_or (g s)) (still_union g (f s) e z n) ∙ or_zero_r (g s)

  -- and nothing ever happens, if the first step gives nothing and changes no output
  pub settled_idle : (g : S → ℕ) (o : S → List ℕ) (s : S) → f (f s) ≡ f s → g (f s) ≡ 0 → g s ≡ 0 → o (f s) ≡ o s → (n : ℕ) → Idle f g o s n
  unfolding steps
  settled_idle g o s e z y q n zero h = (y, q)
  settled_idle g o s e z y q n (suc k) h =
      (ap g (settled_steps s e (suc k) (omega arith)) ∙ z, ap o (settled_steps s e (suc (suc k)) (omega arith)) ∙ q)

-- one step
pub steps_one : {S : Type 0} (f : S → S) (s : S) → steps f 1 s ≡ f s
unfolding steps
steps_one f s = refl

pub union_one : {S : Type 0} (f : S → S) (g : S → ℕ) (s : S) → union f g 1 s ≡ g s
unfolding union
union_one f g s = or_zero_r (g s)

-- clocks keep the size
pub clocks_sized : (m : Model) → Keeps m → (n : ℕ) (s : List ℕ) → length s ≡ m.size → length (clocks m n s) ≡ m.size
clocks_sized m p = steps_keep m.clock (λ s. length s ≡ m.size) p.clock
