-- What a model from rules does, as those rules say it. Assumes nothing.
use Rattle.std.proofs.Common.{◌≡◌, ℕ, zero, suc, sym, refl, ap, ◌∙◌, arith}
use Rattle.std.specs.Option.{option_map}
use Rattle.registers.specs.Address.{word_address}
use Rattle.peripheral.specs.Model.{Idle, Quiet, steps, union, clocks, raises}
use Rattle.peripheral.specs.Bus.{located, read_at, write_at, left, kept}
use Rattle.peripheral.specs.Rules.{Rules, Coded, model_of}
use Rattle.peripheral.proofs.Steps.{steps_keep}
use Rattle.peripheral.proofs.Reached.{left_mapped, left_with}

module _ {U : Type 0} (r : Rules U) {Good : U → Type 0} (k : Coded r Good) where
  pub good_steps : (n : ℕ) (u : U) → Good u → Good (steps r.clock n u)
  good_steps = steps_keep r.clock Good k.clock

  pub clocks_of : (n : ℕ) (u : U) → Good u → clocks (model_of r) n (r.encode u) ≡ r.encode (steps r.clock n u)
  unfolding steps
  clocks_of zero u g = refl
  clocks_of (suc n) u g = grind (arith, k.back u g, clocks_of n (r.clock u) (k.clock u g))

  pub raises_of : (n : ℕ) (u : U) → Good u → raises (model_of r) n (r.encode u) ≡ union r.clock r.raised n u
  unfolding union
  raises_of zero u g = refl
  raises_of (suc n) u g = grind (arith, k.back u g, raises_of n (r.clock u) (k.clock u g))

  -- what a rule sees after n clocks
  seen_of : {X : Type 0} (look : U → X) (n : ℕ) (u : U) → Good u → look (r.decode (clocks (model_of r) n (r.encode u))) ≡ look (steps r.clock n u)
  seen_of look n u g = ap (λ s. look (r.decode s)) (clocks_of n u g) ∙ ap look (k.back (steps r.clock n u) (good_steps n u g))

  -- the model is quiet as long as the rules are idle, and no longer
  pub quiet_of : (u : U) (n : ℕ) → Good u → Idle r.clock r.raised r.outputs u n → Quiet (model_of r) (r.encode u) n
  quiet_of u n g h i l =
      (seen_of r.raised i u g ∙ (h i l).0, seen_of r.outputs (suc i) u g ∙ (h i l).1 ∙ sym (ap r.outputs (k.back u g)))

  pub idle_of : (u : U) (n : ℕ) → Good u → Quiet (model_of r) (r.encode u) n → Idle r.clock r.raised r.outputs u n
  idle_of u n g h i l =
      (sym (seen_of r.raised i u g) ∙ (h i l).0, sym (seen_of r.outputs (suc i) u g) ∙ (h i l).1 ∙ ap r.outputs (k.back u g))

  -- what the model answers on the bus
  pub read_of : (u : U) (a : ℕ) → Good u → read_at (model_of r) (r.encode u) a ≡ located a (r.claims (word_address a)) (r.read u (word_address a))
  read_of u a g = rw (k.back u g)

  pub write_of : (u : U) (a v l : ℕ) → Good u
      → write_at (model_of r) (r.encode u) a v l ≡ located a (r.claims (word_address a)) (option_map r.encode (r.write u (word_address a) v l))
  write_of u a v l g = rw (k.back u g)

  -- what it leaves
  pub kept_of : (u : U) (a v l : ℕ) → Good u
      → kept (r.encode u) (write_at (model_of r) (r.encode u) a v l) ≡ r.encode (left u (located a (r.claims (word_address a)) (r.write u (word_address a) v l)))
  kept_of u a v l g =
      ap (kept (r.encode u)) (write_of u a v l g) ∙ left_mapped r.encode a u (r.claims (word_address a)) (r.write u (word_address a) v l)

  pub good_left : (u : U) (a v l : ℕ) → Good u → Good (left u (located a (r.claims (word_address a)) (r.write u (word_address a) v l)))
  good_left u a v l g = left_with Good a u (r.claims (word_address a)) (r.write u (word_address a) v l) g (k.write u (word_address a) v l g)
