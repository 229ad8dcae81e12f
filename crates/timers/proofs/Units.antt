-- What the unit's model says, by the unit itself. Assumes nothing.
use Rattle.std.proofs.Common.{◌≡◌, ℕ, sym, ap, ◌∙◌, subst, Result, [], ◌∷◌, length}
use Rattle.peripheral.specs.Bus.{Code, read_at, write_at, left, kept}
use Rattle.peripheral.specs.Block.{read_register, written_register}
use Rattle.peripheral.specs.Model.{Quiet, steps, clocks, raises}
use Rattle.peripheral.proofs.Stored.{read_of, kept_of, good_left, clocks_of, raises_of}
use Rattle.timers.specs.declared.Timers.{Timers}
use Rattle.timers.specs.declared.Bank.{Bank}
use Rattle.timers.specs.Map.{owns, register_at}
use Rattle.timers.specs.Timer as timer
use Rattle.timers.specs.Timer.{ticks_within}
use Rattle.timers.specs.Unit.{bank_of, word, output, calm, passed, raise}
use Rattle.timers.specs.Rules.{Shaped, encode, after_write, rules, timers_model, state_of, coded, shaped_bank}
use Rattle.timers.proofs.Banks.{steps_bank, union_bank}
use Rattle.timers.proofs.Quieting as quieting

module _ (x : Timers) where
  -- ---- what an access answers and leaves

  pub read_unit : (a : ℕ) (answer : Result ℕ Code) → answer ≡ read_register register_at owns word (bank_of x) a → answer ≡ read_at timers_model (state_of x) a
  unfolding rules
  read_unit a answer e = e ∙ sym (read_of rules coded (bank_of x) a (shaped_bank x))

  module _ (a v l : ℕ) (new : Bank) (e : new ≡ left (bank_of x) (written_register register_at owns after_write (bank_of x) a v l)) where
    pub written_unit : encode new ≡ kept (state_of x) (write_at timers_model (state_of x) a v l)
    unfolding rules
    written_unit = ap encode e ∙ sym (kept_of rules coded (bank_of x) a v l (shaped_bank x))

    written_shaped : Shaped new
    unfolding rules
    written_shaped = subst Shaped (sym e) (good_left rules coded (bank_of x) a v l (shaped_bank x))

    pub written_sixteen : length new.timers ≡ 16
    written_sixteen = written_shaped.timers

    pub written_six : length new.modules ≡ 6
    written_six = written_shaped.modules

  -- ---- what clocks leave and raise

  pub passed_unit : (n : ℕ) (new : Bank) → new ≡ passed (steps timer.clocked n) (ticks_within n) (bank_of x) → encode new ≡ clocks timers_model n (state_of x)
  unfolding rules
  passed_unit n new e = ap encode (e ∙ sym (steps_bank n (bank_of x))) ∙ sym (clocks_of rules coded n (bank_of x) (shaped_bank x))

  pub raised_unit : (n mask : ℕ) → mask ≡ raise (ticks_within n) (bank_of x) → mask ≡ raises timers_model n (state_of x)
  unfolding rules
  raised_unit n mask e = e ∙ sym (union_bank n (bank_of x)) ∙ sym (raises_of rules coded n (bank_of x) (shaped_bank x))

  -- ---- how long it is quiet, and what it shows

  pub calm_unit : (n : ℕ) → n ≡ calm (bank_of x) → Quiet timers_model (state_of x) n
  calm_unit n e = rw e (quieting.quiet_calm (bank_of x) (shaped_bank x))

  pub output_unit : rules.outputs (rules.decode (state_of x)) ≡ output (bank_of x) ∷ []
  unfolding rules
  output_unit = ap (λ u. output u ∷ []) (coded.back (bank_of x) (shaped_bank x))
