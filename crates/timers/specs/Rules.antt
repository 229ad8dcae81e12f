-- The timer unit as a model. Assumes nothing.
use Rattle.std.specs.Prelude.{◌≡◌, ℕ, zero, suc, ◌*◌, false, List, [], ◌∷◌, ◌++◌, length, drop, nat_lt, slice_index, refl}
use Rattle.std.proofs.Common.{sym, ap, ap₂, ◌∙◌, arith, lit<, length-append, length-set, append_assoc, append-nil}
use Rattle.std.proofs.lemmas.List.{length-map}
use Rattle.std.proofs.Math.Seq.{drop-append_seam}
use Rattle.std.specs.List.{flat_map}
use Rattle.registers.specs.Aliases.{alias_at}
use Rattle.peripheral.specs.Model.{Model, Keeps}
use Rattle.peripheral.specs.Block.{shown_at, put_at}
use Rattle.peripheral.specs.Rules.{Rules, Coded, model_of, all_good, mask_fits, keeps_of}
use Rattle.timers.specs.declared.timer.Timer.{Timer}
use Rattle.timers.specs.declared.pwm.Pwm.{Pwm}
use Rattle.timers.specs.declared.Timers.{Timers}
use Rattle.timers.specs.declared.map.Register.{Register}
use Rattle.timers.specs.declared.map.Register.TheVariants.{OfTimer, OfPwm, IntStatus}
use Rattle.timers.specs.Map.{owns, register_at}
use Rattle.timers.specs.Timer as timer
use Rattle.timers.specs.Timer.{ticks}
use Rattle.timers.specs.Pwm.{loaded}
use Rattle.timers.specs.declared.Bank.{Bank}
use Rattle.timers.specs.Unit.{bank_of, flags, passed, clocked, raise, output, word, written, zeroed}

-- ---- the state: INT_STATUS, and three numbers for each timer and each module

abbrev pub timer_numbers : Timer → List ℕ
timer_numbers t = t.control ∷ t.count ∷ t.period ∷ []

abbrev pub pwm_numbers : Pwm → List ℕ
pwm_numbers m = m.control ∷ m.value ∷ m.next_value ∷ []

unfoldable pub encode : Bank → List ℕ
encode u = u.status ∷ (flat_map timer_numbers u.timers ++ flat_map pwm_numbers u.modules)

abbrev pub timer_from : List ℕ → Timer
timer_from s = record { control = slice_index s 0; count = slice_index s 1; period = slice_index s 2 }

abbrev pub pwm_from : List ℕ → Pwm
pwm_from s = record { control = slice_index s 0; value = slice_index s 1; next_value = slice_index s 2 }

-- n of them, three numbers for each
unfoldable pub all_from : {A : Type 0} → (List ℕ → A) → ℕ → List ℕ → List A
all_from from zero s = []
all_from from (suc n) s = from s ∷ all_from from n (drop 3 s)

unfoldable pub decode : List ℕ → Bank
decode s = record { timers = all_from timer_from 16 (drop 1 s); modules = all_from pwm_from 6 (drop 49 s); status = slice_index s 0 }

-- a write by the alias k, of v under lanes l
abbrev pub after_write : Bank → ℕ → ℕ → ℕ → Register → Bank
after_write u k v l r = written u r k v l

-- ---- the rules: no inputs, and one output word

unfoldable pub rules : Rules Bank
rules = record {
  size = 67;
  encode = encode;
  decode = decode;
  claims = owns;
  read = shown_at register_at word;
  write = put_at register_at after_write;
  input = λ i. false;
  feed = λ u i v. u;
  clock = clocked;
  raised = raise ticks;
  outputs = λ u. output u ∷ [];
  width = 1;
  reset = λ u. zeroed;
}

abbrev pub timers_model : Model
timers_model = model_of rules

-- every unit goes by it, and holds no lent memory
abbrev pub model_in : Timers → Model
model_in x = timers_model

abbrev pub state_of : Timers → List ℕ
state_of x = encode (bank_of x)

abbrev pub spare_in : Timers → List ℕ
spare_in x = []

-- ---- it keeps its rules

-- 16 timers and 6 modules
pub record Shaped (u : Bank) : Type 0 where
  pub timers : length u.timers ≡ 16
  pub modules : length u.modules ≡ 6

past : (xs ys : List ℕ) (n : ℕ) → length xs ≡ n → drop n (xs ++ ys) ≡ ys
past xs ys n e = ap (λ k. drop k (xs ++ ys)) (sym e) ∙ drop-append_seam xs ys

length-all_from : {A : Type 0} (from : List ℕ → A) (n : ℕ) (s : List ℕ) → length (all_from from n s) ≡ n
unfolding all_from
length-all_from from zero s = refl
length-all_from from (suc n) s = ap suc (length-all_from from n (drop 3 s))

-- where each has three numbers
module _ {A : Type 0} (numbers : A → List ℕ) (three : (x : A) → length (numbers x) ≡ 3) where
  length-numbers : (xs : List A) → length (flat_map numbers xs) ≡ 3 * length xs
  length-numbers [] = refl
  length-numbers (x ∷ xs) = omega (arith, length-append (numbers x) (flat_map numbers xs), three x, length-numbers xs)

  -- and is read back from them
  all_from-numbers : (from : List ℕ → A) → ((x : A) (s : List ℕ) → from (numbers x ++ s) ≡ x) → (xs : List A) (rest : List ℕ) → all_from from (length xs) (flat_map numbers xs ++ rest) ≡ xs
  unfolding all_from
  all_from-numbers from back [] rest = refl
  all_from-numbers from back (x ∷ xs) rest =
      let more = flat_map numbers xs ++ rest in
      ap (all_from from (suc (length xs))) (append_assoc (numbers x) (flat_map numbers xs) rest)
      ∙ ap₂ ◌∷◌ (back x more) (ap (all_from from (length xs)) (past (numbers x) more 3 (three x)) ∙ all_from-numbers from back xs rest)

module _ (u : Bank) (h : Shaped u) where
  abbrev ts : List ℕ
  ts = flat_map timer_numbers u.timers

  abbrev ms : List ℕ
  ms = flat_map pwm_numbers u.modules

  length_timers : length ts ≡ 48
  length_timers = omega (arith, h.timers, length-numbers timer_numbers (λ t. refl) u.timers)

  length-encode : length (encode u) ≡ 67
  unfolding encode
  length-encode = omega (arith, h.modules, length_timers, length-numbers pwm_numbers (λ m. refl) u.modules, length-append ts ms)

  decode-encode : decode (encode u) ≡ u
  unfolding decode encode
  decode-encode =
      let p : all_from timer_from 16 (ts ++ ms) ≡ u.timers
      = ap (λ n. all_from timer_from n (ts ++ ms)) (sym h.timers) ∙ all_from-numbers timer_numbers (λ t. refl) timer_from (λ t s. refl) u.timers ms in
      let q : all_from pwm_from 6 (drop 48 (ts ++ ms)) ≡ u.modules
      = ap₂ (all_from pwm_from) (sym h.modules) (past ts ms 48 length_timers ∙ sym (append-nil ms)) ∙ all_from-numbers pwm_numbers (λ m. refl) pwm_from (λ m s. refl) u.modules [] in
      λ i. record { timers = p i; modules = q i; status = u.status }

shaped_decode : (s : List ℕ) → Shaped (decode s)
unfolding decode
shaped_decode s = record { timers = length-all_from timer_from 16 (drop 1 s); modules = length-all_from pwm_from 6 (drop 49 s) }

shaped_clocked : (u : Bank) → Shaped u → Shaped (clocked u)
unfolding clocked passed
shaped_clocked u h = record {
  timers = length-map u.timers timer.clocked ∙ h.timers;
  modules = length-map u.modules (loaded ticks u.timers) ∙ h.modules;
}

shaped_written : (u : Bank) (r : Register) (k v l : ℕ) → Shaped u → Shaped (written u r k v l)
unfolding written
shaped_written u (OfTimer i r) k v l h = record { timers = length-set u.timers i.index _ ∙ h.timers; modules = h.modules }
shaped_written u (OfPwm i r) k v l h = record { timers = h.timers; modules = length-set u.modules i.index _ ∙ h.modules }
shaped_written u IntStatus k v l h = record { timers = h.timers; modules = h.modules }

shaped_zeroed : Shaped zeroed
unfolding zeroed
shaped_zeroed = record { timers = refl; modules = refl }

pub coded : Coded rules Shaped
unfolding rules raise
coded = record {
  decoded = λ s h. shaped_decode s;
  back = decode-encode;
  sized = length-encode;
  write = λ u a v l h. all_good Shaped (after_write u (alias_at a) v l) (register_at a) (λ r. shaped_written u r (alias_at a) v l h);
  feed = λ u i v h. h;
  clock = shaped_clocked;
  raised = λ u h. mask_fits (nat_lt 0 (flags ticks u.timers)) 8 (lit< tt);
  outputs = λ u h. refl;
  reset = λ u h. shaped_zeroed;
}

pub timers_keeps : Keeps timers_model
timers_keeps = keeps_of rules coded

-- a unit has as many as it should
pub shaped_bank : (x : Timers) → Shaped (bank_of x)
shaped_bank x = record { timers = x.sixteen; modules = x.six }

pub sized_state : (x : Timers) → length (state_of x) ≡ timers_model.size
unfolding rules
sized_state x = length-encode (bank_of x) (shaped_bank x)
