-- The events of changed output words, one word after the other. Assumes nothing.
use Rattle.std.proofs.Common.{◌≡◌, ℕ, ◌⊎◌, inl, inr, List, [], ◌∷◌, refl, subst, ap}
use Rattle.host_log.specs.declared.Log.{Log}
use Rattle.host_log.specs.Lent.{Appends}
use Rattle.trace.specs.declared.events.Event.{Event}
use Rattle.trace.specs.Events.{if_changed, output_events}

-- where the words of either view are spent there are no more events
pub spent : (t i : ℕ) (xs ys : List ℕ) → (xs ≡ []) ⊎ (ys ≡ []) → output_events t i xs ys ≡ []
spent t i xs ys (inl e) = ap (λ zs. output_events t i zs ys) e
spent t i [] ys (inr e) = refl
spent t i (x ∷ xs) ys (inr e) = ap (output_events t i (x ∷ xs)) e

-- what was noted of an event, where the event is known
pub noted : {l m : Log Event} (x : ℕ) {d e : Event} → d ≡ e → Appends l m (if_changed x d.value d) → Appends l m (if_changed x e.value e)
noted {l = l} {m = m} x same a = subst (λ (e : Event). Appends l m (if_changed x e.value e)) same a
