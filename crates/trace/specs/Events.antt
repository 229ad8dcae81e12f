-- The events of a trace. Assumes nothing.
use Rattle.std.specs.Prelude.{if◌then◌else◌, List, [], ◌∷◌, ◌++◌, ℕ, ◌+◌, ◌==◌}
use Rattle.trace.specs.declared.events.Event.{Event}
use Rattle.trace.specs.declared.events.Kind.{Kind}
use Rattle.trace.specs.declared.events.Kind.TheVariants as kind

-- the letter of each kind, by its code: R W P T A U Z for the calls, O for an output word, Q for the offer
abbrev pub letter_of : Kind → ℕ
letter_of kind.Read = 82
letter_of kind.Write = 87
letter_of kind.Pin = 80
letter_of kind.Trigger = 84
letter_of kind.Acknowledge = 65
letter_of kind.Byte = 85
letter_of kind.Reset = 90
letter_of kind.Output = 79
letter_of kind.Offer = 81

abbrev pub event : ℕ → Kind → ℕ → ℕ → ℕ → ℕ → Event
event t k place value lanes answer = record { cycle = t; kind = k; place = place; value = value; lanes = lanes; answer = answer }

-- an event, if a number is not as it was
abbrev pub if_changed : ℕ → ℕ → Event → List Event
if_changed x y e = if x == y then [] else e ∷ []

-- an event for each output word that is not as it was, from the number i on
abbrev pub output_events : ℕ → ℕ → List ℕ → List ℕ → List Event
output_events t i [] ys = []
output_events t i (x ∷ xs) [] = []
output_events t i (x ∷ xs) (y ∷ ys) = if_changed x y (event t kind.Output i y 0 0) ++ output_events t (i + 1) xs ys
