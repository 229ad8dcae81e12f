-- How many events tell of what changed. Assumes nothing.
use Rattle.std.proofs.Common.{ℕ, ◌+◌, ◌≤◌, List, [], ◌∷◌, length, arith, length-append, length-take}
use Rattle.peripheral.specs.Model.{Model}
use Rattle.trace.specs.declared.events.Event.{Event}
use Rattle.trace.specs.Events.{if_changed, output_events}
use Rattle.board.specs.declared.state.Board.{Board}
use Rattle.machine.specs.Machine.{changes}

changed-length : (x y : ℕ) (e : Event) → length (if_changed x y e) ≤ 1
changed-length x y e = grind arith

outputs_length : (t i : ℕ) (xs ys : List ℕ) → length (output_events t i xs ys) ≤ length xs
outputs_length t i [] ys = omega arith
outputs_length t i (x ∷ xs) [] = omega arith
outputs_length t i (x ∷ xs) (y ∷ ys) =
    omega (arith, changed-length, outputs_length t (i + 1) xs ys, length-append {A = Event})

-- 32 output words, the core word and the offer
pub changes-length : (m : Model) (b : Board) (s : List ℕ) (b' : Board) (s' : List ℕ) → length (changes m b s b' s') ≤ 34
changes-length m b s b' s' = omega (arith, outputs_length, changed-length, length-append {A = Event}, length-take {A = ℕ})
