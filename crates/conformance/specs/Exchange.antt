-- A read and then a write of a whole word at one address. Assumes nothing.
use Rattle.std.specs.Prelude.{ℕ, List, Ok, Err, Result}
use Rattle.peripheral.specs.Model.{Model}
use Rattle.peripheral.specs.Bus.{Code, read_at, write_at, kept}

-- the word that was read, where both pass; otherwise the first fault
abbrev pub both : Result ℕ Code → Result (List ℕ) Code → Result ℕ Code
both (Ok w) (Ok t) = Ok w
both (Ok w) (Err c) = Err c
both (Err c) t = Err c

-- a read that is refused keeps the write from being made
abbrev pub after : List ℕ → Result ℕ Code → Result (List ℕ) Code → List ℕ
after s (Ok w) t = kept s t
after s (Err c) t = s

abbrev pub exchange_answer : Model → List ℕ → ℕ → ℕ → Result ℕ Code
exchange_answer m s a v = both (read_at m s a) (write_at m s a v 15)

abbrev pub exchange_state : Model → List ℕ → ℕ → ℕ → List ℕ
exchange_state m s a v = after s (read_at m s a) (write_at m s a v 15)
