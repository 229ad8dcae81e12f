-- What calls answer, in numbers. Assumes nothing.
use Rattle.std.specs.Prelude.{ℕ, Some, None, Ok, Err, Option, Result}
use Rattle.faults.specs.declared.Fault.{Fault}
use Rattle.faults.specs.Faults.{Code, code_of}
use Rattle.machine.specs.declared.Answer.{Answer}
use Rattle.machine.specs.declared.Answer.TheVariants.{Done, Word, Reply, Ran}
use Rattle.machine.specs.declared.Stop.{Stop}
use Rattle.machine.specs.declared.Stop.TheVariants.{Whole, TraceFull, LastCycle}

abbrev pub stop_number : Stop → ℕ
stop_number Whole = 0
stop_number TraceFull = 1
stop_number LastCycle = 2

-- An answer: 0 done, 1 a word, 2 a reply of the bridge, 3 a run's clocks and why it ended.
pub record AnswerCode : Type 0 where
  pub kind : ℕ
  pub value : ℕ
  pub stop : ℕ

abbrev pub done_code : AnswerCode
done_code = record { kind = 0; value = 0; stop = 0 }

abbrev pub word_code : ℕ → AnswerCode
word_code w = record { kind = 1; value = w; stop = 0 }

abbrev pub reply_code : ℕ → AnswerCode
reply_code n = record { kind = 2; value = n; stop = 0 }

abbrev pub ran_code : ℕ → ℕ → AnswerCode
ran_code k s = record { kind = 3; value = k; stop = s }

-- a byte, or 256 for none
abbrev pub reply_number : Option ℕ → ℕ
reply_number (Some byte) = byte
reply_number None = 256

abbrev pub answer_code : Answer → AnswerCode
answer_code Done = done_code
answer_code (Word w) = word_code w
answer_code (Reply o) = reply_code (reply_number o)
answer_code (Ran k s) = ran_code k (stop_number s)

-- what a call gives back, its fault in numbers too
abbrev pub answered : Result Answer Fault → Result AnswerCode Code
answered (Ok a) = Ok (answer_code a)
answered (Err f) = Err (code_of f)
