-- Refusals and layers by their numbers: what a contract says of a fault. Assumes nothing.
use Rattle.std.specs.Prelude.{ℕ, Ok, Err, Result}
use Rattle.faults.specs.declared.Fault.{Fault}
use Rattle.faults.specs.declared.Layer.{Layer}
use Rattle.faults.specs.declared.Layer.TheVariants.{Register, Bus, Bench, Script, Printer}
use Rattle.faults.specs.declared.Refusal.{Refusal}
use Rattle.faults.specs.declared.Refusal.TheVariants.{TraceFull, Unclaimed, NoRegister, NoInput, LevelsTooHigh, IdTooHigh, NotOnOffer, BadLanes, BridgeStopped, MalformedLine, UnknownVerb, BadField, ListingFull}

abbrev pub refusal_number : Refusal → ℕ
refusal_number TraceFull = 1
refusal_number Unclaimed = 2
refusal_number NoRegister = 3
refusal_number NoInput = 4
refusal_number LevelsTooHigh = 5
refusal_number IdTooHigh = 6
refusal_number NotOnOffer = 7
refusal_number BadLanes = 8
refusal_number BridgeStopped = 9
refusal_number MalformedLine = 10
refusal_number UnknownVerb = 11
refusal_number BadField = 12
refusal_number ListingFull = 13

abbrev pub layer_number : Layer → ℕ
layer_number Register = 1
layer_number Bus = 2
layer_number Bench = 3
layer_number Script = 4
layer_number Printer = 5

-- a fault in numbers
pub record Code : Type 0 where
  pub refusal : ℕ
  pub layer : ℕ
  pub place : ℕ

abbrev pub code_of : Fault → Code
code_of f = record { refusal = refusal_number f.refusal; layer = layer_number f.layer; place = f.place }

-- an answer, with its fault in numbers
abbrev pub told : {A : Type 0} → Result A Fault → Result A Code
told (Ok x) = Ok x
told (Err f) = Err (code_of f)
