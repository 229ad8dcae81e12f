-- A log: slots, of which the first hold records. Assumes nothing.
use Rattle.std.specs.Prelude.{if◌then◌else◌, List, ℕ, ◌+◌, nat_lt, length, slice_set, fold}

-- how many of so many slots are used after a push: one more, where one is free
abbrev pub count : ℕ → ℕ → ℕ
count slots used = if nat_lt used slots then used + 1 else used

pub record Held (T : Type 0) : Type 0 where
  pub slots : List T
  pub used : ℕ

-- A record more. A full log stays as it is: to set a slot past the end changes nothing.
abbrev pub pushed : {T : Type 0} → Held T → T → Held T
pushed h x = record { slots = slice_set h.slots h.used x; used = count (length h.slots) h.used }

-- several, one after the other
abbrev pub appended : {T : Type 0} → Held T → List T → Held T
appended = fold pushed
