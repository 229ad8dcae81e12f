-- What a log holds, and what it is to write to one. Assumes nothing.
use Rattle.std.specs.Prelude.{◌≡◌, List}
use Rattle.host_log.specs.declared.Log.{Log}
use Rattle.host_log.specs.Records.{Held, appended}

abbrev pub held : {T : Type 0} → Log T → Held T
held l = record { slots = l.slots.now; used = l.used }

-- the log holds these records more, as far as there is room, and in the same slots of the host's
pub record Appends {T : Type 0} (old new : Log T) (xs : List T) : Type 0 where
  pub held : held new ≡ appended (held old) xs
  pub lent : new.slots.ghost_name ≡ old.slots.ghost_name
