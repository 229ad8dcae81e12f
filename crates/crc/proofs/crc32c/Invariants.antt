use Rattle.std.proofs.Common.{◌≡◌, take}
use Rattle.crc.specs.Crc.{no_bytes, updated_by}
use Rattle.crc.proofs.crc32c.Given as goal

-- the register after the bytes so far
abbrev pub invariant-loop-byte : goal.invariant-loop-byte
invariant-loop-byte l = l.crc ≡ updated_by no_bytes (take l.byte-index l.bytes)
