use Rattle.std.proofs.Common.{◌≡◌}
use Rattle.ram.specs.Memory.{stored}
use Rattle.ram.proofs.store.Given as goal

abbrev pub invariant-loop-k : goal.invariant-loop-k
invariant-loop-k l = l.bytes ≡ stored l.initial.bytes l.at l.value l.mask l.k
