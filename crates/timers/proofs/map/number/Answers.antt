use Rattle.std.proofs.Common.{refl}
use Rattle.timers.proofs.Numbers.{numbered_some}
use Rattle.timers.proofs.map.number.Goals as goal

pub returns-then-index : goal.returns-then-index
returns-then-index g c = numbered_some g.row.LAST c.args.word _ refl
