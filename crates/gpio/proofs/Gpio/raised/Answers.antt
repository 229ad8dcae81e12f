use Rattle.std.proofs.Common.{rules}
use Rattle.gpio.proofs.Noticed.{raises}
use Rattle.gpio.proofs.Gpio.raised.Goals as goal

pub returns-then-second-clause-raise : goal.returns-then-second-clause-raise
returns-then-second-clause-raise c = raises c.args.self c.changed-first.ensures.some c.changed-second.ensures.some 128 (search rules)
