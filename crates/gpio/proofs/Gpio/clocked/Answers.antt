use Rattle.gpio.proofs.Noticed.{flags}
use Rattle.gpio.proofs.Gpio.clocked.Goals as goal

pub returns-clause-flags : goal.returns-clause-flags
returns-clause-flags c = flags c.args.self c.flag.ensures.some c.flag-2.ensures.some c.flag.ensures.value c.flag-2.ensures.value
