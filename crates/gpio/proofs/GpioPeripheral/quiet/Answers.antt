use Rattle.std.proofs.Common.{sym, ◌∙◌, arith}
use Rattle.gpio.proofs.Settled.{quiet_still, quiet_none}
use Rattle.gpio.proofs.GpioPeripheral.quiet.Goals as goal

pub returns-then-raised-eq0-clause-holds : goal.returns-then-raised-eq0-clause-holds
returns-then-raised-eq0-clause-holds c = quiet_still c.args.self.now (sym c.raised.ensures.value ∙ c.if-raised-eq0.true) _

pub returns-else-raised-eq0-clause-largest : goal.returns-else-raised-eq0-clause-largest
returns-else-raised-eq0-clause-largest c n h q = omega (arith, quiet_none c.args.self.now n q)
