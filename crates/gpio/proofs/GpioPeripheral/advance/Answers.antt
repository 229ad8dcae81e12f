use Rattle.std.proofs.Common.{arith}
use Rattle.gpio.proofs.Settled.{clocks_some, raises_some}
use Rattle.gpio.proofs.GpioPeripheral.advance.Goals as goal

pub returns-clause-after : goal.returns-clause-after
returns-clause-after c = clocks_some c.args.self.now c.clocked.result c.args.n (omega arith) c.clocked.ensures.value

pub returns-clause-value : goal.returns-clause-value
returns-clause-value c = raises_some c.args.self.now c.args.n c.raised-raised.result (omega arith) c.raised-raised.ensures.value
