use Rattle.timers.proofs.Units.{calm_unit}
use Rattle.timers.proofs.unit.TimersPeripheral.quiet.Goals as goal

pub returns-clause-holds : goal.returns-clause-holds
returns-clause-holds c = calm_unit c.args.self.now c.calm.result c.calm.ensures
