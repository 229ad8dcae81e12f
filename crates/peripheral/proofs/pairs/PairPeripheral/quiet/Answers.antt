use Rattle.peripheral.proofs.Sides.{quiet_pair}
use Rattle.peripheral.proofs.pairs.PairPeripheral.quiet.Goals as goal

pub returns-clause-holds : goal.returns-clause-holds
returns-clause-holds g c =
    let x = c.args.self.now.first in
    let y = c.args.self.now.second in
    rw c.min.ensures
    (quiet_pair (g.P.Peripheral.model x) (g.Q.Peripheral.model y) (g.P.Peripheral.keeps x) (g.Q.Peripheral.keeps y)
    (g.P.Peripheral.state x) (g.Q.Peripheral.state y) (g.P.Peripheral.sized x) (g.Q.Peripheral.sized y)
    c.quiet.result c.quiet-2.result c.quiet.ensures.holds c.quiet-2.ensures.holds)
