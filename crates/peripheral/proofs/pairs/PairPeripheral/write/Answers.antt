use Rattle.std.proofs.Common.{sym, ◌∙◌}
use Rattle.peripheral.proofs.Sides.{done_second}
use Rattle.peripheral.proofs.pairs.PairPeripheral.write.Goals as goal

pub returns-else-claims-clause-value : goal.returns-else-claims-clause-value
returns-else-claims-clause-value g c =
    let x = c.args.self.now.first in
    let y = c.args.self.now.second in
    c.write-else-claims.ensures.value
    ∙ sym (done_second (g.P.Peripheral.model x) (g.Q.Peripheral.model y) (g.P.Peripheral.state x) (g.Q.Peripheral.state y) (g.P.Peripheral.sized x)
    c.args.addr (sym c.if-claims.ensures) c.args.value c.args.lanes.mask)
