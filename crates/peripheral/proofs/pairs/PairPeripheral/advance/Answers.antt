use Rattle.std.proofs.Common.{◌++◌, bit_or, sym, ◌∙◌, ap₂}
use Rattle.peripheral.proofs.Sides.{clocks_pair, raises_pair}
use Rattle.peripheral.proofs.pairs.PairPeripheral.advance.Goals as goal

pub returns-clause-after : goal.returns-clause-after
returns-clause-after g c =
    let x = c.args.self.now.first in
    let y = c.args.self.now.second in
    ap₂ ◌++◌ c.advance-first.ensures.after c.advance-second.ensures.after
    ∙ sym (clocks_pair (g.P.Peripheral.model x) (g.Q.Peripheral.model y) (g.P.Peripheral.keeps x) (g.Q.Peripheral.keeps y) c.args.n
    (g.P.Peripheral.state x) (g.Q.Peripheral.state y) (g.P.Peripheral.sized x) (g.Q.Peripheral.sized y))

pub returns-clause-value : goal.returns-clause-value
returns-clause-value g c =
    let x = c.args.self.now.first in
    let y = c.args.self.now.second in
    ap₂ bit_or c.advance-first.ensures.value c.advance-second.ensures.value
    ∙ sym (raises_pair (g.P.Peripheral.model x) (g.Q.Peripheral.model y) (g.P.Peripheral.keeps x) (g.Q.Peripheral.keeps y) c.args.n
    (g.P.Peripheral.state x) (g.Q.Peripheral.state y) (g.P.Peripheral.sized x) (g.Q.Peripheral.sized y))
