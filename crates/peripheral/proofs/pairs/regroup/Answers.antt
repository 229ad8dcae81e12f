use Rattle.peripheral.proofs.Nesting.{regrouped}
use Rattle.peripheral.proofs.pairs.regroup.Goals as goal

pub returns-clause-same : goal.returns-clause-same
returns-clause-same g c = regrouped (g.P.Peripheral.model c.args.board.first.first) (g.Q.Peripheral.model c.args.board.first.second) (g.R.Peripheral.model c.args.board.second)
