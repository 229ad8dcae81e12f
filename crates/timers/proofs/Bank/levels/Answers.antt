use Rattle.std.proofs.Common.{rules, arith}
use Rattle.std.proofs.lemmas.Iterator.Adapters.{YieldsList-from_rev_slice}
use Rattle.timers.specs.Pwm.{high}
use Rattle.timers.specs.Unit.{output}
use Rattle.timers.proofs.Walks.{flags_of_fold}
use Rattle.timers.proofs.Bank.levels.Goals as goal

pub returns : goal.returns
unfolding output
returns c = let u = c.args.self.now in flags_of_fold (high u.timers) u.modules c.fold.ensures.ran (YieldsList-from_rev_slice u.modules cc) (λ a x b q k. search rules) (omega arith)
