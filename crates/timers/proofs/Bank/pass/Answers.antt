use Rattle.std.proofs.Common.{rules, ap, ◌∙◌, ◌≡◌, if◌then◌else◌, nat_lt, arith}
use Rattle.peripheral.specs.Model.{steps}
use Rattle.std.proofs.lemmas.Iterator.Adapters.{YieldsList-from_rev_slice}
use Rattle.timers.specs.Timer.{clocked, ticks_within}
use Rattle.timers.specs.Pwm.{loaded}
use Rattle.timers.specs.Unit.{flags, passed, raise}
use Rattle.timers.proofs.Walks.{flags_of_fold}
use Rattle.timers.proofs.Bank.pass.Goals as goal

pub returns-clause-after : goal.returns-clause-after
unfolding passed
returns-clause-after c =
    let u = c.args.self.now in
    let ticked : c.fold-ticked.result ≡ flags (ticks_within c.args.n) u.timers
    = flags_of_fold (ticks_within c.args.n) u.timers c.fold-ticked.ensures.ran (YieldsList-from_rev_slice u.timers cc) (λ a x b q k. search rules) (omega arith) in
    rw (
      c.update.ensures (loaded (ticks_within c.args.n) u.timers) (λ x y k. search rules),
      c.update-2.ensures (steps clocked c.args.n) (λ x y k. search rules),
      ticked,
    )

pub returns-clause-value : goal.returns-clause-value
unfolding raise
returns-clause-value c =
    let u = c.args.self.now in
    c.raised.ensures
    ∙ ap (λ word. if nat_lt 0 word then 8 else 0)
    (flags_of_fold (ticks_within c.args.n) u.timers c.fold-ticked.ensures.ran (YieldsList-from_rev_slice u.timers cc) (λ a x b q k. search rules) (omega arith))
