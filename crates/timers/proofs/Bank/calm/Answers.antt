use Rattle.std.proofs.Common.{◌≡◌, min, rules, sym, ap, ◌∙◌}
use Rattle.std.proofs.lemmas.Iterator.{YieldsList-from_slice}
use Rattle.std.proofs.lemmas.Iterator.Consumers.{fold_from_yields_List}
use Rattle.std.proofs.lemmas.List.Folds.{fold-map}
use Rattle.timers.specs.Timer as timer
use Rattle.timers.specs.Pwm as pwm
use Rattle.timers.specs.Unit.{calm, least}
use Rattle.timers.proofs.Bank.calm.Goals as goal

pub returns : goal.returns
unfolding calm
returns c =
    let u = c.args.self.now in
    let ticks : c.fold-ticks.result ≡ least timer.calm 4294967295 u.timers
    = fold_from_yields_List _ (λ q t. min q (timer.calm t)) 4294967295 c.fold-ticks.result c.fold-ticks.ensures.ran (YieldsList-from_slice u.timers cc) (λ a x b q k. search rules)
    ∙ sym (fold-map min timer.calm 4294967295 u.timers) in
    fold_from_yields_List _ (λ q m. min q (pwm.calm u.timers m)) c.fold-ticks.result c.fold.result c.fold.ensures.ran (YieldsList-from_slice u.modules cc) (λ a x b q k. search rules)
    ∙ sym (fold-map min (pwm.calm u.timers) c.fold-ticks.result u.modules)
    ∙ ap (λ q. least (pwm.calm u.timers) q u.modules) ticks
