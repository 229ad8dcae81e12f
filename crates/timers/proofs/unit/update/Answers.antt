use Rattle.timers.proofs.Walks.{map_turn, map_end}
use Rattle.timers.proofs.unit.update.Goals as goal

pub loop-item-preserved : goal.loop-item-preserved
loop-item-preserved g c = λ h acts.
    let l = c.loop-item in
    map_turn h c.args.items.now l.items l.item-index c.item-item.result c.after.result c.loop-item-test.true l.auto.items (l.invariant h acts) (acts _ _ c.after.ensures)

pub returns : goal.returns
returns g c = λ h acts.
    let l = c.loop-item in
    map_end h c.args.items.now l.items l.item-index c.loop-item-test.false (l.invariant h acts)
