use Rattle.std.proofs.Common.{◌≡◌, ◌++◌, map, take, drop}
use Rattle.timers.proofs.unit.update.Given as goal

abbrev pub invariant-loop-item : goal.invariant-loop-item
invariant-loop-item g l =
    (h : _) → ((x y : _) → goal.F-post g l.after x y → y ≡ h x) → l.items ≡ map h (take l.item-index l.initial.items) ++ drop l.item-index l.initial.items
