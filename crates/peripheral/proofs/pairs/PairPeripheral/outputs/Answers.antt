use Rattle.std.proofs.Common.{◌+◌, ◌-◌, min, ◌++◌, length, take, drop, sym, refl, ap, ◌∙◌}
use Rattle.peripheral.proofs.Fills.{filled}
use Rattle.peripheral.proofs.Sides.{outputs_pair}
use Rattle.peripheral.proofs.pairs.PairPeripheral.outputs.Goals as goal

pub returns-clause-words : goal.returns-clause-words
returns-clause-words g c =
    let x = c.args.self.now.first in
    let y = c.args.self.now.second in
    let m = g.P.Peripheral.model x in
    let n = g.Q.Peripheral.model y in
    let s = g.P.Peripheral.state x in
    let t = g.Q.Peripheral.state y in
    let xs = c.args.into.now in
    let i = c.outputs-count in
    let k = c.outputs-more in
    let all = i.result + k.result in
    let rest = take (length i.new.into - i.result) (drop i.result i.new.into) in
    filled (m.outputs s) (n.outputs t) xs i.new.into k.new.into i.result k.result all refl
    (i.ensures.count ∙ ap (min (length xs)) (sym ((g.P.Peripheral.keeps x).outputs s (g.P.Peripheral.sized x)))) i.ensures.words
    (k.ensures.count ∙ ap (min (length rest)) (sym ((g.Q.Peripheral.keeps y).outputs t (g.Q.Peripheral.sized y)))) k.ensures.words
    ∙ ap (λ ws. take all ws ++ drop all xs) (sym (outputs_pair m n s t (g.P.Peripheral.sized x)))
