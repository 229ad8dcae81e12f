use Rattle.std.proofs.Common.{None, refl}
use Rattle.std.proofs.lemmas.Slice.Zip.{either_empty_from_Zip}
use Rattle.host_log.proofs.Appending.{appends_none, appends_more}
use Rattle.trace.proofs.Notes.{noted, spent}
use Rattle.trace.proofs.view.View.record_words.Goals as goal

pub loop-i-preserved : goal.loop-i-preserved
loop-i-preserved c = λ end rest.
    let s = c.in-Some.ensures.steps in
    let first = noted c.in-Some.before.now c.new.ensures c.note.ensures in
    c.loop-i.invariant end (rw (s.0.0, s.0.1, ← s.1) (appends_more first (rw (s.2, ← s.1) at rest)))

pub returns : goal.returns
returns c =
    let rest = c.loop-i.i-iterator in
    let empty = either_empty_from_Zip rest.iter c.next.new.self.iter None refl c.in-None.ensures.steps.0 in
    c.loop-i.invariant c.loop-i.log (rw (spent c.args.cycle rest.count _ _ empty) (appends_none c.loop-i.log))
