use Rattle.host_log.specs.declared.Log.{Log}
use Rattle.host_log.specs.Lent.{Appends}
use Rattle.trace.specs.declared.events.Event.{Event}
use Rattle.trace.specs.Events.{output_events}
use Rattle.trace.proofs.view.View.record_words.Given as goal

-- a log that goes on with the events of the words to come has those of all words
abbrev pub invariant-loop-i : goal.invariant-loop-i
invariant-loop-i l =
    let rest = l.i-iterator in
    (end : Log Event) → Appends l.log end (output_events l.cycle rest.count rest.iter.a.rest.now rest.iter.b.rest.now)
    → Appends l.fn.log end (output_events l.cycle 0 l.self.words l.after.words)
