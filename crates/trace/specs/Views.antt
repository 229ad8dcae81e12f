-- What a host can see of a bench at one moment, and the events of what differs at another. Assumes nothing.
use Rattle.std.specs.Prelude.{List, ◌++◌, ℕ}
use Rattle.trace.specs.declared.events.Event.{Event}
use Rattle.trace.specs.declared.events.Kind.TheVariants as kind
use Rattle.trace.specs.declared.view.View.{View}
use Rattle.trace.specs.Events.{event, if_changed, output_events}

-- The output words that changed, ascending, then the core word as output 32, then the interrupt on offer.
abbrev pub between : ℕ → View → View → List Event
between t v w =
    output_events t 0 v.words w.words
    ++ (if_changed v.core w.core (event t kind.Output 32 w.core 0 0)
    ++ if_changed v.offer w.offer (event t kind.Offer 0 w.offer 0 0))
