use Rattle.host_log.proofs.Appending.{appends_more}
use Rattle.trace.proofs.Notes.{noted}
use Rattle.trace.proofs.view.View.record.Goals as goal

pub returns : goal.returns
returns c =
    let core = noted c.args.self.now.core c.new.ensures c.note.ensures in
    let offer = noted c.args.self.now.offer c.new-2.ensures c.note-2.ensures in
    appends_more c.record_words.ensures (appends_more core offer)
