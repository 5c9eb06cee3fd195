use Rattle.std.proofs.Common.{◌∙◌}
use Rattle.folders.proofs.RecordFronts.{begins_too}
use Rattle.folders.proofs.capture_reader.CaptureReader.keep.Goals as goal

pub returns-clause-added : goal.returns-clause-added
returns-clause-added c =
    let front = c.requires.front in
    let added = c.in_ok-push.ensures.added in
    let begins = begins_too c.args.self.now.unread c.args.head front added.0 added.2 added.3 (added.4 ∙ c.frame.ensures front.sent front.begins) in
    (added.0, begins, c.pass.ensures.behind added.0 begins, added.1)
