use Rattle.std.proofs.Common.{List, ℕ, ap}
use Rattle.std.proofs.lemmas.List.{drop-set-add}
use Rattle.wire.specs.FrameView.{FrameView}
use Rattle.wire.proofs.frame_buffer.Frame.set.Goals as goal

pub returns : goal.returns
returns c =
    rw (← c.self.view_is)
    (let bytes_to_view : List ℕ → FrameView = λ bytes. record { bytes = bytes; headroom = c.self.inside.start } in
    ap bytes_to_view (drop-set-add c.self.inside.start c.self.inside.buffer.items c.args.at c.args.byte))
