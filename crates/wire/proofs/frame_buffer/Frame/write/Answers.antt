use Rattle.std.proofs.Common.{ℕ, List, arith, ap}
use Rattle.std.proofs.lemmas.Grind.{common_steps}
use Rattle.wire.specs.FrameView.{FrameView}
use Rattle.wire.proofs.FrameLemmas.{drop-written_buffer}
use Rattle.wire.proofs.frame_buffer.Frame.write.Goals as goal

pub returns : goal.returns
returns c =
    rw (← c.self.view_is, c.copy_from_slice.ensures.after, c.deref_mut.ensures.value)
    (let bytes_to_view : List ℕ → FrameView = λ bytes. record { bytes = bytes; headroom = c.self.inside.start } in
    ap bytes_to_view (drop-written_buffer c.self.inside.buffer c.self.inside.start c.args.at c.args.bytes.now (let r = c.requires in grind (arith, common_steps))))
