use Rattle.std.proofs.Common.{◌≡◌, ℕ, List, ◌++◌, ◌≤◌, length, take, drop, arith, ap, refl, ◌∙◌}
use Rattle.std.proofs.lemmas.Grind.{common_steps}
use Rattle.wire.specs.FrameView.{FrameView}
use Rattle.wire.proofs.FrameLemmas.{behind_front}
use Rattle.wire.proofs.frame_buffer.Frame.refill.Goals as goal

pub returns-clause-frame : goal.returns-clause-frame
returns-clause-frame c =
    let bytes_to_view : List ℕ → FrameView = λ bytes. record { bytes = bytes; headroom = 256 } in
    let held : c.extend_from_slice.new.self.items ≡ take 256 c.reserve.new.self.items ++ c.args.bytes.now =
    c.extend_from_slice.ensures.items ∙ (rw (c.if-is_err-2.ensures.negation, c.truncate.ensures.items) refl) in
    let fits : 256 ≤ length c.reserve.new.self.items =
    rw (c.reserve.ensures.items) (let whole = c.self.invariant.2 in grind (arith, common_steps)) in
    ap bytes_to_view (ap (drop 256) held ∙ behind_front 256 c.args.bytes.now c.reserve.new.self.items fits)
