use Rattle.std.proofs.Common.{◌≡◌}
use Rattle.std.specs.Io.KnownBytes.{append_known}
use Rattle.wire.specs.Device.{AppendsFront}
use Rattle.wire.specs.CaptureFormat.{record_head_bytes}
use Rattle.wire.proofs.DeviceLemmas.{on_err, on_ok_by, on_err_by}
use Rattle.wire.proofs.CaptureWriting.{head_is, front_of_head, written_frame, front_of_frame}
use Rattle.wire.proofs.capture_writer.write_record.Goals as goal

pub returns-in_err-write_all-clause-front : goal.returns-in_err-write_all-clause-front
returns-in_err-write_all-clause-front g c =
    let is_head : c.put_head.new.head ≡ record_head_bytes c.args.sent.now = head_is c.args.sent.now _ c.len.result c.put_head.ensures c.len.ensures in
    on_err _ c.from_residual.result
    (front_of_head (g.K.Sink.held c.args.sink.now) (g.K.Sink.held c.write_all.new.sink) c.args.sent.now c.put_head.new.head is_head c.in_err-write_all.ensures.front)

pub returns-clause-written : goal.returns-clause-written
returns-clause-written g c =
    let is_head : c.put_head.new.head ≡ record_head_bytes c.args.sent.now = head_is c.args.sent.now _ c.len.result c.put_head.ensures c.len.ensures in
    on_ok_by (g.K.Sink.held c.write_all-2.new.sink ≡ append_known (g.K.Sink.held c.write_all.new.sink) c.deref.result.now) _ c.write_all-2.result
    (written_frame (g.K.Sink.held c.args.sink.now) (g.K.Sink.held c.write_all.new.sink) (g.K.Sink.held c.write_all-2.new.sink) c.args.sent.now c.put_head.new.head c.deref.result.now is_head c.deref.ensures.value c.in_ok-write_all.ensures.written)
    c.write_all-2.ensures.written

pub returns-clause-front : goal.returns-clause-front
returns-clause-front g c =
    let is_head : c.put_head.new.head ≡ record_head_bytes c.args.sent.now = head_is c.args.sent.now _ c.len.result c.put_head.ensures c.len.ensures in
    on_err_by (AppendsFront (g.K.Sink.held c.write_all.new.sink) (g.K.Sink.held c.write_all-2.new.sink) c.deref.result.now) _ c.write_all-2.result
    (front_of_frame (g.K.Sink.held c.args.sink.now) (g.K.Sink.held c.write_all.new.sink) (g.K.Sink.held c.write_all-2.new.sink) c.args.sent.now c.put_head.new.head c.deref.result.now is_head c.deref.ensures.value c.in_ok-write_all.ensures.written)
    c.write_all-2.ensures.front
