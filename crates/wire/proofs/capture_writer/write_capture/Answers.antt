use Rattle.std.proofs.Common.{◌∙◌, arith}
use Rattle.wire.proofs.DeviceLemmas.{front_of_first}
use Rattle.wire.proofs.CaptureWriting.{written_record, front_of_record, written_all, reads_back}
use Rattle.wire.specs.CaptureFormat.{header_bytes, records_bytes}
use Rattle.wire.proofs.capture_writer.write_capture.Goals as goal

pub returns-in-Err-clause-front : goal.returns-in-Err-clause-front
returns-in-Err-clause-front g c = front_of_first _ _ header_bytes (records_bytes c.args.records.now) c.in-Err.ensures.front

pub returns-in-Err-clause-reads_back : goal.returns-in-Err-clause-reads_back
returns-in-Err-clause-reads_back g c = reads_back c.args.records.now

pub returns-in-Err-write_record-clause-front : goal.returns-in-Err-write_record-clause-front
returns-in-Err-write_record-clause-front g c =
    front_of_record _ _ _ c.args.records.now c.records.sent-index c.sent-item.result c.records-test.true c.sent-item.is c.records.invariant.held c.in-Err-write_record.ensures.front

pub returns-in-Err-write_record-clause-reads_back : goal.returns-in-Err-write_record-clause-reads_back
returns-in-Err-write_record-clause-reads_back g c = reads_back c.args.records.now

pub records-preserved : goal.records-preserved
records-preserved g c = record {
  held = written_record _ _ _ c.args.records.now c.records.sent-index c.sent-item.result c.records-test.true c.sent-item.is c.records.invariant.held c.in-Ok-write_record.ensures.written;
  steady = c.in-Ok-write_record.ensures.steady ∙ c.records.invariant.steady;
}

pub returns-clause-written : goal.returns-clause-written
returns-clause-written g c = written_all _ _ c.args.records.now c.records.sent-index (omega arith) c.records.invariant.held

pub returns-clause-reads_back : goal.returns-clause-reads_back
returns-clause-reads_back g c = reads_back c.args.records.now
