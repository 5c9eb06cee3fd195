use Rattle.std.proofs.Common.{ℕ, ◌+◌, subst, ap, ◌∙◌}
use Rattle.wire.specs.CaptureFormat.{RefusesRecord}
use Rattle.wire.proofs.shared.CaptureLemmas.{records_read, AreRecords-short, refused_record}
use Rattle.wire.proofs.capture_reader.capture_of.Goals as goal

pub records-preserved : goal.records-preserved
records-preserved c = record {
  header = c.records.invariant.header;
  records =
      records_read _ c.records.records.items c.records.rest.now c.in-Ok.sent _ (16 + c.len-in-Ok.result) c.records.invariant.records c.in-Ok.ensures.sent c.in-Ok-push.ensures.items
      (ap (λ n. 16 + n) (c.len-in-Ok.ensures ∙ c.in-Ok.sent.bytes.ok.0));
}

pub returns-in-Err-clause-fault : goal.returns-in-Err-clause-fault
returns-in-Err-clause-fault c =
    let P : ℕ → Type 0 = λ n. RefusesRecord c.records.rest.now (n + 1) c.in-Err.fault in
    refused_record c.args.bytes.now c.records.records.items c.records.rest.now c.in-Err.fault c.records.invariant.header c.records.invariant.records
    (subst P (c.len.ensures ∙ c.records.records.ok.0) c.in-Err.ensures.fault)

pub invariant_of-result : goal.invariant_of-result
invariant_of-result c = record { short = AreRecords-short _ c.records.records.items _ c.records.invariant.records }
