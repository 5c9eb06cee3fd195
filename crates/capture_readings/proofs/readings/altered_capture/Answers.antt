use Rattle.std.proofs.Common.{◌+◌, ◌++◌, List, ℕ, ap, ◌∙◌, append_assoc, rules, take}
use Rattle.capture_readings.specs.Readings.{read_records, read_rest}
use Rattle.capture_readings.proofs.ReadingLemmas.{none_yet, one_more, record_at_front, unaltered}
use Rattle.capture_readings.proofs.readings.altered_capture.Goals as goal

pub records-init : goal.records-init
records-init c =
    none_yet c.args.reading c.args.bytes.now c.in_ok-kept.kept.items c.header_and_rest.result.1.now
    (c.in_ok-kept.ensures.items ∙ c.header_and_rest.ensures.header) c.header_and_rest.ensures.rest

pub records-preserved : goal.records-preserved
records-preserved c =
    one_more c.args.reading c.args.bytes.now c.records.kept.items c.put_record.new.kept.items c.records.skipped c.records.filled
    (c.records.skipped + c.skipped_by-skipped.result) (c.records.filled + c.filled_by-filled.result)
    c.records.rest.now c.split_at.result.0.now c.split_at.result.1.now c.records.invariant
    (record_at_front c.records.rest.now c.split_at.result.0.now c.in-Some.len c.split_at.ensures.front c.split_at.ensures.front_len c.in-Some.ensures.0)
    c.split_at.ensures.by_index.0 c.in_ok-put_record.ensures (ap (λ n. c.records.skipped + n) c.skipped_by-skipped.ensures)
    (ap (λ n. c.records.filled + n) c.filled_by-filled.ensures)

pub returns-clause-unaltered : goal.returns-clause-unaltered
returns-clause-unaltered c =
    unaltered c.args.reading c.args.bytes.now c.records.kept.items _ c.records.skipped c.records.filled c.records.rest.now c.records.invariant
    c.in_ok-left_over.ensures.kept

pub returns-clause-altered : goal.returns-clause-altered
returns-clause-altered c =
    let over = c.records.invariant in
    let reading = c.args.reading in
    let rest = c.records.rest.now in
    record {
      are = record {
        records = over.records;
        rest = rest;
        each = over.each;
        ends = search rules;
        parts = over.parts;
        left_are = c.in_ok-left_over.ensures.kept
            ∙ (ap (λ (front : List ℕ). front ++ read_rest reading rest) over.kept_are
            ∙ append_assoc (take 24 c.args.bytes.now) (read_records reading over.records) (read_rest reading rest));
      };
      skipped_are = over.skipped_are;
      filled_are = over.filled_are;
      left_over_are = c.in_ok-left_over.ensures.left;
    }
