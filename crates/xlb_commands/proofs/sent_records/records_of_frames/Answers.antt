use Rattle.std.proofs.Common.{◌≡◌, ◌∙◌, ◌+◌, ◌<◌, ◌++◌, ◌∷◌, [], ℕ, List, ap, append-nil, get_or, length, sym, take}
use Rattle.std.proofs.lemmas.List.{take_more}
use Rattle.wire.specs.CaptureFormat.{record_bytes, records_bytes}
use Rattle.wire.specs.declared.records.Sent.{Sent}
use Rattle.xlb_commands.proofs.RecordBytes.{records_bytes-append}
use Rattle.xlb_commands.proofs.sent_records.records_of_frames.Goals as goal

-- one more record
one_more : (sents : List Sent) (i : ℕ) (sent : Sent) → i < length sents → sent ≡ get_or sents i sent
    → records_bytes (take (i + 1) sents) ≡ records_bytes (take i sents) ++ record_bytes sent
one_more sents i sent within is =
    ap records_bytes (take_more sents i sent within)
    ∙ (records_bytes-append (take i sents) (get_or sents i sent ∷ [])
    ∙ ap (λ (bytes : List ℕ). records_bytes (take i sents) ++ bytes) (append-nil (record_bytes (get_or sents i sent)) ∙ ap record_bytes (sym is)))

pub frames-preserved : goal.frames-preserved
frames-preserved c =
    c.in_ok-put_record.ensures
    ∙ (ap (λ (bytes : List ℕ). bytes ++ record_bytes c.sent-item.result) c.frames.invariant
    ∙ sym (one_more c.args.frames.now c.frames.sent-index c.sent-item.result c.frames-test.true c.sent-item.is))
