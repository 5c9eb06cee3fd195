use Rattle.std.proofs.Common.{◌≡◌, ◌∙◌, ap, rules, length}
use Rattle.std.proofs.lemmas.Result.{IfOk-weaker}
use Rattle.ebpf_decode.specs.InstructionEncoding.{total_slots}
use Rattle.xlb_commands.specs.Results.{accepted_text, yes_or_no}
use Rattle.xlb_commands.proofs.report.accepted.Goals as goal

pub returns : goal.returns
returns c =
    let slots_are : c.slots_of-slots.result ≡ total_slots c.args.image.now.code = search rules in
    let maps_are : length c.maps-maps.result.now ≡ length c.args.image.now.maps = search rules in
    let reader_is : c.yes_or_no-reader.result.now ≡ yes_or_no c.args.is_reader = search rules in
    IfOk-weaker c.accepted_line.result _ _
    (λ line printed.
    printed
    ∙ (ap (λ slots. accepted_text slots (length c.maps-maps.result.now) c.yes_or_no-reader.result.now) slots_are
    ∙ (ap (λ maps. accepted_text (total_slots c.args.image.now.code) maps c.yes_or_no-reader.result.now) maps_are
    ∙ ap (accepted_text (total_slots c.args.image.now.code) (length c.args.image.now.maps)) reader_is)))
    c.accepted_line.ensures
