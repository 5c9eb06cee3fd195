use Rattle.std.proofs.Common.{◌∙◌}
use Rattle.clap.proofs.WalkLemmas.{one_text-rows}
use Rattle.clap.specs.Matches.{found_of}
use Rattle.command_line.proofs.words.switch.Goals as goal

pub returns : goal.returns
returns c =
    let same = one_text-rows (found_of c.args.found.now) c.args.id.now in
    ((λ on. c.get_flag.ensures.value (same ∙ on)), (λ off. c.get_flag.ensures.other (same ∙ off)))
