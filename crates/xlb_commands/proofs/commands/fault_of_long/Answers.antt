use Rattle.std.proofs.Common.{◌∙◌, ℕ, List, ap, take}
use Rattle.xlb_commands.proofs.LongImages.{front_of_long, fault_of_front, no_image_in_front}
use Rattle.xlb_commands.proofs.commands.fault_of_long.Goals as goal

pub returns : goal.returns
returns c = λ bytes front.
    let n = c.shown_of_long.result in
    let shown = c.shown_of_long.ensures in
    let long = front_of_long bytes c.args.front.now n front c.requires shown.least shown.most shown.whole in
    fault_of_front bytes _ n c.in-Err.fault long.0 (ap (λ (kept : List ℕ). take n kept) c.deref.ensures.value ∙ long.1) c.in-Err.ensures.fault c.in-Err.ensures.asked

pub returns-in_default : goal.returns-in_default
returns-in_default c = λ bytes front.
    let n = c.shown_of_long.result in
    let shown = c.shown_of_long.ensures in
    let long = front_of_long bytes c.args.front.now n front c.requires shown.least shown.most shown.whole in
    absurd (no_image_in_front bytes _ n _ long.0 (ap (λ (kept : List ℕ). take n kept) c.deref.ensures.value ∙ long.1) c.in_default.ensures.found)
