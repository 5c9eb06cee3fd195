use Rattle.std.proofs.Common.{◌≡◌, ℕ, List, Option, Some, ap, ◌∙◌, bytes_eq}
use Rattle.std.specs.List.{find}
use Rattle.std.specs.Option.{unwrap_or}
use Rattle.disasm.specs.declared.head.Head.{Head}
use Rattle.disasm.specs.declared.head.Head.TheVariants.{Exit}
use Rattle.disasm.specs.declared.head.TheConstants.{HEADS}
use Rattle.disasm.specs.Names.{head_name}
use Rattle.disasm.proofs.Heads.{named_again}
use Rattle.disasm.proofs.head.Head.named.Goals as goal

pub returns : goal.returns
returns c = λ head is.
    let found : c.first_named.result ≡ find (λ (h : Head). bytes_eq (head_name h) c.args.name.now) HEADS = c.first_named.ensures in
    let again : c.first_named.result ≡ Some head = found ∙ ap (λ (name : List ℕ). find (λ (h : Head). bytes_eq (head_name h) name) HEADS) is ∙ named_again head in
    c.unwrap_or.ensures ∙ ap (λ (r : Option Head). unwrap_or r Exit) again
