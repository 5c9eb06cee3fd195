use Rattle.std.specs.Prelude.{string_bytes}
use Rattle.source_form.proofs.ExactText.{exact_is_source}
use Rattle.source_form.proofs.printing.source.Goals as goal

pub returns-else-eq : goal.returns-else-eq
returns-else-eq c = exact_is_source (string_bytes c.in_ok-exact.exact) c.args.image.now c.in_ok-exact.ensures

pub returns-in-Err : goal.returns-in-Err
returns-in-Err c = exact_is_source (string_bytes c.in_ok-exact.exact) c.args.image.now c.in_ok-exact.ensures
