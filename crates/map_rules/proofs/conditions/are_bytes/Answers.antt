use Rattle.std.proofs.Common.{◌<◌, arith, sym}
use Rattle.std.proofs.lemmas.List.Elements.{All-from_get_or}
use Rattle.semantics.proofs.shared.ConditionLemmas.{bytes_test}
use Rattle.map_rules.proofs.conditions.are_bytes.Goals as goal

pub returns : goal.returns
returns c = sym (bytes_test c.args.bytes.now (All-from_get_or (λ byte. byte < 256) c.args.bytes.now 0 (λ i within. omega (arith, c.type_inv.bytes i))))
