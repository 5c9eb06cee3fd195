use Rattle.guarantees.proofs.PartEvents as lemmas
use Rattle.guarantees.proofs.orders_in_parts_are_lists_in_parts.Goals as goal

pub returns : goal.returns
returns c = lemmas.orders_in_parts
