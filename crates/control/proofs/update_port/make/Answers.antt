use Rattle.std.proofs.Common.{refl, rules}
use Rattle.control.proofs.Serving.{known_update}
use Rattle.control.proofs.update_port.make.Goals as goal

pub put-requires-clause-known : goal.put-requires-clause-known
put-requires-clause-known g c = known_update _ c.requires.size.0 _ _ c.requires.size.1 refl (search rules) (search rules)

pub put-requires-in-Ring-clause-known : goal.put-requires-in-Ring-clause-known
put-requires-in-Ring-clause-known g c = known_update _ c.requires.size.0 _ _ c.requires.size.1 refl (search rules) (search rules)

pub put-requires-in-Backend-clause-known : goal.put-requires-in-Backend-clause-known
put-requires-in-Backend-clause-known g c = known_update _ c.requires.size.0 _ _ c.requires.size.1 refl (search rules) (search rules)

pub put-requires-in-Tunnel-clause-known : goal.put-requires-in-Tunnel-clause-known
put-requires-in-Tunnel-clause-known g c = known_update _ c.requires.size.0 _ _ c.requires.size.1 refl (search rules) (search rules)
