use Rattle.std.proofs.Common.{sym}
use Rattle.lru_maps.proofs.Uses.{last_is_least, got_number}
use Rattle.lru_maps.proofs.recency.Recency.oldest.Goals as goal

pub returns-in-Some-clause-least : goal.returns-in-Some-clause-least
returns-in-Some-clause-least c = λ last by_use. last_is_least last c.args.self.now.cache.entries (c.in-Some.number.now, c.in-Some.field-0-1.now) by_use (sym c.in-Some.ensures)

pub returns-in-Some-clause-last : goal.returns-in-Some-clause-last
returns-in-Some-clause-last c = got_number c.args.self.now.cache.entries _ (c.in-Some.number.now, c.in-Some.field-0-1.now) c.in-Some.ensures
