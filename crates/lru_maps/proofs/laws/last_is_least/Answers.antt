use Rattle.lru_maps.proofs.shared.ByUse.{victim_is_least}
use Rattle.lru_maps.proofs.laws.last_is_least.Goals as goal

pub returns : goal.returns
returns c = λ history present entries key id before last. victim_is_least history present entries before key id last
