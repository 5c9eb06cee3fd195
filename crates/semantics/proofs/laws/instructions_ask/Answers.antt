use Rattle.semantics.proofs.TraceRowLemmas.{stores_ask, atomics_ask, short_atomics_ask, helpers_ask, addresses_ask}
use Rattle.semantics.proofs.laws.instructions_ask.Goals as goal

pub returns-clause-stores : goal.returns-clause-stores
returns-clause-stores c = stores_ask

pub returns-clause-atomics : goal.returns-clause-atomics
returns-clause-atomics c = atomics_ask

pub returns-clause-short_atomics : goal.returns-clause-short_atomics
returns-clause-short_atomics c = short_atomics_ask

pub returns-clause-helpers : goal.returns-clause-helpers
returns-clause-helpers c = helpers_ask

pub returns-clause-addresses : goal.returns-clause-addresses
returns-clause-addresses c = addresses_ask
