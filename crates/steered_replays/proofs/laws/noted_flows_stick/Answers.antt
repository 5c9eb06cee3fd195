use Rattle.steered_replays.proofs.NoteLemmas as note
use Rattle.steered_replays.proofs.StickyRuns as run
use Rattle.steered_replays.proofs.laws.noted_flows_stick.Goals as goal

pub returns-clause-found : goal.returns-clause-found
returns-clause-found c = note.notes_are_found

pub returns-clause-stick : goal.returns-clause-stick
returns-clause-stick c = run.noted_flows_stick c.flows_stick.ensures
