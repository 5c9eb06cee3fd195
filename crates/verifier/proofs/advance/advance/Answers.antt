use Rattle.std.proofs.Common.{rules}
use Rattle.verifier.specs.Pending.{known_entry}
use Rattle.verifier.specs.Stops.{BreaksRule, stops_at_rule}
use Rattle.verifier.proofs.advance.advance.Goals as goal

pub returns-in-Err-clause-stopped : goal.returns-in-Err-clause-stopped
returns-in-Err-clause-stopped c =
    let broken : BreaksRule c.args.maps.now c.args.slot c.args.insn (known_entry c.args.entry.now) c.in-Err.why = search rules in
    stops_at_rule c.in-Err.why broken c.of_rule.ensures
