use Rattle.std.proofs.Common.{rules}
use Rattle.xlb_commands.proofs.clashes.report_or_maps_over.Goals as goal

pub returns-clause-report : goal.returns-clause-report
returns-clause-report g c = λ none name second named before same.
    c.over_before_report.ensures.none (search rules) name second named before same

pub returns-clause-maps : goal.returns-clause-maps
returns-clause-maps g c = λ none name second named before same. c.maps_over.ensures.none none name second named before same
