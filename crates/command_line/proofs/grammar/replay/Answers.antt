use Rattle.std.proofs.Common.{◌≡◌, ◌∙◌, ap}
use Rattle.std.proofs.lemmas.Result.{IfOk-weaker}
use Rattle.clap.specs.Simple.{App}
use Rattle.command_line.specs.CommandLine as line
use Rattle.command_line.proofs.grammar.replay.Goals as goal

pub returns-clause-app : goal.returns-clause-app
returns-clause-app c =
    let files = c.in_ok-files.ensures.app ∙ ap (λ (app : App). line.with_files app) c.in_ok-named.ensures.app in
    let shards = c.in_ok-shards.ensures.app ∙ ap (λ (app : App). line.with_shards app) files in
    let tables = c.in_ok-tables.ensures.app ∙ ap (λ (app : App). line.with_tables app) shards in
    let moments = c.in_ok-moments.ensures.app ∙ ap (λ (app : App). line.with_moments app) tables in
    let reading = c.in_ok-reading.ensures.app ∙ ap (λ (app : App). line.with_reading app) moments in
    let parts = c.in_ok-parts.ensures.app ∙ ap (λ (app : App). line.with_parts app) reading in
    IfOk-weaker c.with_limits.result _ _ (λ added adds. adds ∙ ap (λ (app : App). line.with_limits app) parts) c.with_limits.ensures.app
