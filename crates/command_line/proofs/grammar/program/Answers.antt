use Rattle.std.proofs.Common.{◌≡◌, ◌∙◌, ap, ap₂, Bool, true, false, ◌||◌}
use Rattle.std.proofs.lemmas.Result.{IfOk-weaker}
use Rattle.clap.specs.Simple.{App, Shape, app_of, app_of_fields, on_top, with_subcommand}
use Rattle.clap.specs.declared.builder.command.Command.{Command}
use Rattle.clap.specs.declared.builder.command.Command.TheOpen.{Command-F}
use Rattle.clap.specs.declared.builder.command.Command.TheViews.{out-Command}
use Rattle.command_line.specs.CommandLine.{program_name}
use Rattle.command_line.proofs.grammar.program.Goals as goal

abbrev with_a_version : App → App
with_a_version = on_top (λ s. record s { has_version = true })

abbrev with_a_command : App → App
with_a_command = on_top (λ s. record s { subcommand_required = true })

abbrev has_globals : Command-F Command → Bool
has_globals f = f.has_globals

top_is : (c : goal.After-subcommand-13) → app_of c.subcommand_required-top.result ≡ program_name
top_is c =
    let bin : app_of c.in_ok-bin_name.field-0 ≡ app_of c.new.result = ap app_of_fields c.in_ok-bin_name.ensures.0 in
    let about : app_of c.about.result ≡ app_of c.in_ok-bin_name.field-0 = ap app_of_fields c.about.ensures in
    let version : app_of c.version.result ≡ with_a_version (app_of c.about.result) = ap app_of_fields c.version.ensures in
    let after : app_of c.after_help.result ≡ app_of c.version.result = ap app_of_fields c.after_help.ensures in
    let needs : app_of c.subcommand_required-top.result ≡ with_a_command (app_of c.after_help.result) = ap app_of_fields c.subcommand_required-top.ensures in
    needs ∙ ap with_a_command (after ∙ (version ∙ ap with_a_version (about ∙ (bin ∙ c.new.ensures.app))))

top_is_local : (c : goal.After-subcommand-13) → (out-Command c.subcommand_required-top.result).has_globals ≡ false
top_is_local c =
    ap has_globals c.subcommand_required-top.ensures
    ∙ (ap has_globals c.after_help.ensures
    ∙ (ap has_globals c.version.ensures
    ∙ (ap has_globals c.about.ensures ∙ (ap has_globals c.in_ok-bin_name.ensures.0 ∙ c.new.ensures.local))))

abbrev top_of : App → Shape
top_of a = a.top

pub returns-clause-app : goal.returns-clause-app
returns-clause-app c =
    let first = c.in_ok-subcommand.ensures.shape c.in_ok-check.ensures.local
    ∙ ap₂ with_subcommand (top_is c) (ap top_of c.in_ok-check.ensures.app) in
    let second = c.in_ok-subcommand-2.ensures.shape c.in_ok-run.ensures.local
    ∙ ap₂ with_subcommand first (ap top_of c.in_ok-run.ensures.app) in
    let third = c.in_ok-subcommand-3.ensures.shape c.in_ok-disasm.ensures.local
    ∙ ap₂ with_subcommand second (ap top_of c.in_ok-disasm.ensures.app) in
    let fourth = c.in_ok-subcommand-4.ensures.shape c.in_ok-asm.ensures.local
    ∙ ap₂ with_subcommand third (ap top_of c.in_ok-asm.ensures.app) in
    let fifth = c.in_ok-subcommand-5.ensures.shape c.in_ok-audit.ensures.local
    ∙ ap₂ with_subcommand fourth (ap top_of c.in_ok-audit.ensures.app) in
    let sixth = c.in_ok-subcommand-6.ensures.shape c.in_ok-explain.ensures.local
    ∙ ap₂ with_subcommand fifth (ap top_of c.in_ok-explain.ensures.app) in
    let seventh = c.in_ok-subcommand-7.ensures.shape c.in_ok-replay.ensures.local
    ∙ ap₂ with_subcommand sixth (ap top_of c.in_ok-replay.ensures.app) in
    let eighth = c.in_ok-subcommand-8.ensures.shape c.in_ok-shipped.ensures.local
    ∙ ap₂ with_subcommand seventh (ap top_of c.in_ok-shipped.ensures.app) in
    let ninth = c.in_ok-subcommand-9.ensures.shape c.in_ok-table.ensures.local
    ∙ ap₂ with_subcommand eighth (ap top_of c.in_ok-table.ensures.app) in
    let tenth = c.in_ok-subcommand-10.ensures.shape c.in_ok-script.ensures.local
    ∙ ap₂ with_subcommand ninth (ap top_of c.in_ok-script.ensures.app) in
    let eleventh = c.in_ok-subcommand-11.ensures.shape c.in_ok-compare.ensures.local
    ∙ ap₂ with_subcommand tenth (ap top_of c.in_ok-compare.ensures.app) in
    let twelfth = c.in_ok-subcommand-12.ensures.shape c.in_ok-looking_back.ensures.local
    ∙ ap₂ with_subcommand eleventh (ap top_of c.in_ok-looking_back.ensures.app) in
    IfOk-weaker c.subcommand-13.result _ _
    (λ command adds. adds.shape c.in_ok-looking_back-2.ensures.local
    ∙ ap₂ with_subcommand twelfth (ap top_of c.in_ok-looking_back-2.ensures.app))
    c.subcommand-13.ensures

pub returns-clause-local : goal.returns-clause-local
returns-clause-local c =
    let first = c.in_ok-subcommand.ensures.globals ∙ ap₂ (◌||◌) (top_is_local c) c.in_ok-check.ensures.local in
    let second = c.in_ok-subcommand-2.ensures.globals ∙ ap₂ (◌||◌) first c.in_ok-run.ensures.local in
    let third = c.in_ok-subcommand-3.ensures.globals ∙ ap₂ (◌||◌) second c.in_ok-disasm.ensures.local in
    let fourth = c.in_ok-subcommand-4.ensures.globals ∙ ap₂ (◌||◌) third c.in_ok-asm.ensures.local in
    let fifth = c.in_ok-subcommand-5.ensures.globals ∙ ap₂ (◌||◌) fourth c.in_ok-audit.ensures.local in
    let sixth = c.in_ok-subcommand-6.ensures.globals ∙ ap₂ (◌||◌) fifth c.in_ok-explain.ensures.local in
    let seventh = c.in_ok-subcommand-7.ensures.globals ∙ ap₂ (◌||◌) sixth c.in_ok-replay.ensures.local in
    let eighth = c.in_ok-subcommand-8.ensures.globals ∙ ap₂ (◌||◌) seventh c.in_ok-shipped.ensures.local in
    let ninth = c.in_ok-subcommand-9.ensures.globals ∙ ap₂ (◌||◌) eighth c.in_ok-table.ensures.local in
    let tenth = c.in_ok-subcommand-10.ensures.globals ∙ ap₂ (◌||◌) ninth c.in_ok-script.ensures.local in
    let eleventh = c.in_ok-subcommand-11.ensures.globals ∙ ap₂ (◌||◌) tenth c.in_ok-compare.ensures.local in
    let twelfth = c.in_ok-subcommand-12.ensures.globals ∙ ap₂ (◌||◌) eleventh c.in_ok-looking_back.ensures.local in
    IfOk-weaker c.subcommand-13.result _ _
    (λ command adds. adds.globals ∙ ap₂ (◌||◌) twelfth c.in_ok-looking_back-2.ensures.local)
    c.subcommand-13.ensures
