use Rattle.std.proofs.Common.{◌≡◌, ◌∙◌, List, ℕ, sym}
use Rattle.control.specs.ScriptText.{IsScriptText, script_text}
use Rattle.control.proofs.parsing.round_trip.Goals as goal

pub returns-clause-same : goal.returns-clause-same
returns-clause-same c = c.parse_script.ensures.only c.args.script.now (rw (c.as_bytes.ensures.value, c.in_ok-printed.ensures) c.script_is_of_its_text.ensures)

pub returns-clause-accepts : goal.returns-clause-accepts
returns-clause-accepts c = c.parse_script.ensures.accepts c.args.script.now (rw (c.as_bytes.ensures.value, c.in_ok-printed.ensures) c.script_is_of_its_text.ensures)
