use Rattle.std.proofs.Common.{ℕ, List, subst}
use Rattle.std.proofs.lemmas.Result.{IfErr-weaker}
use Rattle.control.specs.ScriptReading.{ExplainsScript}
use Rattle.xlb_commands.specs.Refused.{no_script}
use Rattle.xlb_commands.proofs.replays.script_file.Goals as goal

pub returns-clause-refused : goal.returns-clause-refused
returns-clause-refused g c =
    IfErr-weaker c.parsed.result _ _
    (λ refusal why.
    no_script c.in_ok-bytes.bytes.items why.0 c.in_ok-bytes.ensures.bytes
    (subst (λ (text : List ℕ). ExplainsScript text why.0) c.deref.ensures.value why.1) why.2)
    c.parsed.ensures.refused
