use Rattle.std.proofs.Common.{◌≡◌, ◌++◌, take, string_bytes}
use Rattle.control.specs.ScriptText.{script_text}
use Rattle.control.proofs.printing.put_lines.Given as goal

abbrev pub invariant-lines : goal.invariant-lines
invariant-lines l = string_bytes l.out ≡ string_bytes l.fn.out ++ script_text (take l.command-index l.commands)
