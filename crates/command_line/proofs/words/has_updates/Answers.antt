use Rattle.std.proofs.Common.{◌≡◌, ◌∙◌, ap, Bool, List, Option, codes}
use Rattle.std.specs.Prelude.{is_some}
use Rattle.clap.proofs.WalkLemmas.{raw_values-rows}
use Rattle.clap.specs.Matches.{found_of}
use Rattle.clap.specs.Walk.{Text}
use Rattle.command_line.proofs.words.has_updates.Goals as goal

abbrev are_some : Option (List Text) → Bool
are_some found = is_some found

pub returns-in-Some : goal.returns-in-Some
returns-in-Some c = ap are_some (c.in-Some.ensures ∙ raw_values-rows (found_of c.args.found.now) (codes "update"))

pub returns-in-None : goal.returns-in-None
returns-in-None c = ap are_some (c.in-None.ensures ∙ raw_values-rows (found_of c.args.found.now) (codes "update"))
