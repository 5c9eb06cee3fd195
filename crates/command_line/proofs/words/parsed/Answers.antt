use Rattle.std.proofs.Common.{◌≡◌, ◌∙◌, ap, ap₂, sym, subst, refl, true, List, map, Option, Some, None, option_map, unwrap_or, []}
use Rattle.std.specs.Prelude.{Box}
use Rattle.std.specs.Box.{box_value}
use Rattle.std.proofs.lemmas.Result.{err_from_is_err_and}
use Rattle.clap.specs.Kinds.{HasKind}
use Rattle.clap.specs.Faults.{fault_of, is_simple_and_free}
use Rattle.clap.specs.Matches.{found_of}
use Rattle.clap.specs.Simple.{App, is_simple, subcommand_of, subcommand_rows}
use Rattle.clap.specs.Walk.{Row, Text, rows_of}
use Rattle.clap.specs.declared.parser.matches.SubCommand.{SubCommand}
use Rattle.clap.specs.declared.parser.matches.ArgMatches.TheViews.{out-ArgMatches, out-SubCommand}
use Rattle.command_line.specs.CommandLine.{program}
use Rattle.command_line.proofs.Named.{names_command}
use Rattle.command_line.proofs.words.parsed.Goals as goal

abbrev no_text : Option Text → Text
no_text o = unwrap_or o []

abbrev no_rows : Option (List Row) → List Row
no_rows o = unwrap_or o []

-- a subcommand is known by its name and its rows
found_rows : {Z : Type 0} (o : Option (Box SubCommand Z)) (name : Text) (rows : List Row)
    → Some name ≡ option_map (λ b. (out-SubCommand (box_value b)).name.now) o
    → Some rows ≡ option_map (λ (p : Text × List Row). p.1) (subcommand_rows o)
    → subcommand_rows o ≡ Some (name, rows)
found_rows None name rows named found = absurd cc
found_rows (Some b) name rows named found =
    ap₂ (λ (n : Text) (r : List Row). Some (n, r)) (sym (ap no_text named)) (sym (ap no_rows found))

is_simple_program : is_simple_and_free program ≡ true
is_simple_program = refl

pub returns-clause-found : goal.returns-clause-found
returns-clause-found g c =
    let words = map g.S.AsStr.text c.args.words.now in
    let read = c.in_ok-matches.ensures.matches (ap is_simple c.in_ok-command.ensures.app) in
    let found = found_rows (out-ArgMatches c.in_ok-matches.matches).subcommand c.in-Some.name.now (rows_of (found_of c.in-Some.found.now))
    c.in-Some.ensures.name c.in-Some.ensures.rows in (
      c.in-Some.name.now,
      rows_of (found_of c.in-Some.found.now),
      ap (λ (a : App). subcommand_of a words) (sym c.in_ok-command.ensures.app) ∙ (sym read.1 ∙ found),
      c.asked_of.ensures,
    )

pub asked_of-requires : goal.asked_of-requires
asked_of-requires g c =
    let words = map g.S.AsStr.text c.args.words.now in
    let read = c.in_ok-matches.ensures.matches (ap is_simple c.in_ok-command.ensures.app) in
    let found = found_rows (out-ArgMatches c.in_ok-matches.matches).subcommand c.in-Some.name.now (rows_of (found_of c.in-Some.found.now))
    c.in-Some.ensures.name c.in-Some.ensures.rows in
    names_command words c.in-Some.name.now (rows_of (found_of c.in-Some.found.now))
    (ap (λ (a : App). fault_of a words) (sym c.in_ok-command.ensures.app) ∙ c.in_ok-matches.ensures.kinds (ap is_simple_and_free c.in_ok-command.ensures.app))
    (ap (λ (a : App). subcommand_of a words) (sym c.in_ok-command.ensures.app) ∙ (sym read.1 ∙ found))

pub returns-in_err-matches-clause-kinds : goal.returns-in_err-matches-clause-kinds
returns-in_err-matches-clause-kinds g c =
    let p = err_from_is_err_and c.from_residual-in_err-matches.result c.from_residual-in_err-matches.ensures.1 in
    rw (p.1, p.2)
    (subst (λ (a : App). HasKind (fault_of a (map g.S.AsStr.text c.args.words.now)) c.in_err-matches.field-0.0) c.in_ok-command.ensures.app
    (c.in_err-matches.ensures.kinds (ap is_simple_and_free c.in_ok-command.ensures.app)))

pub returns-clause-kinds : goal.returns-clause-kinds
returns-clause-kinds g c =
    ap (λ (a : App). fault_of a (map g.S.AsStr.text c.args.words.now)) (sym c.in_ok-command.ensures.app)
    ∙ c.in_ok-matches.ensures.kinds (ap is_simple_and_free c.in_ok-command.ensures.app)
