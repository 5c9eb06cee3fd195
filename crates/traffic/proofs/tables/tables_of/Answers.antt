use Rattle.std.proofs.Common.{◌+◌, ℕ, List, arith, ap, subst, string_bytes}
use Rattle.std.proofs.lemmas.List.{drop_more}
use Rattle.control.specs.declared.command.Command.{Command}
use Rattle.traffic.specs.TableText.{AreTables}
use Rattle.traffic.proofs.TableLemmas.{all_shown, one_more, some_slots}
use Rattle.traffic.proofs.tables.tables_of.Goals as goal

pub open-requires : goal.open-requires
open-requires c = some_slots c.args.size c.requires

pub lines-preserved : goal.lines-preserved
lines-preserved c =
    let shown = c.in_ok-show.ensures.shown in (
      one_more c.args.size c.lines.command-index c.lines.place c.commands-commands.result.now _ c.lines.controller c.show.new.controller c.lines.maps
          c.show.new.maps (string_bytes c.lines.tables.text) (string_bytes c.show.new.tables.text) shown.0 c.lines.tables.refused.items
          c.show.new.tables.refused.items shown.1
          (drop_more c.commands-commands.result.now c.lines.command-index _ c.lines-test.true) c.lines.invariant.0 c.lines.invariant.1 shown.2 shown.3 shown.4,
      ap (λ (n : ℕ). n + 1) c.lines.invariant.1,
      c.in_ok-show.ensures.serves,
    )

pub returns : goal.returns
returns c =
    subst (λ (s : List Command). AreTables c.args.size s (string_bytes c.lines.tables.text) c.lines.tables.refused.items) c.commands-commands.ensures
    (all_shown c.args.size c.lines.command-index c.commands-commands.result.now c.lines.controller c.lines.maps (string_bytes c.lines.tables.text)
    c.lines.tables.refused.items (omega (arith, c.lines.auto.command-index-end, c.lines-test.false)) c.lines.invariant.0)
