use Rattle.std.proofs.Common.{◌∙◌, List, ℕ, ap, subst}
use Rattle.control.specs.declared.command.Command.{Command}
use Rattle.traffic.specs.Applied.{AreWordsAfter}
use Rattle.page.specs.Shares.{shares_text}
use Rattle.page.proofs.shares.shares_told.Goals as goal

pub returns : goal.returns
returns c = record {
  start = c.in_ok-start.start.items;
  last = c.in_ok-last.last.items;
  start_is =
      subst (λ (it : List Command). AreWordsAfter 251 it c.in_ok-start.start.items) (c.deref.ensures.value ∙ c.in_ok-firsts.ensures)
      c.in_ok-start.ensures;
  last_is = c.in_ok-last.ensures;
  text_is = c.in_ok-text.ensures
      ∙ (ap (λ (it : List ℕ). shares_text c.args.commands.now it c.deref-3.result.now) c.deref-2.ensures.value
      ∙ ap (λ (it : List ℕ). shares_text c.args.commands.now c.in_ok-start.start.items it) c.deref-3.ensures.value);
}
