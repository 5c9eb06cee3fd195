use Rattle.std.proofs.Common.{ℕ, List, Bor, map, string_bytes, subst}
use Rattle.control.specs.declared.command.Command.{Command}
use Rattle.page.specs.Page.{IsPageOf}
use Rattle.page.proofs.whole.whole_page.Goals as goal

pub returns-clause-page : goal.returns-clause-page
returns-clause-page c =
    let now : Bor (List ℕ) → List ℕ = λ row. row.now in
    let text : List ℕ = string_bytes c.in_ok-text.text in
    record {
      rows = map now c.in_ok-rows.rows.items;
      is_gapless = c.in_ok-rows.ensures.rows;
      is_page =
          subst (λ (it : List Command). IsPageOf (map now c.in_ok-rows.rows.items) it text) c.commands.ensures
          (subst (λ (it : List (Bor (List ℕ))). IsPageOf (map now it) c.commands.result.now text) c.deref.ensures.value c.in_ok-text.ensures);
    }
