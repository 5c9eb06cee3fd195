use Rattle.std.proofs.Common.{◌∙◌, ℕ, List, ap, map, string_bytes}
use Rattle.std.proofs.lemmas.Result.{IfOk-from_err}
use Rattle.control.specs.declared.command.Command.{Command}
use Rattle.page.specs.Named.{listed_keys, named_keys}
use Rattle.page.specs.Reading.{keys_of}
use Rattle.page.proofs.PageLemmas.{same_page}
use Rattle.page.proofs.whole.page_of.Goals as goal

pub returns-in_err-moments : goal.returns-in_err-moments
returns-in_err-moments c = IfOk-from_err c.from_residual-in_err-moments.result _ c.from_residual-in_err-moments.ensures.0

pub returns-in_err-shares : goal.returns-in_err-shares
returns-in_err-shares c = IfOk-from_err c.from_residual-in_err-shares.result _ c.from_residual-in_err-shares.ensures.0

pub returns : goal.returns
returns c =
    let listed_is = c.in_ok-listed.ensures
    ∙ ap (λ (it : List Command). listed_keys it (keys_of (map (λ row. row.now) c.args.rows.now))) (c.deref.ensures.value ∙ c.in_ok-later.ensures) in
    record {
      shares = string_bytes c.in_ok-shares.shares;
      are_told = c.in_ok-shares.ensures;
      text_is =
          same_page _ _ _ _ _ _ _ _ _ _ _ _ _ _ _ c.in_ok-text.ensures (c.deref-6.ensures.value ∙ c.in_ok-later.ensures)
          (c.named_keys-named.ensures ∙ ap (λ (it : List ℕ). named_keys it) (c.deref-2.ensures.value ∙ listed_is))
          (c.deref-5.ensures.value ∙ listed_is) c.as_str-shares.ensures.value c.earliest-first.ensures c.latest-last.ensures
          (c.deref-3.ensures.value ∙ c.in_ok-moments.ensures) (c.deref-4.ensures.value ∙ c.in_ok-moments.ensures)
          (c.deref-7.ensures.value ∙ c.in_ok-moments.ensures);
    }
