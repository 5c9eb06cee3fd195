use Rattle.std.proofs.Common.{◌≡◌, List, ℕ, ◌+◌, ◌*◌, subst}
use Rattle.std.specs.Prelude.{IfErr}
use Rattle.clap.specs.Walk.{texts}
use Rattle.map_updates.specs.UpdateWords.{AreMistakenWords}
use Rattle.command_line.specs.Reading.{word_at}
use Rattle.command_line.proofs.words.update_at.Goals as goal

pub returns-clause-mistaken : goal.returns-clause-mistaken
returns-clause-mistaken c =
    let words = texts c.args.words.now in
    let place = c.args.place in
    subst (λ (map : List ℕ). IfErr c.update_of.result (AreMistakenWords map (word_at words (3 * place + 1)) (word_at words (3 * place + 2)))) c.nth_word-map.ensures
    (subst (λ (key : List ℕ). IfErr c.update_of.result (AreMistakenWords c.nth_word-map.result.now key (word_at words (3 * place + 2)))) c.nth_word-key.ensures
    (subst (λ (value : List ℕ). IfErr c.update_of.result (AreMistakenWords c.nth_word-map.result.now c.nth_word-key.result.now value)) c.nth_word-value.ensures
    c.update_of.ensures.mistaken))
