use Rattle.std.proofs.Common.{◌≡◌, ◌∙◌, ap, refl, [], Option, Some, None, option_map, unwrap_or}
use Rattle.std.specs.Borrow.{Bor}
use Rattle.clap.proofs.WalkLemmas.{first_value-rows}
use Rattle.clap.specs.Matches.{found_of}
use Rattle.clap.specs.Walk.{Text, first_of, rows_of}
use Rattle.command_line.proofs.words.word.Goals as goal

-- the text of a word that is there, or of the empty one
read_word : (o : Option (Bor Text)) (d r : Bor Text) (t : Option Text) → r ≡ unwrap_or o d → d.now ≡ [] → option_map (λ s. s.now) o ≡ t
    → r.now ≡ unwrap_or t []
read_word o d r t is empty read = ap (λ (s : Bor Text). s.now) is ∙ (go o ∙ ap (λ (u : Option Text). unwrap_or u []) read)
  where
    go : (o : Option (Bor Text)) → (unwrap_or o d).now ≡ unwrap_or (option_map (λ (s : Bor Text). s.now) o) []
    go None = empty
    go (Some s) = refl

pub returns : goal.returns
returns c =
    read_word c.get_str.result _ c.unwrap_or.result (first_of c.args.id.now (rows_of (found_of c.args.found.now))) c.unwrap_or.ensures refl
    (c.get_str.ensures ∙ first_value-rows (found_of c.args.found.now) c.args.id.now)
