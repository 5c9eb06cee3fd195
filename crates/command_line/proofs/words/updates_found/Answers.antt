use Rattle.std.proofs.Common.{◌≡◌, ◌∙◌, List, ℕ, [], ap, sym, subst, refl, Option, unwrap_or, codes}
use Rattle.std.specs.Prelude.{IfOk, IfErr, Vec}
use Rattle.clap.proofs.WalkLemmas.{raw_values-rows}
use Rattle.clap.specs.Matches.{found_of}
use Rattle.clap.specs.Walk.{Text, texts, rows_of}
use Rattle.map_updates.specs.declared.update.MapUpdate.{MapUpdate}
use Rattle.command_line.specs.Reading.{AreUpdates, IsBadUpdate, words_of}
use Rattle.command_line.proofs.words.updates_found.Goals as goal

abbrev all_words : Option (List Text) → List Text
all_words found = unwrap_or found []

-- no words say no updates
none_said : AreUpdates [] []
none_said = record { count = refl; each = λ place update known. absurd cc }

pub returns-in-Some-clause-read : goal.returns-in-Some-clause-read
returns-in-Some-clause-read c =
    let is : texts c.in-Some.words.now ≡ words_of (codes "update") (rows_of (found_of c.args.found.now)) =
    ap all_words (c.in-Some.ensures ∙ raw_values-rows (found_of c.args.found.now) (codes "update")) in
    subst (λ (words : List Text). IfOk c.updates_of.result (λ updates. AreUpdates words updates.items)) is c.updates_of.ensures.read

pub returns-in-Some-clause-mistaken : goal.returns-in-Some-clause-mistaken
returns-in-Some-clause-mistaken c =
    let is : texts c.in-Some.words.now ≡ words_of (codes "update") (rows_of (found_of c.args.found.now)) =
    ap all_words (c.in-Some.ensures ∙ raw_values-rows (found_of c.args.found.now) (codes "update")) in
    subst (λ (words : List Text). IfErr c.updates_of.result (λ bad. IsBadUpdate words bad.0 bad.1)) is c.updates_of.ensures.mistaken

pub returns-in-None-clause-read : goal.returns-in-None-clause-read
returns-in-None-clause-read c =
    let is : [] ≡ words_of (codes "update") (rows_of (found_of c.args.found.now)) =
    ap all_words (c.in-None.ensures ∙ raw_values-rows (found_of c.args.found.now) (codes "update")) in
    subst (λ (words : List Text). AreUpdates words c.new.result.items) is
    (subst (λ (updates : List MapUpdate). AreUpdates [] updates) (sym c.new.ensures.items) none_said)
