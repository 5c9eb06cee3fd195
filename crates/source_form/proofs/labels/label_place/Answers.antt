use Rattle.std.proofs.Common.{◌∙◌, sym, rules, tests}
use Rattle.std.proofs.lemmas.Iterator.{YieldsList-from_slice}
use Rattle.std.proofs.lemmas.Iterator.Search.{position_from_yields_List}
use Rattle.source_form.specs.SourceText.{is_label_of}
use Rattle.source_form.proofs.Places.{position-map}
use Rattle.source_form.proofs.labels.label_place.Goals as goal

pub returns : goal.returns
returns c = position_from_yields_List (λ s. is_label_of c.args.name.now s.now) _ _ c.position.result c.position.ensures.ran (YieldsList-from_slice c.args.statements.now c.iter.ensures.rest) (λ x b q k. search (rules, tests)) ∙ sym (position-map (λ s. s.now) (is_label_of c.args.name.now) c.args.statements.now)
