use Rattle.std.proofs.Common.{◌≡◌, ◌≢◌, suc, ◌+◌, ◌-◌, sym, ◌∙◌, arith}
use Rattle.map_cells.specs.IdPlaces.{found}
use Rattle.map_cells.specs.Places.{no_place}
use Rattle.map_cells.proofs.Chains.{step_of}
use Rattle.map_cells.proofs.id_places.place_from.Goals as goal

pub returns-then-link-id : goal.returns-then-link-id
returns-then-link-id c =
    let there : found (c.args.most - c.chain.passed) c.args.links.now c.args.id c.chain.place ≢ no_place = λ none. c.requires.there (sym c.chain.invariant.same ∙ none) in
    sym ((step_of _ c.args.links.now c.args.id c.chain.place c.chain.invariant.within there).here c.if-link-id.true) ∙ c.chain.invariant.same

pub chain-preserved : goal.chain-preserved
chain-preserved c =
    let there : found (c.args.most - c.chain.passed) c.args.links.now c.args.id c.chain.place ≢ no_place = λ none. c.requires.there (sym c.chain.invariant.same ∙ none) in
    let less : c.args.most - c.chain.passed ≡ suc (c.args.most - (c.chain.passed + 1)) = omega (arith, c.chain-test.true) in
    let on = (step_of _ c.args.links.now c.args.id c.chain.place c.chain.invariant.within there).on c.if-link-id.false _ less in
    record { within = on.0; same = on.1 ∙ c.chain.invariant.same }
