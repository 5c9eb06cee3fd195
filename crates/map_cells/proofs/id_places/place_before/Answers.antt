use Rattle.std.proofs.Common.{◌≡◌, ◌≢◌, suc, ◌+◌, ◌-◌, sym, ◌∙◌, refl, arith, eq-eqb}
use Rattle.std.proofs.lemmas.List.{get_or_default as any-default}
use Rattle.map_cells.specs.IdPlaces.{found, link_at, place_before}
use Rattle.map_cells.specs.Places.{no_place}
use Rattle.map_cells.proofs.Chains.{step_of, before_here, before_on}
use Rattle.map_cells.proofs.id_places.place_before.Goals as goal

pub bounds-links-next : goal.bounds-links-next
bounds-links-next c =
    let there : found (c.args.most - c.chain.passed) c.args.links.now c.args.id c.chain.before ≢ no_place = λ none. c.requires.there (sym c.chain.invariant.there ∙ none) in
    let less : c.args.most - c.chain.passed ≡ suc (c.args.most - (c.chain.passed + 1)) = omega (arith, c.chain-test.true) in
    let on = (step_of _ c.args.links.now c.args.id c.chain.before c.chain.invariant.within there).on c.chain.invariant.behind _ less in
    (step_of _ c.args.links.now c.args.id _ on.0 (λ none. there (sym on.1 ∙ none))).within

pub returns-then-links-next : goal.returns-then-links-next
returns-then-links-next c =
    let less : c.args.most - c.chain.passed ≡ suc (c.args.most - (c.chain.passed + 1)) = omega (arith, c.chain-test.true) in
    let same = rw less at c.chain.invariant.same in
    sym (before_here (c.args.most - (c.chain.passed + 1)) c.args.links.now c.args.id c.chain.before c.if-links-next.true) ∙ same

pub chain-preserved : goal.chain-preserved
chain-preserved c =
    let there : found (c.args.most - c.chain.passed) c.args.links.now c.args.id c.chain.before ≢ no_place = λ none. c.requires.there (sym c.chain.invariant.there ∙ none) in
    let less : c.args.most - c.chain.passed ≡ suc (c.args.most - (c.chain.passed + 1)) = omega (arith, c.chain-test.true) in
    let on = (step_of _ c.args.links.now c.args.id c.chain.before c.chain.invariant.within there).on c.chain.invariant.behind _ less in
    let same = rw less at c.chain.invariant.same in
    record {
      within = on.0;
      behind = c.if-links-next.false;
      there = on.1 ∙ c.chain.invariant.there;
      same = sym (before_on (c.args.most - (c.chain.passed + 1)) c.args.links.now c.args.id c.chain.before c.if-links-next.false) ∙ same;
    }
