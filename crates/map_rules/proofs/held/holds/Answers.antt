use Rattle.std.proofs.Common.{◌≡◌, ◌+◌, ◌-◌, reverse, take, arith, sym, ◌∙◌, ap}
use Rattle.std.proofs.lemmas.Bool.Decides.{nat_tests}
use Rattle.semantics.specs.Reclamation.{holds}
use Rattle.map_rules.proofs.NewestLemmas.{own_newest, other_newest}
use Rattle.map_rules.proofs.held.holds.Goals as goal

pub returns-in-Some : goal.returns-in-Some
returns-in-Some g c =
    let entries = g.J.Entries.entries c.args.journal.now in
    let back : c.newer.older - 1 + 1 ≡ c.newer.older = grind (arith, nat_tests, c.newer-test.true) in
    c.in-Some.ensures (holds c.args.worker c.args.cell (reverse (take (c.newer.older - 1) entries)))
    ∙ sym (own_newest c.args.worker c.args.cell (c.newer.older - 1) entries c.entry-entry.result c.entry-entry.ensures (sym c.is_worker.ensures ∙ c.if-is_worker.true))
    ∙ ap (λ n. holds c.args.worker c.args.cell (reverse (take n entries))) back ∙ c.newer.invariant.rest

pub newer-preserved-in_default : goal.newer-preserved-in_default
newer-preserved-in_default g c =
    let entries = g.J.Entries.entries c.args.journal.now in
    let back : c.newer.older - 1 + 1 ≡ c.newer.older = grind (arith, nat_tests, c.newer-test.true) in
    record {
      within = omega (arith, c.newer.invariant.within);
      rest = c.in_default.ensures (holds c.args.worker c.args.cell (reverse (take (c.newer.older - 1) entries)))
          ∙ sym (own_newest c.args.worker c.args.cell (c.newer.older - 1) entries c.entry-entry.result c.entry-entry.ensures (sym c.is_worker.ensures ∙ c.if-is_worker.true))
          ∙ ap (λ n. holds c.args.worker c.args.cell (reverse (take n entries))) back ∙ c.newer.invariant.rest;
    }

pub newer-preserved : goal.newer-preserved
newer-preserved g c =
    let entries = g.J.Entries.entries c.args.journal.now in
    let back : c.newer.older - 1 + 1 ≡ c.newer.older = grind (arith, nat_tests, c.newer-test.true) in
    record {
      within = omega (arith, c.newer.invariant.within);
      rest = sym (other_newest c.args.worker c.args.cell (c.newer.older - 1) entries c.entry-entry.result c.entry-entry.ensures (sym c.is_worker.ensures ∙ c.if-is_worker.false))
          ∙ ap (λ n. holds c.args.worker c.args.cell (reverse (take n entries))) back ∙ c.newer.invariant.rest;
    }
