use Rattle.std.proofs.Common.{◌≡◌, ◌+◌, ◌<◌, suc, length, ap, ◌∙◌, subst, arith}
use mathlib.Core.Option.{some}
use lib.ListN.{get_elem?}
use Rattle.atomic_table.proofs.Lists.{at_index}
use Rattle.replay.proofs.TakeLemmas.{removed_count, kept_before}
use Rattle.replay.proofs.threads.last_two.Goals as goal

pub returns-clause-workers : goal.returns-clause-workers
returns-clause-workers c =
    let all = c.args.takes.now.items in
    let here = c.requires.workers.0 in
    let size = c.requires.takes.0 in
    let whole : length all ≡ suc (c.args.workers + 1) = omega (arith, here, size) in
    let first = removed_count all (c.args.workers + 1) whole in
    let one = c.remove-reclaimer.ensures.items in
    let left : length c.remove-reclaimer.new.self.items ≡ suc c.args.workers =
    (let same = ap (λ xs. length xs) one in omega (arith, same, first)) in
    let two = c.remove-controller.ensures.items in (
      ap (λ xs. length xs) two ∙ removed_count c.remove-reclaimer.new.self.items c.args.workers left,
      λ at pass there. c.requires.takes.1 at pass (kept_before all (c.args.workers + 1) at pass whole
          (subst (λ xs. get_elem? xs at ≡ some pass) one (kept_before c.remove-reclaimer.new.self.items c.args.workers at pass left
          (subst (λ xs. get_elem? xs at ≡ some pass) two there)))),
    )

pub returns-clause-controller : goal.returns-clause-controller
returns-clause-controller c =
    let all = c.args.takes.now.items in
    let here = c.requires.workers.0 in
    let size = c.requires.takes.0 in
    let whole : length all ≡ suc (c.args.workers + 1) = omega (arith, here, size) in
    let first = removed_count all (c.args.workers + 1) whole in
    let one = c.remove-reclaimer.ensures.items in
    let within : c.args.workers < length c.remove-reclaimer.new.self.items =
    (let same = ap (λ xs. length xs) one in omega (arith, same, first)) in
    c.requires.takes.1 c.args.workers c.remove-controller.result (kept_before all (c.args.workers + 1) c.args.workers c.remove-controller.result whole
    (subst (λ xs. get_elem? xs c.args.workers ≡ some c.remove-controller.result) one
    (at_index c.remove-reclaimer.new.self.items c.args.workers c.remove-controller.result within c.remove-controller.ensures.value)))

pub returns-clause-reclaimer : goal.returns-clause-reclaimer
returns-clause-reclaimer c =
    let all = c.args.takes.now.items in
    let here = c.requires.workers.0 in
    let size = c.requires.takes.0 in
    let within : c.args.workers + 1 < length all = omega (arith, here, size) in
    c.requires.takes.1 (c.args.workers + 1) c.remove-reclaimer.result
    (at_index all (c.args.workers + 1) c.remove-reclaimer.result within c.remove-reclaimer.ensures.value)
