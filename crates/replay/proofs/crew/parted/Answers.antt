use Rattle.std.proofs.Common.{◌≡◌, ◌<◌, ◌+◌, ◌∷◌, ◌++◌, [], length, refl, ap, sym, subst, arith}
use Rattle.std.specs.Prelude.{remove}
use Rattle.atomic_table.proofs.Lists.{at_index}
use Rattle.actors.specs.Accounts.{lists_of}
use Rattle.replay.specs.Crews.{IsPart}
use Rattle.semantics.proofs.shared.EachLemmas.{within}
use Rattle.replay.proofs.CrewParts.{ArePartedTo, one_parted}
use Rattle.replay.proofs.crew.parted.Goals as goal

pub workers-preserved : goal.workers-preserved
workers-preserved g c =
    let i = c.workers.invariant in
    let all = c.args.handled.items in
    let left = c.workers.handled.items in
    let done = c.workers._worker in
    let first = c.remove-list.result in
    let test = c.workers-test.true in
    let end = c.workers.auto._worker-end in
    let together = i.parts.together in
    let count = i.count_is in
    let some_left : 0 < length left = omega (arith, test, end, together, count) in
    let is = at_index left 0 first some_left c.remove-list.ensures.value in
    let rest = ap (λ xs. length xs) c.remove-list.ensures.items in
    let shorter : length (remove left 0) + 1 ≡ length left =
    (let len = c.remove-list.ensures.len in let a = c.workers.handled.ok.0 in let b = c.remove-list.new.self.ok.0 in omega (arith, len, a, b, rest, some_left)) in
    let one = one_parted all left done first first.runs c.workers.runs.items c.workers.states.items is refl i.parts shorter in
    let moved = subst (λ l. ArePartedTo all (done + 1) l (c.workers.runs.items ++ first.runs ∷ []) (c.workers.states.items ++ first.state ∷ [])) (sym c.remove-list.ensures.items) one in
    let noted = subst (λ l. ArePartedTo all (done + 1) c.remove-list.new.self.items l (c.workers.states.items ++ first.state ∷ [])) (sym c.push_reserved.ensures.items) moved in
    record {
      count_is = i.count_is;
      parts = subst (λ l. ArePartedTo all (done + 1) c.remove-list.new.self.items c.push_reserved.new.self.items l) (sym c.push_reserved-in-workers.ensures.items) noted;
      runs_room = (let r = i.runs_room in let grown = c.push_reserved.ensures.capacity in omega (arith, r, grown));
      states_room = (let r = i.states_room in let grown = c.push_reserved-in-workers.ensures.capacity in omega (arith, r, grown));
    }

pub returns-clause-parts : goal.returns-clause-parts
returns-clause-parts g c = λ place it there.
    let i = c.workers.invariant in
    let below = within c.args.handled.items place it there in
    let test = c.workers-test.false in
    let end = c.workers.auto._worker-end in
    let count = i.count_is in
    subst (λ n. IsPart (lists_of c.workers.runs.items) c.workers.states.items n it) (omega arith) (i.parts.parts place it there (omega (arith, below, test, end, count)))
