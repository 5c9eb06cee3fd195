use Rattle.std.proofs.Common.{◌+◌, ◌∷◌, [], length, length-append, ap, sym, ◌∙◌, subst, arith}
use Rattle.semantics.specs.Each.{Each}
use Rattle.actors.specs.declared.worker.Working.{Working}
use Rattle.actors.specs.RunsOverShards.{IsNewAt}
use Rattle.semantics.proofs.shared.EachLemmas.{each_push}
use Rattle.replay.proofs.setting.new_workers.Goals as goal

pub workers-preserved : goal.workers-preserved
workers-preserved g c =
    let i = c.workers.invariant in
    let one : Working g.row.B.Denot = record { pass = c.in-Ok.pass; replies = 0; frame = c.in_ok-frame.frame } in
    let is : IsNewAt c.workers.worker one = record { who = c.in-Ok.ensures.who; nothing = c.in-Ok.ensures.nothing; idle = c.in-Ok.ensures.idle } in
    record {
      counted = ap (λ xs. length xs) c.push_reserved.ensures.items ∙ length-append c.workers.all.items (one ∷ []) ∙ ap (λ n. n + 1) i.counted;
      passes = subst (λ xs. Each IsNewAt 0 xs) (sym c.push_reserved.ensures.items) (each_push IsNewAt c.workers.all.items c.workers.worker one i.counted i.passes is);
      room = (let r = i.room in let grown = c.push_reserved.ensures.capacity in omega (arith, r, grown));
    }
