use Rattle.std.proofs.Common.{◌≡◌, ◌<◌, ◌≤◌, subst, arith}
use Rattle.actors.proofs.shared.RoundLemmas.{IsPartDone, next_turn, next_part, all_turns, round_done}
use Rattle.actors.proofs.reclaimer.Reclaiming.round.Goals as goal

pub shards-preserved : goal.shards-preserved
shards-preserved g c =
    let within : c.shards.number < g.B.Naming.count = omega (arith, c.shards.auto.number-end, c.shards-test.true, c.shards.invariant.end_is) in
    record {
      end_is = c.shards.invariant.end_is;
      turned = λ rounds are.
          next_turn g.B.Naming.plan g.B.Naming.count rounds c.shards.number c.shards.self c.turn.new.self (c.shards.invariant.turned rounds are) within
          c.turn.ensures.others (c.turn.ensures.here rounds);
      part = next_part g.B.Naming.plan c.shards.number c.args.self.now.deeds c.shards.self c.turn.new.self c.shards.invariant.part c.turn.ensures.did;
    }

pub returns-clause-did : goal.returns-clause-did
returns-clause-did g c =
    let last : c.shards.number ≡ g.B.Naming.count = omega (arith, c.shards.auto.number-end, c.shards-test.false, c.shards.invariant.end_is) in
    let part = subst (λ number. IsPartDone g.B.Naming.plan number c.args.self.now.deeds c.shards.self.deeds) last c.shards.invariant.part in
    record { made = part.made; round = part.asked; deeds_are = part.deeds_are }

pub returns-clause-rounds : goal.returns-clause-rounds
returns-clause-rounds g c = λ rounds are.
    let past : g.B.Naming.count ≤ c.shards.number = omega (arith, c.shards.auto.number-end, c.shards-test.false, c.shards.invariant.end_is) in
    let last : c.shards.number ≡ g.B.Naming.count = omega (arith, c.shards.auto.number-end, c.shards-test.false, c.shards.invariant.end_is) in
    record {
      each = all_turns g.B.Naming.plan g.B.Naming.count rounds c.shards.number c.shards.self past (c.shards.invariant.turned rounds are);
      did = round_done g.B.Naming.plan g.B.Naming.count rounds c.args.self.now.deeds c.shards.self.deeds are.did
          (subst (λ number. IsPartDone g.B.Naming.plan number c.args.self.now.deeds c.shards.self.deeds) last c.shards.invariant.part);
    }
