use Rattle.std.proofs.Common.{◌≡◌, ◌≤ℤ◌, pos, to_z, of_z, w64, sym, ◌∙◌, rules}
use Rattle.verifier.proofs.Distances.{target_slot}
use Rattle.verifier.proofs.advance.jump.Goals as goal

pub overflow_cast-target : goal.overflow_cast-target
overflow_cast-target c =
    let up : pos 0 ≤ℤ c.in-Some.target = c.requires.not_negative c.in-Some.target (sym c.target.ensures ∙ c.in-Some.is) in
    search rules

pub returns-in_ok-bring : goal.returns-in_ok-bring
returns-in_ok-bring c other =
    let range : to_z w64 (of_z w64 c.in-Some.target) ≡ c.in-Some.target = search rules in
    let there = target_slot c.args.slot c.args.insn c.in-Some.target c.requires.not_negative (sym c.target.ensures ∙ c.in-Some.is) in
    let same : to_z w64 (of_z w64 c.in-Some.target) ≡ pos there.0 = range ∙ there.1 in
    rw (sym (there.2 other)) (rw same at (c.in_ok-bring.ensures other))
