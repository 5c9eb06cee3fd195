use Rattle.std.proofs.Common.{◌≡◌, ◌<◌, ◌≤ℤ◌, pos, Some, to_z, of_z, w64, sym, ap, ◌∙◌, rules, arith}
use Rattle.ebpf_decode.specs.Jumps.{jump_target}
use Rattle.image_shape.specs.Edges.{IsJump}
use Rattle.image_shape.proofs.ReachLemmas.{one_marked, one_target, target_slot}
use Rattle.image_shape.proofs.reach.mark_target.Goals as goal

pub overflow_cast-reached : goal.overflow_cast-reached
overflow_cast-reached c =
    let up : pos 0 ≤ℤ c.in-Some.target = c.requires.not_negative c.in-Some.target (sym c.target.ensures ∙ c.in-Some.is) in
    search rules

pub bounds-reached-target : goal.bounds-reached-target
bounds-reached-target c =
    let range : to_z w64 (of_z w64 c.in-Some.target) ≡ c.in-Some.target = search rules in
    let there = target_slot c.args.slot c.args.insn c.in-Some.target c.requires.not_negative c.requires.targets (sym c.target.ensures ∙ c.in-Some.is) in
    let same : to_z w64 (of_z w64 c.in-Some.target) ≡ pos there.0 = range ∙ there.1 in
    rw same there.2

pub returns-in-Some : goal.returns-in-Some
returns-in-Some c =
    let range : to_z w64 (of_z w64 c.in-Some.target) ≡ c.in-Some.target = search rules in
    let found : jump_target c.args.slot c.args.insn ≡ Some c.in-Some.target = sym c.target.ensures ∙ c.in-Some.is in
    let there = target_slot c.args.slot c.args.insn c.in-Some.target c.requires.not_negative c.requires.targets found in
    let same : to_z w64 (of_z w64 c.in-Some.target) ≡ pos there.0 = range ∙ there.1 in
    let is : jump_target c.args.slot c.args.insn ≡ Some (pos there.0) = found ∙ ap Some there.1 in
    let within : there.0 < 4096 = there.2 in
    rw same (one_marked (IsJump c.args.slot c.args.insn) c.args.reached.now there.0 (omega (arith, c.told-reached)) is (one_target c.args.slot c.args.insn there.0 is))
