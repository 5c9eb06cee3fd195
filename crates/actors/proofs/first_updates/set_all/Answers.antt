use Rattle.std.proofs.Common.{rules, ◌≡◌, ◌<◌, length, pos, ℤ, List, sym, ap, ◌∙◌, subst, arith, to_z, of_z, w32}
use Rattle.std.specs.Prelude.{FitsSigned}
use Rattle.std.proofs.lemmas.Int.{to_z-of_z}
use Rattle.ebpf_decode.specs.declared.map.MapDef.{MapDef}
use Rattle.map_updates.specs.Misfits.{AreFitting}
use Rattle.actors.specs.FirstUpdates.{update_bytes}
use Rattle.actors.proofs.shared.SetLemmas.{update_fits, set_step, is_next}
use Rattle.actors.proofs.first_updates.set_all.Goals as goal

pub update-requires : goal.update-requires
update-requires g c =
    let update = c.index-updates-place.result in
    let within : c.updates.place < length c.args.updates.now = (let below = c.updates-test.true in omega (arith, below)) in
    update_fits (g.U.UpdatePort.serves c.updates.port) c.args.updates.now c.updates.place update within c.index-updates-place.is
    (subst (λ (maps : List MapDef). AreFitting maps c.args.updates.now) (sym c.updates.invariant.serves) c.requires.fit)

pub returns-then-answer-ne0-clause-refused : goal.returns-then-answer-ne0-clause-refused
returns-then-answer-ne0-clause-refused g c =
    let update = c.index-updates-place.result in
    let within : c.updates.place < length c.args.updates.now = (let below = c.updates-test.true in omega (arith, below)) in
    let fits : FitsSigned w32 c.in-Ok.answer = search rules in
    let same : to_z w32 (of_z w32 c.in-Ok.answer) ≡ c.in-Ok.answer = to_z-of_z w32 c.in-Ok.answer fits in
    record {
      update = update;
      middle = c.updates.port;
      next = is_next g.U.UpdatePort.gives c.args.port.now c.updates.port c.args.updates.now c.updates.place update within (sym c.index-updates-place.is)
          c.updates.invariant.set;
      answered = subst (λ (answer : ℤ). g.U.UpdatePort.gives c.updates.port (update_bytes update) answer c.update.new.self) (sym same) c.in-Ok.ensures.gives;
      no_success = λ zero. c.if-answer-ne0.true (ap (of_z w32) (sym same ∙ zero));
    }

pub returns-in-Err-clause-refused : goal.returns-in-Err-clause-refused
returns-in-Err-clause-refused g c =
    let update = c.index-updates-place.result in
    let within : c.updates.place < length c.args.updates.now = (let below = c.updates-test.true in omega (arith, below)) in
    record {
      update = update;
      middle = c.updates.port;
      next = is_next g.U.UpdatePort.gives c.args.port.now c.updates.port c.args.updates.now c.updates.place update within (sym c.index-updates-place.is)
          c.updates.invariant.set;
      full = c.in-Err.ensures.refuses;
    }

pub updates-preserved : goal.updates-preserved
updates-preserved g c =
    let update = c.index-updates-place.result in
    let within : c.updates.place < length c.args.updates.now = (let below = c.updates-test.true in omega (arith, below)) in
    let fits : FitsSigned w32 c.in-Ok.answer = search rules in
    let zero : c.in-Ok.answer ≡ pos 0 = sym (to_z-of_z w32 c.in-Ok.answer fits) ∙ ap (to_z w32) c.if-answer-ne0.false in
    let gave = subst (λ (answer : ℤ). g.U.UpdatePort.gives c.updates.port (update_bytes update) answer c.update.new.self) zero c.in-Ok.ensures.gives in
    record {
      set = set_step g.U.UpdatePort.gives c.args.port.now c.updates.port c.update.new.self c.args.updates.now c.updates.place update within
          c.updates.invariant.set (subst (λ one. g.U.UpdatePort.gives c.updates.port (update_bytes one) (pos 0) c.update.new.self) c.index-updates-place.is gave);
      serves = g.met.U.UpdatePort.keeps c.updates.port c.update.new.self (update_bytes update) (pos 0) gave ∙ c.updates.invariant.serves;
    }
