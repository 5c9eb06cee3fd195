use Rattle.std.proofs.Common.{List, sym, subst}
use Rattle.ebpf_decode.specs.declared.map.MapDef.{MapDef}
use Rattle.map_updates.specs.Misfits.{AreFitting}
use Rattle.semantics.specs.declared.options.Options.{Options}
use Rattle.semantics.specs.ShardPlan.{recorded}
use Rattle.replay.specs.ExactReplays.{HasBegun}
use Rattle.replay.proofs.TurnBeginnings.{begun_options, has_begun, why_in_turn}
use Rattle.replay.proofs.single_thread.begun.Goals as goal

pub set_all-requires : goal.set_all-requires
set_all-requires c = record { fit = subst (λ (maps : List MapDef). AreFitting maps c.args.updates.now) (sym c.in-Ok.ensures.maps) c.requires.fit }

pub returns-in-Ok-set_all-clause-begun : goal.returns-in-Ok-set_all-clause-begun
returns-in-Ok-set_all-clause-begun c =
    subst (λ (o : Options). HasBegun c.args.verified.now.maps o c.args.updates.now c.set_all.new.port)
    (sym (begun_options (recorded c.args.recording c.args.options) c.args.updates.now c.in-Ok.all c.set_all.new.port c.in-Ok.ensures.options
    c.in-Ok-set_all.ensures.set))
    (has_begun c.args.verified.now.maps (recorded c.args.recording c.args.options) c.args.updates.now c.in-Ok.all c.set_all.new.port
    c.in-Ok.ensures.opened c.in-Ok.ensures.maps c.in-Ok.ensures.options c.in-Ok-set_all.ensures.set)

pub returns-in-Ok-set_all-clause-options : goal.returns-in-Ok-set_all-clause-options
returns-in-Ok-set_all-clause-options c =
    begun_options (recorded c.args.recording c.args.options) c.args.updates.now c.in-Ok.all c.set_all.new.port c.in-Ok.ensures.options
    c.in-Ok-set_all.ensures.set

pub returns-in-Err-set_all-clause-refused : goal.returns-in-Err-set_all-clause-refused
returns-in-Err-set_all-clause-refused c =
    why_in_turn c.args.verified.now.maps (recorded c.args.recording c.args.options) c.args.updates.now c.in-Ok.all c.in-Err-set_all.fault
    c.in-Ok.ensures.opened c.in-Ok.ensures.maps c.in-Ok.ensures.options (c.set_all.new.port, c.in-Err-set_all.ensures.refused)
