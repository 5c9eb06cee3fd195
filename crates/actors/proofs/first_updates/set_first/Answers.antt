use Rattle.std.proofs.Common.{List, sym, ap, ◌∙◌, subst}
use Rattle.ebpf_decode.specs.declared.map.MapDef.{MapDef}
use Rattle.map_updates.specs.Misfits.{AreFitting}
use Rattle.semantics.specs.declared.options.Options.{Options}
use Rattle.shards.specs.Passes.{PassView}
use Rattle.actors.specs.Commands.{HasSet}
use Rattle.actors.specs.SharedUpdates.{UpdatesView}
use Rattle.actors.specs.UpdateFaults.{IsWhyByPass}
use Rattle.actors.proofs.shared.Effects.{GivesCounted, RefusesUncounted, counted_within}
use Rattle.actors.proofs.shared.SetLemmas.{why_within}
use Rattle.actors.proofs.shared.PortUpdates.{port_set, port_refused, same_left}
use Rattle.actors.proofs.first_updates.set_first.Goals as goal

pub set_all-done-requires : goal.set_all-done-requires
set_all-done-requires g c = record {
  fit = subst (λ (maps : List MapDef). AreFitting maps c.args.updates.now) (sym (ap (λ (port : UpdatesView). port.maps) c.over.ensures)) c.requires.fit;
}

pub returns-in-Ok-clause-set : goal.returns-in-Ok-clause-set
returns-in-Ok-clause-set g c =
    let is = port_set g.B.Naming.plan (λ gated. gated.port) (λ gated. gated.tally.who) (λ gated. gated.tally.count) c.args.shards.now.maps c.args.shards.now.options
    c.args.updates.now c.args.pass _ c.set_all-done.new.port c.requires.unused c.requires.who c.over.ensures c.in-Ok.ensures.set in
    subst (λ (pass : PassView). HasSet c.args.shards.now.maps c.args.shards.now.options c.args.updates.now pass) (sym c.finish-pass.ensures)
    (subst (λ (maps : List MapDef). HasSet maps c.args.shards.now.options c.args.updates.now c.set_all-done.new.port.port.pass) is.maps_are
    (subst (λ (options : Options). HasSet c.set_all-done.new.port.port.maps options c.args.updates.now c.set_all-done.new.port.port.pass) is.options_are is.set))

pub returns-in-Ok-clause-who : goal.returns-in-Ok-clause-who
returns-in-Ok-clause-who g c =
    ap (λ (pass : PassView). pass.who) c.finish-pass.ensures
    ∙ (port_set g.B.Naming.plan (λ gated. gated.port) (λ gated. gated.tally.who) (λ gated. gated.tally.count) c.args.shards.now.maps c.args.shards.now.options
    c.args.updates.now c.args.pass _ c.set_all-done.new.port c.requires.unused c.requires.who c.over.ensures c.in-Ok.ensures.set).who

pub returns-in-Err-clause-refused : goal.returns-in-Err-clause-refused
returns-in-Err-clause-refused g c =
    let within = why_within g.B.Naming.plan (λ gated. gated.port) (GivesCounted g.B.Naming.plan (λ gated. gated.port) (λ gated. gated.tally.who) (λ gated. gated.tally.count))
    (RefusesUncounted g.B.Naming.plan (λ gated. gated.port) (λ gated. gated.tally.who) (λ gated. gated.tally.count))
    (counted_within g.B.Naming.plan (λ gated. gated.port) (λ gated. gated.tally.who) (λ gated. gated.tally.count)) c.args.updates.now _ c.set_all-done.new.port c.in-Err.fault
    c.in-Err.ensures.refused in
    let same = same_left g.B.Naming.plan c.args.updates.now _ c.set_all-done.new.port.port c.in-Err.fault within in
    let maps_are = same.maps ∙ ap (λ (port : UpdatesView). port.maps) c.over.ensures in
    let options_are = same.options ∙ ap (λ (port : UpdatesView). port.options) c.over.ensures in
    subst (λ (pass : PassView). IsWhyByPass g.B.Naming.plan c.args.shards.now.maps c.args.shards.now.options c.args.pass pass c.args.updates.now c.in-Err.fault)
    (sym c.finish-pass.ensures)
    (port_refused g.B.Naming.plan (λ gated. gated.port) (λ gated. gated.tally.who) (λ gated. gated.tally.count) c.args.shards.now.maps c.args.shards.now.options
    c.args.updates.now c.args.pass _ c.set_all-done.new.port c.in-Err.fault c.over.ensures
    (λ i. record { maps = maps_are i; options = options_are i; pass = c.set_all-done.new.port.port.pass }) c.in-Err.ensures.refused)

pub returns-in-Err-clause-still : goal.returns-in-Err-clause-still
returns-in-Err-clause-still g c =
    let within = why_within g.B.Naming.plan (λ gated. gated.port) (GivesCounted g.B.Naming.plan (λ gated. gated.port) (λ gated. gated.tally.who) (λ gated. gated.tally.count))
    (RefusesUncounted g.B.Naming.plan (λ gated. gated.port) (λ gated. gated.tally.who) (λ gated. gated.tally.count))
    (counted_within g.B.Naming.plan (λ gated. gated.port) (λ gated. gated.tally.who) (λ gated. gated.tally.count)) c.args.updates.now _ c.set_all-done.new.port c.in-Err.fault
    c.in-Err.ensures.refused in
    ap (λ (pass : PassView). pass.who) c.finish-pass.ensures ∙ (same_left g.B.Naming.plan c.args.updates.now _ c.set_all-done.new.port.port c.in-Err.fault within).who
    ∙ ap (λ (port : UpdatesView). port.pass.who) c.over.ensures ∙ c.requires.who
