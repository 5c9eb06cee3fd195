use Rattle.std.proofs.Common.{take}
use Rattle.conntrack.specs.SteeringMaps.{AreSteeringMaps}
use Rattle.control.specs.MapUpdates.{AreMade}
use Rattle.control.specs.RingChanges.{slot_updates}
use Rattle.control.proofs.sending.make_slots.Given as goal

abbrev pub invariant-slots : goal.invariant-slots
invariant-slots g l = AreSteeringMaps l.size (g.U.UpdatePort.serves l.port) × AreMade g.U.UpdatePort.gives l.fn.port (slot_updates (take l.slot-index l.slots)) l.port
