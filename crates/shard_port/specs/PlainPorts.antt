-- What a plain port returns, by what contracts see of it.
use Rattle.std.specs.Prelude.{◌≡◌}
use Rattle.semantics.specs.declared.call.Call.{Call}
use Rattle.semantics.specs.declared.call.Reply.{Reply}
use Rattle.map_port.specs.Served.{Maps}
use Rattle.shard_port.specs.PortView.{PortView, IsGivenBy, IsRefusedBy}
use Rattle.shard_port.specs.declared.plain.PlainPort.{PlainPort}

abbrev pub maps_of : PlainPort → Maps
maps_of port = record { maps = port.image.now.maps; shards = port.options.shards }

abbrev pub port_view : PlainPort → PortView
port_view port = record { served = maps_of port; worker = port.worker; shards = port.shards.now }

-- the same port over the same shards
pub record IsSamePort (before after : PlainPort) : Type 0 where
  pub same_shards : after.shards.ghost_name ≡ before.shards.ghost_name
  pub same_maps : after.image.now.maps ≡ before.image.now.maps
  pub same_options : after.options ≡ before.options
  pub same_worker : after.worker ≡ before.worker

pub record PortGives (before : PlainPort) (call : Call) (reply : Reply) (after : PlainPort) : Type 0 where
  pub same_port : IsSamePort before after
  pub given : IsGivenBy (port_view before) call reply (port_view after)

pub record PortRefuses (before : PlainPort) (call : Call) (after : PlainPort) : Type 0 where
  pub same_port : IsSamePort before after
  pub refused : IsRefusedBy (port_view before) call (port_view after)
