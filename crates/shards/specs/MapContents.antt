-- What a map holds: each key that is there, with its value in the key's shard, in the order of the keys.
use Rattle.std.specs.Prelude.{◌≡◌, ℕ, ◌+◌, ◌*◌, ◌<◌, List, length, slice_get, Option, Some, None}
use Rattle.ebpf_decode.specs.declared.map.MapDef.{MapDef}
use Rattle.semantics.specs.declared.options.Options.{Options}
use Rattle.semantics.specs.Program.{shard_of_key}
use Rattle.semantics.specs.declared.plan.ShardPlan.{ShardPlan}
use Rattle.semantics.specs.ShardPlan.{plan_at}
use Rattle.shard_core.specs.JournaledShard.{JournaledShard, state_of}
use Rattle.shard_core.specs.Listing.{value_of_key, AreContents}

-- the plan is one of a shard of the map, of this part of several
pub record IsPlanOfPart (definition : MapDef) (parts part : ℕ) (plan : ShardPlan) : Type 0 where
  pub same_definition : plan.definition ≡ definition
  pub same_part : plan.part ≡ part
  pub same_parts : plan.parts ≡ parts

-- the shards at the place of a map are its parts
abbrev pub HasParts : MapDef → ℕ → ℕ → List JournaledShard → Type 0
HasParts definition map parts shards =
    (part : ℕ) (shard : JournaledShard) → part < parts → slice_get shards (map * parts + part) ≡ Some shard →
    IsPlanOfPart definition parts part shard.plan

-- the shards are those of these maps, whatever was called on them
pub record HavePlans (maps : List MapDef) (options : Options) (shards : List JournaledShard) : Type 0 where
  pub count : length shards ≡ length maps * options.shards
  pub planned : (number : ℕ) (shard : JournaledShard) → slice_get shards number ≡ Some shard → plan_at maps options number ≡ Some shard.plan

abbrev pub value_in_shard : Option JournaledShard → List ℕ → Option (List ℕ)
value_in_shard (Some shard) key = value_of_key shard.plan (state_of shard) key
value_in_shard None key = None

-- the value that a key has in its shard
abbrev pub value_in_map : MapDef → ℕ → List JournaledShard → ℕ → List ℕ → Option (List ℕ)
value_in_map definition parts shards map key = value_in_shard (slice_get shards (shard_of_key map definition.kind parts key)) key

-- all that the map at a place holds
pub record AreContentsOfMap (maps : List MapDef) (options : Options) (shards : List JournaledShard) (map : ℕ)
    (entries : List (List ℕ × List ℕ)) : Type 0 where
  pub definition : MapDef
  pub known : slice_get maps map ≡ Some definition
  pub all : AreContents definition.kind (value_in_map definition options.shards shards map) entries
