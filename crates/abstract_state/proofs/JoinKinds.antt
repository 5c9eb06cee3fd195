-- The joint kind represents what either kind represents.
use Rattle.std.proofs.Common.{◌≡◌, ℕ, ◌+◌, ◌≤◌, Bool, true, false, if◌then◌else◌, ◌==◌, ◌&&◌, min, refl, arith}
use Rattle.std.proofs.lemmas.Bool.{eqb-true, and_parts}
use Rattle.semantics.specs.RegisterValue.{RegisterValue}
use Rattle.abstract_scalar.specs.declared.interval.Interval.{Interval}
use Rattle.abstract_scalar.proofs.shared.Soundness.{hull_covers_left, hull_covers_right}
use Rattle.ebpf_decode.specs.declared.version.Version.{Version}
use Rattle.abstract_state.specs.declared.kind.Kind.{Kind}
use Rattle.abstract_state.specs.declared.kind.Offsets.{Offsets}
use Rattle.abstract_state.specs.declared.kind.Kind.TheVariants.{Unset, Scalar, Ctx, Stack, Packet, PacketEnd, Map, ValueOrNull, Value}
use Rattle.abstract_state.specs.Join.{join_scalar, join_ctx, join_stack, join_packet, join_end, join_map, join_nullable, hull_of_offsets, may_join, join_value, join_kind}
use Rattle.abstract_state.specs.Abstraction.{KindScope, KindCovers, IsNumberIn, IsPacketPlace, IsLiveCell}

-- of a kind that stays where a test holds
kept : (s : KindScope) (t : Bool) (kind : Kind) (v : RegisterValue) → (t ≡ true → KindCovers s kind v) → KindCovers s (if t then kind else Unset) v
kept s true kind v c = c refl
kept s false kind v c = tt

nearer : (s : KindScope) (id off range less : ℕ) (v : RegisterValue) → less ≤ range → IsPacketPlace s id off range v → IsPacketPlace s id off less v
nearer s id off range less v h c = record {
  is = c.is;
  reached = λ p. let q : s.ids.base id + range ≤ s.size = c.reached (omega arith) in omega arith;
  earlier = c.earlier;
  near = c.near;
}

-- more offsets
wider : (s : KindScope) (map id : ℕ) (off more : Offsets) (v : RegisterValue) → more.low ≤ off.low → off.high ≤ more.high → IsLiveCell s map id off v →
    IsLiveCell s map id more v
wider s map id off more v l h c =
    let least : off.low ≤ c.at = c.least
    in let most : c.at ≤ off.high = c.most
    in record { cell = c.cell; found = c.found; at = c.at; least = omega arith; most = omega arith; is = c.is; held = c.held; earlier = c.earlier }

-- ---- the first

scalar_left : (s : KindScope) (i : Interval) (b : Kind) (v : RegisterValue) → IsNumberIn i v → KindCovers s (join_scalar i b) v
scalar_left s i Unset v c = tt
scalar_left s i (Scalar j) v c = record { number = c.number; is = c.is; within = hull_covers_left i j c.number c.within; word = c.word }
scalar_left s i Ctx v c = tt
scalar_left s i (Stack place) v c = tt
scalar_left s i (Packet id off range) v c = tt
scalar_left s i PacketEnd v c = tt
scalar_left s i (Map map) v c = tt
scalar_left s i (ValueOrNull map id) v c = tt
scalar_left s i (Value map id off) v c = tt

ctx_left : (s : KindScope) (b : Kind) (v : RegisterValue) → KindCovers s Ctx v → KindCovers s (join_ctx b) v
ctx_left s Unset v c = tt
ctx_left s (Scalar j) v c = tt
ctx_left s Ctx v c = c
ctx_left s (Stack place) v c = tt
ctx_left s (Packet id off range) v c = tt
ctx_left s PacketEnd v c = tt
ctx_left s (Map map) v c = tt
ctx_left s (ValueOrNull map id) v c = tt
ctx_left s (Value map id off) v c = tt

stack_left : (s : KindScope) (place : ℕ) (b : Kind) (v : RegisterValue) → KindCovers s (Stack place) v → KindCovers s (join_stack place b) v
stack_left s place Unset v c = tt
stack_left s place (Scalar j) v c = tt
stack_left s place Ctx v c = tt
stack_left s place (Stack other) v c = kept s (place == other) (Stack place) v (λ t. c)
stack_left s place (Packet id off range) v c = tt
stack_left s place PacketEnd v c = tt
stack_left s place (Map map) v c = tt
stack_left s place (ValueOrNull map id) v c = tt
stack_left s place (Value map id off) v c = tt

packet_left : (s : KindScope) (id off range : ℕ) (b : Kind) (v : RegisterValue) → KindCovers s (Packet id off range) v → KindCovers s (join_packet id off range b) v
packet_left s id off range Unset v c = tt
packet_left s id off range (Scalar j) v c = tt
packet_left s id off range Ctx v c = tt
packet_left s id off range (Stack place) v c = tt
packet_left s id off range (Packet other place known) v c =
    kept s ((id == other) && (off == place)) (Packet id off (min range known)) v (λ t. nearer s id off range (min range known) v (omega arith) c)
packet_left s id off range PacketEnd v c = tt
packet_left s id off range (Map map) v c = tt
packet_left s id off range (ValueOrNull map other) v c = tt
packet_left s id off range (Value map other place) v c = tt

end_left : (s : KindScope) (b : Kind) (v : RegisterValue) → KindCovers s PacketEnd v → KindCovers s (join_end b) v
end_left s Unset v c = tt
end_left s (Scalar j) v c = tt
end_left s Ctx v c = tt
end_left s (Stack place) v c = tt
end_left s (Packet id off range) v c = tt
end_left s PacketEnd v c = c
end_left s (Map map) v c = tt
end_left s (ValueOrNull map id) v c = tt
end_left s (Value map id off) v c = tt

map_left : (s : KindScope) (map : ℕ) (b : Kind) (v : RegisterValue) → KindCovers s (Map map) v → KindCovers s (join_map map b) v
map_left s map Unset v c = tt
map_left s map (Scalar j) v c = tt
map_left s map Ctx v c = tt
map_left s map (Stack place) v c = tt
map_left s map (Packet id off range) v c = tt
map_left s map PacketEnd v c = tt
map_left s map (Map other) v c = kept s (map == other) (Map map) v (λ t. c)
map_left s map (ValueOrNull other id) v c = tt
map_left s map (Value other id off) v c = tt

nullable_left : (s : KindScope) (map id : ℕ) (b : Kind) (v : RegisterValue) → KindCovers s (ValueOrNull map id) v → KindCovers s (join_nullable map id b) v
nullable_left s map id Unset v c = tt
nullable_left s map id (Scalar j) v c = tt
nullable_left s map id Ctx v c = tt
nullable_left s map id (Stack place) v c = tt
nullable_left s map id (Packet other off range) v c = tt
nullable_left s map id PacketEnd v c = tt
nullable_left s map id (Map other) v c = tt
nullable_left s map id (ValueOrNull other found) v c = kept s ((map == other) && (id == found)) (ValueOrNull map id) v (λ t. c)
nullable_left s map id (Value other found off) v c = tt

value_left : (s : KindScope) (version : Version) (map id : ℕ) (off : Offsets) (b : Kind) (v : RegisterValue) → KindCovers s (Value map id off) v → KindCovers s (join_value version map id off b) v
value_left s version map id off Unset v c = tt
value_left s version map id off (Scalar j) v c = tt
value_left s version map id off Ctx v c = tt
value_left s version map id off (Stack place) v c = tt
value_left s version map id off (Packet other place range) v c = tt
value_left s version map id off PacketEnd v c = tt
value_left s version map id off (Map other) v c = tt
value_left s version map id off (ValueOrNull other found) v c = tt
value_left s version map id off (Value other found place) v c = kept s ((map == other) && (id == found) && may_join version off place) (Value map id (hull_of_offsets off place)) v
    (λ t. wider s map id off (hull_of_offsets off place) v (omega arith) (omega arith) c)

pub join_left : (s : KindScope) (version : Version) (a b : Kind) (v : RegisterValue) → KindCovers s a v → KindCovers s (join_kind version a b) v
join_left s version Unset b v c = tt
join_left s version (Scalar i) b v c = scalar_left s i b v c
join_left s version Ctx b v c = ctx_left s b v c
join_left s version (Stack place) b v c = stack_left s place b v c
join_left s version (Packet id off range) b v c = packet_left s id off range b v c
join_left s version PacketEnd b v c = end_left s b v c
join_left s version (Map map) b v c = map_left s map b v c
join_left s version (ValueOrNull map id) b v c = nullable_left s map id b v c
join_left s version (Value map id off) b v c = value_left s version map id off b v c

-- ---- the second

stack_right : (s : KindScope) (place : ℕ) (b : Kind) (v : RegisterValue) → KindCovers s b v → KindCovers s (join_stack place b) v
stack_right s place Unset v c = tt
stack_right s place (Scalar j) v c = tt
stack_right s place Ctx v c = tt
stack_right s place (Stack other) v c = kept s (place == other) (Stack place) v (λ t. let e : place ≡ other = eqb-true place other t in rw e c)
stack_right s place (Packet id off range) v c = tt
stack_right s place PacketEnd v c = tt
stack_right s place (Map map) v c = tt
stack_right s place (ValueOrNull map id) v c = tt
stack_right s place (Value map id off) v c = tt

packet_right : (s : KindScope) (id off range : ℕ) (b : Kind) (v : RegisterValue) → KindCovers s b v → KindCovers s (join_packet id off range b) v
packet_right s id off range Unset v c = tt
packet_right s id off range (Scalar j) v c = tt
packet_right s id off range Ctx v c = tt
packet_right s id off range (Stack place) v c = tt
packet_right s id off range (Packet other place known) v c =
    kept s ((id == other) && (off == place)) (Packet id off (min range known)) v
    (λ t. let parts = and_parts (id == other) (off == place) t
    in let e : id ≡ other = eqb-true id other parts.0
    in let f : off ≡ place = eqb-true off place parts.1
    in rw (e, f) (nearer s other place known (min range known) v (omega arith) c))
packet_right s id off range PacketEnd v c = tt
packet_right s id off range (Map map) v c = tt
packet_right s id off range (ValueOrNull map other) v c = tt
packet_right s id off range (Value map other place) v c = tt

map_right : (s : KindScope) (map : ℕ) (b : Kind) (v : RegisterValue) → KindCovers s b v → KindCovers s (join_map map b) v
map_right s map Unset v c = tt
map_right s map (Scalar j) v c = tt
map_right s map Ctx v c = tt
map_right s map (Stack place) v c = tt
map_right s map (Packet id off range) v c = tt
map_right s map PacketEnd v c = tt
map_right s map (Map other) v c = kept s (map == other) (Map map) v (λ t. let e : map ≡ other = eqb-true map other t in rw e c)
map_right s map (ValueOrNull other id) v c = tt
map_right s map (Value other id off) v c = tt

nullable_right : (s : KindScope) (map id : ℕ) (b : Kind) (v : RegisterValue) → KindCovers s b v → KindCovers s (join_nullable map id b) v
nullable_right s map id Unset v c = tt
nullable_right s map id (Scalar j) v c = tt
nullable_right s map id Ctx v c = tt
nullable_right s map id (Stack place) v c = tt
nullable_right s map id (Packet other off range) v c = tt
nullable_right s map id PacketEnd v c = tt
nullable_right s map id (Map other) v c = tt
nullable_right s map id (ValueOrNull other found) v c =
    kept s ((map == other) && (id == found)) (ValueOrNull map id) v
    (λ t. let parts = and_parts (map == other) (id == found) t
    in let e : map ≡ other = eqb-true map other parts.0
    in let f : id ≡ found = eqb-true id found parts.1
    in rw (e, f) c)
nullable_right s map id (Value other found off) v c = tt

value_right : (s : KindScope) (version : Version) (map id : ℕ) (off : Offsets) (b : Kind) (v : RegisterValue) → KindCovers s b v → KindCovers s (join_value version map id off b) v
value_right s version map id off Unset v c = tt
value_right s version map id off (Scalar j) v c = tt
value_right s version map id off Ctx v c = tt
value_right s version map id off (Stack place) v c = tt
value_right s version map id off (Packet other place range) v c = tt
value_right s version map id off PacketEnd v c = tt
value_right s version map id off (Map other) v c = tt
value_right s version map id off (ValueOrNull other found) v c = tt
value_right s version map id off (Value other found place) v c =
    kept s ((map == other) && (id == found) && may_join version off place) (Value map id (hull_of_offsets off place)) v
    (λ t. let parts = and_parts ((map == other) && (id == found)) (may_join version off place) t
    in let first = and_parts (map == other) (id == found) parts.0
    in let e : map ≡ other = eqb-true map other first.0
    in let f : id ≡ found = eqb-true id found first.1
    in rw (e, f) (wider s other found place (hull_of_offsets off place) v (omega arith) (omega arith) c))

scalar_right : (s : KindScope) (i : Interval) (b : Kind) (v : RegisterValue) → KindCovers s b v → KindCovers s (join_scalar i b) v
scalar_right s i Unset v c = tt
scalar_right s i (Scalar j) v c = record { number = c.number; is = c.is; within = hull_covers_right i j c.number c.within; word = c.word }
scalar_right s i Ctx v c = tt
scalar_right s i (Stack place) v c = tt
scalar_right s i (Packet id off range) v c = tt
scalar_right s i PacketEnd v c = tt
scalar_right s i (Map map) v c = tt
scalar_right s i (ValueOrNull map id) v c = tt
scalar_right s i (Value map id off) v c = tt

ctx_right : (s : KindScope) (b : Kind) (v : RegisterValue) → KindCovers s b v → KindCovers s (join_ctx b) v
ctx_right s Unset v c = tt
ctx_right s (Scalar j) v c = tt
ctx_right s Ctx v c = c
ctx_right s (Stack place) v c = tt
ctx_right s (Packet id off range) v c = tt
ctx_right s PacketEnd v c = tt
ctx_right s (Map map) v c = tt
ctx_right s (ValueOrNull map id) v c = tt
ctx_right s (Value map id off) v c = tt

end_right : (s : KindScope) (b : Kind) (v : RegisterValue) → KindCovers s b v → KindCovers s (join_end b) v
end_right s Unset v c = tt
end_right s (Scalar j) v c = tt
end_right s Ctx v c = tt
end_right s (Stack place) v c = tt
end_right s (Packet id off range) v c = tt
end_right s PacketEnd v c = c
end_right s (Map map) v c = tt
end_right s (ValueOrNull map id) v c = tt
end_right s (Value map id off) v c = tt

pub join_right : (s : KindScope) (version : Version) (a b : Kind) (v : RegisterValue) → KindCovers s b v → KindCovers s (join_kind version a b) v
join_right s version Unset b v c = tt
join_right s version (Scalar i) b v c = scalar_right s i b v c
join_right s version Ctx b v c = ctx_right s b v c
join_right s version (Stack place) b v c = stack_right s place b v c
join_right s version (Packet id off range) b v c = packet_right s id off range b v c
join_right s version PacketEnd b v c = end_right s b v c
join_right s version (Map map) b v c = map_right s map b v c
join_right s version (ValueOrNull map id) b v c = nullable_right s map id b v c
join_right s version (Value map id off) b v c = value_right s version map id off b v c
