-- A pointer that is moved, by a single number or by one of an interval.
use Rattle.std.proofs.Common.{◌≡◌, ℕ, ◌+◌, ◌*◌, ◌<◌, ◌≤◌, ◌^◌, Bool, true, false, if◌then◌else◌, ◌==◌, nat_le, ℤ, pos, ◌+ℤ◌, Ok, Err, refl, sym, ◌∙◌, ap, subst, arith}
use Rattle.std.specs.Prelude.{List, slice_get}
use Rattle.std.proofs.Math.IntN.{+ℤ_assoc, pos-+ℤ-pos}
use Rattle.std.proofs.lemmas.Bool.{leb-true, eqb-true, false≢true}
use Rattle.std.proofs.Common.{lt-ltb, ne_eqb, eq-eqb}
use Rattle.isa.specs.Words.{signed_value}
use Rattle.isa.specs.declared.operation.Width.{Width}
use Rattle.isa.specs.declared.operation.Width.TheVariants.{Bits32, Bits64}
use Rattle.isa.specs.declared.operation.AluOp.{AluOp}
use Rattle.isa.specs.declared.operation.AluOp.TheVariants.{Add, Sub}
use Rattle.isa.specs.declared.operation.Register.{Register}
use Rattle.semantics.specs.RegisterValue.{RegisterValue, Number, StackPointer, PacketPointer, CellPointer}
use Rattle.semantics.specs.Memory.{stack_place}
use Rattle.semantics.specs.Arithmetic.{pointer_distance, at_distance, combined_value}
use Rattle.abstract_scalar.specs.declared.interval.Interval.{Interval}
use Rattle.abstract_scalar.specs.Intervals.{is_single}
use Rattle.abstract_scalar.proofs.shared.Soundness.{single_is}
use Rattle.ebpf_decode.specs.declared.map.MapDef.{MapDef}
use Rattle.ebpf_decode.specs.declared.version.Version.{Version}
use Rattle.ebpf_decode.specs.declared.version.Version.TheVariants.{V1, V2}
use Rattle.abstract_state.specs.declared.kind.Kind.{Kind}
use Rattle.abstract_state.specs.declared.kind.Offsets.{Offsets}
use Rattle.abstract_state.specs.declared.kind.Kind.TheVariants.{Unset, Scalar, Ctx, Stack, Packet, PacketEnd, Map, ValueOrNull, Value}
use Rattle.abstract_state.specs.declared.broken_rule.BrokenRule.TheVariants.{WrongKind, PacketBounds, StackBounds, ValueBounds}
use Rattle.abstract_state.specs.States.{Checked, ◌>>=◌, stack_size, value_size_of}
use Rattle.abstract_state.specs.Places.{place_within, offsets_within}
use Rattle.abstract_state.specs.Arithmetic.{delta_of, moves_pointers, moved_pointer, moved_address, moved_far, pointer_sum, is_movable, combined_pointer}
use Rattle.abstract_state.specs.Abstraction.{Ids, KindScope, KindCovers, IsNumberIn, IsStackPlace, IsPacketPlace, IsLiveCell}
use Rattle.abstract_state.proofs.shared.Between.{IsBetween, between}
use Rattle.abstract_state.proofs.shared.Inverting.{err_not_ok, ok_value, ok_then, ok_if, place_is}
use Rattle.abstract_state.proofs.shared.Following.{Gives, gives}

-- ---- how far

delta_is : (width : Width) (op : AluOp) (n : ℕ) → moves_pointers width op ≡ true → pointer_distance width op (Number n) ≡ Ok (delta_of op n)
delta_is Bits64 Add n h = refl
delta_is Bits64 Sub n h = refl
delta_is Bits64 op n h = absurd (false≢true h)
delta_is Bits32 op n h = absurd (false≢true h)

-- a number of less than 17 bits is not negative
small_delta : (n : ℕ) → n ≤ 65535 → signed_value 64 n ≡ pos n
small_delta n h = let l : n < 2 ^ 63 = omega arith in rw (lt-ltb n (2 ^ 63) l) refl

-- ---- by a single number

stack_moved : (s : KindScope) (place to : ℕ) (at d : ℤ) → stack_place at ≡ pos place → pos place +ℤ d ≡ pos to → stack_place (at +ℤ d) ≡ pos to
stack_moved s place to at d counted is = sym (+ℤ_assoc (pos 512) at d) ∙ (ap (λ z. z +ℤ d) counted ∙ is)

past_base : (base off to : ℕ) (d : ℤ) → pos off +ℤ d ≡ pos to → pos (base + off) +ℤ d ≡ pos (base + to)
past_base base off to d is =
    ap (λ z. z +ℤ d) (sym (pos-+ℤ-pos base off)) ∙ (+ℤ_assoc (pos base) (pos off) d ∙ (ap (λ z. pos base +ℤ z) is ∙ pos-+ℤ-pos base to))

-- the value of a pointer moved by a number
moved_by : (width : Width) (op : AluOp) (n : ℕ) (u v : RegisterValue) (make : ℤ → RegisterValue) → moves_pointers width op ≡ true → v ≡ Number n →
    combined_value width op u v ≡ at_distance (pointer_distance width op v) make → combined_value width op u v ≡ Ok (make (delta_of op n))
moved_by width op n u v make moves is e = e ∙ ap (λ o. at_distance o make) (ap (pointer_distance width op) is ∙ delta_is width op n moves)

-- a number that moves a pointer, and what represents the result
pub record Moves (s : KindScope) (slot : ℕ) (width : Width) (op : AluOp) (i : Interval) (v : RegisterValue) : Type 0 where
  pub moves : moves_pointers width op ≡ true
  pub number : IsNumberIn i v
  pub later : s.slot < slot
  pub bases : (id : ℕ) → s.ids.base id ≤ 131070 * id

stack_gives : (s : KindScope) (slot : ℕ) (width : Width) (op : AluOp) (i : Interval) (u v : RegisterValue) (place : ℕ) (dst : Register) (kind : Kind) →
    IsStackPlace place u → Moves s slot width op i v → is_single i ≡ true →
    moved_pointer s.maps (Stack place) (delta_of op i.low) dst ≡ Ok kind → Gives s slot kind (combined_value width op u v)
stack_gives s slot width op i u v place dst kind c m single e =
    let p = ok_then (place_within (pos place +ℤ delta_of op i.low) stack_size StackBounds) (λ to. Ok (Stack to)) kind e
    in let to = place_is (pos place +ℤ delta_of op i.low) stack_size StackBounds p.value p.is
    in let n : m.number.number ≡ i.low = single_is i m.number.number single m.number.within
    in let made : combined_value width op u v ≡ Ok (StackPointer (c.at +ℤ delta_of op i.low)) =
    moved_by width op i.low u v (λ d. StackPointer (c.at +ℤ d)) m.moves (m.number.is ∙ ap Number n) (rw (c.is) refl)
    in subst (λ k. Gives s slot k (combined_value width op u v)) (ok_value (Stack p.value) kind p.next)
    (let later : s.slot < slot = m.later in
    gives s slot (Stack p.value) (combined_value width op u v) (StackPointer (c.at +ℤ delta_of op i.low)) (omega arith) m.bases made
    (record { at = c.at +ℤ delta_of op i.low; is = refl; counted = stack_moved s place p.value c.at (delta_of op i.low) c.counted to.is }))

packet_gives : (s : KindScope) (slot : ℕ) (width : Width) (op : AluOp) (i : Interval) (u v : RegisterValue) (id off range : ℕ) (dst : Register) (kind : Kind) →
    IsPacketPlace s id off range u → Moves s slot width op i v → is_single i ≡ true →
    moved_pointer s.maps (Packet id off range) (delta_of op i.low) dst ≡ Ok kind → Gives s slot kind (combined_value width op u v)
packet_gives s slot width op i u v id off range dst kind c m single e =
    let p = ok_then (place_within (pos off +ℤ delta_of op i.low) 65535 PacketBounds) (λ to. Ok (Packet id to range)) kind e
    in let to = place_is (pos off +ℤ delta_of op i.low) 65535 PacketBounds p.value p.is
    in let n : m.number.number ≡ i.low = single_is i m.number.number single m.number.within
    in let made : combined_value width op u v ≡ Ok (PacketPointer s.generation (pos (s.ids.base id + off) +ℤ delta_of op i.low)) =
    moved_by width op i.low u v (λ d. PacketPointer s.generation (pos (s.ids.base id + off) +ℤ d)) m.moves (m.number.is ∙ ap Number n) (rw (c.is) refl)
    in subst (λ k. Gives s slot k (combined_value width op u v)) (ok_value (Packet id p.value range) kind p.next)
    (let later : s.slot < slot = m.later in
    gives s slot (Packet id p.value range) (combined_value width op u v)
    (PacketPointer s.generation (pos (s.ids.base id + off) +ℤ delta_of op i.low)) (omega arith) m.bases made
    (record {
      is = ap (PacketPointer s.generation) (past_base (s.ids.base id) off p.value (delta_of op i.low) to.is);
      reached = c.reached;
      earlier = c.earlier;
      near = to.within;
    }))

-- both ends of what was moved
record AreMoved (s : KindScope) (map : ℕ) (low high : ℤ) (to : Offsets) : Type 0 where
  low_is : low ≡ pos to.low
  high_is : high ≡ pos to.high
  within : to.high ≤ value_size_of (slice_get s.maps map)

ends_moved : (s : KindScope) (map : ℕ) (low high : ℤ) (to : Offsets) → offsets_within s.maps map low high ≡ Ok to → AreMoved s map low high to
ends_moved s map low high to e =
    let first = ok_then (place_within low (value_size_of (slice_get s.maps map)) ValueBounds) (λ from.
    place_within high (value_size_of (slice_get s.maps map)) ValueBounds >>= (λ last. Ok (record { low = from; high = last }))) to e
    in let second = ok_then (place_within high (value_size_of (slice_get s.maps map)) ValueBounds) (λ last. Ok (record { low = first.value; high = last })) to first.next
    in let same : record { low = first.value; high = second.value } ≡ to = ok_value (record { low = first.value; high = second.value }) to second.next
    in let a = place_is low (value_size_of (slice_get s.maps map)) ValueBounds first.value first.is
    in let b = place_is high (value_size_of (slice_get s.maps map)) ValueBounds second.value second.is
    in record {
      low_is = a.is ∙ ap (λ (one : Offsets). pos one.low) same;
      high_is = b.is ∙ ap (λ (one : Offsets). pos one.high) same;
      within = subst (λ (one : Offsets). one.high ≤ value_size_of (slice_get s.maps map)) same b.within;
    }

value_gives : (s : KindScope) (slot : ℕ) (width : Width) (op : AluOp) (i : Interval) (u v : RegisterValue) (map id : ℕ) (off : Offsets) (dst : Register) (kind : Kind) →
    IsLiveCell s map id off u → Moves s slot width op i v → is_single i ≡ true →
    moved_pointer s.maps (Value map id off) (delta_of op i.low) dst ≡ Ok kind → Gives s slot kind (combined_value width op u v)
value_gives s slot width op i u v map id off dst kind c m single e =
    let p = ok_then (offsets_within s.maps map (pos off.low +ℤ delta_of op i.low) (pos off.high +ℤ delta_of op i.low)) (λ to. Ok (Value map id to)) kind e
    in let to = ends_moved s map (pos off.low +ℤ delta_of op i.low) (pos off.high +ℤ delta_of op i.low) p.value p.is
    in let there : IsBetween c.at (delta_of op i.low) p.value.low p.value.high =
    between off.low off.high c.at p.value.low p.value.high (delta_of op i.low) c.least c.most to.low_is to.high_is
    in let n : m.number.number ≡ i.low = single_is i m.number.number single m.number.within
    in let made : combined_value width op u v ≡ Ok (CellPointer map c.cell.shard c.cell.id (pos c.at +ℤ delta_of op i.low)) =
    moved_by width op i.low u v (λ d. CellPointer map c.cell.shard c.cell.id (pos c.at +ℤ d)) m.moves (m.number.is ∙ ap Number n) (rw (c.is) refl)
    in subst (λ k. Gives s slot k (combined_value width op u v)) (ok_value (Value map id p.value) kind p.next)
    (let later : s.slot < slot = m.later in
    gives s slot (Value map id p.value) (combined_value width op u v)
    (CellPointer map c.cell.shard c.cell.id (pos c.at +ℤ delta_of op i.low)) (omega arith) m.bases made
    (record {
      cell = c.cell;
      found = c.found;
      at = there.place;
      least = there.least;
      most = there.most;
      is = ap (CellPointer map c.cell.shard c.cell.id) there.is;
      held = c.held;
      earlier = c.earlier;
    }))

-- ---- by a number of an interval

stays_near : (maps : List MapDef) (version : Version) (op : AluOp) (slot place : ℕ) (i : Interval) (source : Register) (kind : Kind) →
    moved_far maps version slot op (Stack place) i source ≡ Ok kind → ⊥
stays_near maps version Add slot place i source kind e = err_not_ok (WrongKind source) kind e
stays_near maps version op slot place i source kind e = err_not_ok (WrongKind source) kind e

-- no value has more bytes than an image can say
abbrev pub SmallValues : KindScope → Type 0
SmallValues s = (map : ℕ) → value_size_of (slice_get s.maps map) ≤ 256

-- in version 2 an address in a value moves by each end of the interval
value_far : (s : KindScope) (version : Version) (slot : ℕ) → SmallValues s → (i : Interval) (u v : RegisterValue) (map id : ℕ) (off : Offsets) (source : Register) (kind : Kind) →
    IsLiveCell s map id off u → Moves s slot Bits64 Add i v → moved_address s.maps version map id off i source ≡ Ok kind →
    Gives s slot kind (combined_value Bits64 Add u v)
value_far s V1 slot small i u v map id off source kind c m e = absurd (err_not_ok (WrongKind source) kind e)
value_far s V2 slot small i u v map id off source kind c m e =
    let p = ok_then (offsets_within s.maps map (pos (off.low + i.low)) (pos (off.high + i.high))) (λ to. Ok (Value map id to)) kind e
    in let to = ends_moved s map (pos (off.low + i.low)) (pos (off.high + i.high)) p.value p.is
    in let low : off.low + i.low ≡ p.value.low = (let both : pos (off.low + i.low) ≡ pos p.value.low = to.low_is in cc)
    in let high : off.high + i.high ≡ p.value.high = (let both : pos (off.high + i.high) ≡ pos p.value.high = to.high_is in cc)
    in let within : p.value.high ≤ value_size_of (slice_get s.maps map) = to.within
    in let size : value_size_of (slice_get s.maps map) ≤ 256 = small map
    in let above : i.low ≤ m.number.number = m.number.within.above
    in let below : m.number.number ≤ i.high = m.number.within.below
    in let least : off.low ≤ c.at = c.least
    in let most : c.at ≤ off.high = c.most
    in let n : m.number.number ≤ 65535 = omega arith
    in let made : combined_value Bits64 Add u v ≡ Ok (CellPointer map c.cell.shard c.cell.id (pos c.at +ℤ signed_value 64 m.number.number)) =
    moved_by Bits64 Add m.number.number u v (λ d. CellPointer map c.cell.shard c.cell.id (pos c.at +ℤ d)) refl m.number.is (rw (c.is) refl)
    in let place : pos c.at +ℤ signed_value 64 m.number.number ≡ pos (c.at + m.number.number) =
    ap (λ z. pos c.at +ℤ z) (small_delta m.number.number n) ∙ pos-+ℤ-pos c.at m.number.number
    in subst (λ k. Gives s slot k (combined_value Bits64 Add u v)) (ok_value (Value map id p.value) kind p.next)
    (let later : s.slot < slot = m.later in
    gives s slot (Value map id p.value) (combined_value Bits64 Add u v)
    (CellPointer map c.cell.shard c.cell.id (pos c.at +ℤ signed_value 64 m.number.number)) (omega arith) m.bases made
    (record {
      cell = c.cell;
      found = c.found;
      at = c.at + m.number.number;
      least = omega arith;
      most = omega arith;
      is = ap (CellPointer map c.cell.shard c.cell.id) place;
      held = c.held;
      earlier = c.earlier;
    }))

value_far_by : (s : KindScope) (version : Version) (slot : ℕ) → SmallValues s → (width : Width) (op : AluOp) (i : Interval) (u v : RegisterValue) (map id : ℕ) (off : Offsets)
    (source : Register) (kind : Kind) → IsLiveCell s map id off u → Moves s slot width op i v → moved_far s.maps version s.slot op (Value map id off) i source ≡ Ok kind →
    Gives s slot kind (combined_value width op u v)
value_far_by s version slot small Bits64 Add i u v map id off source kind c m e = value_far s version slot small i u v map id off source kind c m e
value_far_by s version slot small Bits64 op i u v map id off source kind c m e = absurd (err_not_ok (WrongKind source) kind e)
value_far_by s version slot small Bits32 op i u v map id off source kind c m e = absurd (false≢true m.moves)

-- the ids with the base of a slot
abbrev with_base : Ids → ℕ → ℕ → Ids
with_base ids slot place = record { base = λ id. if id == slot then place else ids.base id; found = ids.found }

based : (t : Bool) (place base limit : ℕ) → (t ≡ true → place ≤ limit) → base ≤ limit → (if t then place else base) ≤ limit
based true place base limit p q = p refl
based false place base limit p q = q

other_base : (id slot place base : ℕ) → id < slot → (if id == slot then place else base) ≡ base
other_base id slot place base h = rw (ne_eqb id slot (λ e. absurd (omega arith))) refl

own_base : (slot place base : ℕ) → (if slot == slot then place else base) ≡ place
own_base slot place base = rw (eq-eqb slot slot refl) refl

packet_far : (s : KindScope) (version : Version) (slot : ℕ) (i : Interval) (u v : RegisterValue) (id off range : ℕ) (source : Register) (kind : Kind) →
    IsPacketPlace s id off range u → Moves s slot Bits64 Add i v → moved_far s.maps version s.slot Add (Packet id off range) i source ≡ Ok kind →
    Gives s slot kind (combined_value Bits64 Add u v)
packet_far s version slot i u v id off range source kind c m e =
    let chosen = ok_if (nat_le i.high 65535) (Ok (Packet s.slot 0 0)) PacketBounds kind e
    in let least : i.high ≤ 65535 = leb-true i.high 65535 chosen.holds
    in let below : m.number.number ≤ i.high = m.number.within.below
    in let n : m.number.number ≤ 65535 = omega arith
    in let near : off ≤ 65535 = c.near
    in let old : s.ids.base id ≤ 131070 * id = m.bases id
    in let earlier : id < s.slot = c.earlier
    in let later : s.slot < slot = m.later
    in let made : combined_value Bits64 Add u v ≡ Ok (PacketPointer s.generation (pos (s.ids.base id + off) +ℤ signed_value 64 m.number.number)) =
    moved_by Bits64 Add m.number.number u v (λ d. PacketPointer s.generation (pos (s.ids.base id + off) +ℤ d)) refl m.number.is (rw (c.is) refl)
    in let place : pos (s.ids.base id + off) +ℤ signed_value 64 m.number.number ≡ pos (s.ids.base id + off + m.number.number) =
    ap (λ z. pos (s.ids.base id + off) +ℤ z) (small_delta m.number.number n) ∙ pos-+ℤ-pos (s.ids.base id + off) m.number.number
    in subst (λ k. Gives s slot k (combined_value Bits64 Add u v)) (ok_value (Packet s.slot 0 0) kind chosen.next)
    (record {
      ids = with_base s.ids s.slot (s.ids.base id + off + m.number.number);
      base = λ other h. other_base other s.slot (s.ids.base id + off + m.number.number) (s.ids.base other) h;
      found = λ other h. refl;
      bases = λ other. based (other == s.slot) (s.ids.base id + off + m.number.number) (s.ids.base other) (131070 * other)
          (λ t. let same : other ≡ s.slot = eqb-true other s.slot t in omega arith) (m.bases other);
      value = PacketPointer s.generation (pos (s.ids.base id + off) +ℤ signed_value 64 m.number.number);
      is = made;
      covered = record {
        is = ap (PacketPointer s.generation) (place ∙ ap pos
            (let own : (if s.slot == s.slot then s.ids.base id + off + m.number.number else s.ids.base s.slot) ≡ s.ids.base id + off + m.number.number =
            own_base s.slot (s.ids.base id + off + m.number.number) (s.ids.base s.slot) in omega arith));
        reached = λ h. absurd (omega arith);
        earlier = later;
        near = omega arith;
      };
    })

packet_far_by : (s : KindScope) (version : Version) (slot : ℕ) (width : Width) (op : AluOp) (i : Interval) (u v : RegisterValue) (id off range : ℕ) (source : Register) (kind : Kind) →
    IsPacketPlace s id off range u → Moves s slot width op i v → moved_far s.maps version s.slot op (Packet id off range) i source ≡ Ok kind →
    Gives s slot kind (combined_value width op u v)
packet_far_by s version slot Bits64 Add i u v id off range source kind c m e = packet_far s version slot i u v id off range source kind c m e
packet_far_by s version slot Bits64 op i u v id off range source kind c m e = absurd (err_not_ok (WrongKind source) kind e)
packet_far_by s version slot Bits32 op i u v id off range source kind c m e = absurd (false≢true m.moves)

-- ---- together

by_single : {A : Type 0} (t : Bool) (a b : Checked A) (x : A) (P : Type 0) → (if t then a else b) ≡ Ok x → (t ≡ true → a ≡ Ok x → P) → (b ≡ Ok x → P) → P
by_single true a b x P e f g = f refl e
by_single false a b x P e f g = g e

-- a pointer plus or minus a number
pointer_by : (s : KindScope) (version : Version) (slot : ℕ) → SmallValues s → (width : Width) (op : AluOp) (i : Interval) (pointer : Kind) (u v : RegisterValue) (dst source : Register) (kind : Kind) →
    KindCovers s pointer u → Moves s slot width op i v → is_movable pointer ≡ true →
    (if is_single i then moved_pointer s.maps pointer (delta_of op i.low) dst else moved_far s.maps version s.slot op pointer i source) ≡ Ok kind →
    Gives s slot kind (combined_value width op u v)
pointer_by s version slot small width op i (Stack place) u v dst source kind c m movable e =
    by_single (is_single i) (moved_pointer s.maps (Stack place) (delta_of op i.low) dst) (moved_far s.maps version s.slot op (Stack place) i source) kind
    (Gives s slot kind (combined_value width op u v)) e
    (λ single one. stack_gives s slot width op i u v place dst kind c m single one)
    (λ far. absurd (stays_near s.maps version op s.slot place i source kind far))
pointer_by s version slot small width op i (Packet id off range) u v dst source kind c m movable e =
    by_single (is_single i) (moved_pointer s.maps (Packet id off range) (delta_of op i.low) dst) (moved_far s.maps version s.slot op (Packet id off range) i source) kind
    (Gives s slot kind (combined_value width op u v)) e
    (λ single one. packet_gives s slot width op i u v id off range dst kind c m single one)
    (λ far. packet_far_by s version slot width op i u v id off range source kind c m far)
pointer_by s version slot small width op i (Value map id off) u v dst source kind c m movable e =
    by_single (is_single i) (moved_pointer s.maps (Value map id off) (delta_of op i.low) dst) (moved_far s.maps version s.slot op (Value map id off) i source) kind
    (Gives s slot kind (combined_value width op u v)) e
    (λ single one. value_gives s slot width op i u v map id off dst kind c m single one)
    (λ far. value_far_by s version slot small width op i u v map id off source kind c m far)
pointer_by s version slot small width op i Unset u v dst source kind c m movable e = absurd (false≢true movable)
pointer_by s version slot small width op i (Scalar j) u v dst source kind c m movable e = absurd (false≢true movable)
pointer_by s version slot small width op i Ctx u v dst source kind c m movable e = absurd (false≢true movable)
pointer_by s version slot small width op i PacketEnd u v dst source kind c m movable e = absurd (false≢true movable)
pointer_by s version slot small width op i (Map map) u v dst source kind c m movable e = absurd (false≢true movable)
pointer_by s version slot small width op i (ValueOrNull map id) u v dst source kind c m movable e = absurd (false≢true movable)

pointer_sum_by : (s : KindScope) (version : Version) (slot : ℕ) → SmallValues s → (width : Width) (op : AluOp) (pointer other : Kind) (u v : RegisterValue) (dst source : Register) (kind : Kind) →
    KindCovers s pointer u → KindCovers s other v → moves_pointers width op ≡ true → is_movable pointer ≡ true → s.slot < slot →
    ((id : ℕ) → s.ids.base id ≤ 131070 * id) → pointer_sum s.maps version s.slot op pointer other dst source ≡ Ok kind →
    Gives s slot kind (combined_value width op u v)
pointer_sum_by s version slot small width op pointer (Scalar i) u v dst source kind c d moves movable later bases e =
    pointer_by s version slot small width op i pointer u v dst source kind c (record { moves = moves; number = d; later = later; bases = bases }) movable e
pointer_sum_by s version slot small width op pointer Unset u v dst source kind c d moves movable later bases e = absurd (err_not_ok (WrongKind source) kind e)
pointer_sum_by s version slot small width op pointer Ctx u v dst source kind c d moves movable later bases e = absurd (err_not_ok (WrongKind source) kind e)
pointer_sum_by s version slot small width op pointer (Stack place) u v dst source kind c d moves movable later bases e = absurd (err_not_ok (WrongKind source) kind e)
pointer_sum_by s version slot small width op pointer (Packet id off range) u v dst source kind c d moves movable later bases e = absurd (err_not_ok (WrongKind source) kind e)
pointer_sum_by s version slot small width op pointer PacketEnd u v dst source kind c d moves movable later bases e = absurd (err_not_ok (WrongKind source) kind e)
pointer_sum_by s version slot small width op pointer (Map map) u v dst source kind c d moves movable later bases e = absurd (err_not_ok (WrongKind source) kind e)
pointer_sum_by s version slot small width op pointer (ValueOrNull map id) u v dst source kind c d moves movable later bases e = absurd (err_not_ok (WrongKind source) kind e)
pointer_sum_by s version slot small width op pointer (Value map id off) u v dst source kind c d moves movable later bases e = absurd (err_not_ok (WrongKind source) kind e)

-- a pointer as the first operand
pub pointer_combined : (s : KindScope) (version : Version) (slot : ℕ) → SmallValues s → (width : Width) (op : AluOp) (pointer other : Kind) (u v : RegisterValue) (dst source : Register) (kind : Kind) →
    KindCovers s pointer u → KindCovers s other v → s.slot < slot → ((id : ℕ) → s.ids.base id ≤ 131070 * id) →
    combined_pointer s.maps version s.slot width op pointer other dst source ≡ Ok kind → Gives s slot kind (combined_value width op u v)
pointer_combined s version slot small width op pointer other u v dst source kind c d later bases e =
    let moves = ok_if (moves_pointers width op)
    (if is_movable pointer then pointer_sum s.maps version s.slot op pointer other dst source else Err (WrongKind dst)) (WrongKind dst) kind e
    in let movable = ok_if (is_movable pointer) (pointer_sum s.maps version s.slot op pointer other dst source) (WrongKind dst) kind moves.next
    in pointer_sum_by s version slot small width op pointer other u v dst source kind c d moves.holds movable.holds later bases movable.next
