-- Calls of helpers: those that change a map, those that answer a number, and the move of the packet's start.
use Rattle.std.proofs.Common.{◌≡◌, inl, inr, ℕ, suc, ◌+◌, ◌<◌, ◌≤◌, ◌==◌, ◌&&◌, Bool, true, false, ℤ, pos, negsuc, List, length, take, drop, map, replicate, refl, ◌∙◌, ap, arith, subst}
use Rattle.std.specs.Prelude.{Ok, All, IsTrue, Some, None, FitsSigned, slice_get, if◌then◌else◌}
use Rattle.std.specs.Int.{w32}
use Rattle.std.proofs.lemmas.Bool.{leb-true, and_parts}
use Rattle.std.proofs.lemmas.List.{get_or-map, length-map}
use Rattle.std.proofs.lemmas.List.Elements.{All-from_recursion, All-append, All-drop, All-replicate}
use Rattle.isa.specs.Words.{signed_value, low_half, twos_complement}
use Rattle.isa.specs.InstructionCodes.{register_number}
use Rattle.isa.specs.declared.operation.Size.TheVariants.{U64}
use Rattle.isa.specs.declared.operation.Register.{Register}
use Rattle.isa.specs.declared.operation.Register.TheVariants.{R1, R2, R3, R4}
use Rattle.ebpf_decode.specs.declared.insn.Insn.TheVariants.{CallHelper}
use Rattle.ebpf_decode.specs.declared.map.MapDef.{MapDef}
use Rattle.wire.specs.FrameView.{FrameView}
use Rattle.semantics.specs.declared.call.Call.TheVariants.{Update, Delete}
use Rattle.semantics.specs.declared.call.Reply.{Reply}
use Rattle.semantics.specs.declared.call.Reply.TheVariants.{Entered, Left, Cell, Null, Word, Done, Answer, Freed}
use Rattle.semantics.specs.RegisterValue.{RegisterValue, Number, ContextPointer}
use Rattle.semantics.specs.MachineState.{MachineState, StackByte, register_value}
use Rattle.semantics.specs.Program.{Program, shard_of_key}
use Rattle.semantics.specs.HeadAdjustment.{head_can_move, moved_head, adjusted_head, adjust_answer}
use Rattle.semantics.specs.Helpers.{map_at, bytes_argument, answer_value, update_step, delete_step, adjusted_state, adjust_head_step, found_helper_step}
use Rattle.semantics.specs.Helpers as meaning
use Rattle.semantics.specs.RunTrace.{IsReplyTo}
use Rattle.semantics.specs.Semantics.{instruction_step}
use Rattle.abstract_scalar.specs.declared.interval.Interval.{Interval}
use Rattle.abstract_scalar.specs.Intervals.{interval_of}
use Rattle.abstract_state.specs.declared.kind.Kind.{Kind}
use Rattle.abstract_state.specs.declared.kind.Kind.TheVariants.{Unset, Scalar, Ctx, Stack, Packet, PacketEnd, Map, ValueOrNull, Value}
use Rattle.abstract_state.specs.declared.kind.StackWord.{StackWord}
use Rattle.abstract_state.specs.declared.kind.StackWord.TheVariants.{Spilled, Bytes}
use Rattle.abstract_state.specs.declared.fact.Fact.TheVariants.{HeadMoved}
use Rattle.semantics.specs.declared.linux.Helper.TheVariants.{MapLookupElem, MapUpdateElem, MapDeleteElem, KtimeGetNs, GetSmpProcessorId, XdpAdjustHead}
use Rattle.abstract_state.specs.declared.broken_rule.BrokenRule.TheVariants.{StackBounds, StackUnset}
use Rattle.abstract_state.specs.declared.flow.Flow.{Flow}
use Rattle.abstract_state.specs.declared.state.State.{State}
use Rattle.abstract_state.specs.States.{◌>>=◌, kind_of, word_of, key_size_of, value_size_of}
use Rattle.abstract_state.specs.Facts.{told_moved, told_kind, told_word, told}
use Rattle.abstract_state.specs.Words.{are_bytes_set}
use Rattle.abstract_state.specs.Calls.{known_helper, checked_map_argument, stack_argument, checked_number_argument, checked_context_argument, is_inside_stack, when_all, key_arguments, update_arguments, head_arguments, after_return, any_number, checked_call}
use Rattle.abstract_state.specs.Flow.{reads_arguments, falls, flow_of}
use Rattle.abstract_state.specs.Soundness.{IsKeyOf, GoesOnAt, FallsOn, Follows, HoldsAfter}
use Rattle.abstract_state.specs.Abstraction.{Held, KindScope, KindCovers, IsNumberIn, IsKnownMap, IsStackPlace, WordCovers, places_of, kind_scope_of, Abstracts}
use Rattle.abstract_state.proofs.JoinWords.{spilled_covers}
use Rattle.abstract_state.proofs.shared.Writing.{number_below}
use Rattle.abstract_state.proofs.shared.Checking.{ok_same, ok_then, ok_if, falls_made}
use Rattle.abstract_state.proofs.shared.ByteNumbers.{Reads}
use Rattle.abstract_state.proofs.shared.StackReading.{set_bytes}
use Rattle.abstract_state.proofs.shared.FlowSteps.{immediate_fits}
use Rattle.abstract_state.proofs.shared.LoadedNumbers.{in_full}
use Rattle.abstract_state.proofs.LookingUp.{returned_sound, map_kind, stack_kind, KnowsKey, knows_key, map_known, key_read, one_slot, settled, lookup_sound, number_sound}

-- ---- answers

answered : (program : Program) (held held' : Held) (state : State) (machine : MachineState) (a : Abstracts program.maps held state machine) (code : ℤ) → FitsSigned w32 code →
    ((map shard cell : ℕ) → IsTrue (held map shard cell) → IsTrue (held' map shard cell)) →
    GoesOnAt program.maps held' (after_return any_number state) machine (meaning.returned machine (Number (twos_complement 64 code))) (machine.slot + 1)
answered program held held' state machine a code fits more = record {
  at = refl;
  counted = refl;
  sound = returned_sound program.maps held held' state machine a.ids a more (λ id h. refl) (λ id h. refl) a.bases any_number (Number (twos_complement 64 code))
      (in_full U64 (twos_complement 64 code) (immediate_fits code fits));
}

update_answered : (program : Program) (held : Held) (state : State) (machine : MachineState) (a : Abstracts program.maps held state machine) (shard : ℕ) (key value : List ℕ) (flags : ℕ)
    (reply : Reply) → IsReplyTo program (Update shard key value flags) reply → (held' : Held) → HoldsAfter program held held' (Update shard key value flags) reply →
    GoesOnAt program.maps held' (after_return any_number state) machine (meaning.returned machine (answer_value reply)) (machine.slot + 1)
update_answered program held state machine a shard key value flags (Answer code) fits held' after = answered program held held' state machine a code fits after.kept
update_answered program held state machine a shard key value flags Entered is held' after = absurd is
update_answered program held state machine a shard key value flags Left is held' after = absurd is
update_answered program held state machine a shard key value flags (Cell cell) is held' after = absurd is
update_answered program held state machine a shard key value flags Null is held' after = absurd is
update_answered program held state machine a shard key value flags (Word n) is held' after = absurd is
update_answered program held state machine a shard key value flags Done is held' after = absurd is
update_answered program held state machine a shard key value flags (Freed count) is held' after = absurd is

delete_answered : (program : Program) (held : Held) (state : State) (machine : MachineState) (a : Abstracts program.maps held state machine) (shard : ℕ) (key : List ℕ)
    (reply : Reply) → IsReplyTo program (Delete shard key) reply → (held' : Held) → HoldsAfter program held held' (Delete shard key) reply →
    GoesOnAt program.maps held' (after_return any_number state) machine (meaning.returned machine (answer_value reply)) (machine.slot + 1)
delete_answered program held state machine a shard key (Answer code) fits held' after = answered program held held' state machine a code fits after.kept
delete_answered program held state machine a shard key Entered is held' after = absurd is
delete_answered program held state machine a shard key Left is held' after = absurd is
delete_answered program held state machine a shard key (Cell cell) is held' after = absurd is
delete_answered program held state machine a shard key Null is held' after = absurd is
delete_answered program held state machine a shard key (Word n) is held' after = absurd is
delete_answered program held state machine a shard key Done is held' after = absurd is
delete_answered program held state machine a shard key (Freed count) is held' after = absurd is

-- ---- what the arguments are

-- bytes of the stack that an argument points to
record BytesFound (machine : MachineState) (v : RegisterValue) (count : ℕ) : Type 0 where
  bytes : List ℕ
  read : bytes_argument machine v count ≡ Ok bytes
  count_is : length bytes ≡ count
  small : All (λ byte. byte < 256) bytes

bytes_found : (maps : List MapDef) (held : Held) (state : State) (machine : MachineState) (a : Abstracts maps held state machine) (register : Register) (place count : ℕ) →
    kind_of state register ≡ Stack place → place + count ≤ 512 → are_bytes_set state place count ≡ true → BytesFound machine (register_value machine register) count
bytes_found maps held state machine a register place count is inside set =
    let p : IsStackPlace place (register_value machine register) =
    subst (λ kind. KindCovers (kind_scope_of maps held a.ids machine) kind (register_value machine register)) is (a.registers register)
    in let r : Reads (take count (drop place machine.stack)) count = set_bytes maps held state machine a place count inside set
    in record {
      bytes = r.bytes;
      read = key_read machine (register_value machine register) p.at place count a.is_machine.stack_size p.is p.counted inside r;
      count_is = r.count_is;
      small = All-from_recursion (λ byte. byte < 256) r.bytes r.small;
    }

-- the map and the key
record KeyFound (program : Program) (machine : MachineState) (map : ℕ) : Type 0 where
  definition : MapDef
  same : slice_get program.maps map ≡ Some definition
  named : meaning.map_argument (register_value machine R1) ≡ Ok map
  known : map_at program map ≡ Ok definition
  key : BytesFound machine (register_value machine R2) definition.key_size

key_found : (program : Program) (held : Held) (state : State) (machine : MachineState) → Abstracts program.maps held state machine → (map : ℕ) →
    KnowsKey program.maps state map → KeyFound program machine map
key_found program held state machine a map k =
    let c : IsKnownMap (kind_scope_of program.maps held a.ids machine) map (register_value machine R1) =
    subst (λ kind. KindCovers (kind_scope_of program.maps held a.ids machine) kind (register_value machine R1)) k.is_map (a.registers R1)
    in let same : key_size_of (slice_get program.maps map) ≡ c.definition.key_size = ap key_size_of c.known
    in record {
      definition = c.definition;
      same = c.known;
      named = rw c.is refl;
      known = map_known program map c.definition c.known;
      key = bytes_found program.maps held state machine a R2 k.key c.definition.key_size k.is_key (subst (λ n. k.key + n ≤ 512) same k.inside)
          (subst (λ n. are_bytes_set state k.key n ≡ true) same k.set);
    }

abbrev is_key : (program : Program) (machine : MachineState) (map : ℕ) (f : KeyFound program machine map) → IsKeyOf program.maps map f.key.bytes
is_key program machine map f = record { definition = f.definition; known = f.same; key_size = f.key.count_is; bytes = f.key.small }

-- ---- deletions

delete_follows : (program : Program) (held : Held) (state : State) (machine : MachineState) → Abstracts program.maps held state machine →
    (map : ℕ) → KnowsKey program.maps state map → FallsOn program held (after_return any_number state) machine (machine.slot + 1) (delete_step program machine)
delete_follows program held state machine a map k =
    let f = key_found program held state machine a map k
    in rw (f.named, f.known, f.key.read) (
      record { map = map; of_map = is_key program machine map f; own = refl },
      delete_answered program held state machine a (shard_of_key map f.definition.kind program.shards f.key.bytes) f.key.bytes,
    )

delete_sound : (program : Program) (held : Held) (state : State) (machine : MachineState) (number : ℤ) (flow : Flow) → Abstracts program.maps held state machine →
    falls (reads_arguments state MapDeleteElem >>= (λ _. checked_call program.maps state machine.slot MapDeleteElem)) ≡ Ok flow →
    Follows program held flow machine (CallHelper number) (delete_step program machine)
delete_sound program held state machine number flow a e =
    let made = falls_made (reads_arguments state MapDeleteElem >>= (λ _. checked_call program.maps state machine.slot MapDeleteElem)) flow e
    in let first = ok_then (reads_arguments state MapDeleteElem) (λ _. checked_call program.maps state machine.slot MapDeleteElem) made.0 made.1.0
    in let second = ok_then (key_arguments program.maps state) (λ map. Ok (after_return any_number state)) made.0 first.1.1
    in let same : after_return any_number state ≡ made.0 = ok_same (Ok (after_return any_number state)) (after_return any_number state) made.0 refl second.1.1
    in settled program held machine (CallHelper number) (delete_step program machine) flow made.0 (after_return any_number state) made.1.1 same (one_slot number)
    (delete_follows program held state machine a second.0 (knows_key program.maps state second.0 second.1.0))

-- ---- updates

scalar_kind : (kind : Kind) (register : Register) (done : Unit {0}) → checked_number_argument kind register ≡ Ok done → (i : Interval) × (kind ≡ Scalar i)
scalar_kind (Scalar i) register done e = (i, refl)
scalar_kind Unset register done e = cc
scalar_kind Ctx register done e = cc
scalar_kind (Stack place) register done e = cc
scalar_kind (Map map) register done e = cc
scalar_kind (Packet id off range) register done e = cc
scalar_kind PacketEnd register done e = cc
scalar_kind (ValueOrNull m id) register done e = cc
scalar_kind (Value m id off) register done e = cc

record KnowsUpdate (maps : List MapDef) (state : State) (map : ℕ) : Type 0 where
  at : KnowsKey maps state map
  value : ℕ
  is_value : kind_of state R3 ≡ Stack value
  inside : value + value_size_of (slice_get maps map) ≤ 512
  set : are_bytes_set state value (value_size_of (slice_get maps map)) ≡ true
  flags : Interval
  are_flags : kind_of state R4 ≡ Scalar flags

knows_update : (maps : List MapDef) (state : State) (map : ℕ) → update_arguments maps state ≡ Ok map → KnowsUpdate maps state map
knows_update maps state map e =
    let first = ok_then (checked_map_argument (kind_of state R1) R1) (λ map.
    stack_argument (kind_of state R2) R2 >>= (λ key.
    stack_argument (kind_of state R3) R3 >>= (λ value.
    checked_number_argument (kind_of state R4) R4 >>= (λ _.
    when_all (is_inside_stack key (key_size_of (slice_get maps map)) && is_inside_stack value (value_size_of (slice_get maps map))) StackBounds >>= (λ _.
    when_all (are_bytes_set state key (key_size_of (slice_get maps map)) && are_bytes_set state value (value_size_of (slice_get maps map))) StackUnset >>= (λ _.
    Ok map)))))) map e
    in let second = ok_then (stack_argument (kind_of state R2) R2) (λ key.
    stack_argument (kind_of state R3) R3 >>= (λ value.
    checked_number_argument (kind_of state R4) R4 >>= (λ _.
    when_all (is_inside_stack key (key_size_of (slice_get maps first.0)) && is_inside_stack value (value_size_of (slice_get maps first.0))) StackBounds >>= (λ _.
    when_all (are_bytes_set state key (key_size_of (slice_get maps first.0)) && are_bytes_set state value (value_size_of (slice_get maps first.0))) StackUnset >>= (λ _.
    Ok first.0))))) map first.1.1
    in let third = ok_then (stack_argument (kind_of state R3) R3) (λ value.
    checked_number_argument (kind_of state R4) R4 >>= (λ _.
    when_all (is_inside_stack second.0 (key_size_of (slice_get maps first.0)) && is_inside_stack value (value_size_of (slice_get maps first.0))) StackBounds >>= (λ _.
    when_all (are_bytes_set state second.0 (key_size_of (slice_get maps first.0)) && are_bytes_set state value (value_size_of (slice_get maps first.0))) StackUnset >>= (λ _.
    Ok first.0)))) map second.1.1
    in let fourth = ok_then (checked_number_argument (kind_of state R4) R4) (λ _.
    when_all (is_inside_stack second.0 (key_size_of (slice_get maps first.0)) && is_inside_stack third.0 (value_size_of (slice_get maps first.0))) StackBounds >>= (λ _.
    when_all (are_bytes_set state second.0 (key_size_of (slice_get maps first.0)) && are_bytes_set state third.0 (value_size_of (slice_get maps first.0))) StackUnset >>= (λ _.
    Ok first.0))) map third.1.1
    in let fifth = ok_then (when_all (is_inside_stack second.0 (key_size_of (slice_get maps first.0)) && is_inside_stack third.0 (value_size_of (slice_get maps first.0))) StackBounds) (λ _.
    when_all (are_bytes_set state second.0 (key_size_of (slice_get maps first.0)) && are_bytes_set state third.0 (value_size_of (slice_get maps first.0))) StackUnset >>= (λ _.
    Ok first.0)) map fourth.1.1
    in let sixth = ok_then (when_all (are_bytes_set state second.0 (key_size_of (slice_get maps first.0)) && are_bytes_set state third.0 (value_size_of (slice_get maps first.0))) StackUnset)
    (λ _. Ok first.0) map fifth.1.1
    in let same : first.0 ≡ map = ok_same (Ok first.0) first.0 map refl sixth.1.1
    in let inside = and_parts (is_inside_stack second.0 (key_size_of (slice_get maps first.0))) (is_inside_stack third.0 (value_size_of (slice_get maps first.0)))
    (ok_if (is_inside_stack second.0 (key_size_of (slice_get maps first.0)) && is_inside_stack third.0 (value_size_of (slice_get maps first.0))) tt fifth.0 StackBounds fifth.1.0).0
    in let set = and_parts (are_bytes_set state second.0 (key_size_of (slice_get maps first.0))) (are_bytes_set state third.0 (value_size_of (slice_get maps first.0)))
    (ok_if (are_bytes_set state second.0 (key_size_of (slice_get maps first.0)) && are_bytes_set state third.0 (value_size_of (slice_get maps first.0))) tt sixth.0 StackUnset sixth.1.0).0
    in let flags = scalar_kind (kind_of state R4) R4 fourth.0 fourth.1.0
    in record {
      at = record {
        key = second.0;
        is_map = map_kind (kind_of state R1) first.0 first.1.0 ∙ ap Map same;
        is_key = stack_kind (kind_of state R2) R2 second.0 second.1.0;
        inside = subst (λ map. second.0 + key_size_of (slice_get maps map) ≤ 512) same (leb-true (second.0 + key_size_of (slice_get maps first.0)) 512 inside.0);
        set = subst (λ map. are_bytes_set state second.0 (key_size_of (slice_get maps map)) ≡ true) same set.0;
      };
      value = third.0;
      is_value = stack_kind (kind_of state R3) R3 third.0 third.1.0;
      inside = subst (λ map. third.0 + value_size_of (slice_get maps map) ≤ 512) same (leb-true (third.0 + value_size_of (slice_get maps first.0)) 512 inside.1);
      set = subst (λ map. are_bytes_set state third.0 (value_size_of (slice_get maps map)) ≡ true) same set.1;
      flags = flags.0;
      are_flags = flags.1;
    }

number_read : (v : RegisterValue) (n : ℕ) → v ≡ Number n → meaning.number_argument v ≡ Ok n
number_read v n is = ap meaning.number_argument is

number_there : (s : KindScope) (kind : Kind) (i : Interval) (v : RegisterValue) → kind ≡ Scalar i → KindCovers s kind v → IsNumberIn i v
number_there s kind i v is c = subst (λ kind. KindCovers s kind v) is c

update_follows : (program : Program) (held : Held) (state : State) (machine : MachineState) → Abstracts program.maps held state machine →
    (map : ℕ) → KnowsUpdate program.maps state map → FallsOn program held (after_return any_number state) machine (machine.slot + 1) (update_step program machine)
update_follows program held state machine a map k =
    let f = key_found program held state machine a map k.at
    in let size : value_size_of (slice_get program.maps map) ≡ f.definition.value_size = ap value_size_of f.same
    in let value : BytesFound machine (register_value machine R3) f.definition.value_size =
    bytes_found program.maps held state machine a R3 k.value f.definition.value_size k.is_value (subst (λ n. k.value + n ≤ 512) size k.inside)
    (subst (λ n. are_bytes_set state k.value n ≡ true) size k.set)
    in let flags = number_there (kind_scope_of program.maps held a.ids machine) (kind_of state R4) k.flags (register_value machine R4) k.are_flags (a.registers R4)
    in let number = number_read (register_value machine R4) flags.number flags.is
    in rw (f.named, f.known, f.key.read, value.read, number) (
      record {
        map = map;
        of_map = record { at = is_key program machine map f; value_size = value.count_is; value_bytes = value.small };
        own = refl;
        small_flags = flags.word;
      },
      update_answered program held state machine a (shard_of_key map f.definition.kind program.shards f.key.bytes) f.key.bytes value.bytes flags.number,
    )

update_sound : (program : Program) (held : Held) (state : State) (machine : MachineState) (number : ℤ) (flow : Flow) → Abstracts program.maps held state machine →
    falls (reads_arguments state MapUpdateElem >>= (λ _. checked_call program.maps state machine.slot MapUpdateElem)) ≡ Ok flow →
    Follows program held flow machine (CallHelper number) (update_step program machine)
update_sound program held state machine number flow a e =
    let made = falls_made (reads_arguments state MapUpdateElem >>= (λ _. checked_call program.maps state machine.slot MapUpdateElem)) flow e
    in let first = ok_then (reads_arguments state MapUpdateElem) (λ _. checked_call program.maps state machine.slot MapUpdateElem) made.0 made.1.0
    in let second = ok_then (update_arguments program.maps state) (λ _. Ok (after_return any_number state)) made.0 first.1.1
    in let same : after_return any_number state ≡ made.0 = ok_same (Ok (after_return any_number state)) (after_return any_number state) made.0 refl second.1.1
    in settled program held machine (CallHelper number) (update_step program machine) flow made.0 (after_return any_number state) made.1.1 same (one_slot number)
    (update_follows program held state machine a second.0 (knows_update program.maps state second.0 second.1.0))

-- ---- the packet's start is moved

-- what is known beside the packet is known of the packet as it then is
beside : (t : KindScope) (generation size : ℕ) (kind : Kind) (v : RegisterValue) → KindCovers (record t { generation = generation; size = size }) kind v →
    KindCovers t (told_moved kind) v
beside t generation size Unset v c = tt
beside t generation size (Scalar i) v c = c
beside t generation size Ctx v c = c
beside t generation size (Stack place) v c = c
beside t generation size (Packet id off range) v c = tt
beside t generation size PacketEnd v c = tt
beside t generation size (Map map) v c = record { is = c.is; definition = c.definition; known = c.known }
beside t generation size (ValueOrNull map id) v (inl c) = inl (record { found = c.found; is = c.is; earlier = c.earlier })
beside t generation size (ValueOrNull map id) v (inr c) = inr (record { cell = c.cell; found = c.found; at = c.at; least = c.least; most = c.most; is = c.is; held = c.held; earlier = c.earlier })
beside t generation size (Value map id off) v c = record { cell = c.cell; found = c.found; at = c.at; least = c.least; most = c.most; is = c.is; held = c.held; earlier = c.earlier }

word_beside : (t : KindScope) (generation size : ℕ) (word : StackWord) (places : List StackByte) → WordCovers (record t { generation = generation; size = size }) word places →
    WordCovers t (told_word HeadMoved word) places
word_beside t generation size (Spilled kind) places c =
    spilled_covers t (told_moved kind) places (record { value = c.value; covered = beside t generation size kind c.value c.covered; stored = c.stored })
word_beside t generation size (Bytes set) places c = c

moved_bytes : (delta : ℤ) (frame : FrameView) → All (λ byte. byte < 256) frame.bytes → All (λ byte. byte < 256) (moved_head delta frame).bytes
moved_bytes (pos forward) frame each = All-drop (λ byte. byte < 256) forward frame.bytes each
moved_bytes (negsuc back) frame each = All-append (λ byte. byte < 256) (replicate (suc back) 0) frame.bytes (All-replicate (λ byte. byte < 256) (suc back) 0 (omega arith)) each

where_moved : (t : Bool) (moved frame : FrameView) → All (λ byte. byte < 256) moved.bytes → All (λ byte. byte < 256) frame.bytes →
    All (λ byte. byte < 256) (if t then moved else frame).bytes
where_moved true moved frame one other = one
where_moved false moved frame one other = other

-- the run's state with its packet's start moved
abbrev head_moved : MachineState → ℤ → MachineState
head_moved machine delta = record machine { frame = adjusted_head delta machine.frame; generation = machine.generation + 1 }

moved_sound : (maps : List MapDef) (held : Held) (state : State) (machine : MachineState) (delta : ℤ) → Abstracts maps held state machine →
    Abstracts maps held (told HeadMoved state) (head_moved machine delta)
moved_sound maps held state machine delta a = record {
  ids = a.ids;
  registers = λ register.
      let l : register_number register < 11 = number_below register
      in let e : length state.registers ≡ 11 = a.is_machine.eleven_kinds
      in rw (get_or-map (told_kind HeadMoved) state.registers (register_number register) Unset Unset (omega arith))
      (beside (kind_scope_of maps held a.ids (head_moved machine delta)) machine.generation (length machine.frame.bytes) (kind_of state register)
      (register_value machine register) (a.registers register));
  stack = λ word l.
      let e : length state.stack ≡ 64 = a.is_machine.word_count
      in rw (get_or-map (told_word HeadMoved) state.stack word (Spilled Unset) (Spilled Unset) (omega arith))
      (word_beside (kind_scope_of maps held a.ids (head_moved machine delta)) machine.generation (length machine.frame.bytes) (word_of state word)
      (places_of word machine.stack) (a.stack word l));
  start = λ h. absurd (omega arith);
  bases = a.bases;
  is_machine = record {
    eleven = a.is_machine.eleven;
    eleven_kinds = length-map state.registers (told_kind HeadMoved) ∙ a.is_machine.eleven_kinds;
    stack_size = a.is_machine.stack_size;
    word_count = length-map state.stack (told_word HeadMoved) ∙ a.is_machine.word_count;
    worker = a.is_machine.worker;
    time = a.is_machine.time;
    frame = where_moved (head_can_move delta machine.frame) (moved_head delta machine.frame) machine.frame
        (moved_bytes delta machine.frame a.is_machine.frame) a.is_machine.frame;
  };
}

answer_fits : (delta : ℤ) (frame : FrameView) → FitsSigned w32 (adjust_answer delta frame)
answer_fits delta frame = by_test (head_can_move delta frame)
  where
    by_test : (t : Bool) → FitsSigned w32 (if t then pos 0 else negsuc 21)
    by_test true = search arith
    by_test false = search arith

adjusted_sound : (program : Program) (held : Held) (state : State) (machine : MachineState) (delta : ℤ) → Abstracts program.maps held state machine →
    GoesOnAt program.maps held (after_return any_number (told HeadMoved state)) machine (adjusted_state machine delta) (machine.slot + 1)
adjusted_sound program held state machine delta a =
    let moved : Abstracts program.maps held (told HeadMoved state) (head_moved machine delta) = moved_sound program.maps held state machine delta a
    in record {
      at = refl;
      counted = refl;
      sound = returned_sound program.maps held held (told HeadMoved state) (head_moved machine delta) moved.ids moved (λ map shard cell h. h) (λ id h. refl) (λ id h. refl)
          moved.bases any_number (Number (twos_complement 64 (adjust_answer delta machine.frame)))
          (in_full U64 (twos_complement 64 (adjust_answer delta machine.frame))
          (immediate_fits (adjust_answer delta machine.frame) (answer_fits delta machine.frame)));
    }

context_kind : (kind : Kind) (register : Register) (done : Unit {0}) → checked_context_argument kind register ≡ Ok done → kind ≡ Ctx
context_kind Ctx register done e = refl
context_kind Unset register done e = cc
context_kind (Scalar i) register done e = cc
context_kind (Stack place) register done e = cc
context_kind (Map map) register done e = cc
context_kind (Packet id off range) register done e = cc
context_kind PacketEnd register done e = cc
context_kind (ValueOrNull m id) register done e = cc
context_kind (Value m id off) register done e = cc

head_follows : (program : Program) (held : Held) (state : State) (machine : MachineState) → Abstracts program.maps held state machine → (done : Unit {0}) →
    head_arguments state ≡ Ok done → FallsOn program held (after_return any_number (told HeadMoved state)) machine (machine.slot + 1) (adjust_head_step machine)
head_follows program held state machine a done e =
    let first = ok_then (checked_context_argument (kind_of state R1) R1) (λ _. checked_number_argument (kind_of state R2) R2) done e
    in let context : register_value machine R1 ≡ ContextPointer =
    subst (λ kind. KindCovers (kind_scope_of program.maps held a.ids machine) kind (register_value machine R1)) (context_kind (kind_of state R1) R1 first.0 first.1.0) (a.registers R1)
    in let is_number = scalar_kind (kind_of state R2) R2 done first.1.1
    in let n = number_there (kind_scope_of program.maps held a.ids machine) (kind_of state R2) is_number.0 (register_value machine R2) is_number.1 (a.registers R2)
    in let e1 : meaning.context_argument (register_value machine R1) ≡ Ok 0 = ap meaning.context_argument context
    in let e2 = number_read (register_value machine R2) n.number n.is
    in rw (e1, e2) (adjusted_sound program held state machine (signed_value 32 (low_half n.number)) a)

head_sound : (program : Program) (held : Held) (state : State) (machine : MachineState) (number : ℤ) (flow : Flow) → Abstracts program.maps held state machine →
    falls (reads_arguments state XdpAdjustHead >>= (λ _. checked_call program.maps state machine.slot XdpAdjustHead)) ≡ Ok flow →
    Follows program held flow machine (CallHelper number) (adjust_head_step machine)
head_sound program held state machine number flow a e =
    let made = falls_made (reads_arguments state XdpAdjustHead >>= (λ _. checked_call program.maps state machine.slot XdpAdjustHead)) flow e
    in let first = ok_then (reads_arguments state XdpAdjustHead) (λ _. checked_call program.maps state machine.slot XdpAdjustHead) made.0 made.1.0
    in let second = ok_then (head_arguments state) (λ _. Ok (after_return any_number (told HeadMoved state))) made.0 first.1.1
    in let same : after_return any_number (told HeadMoved state) ≡ made.0 =
    ok_same (Ok (after_return any_number (told HeadMoved state))) (after_return any_number (told HeadMoved state)) made.0 refl second.1.1
    in settled program held machine (CallHelper number) (adjust_head_step machine) flow made.0 (after_return any_number (told HeadMoved state)) made.1.1 same (one_slot number)
    (head_follows program held state machine a second.0 second.1.0)

-- ---- each helper

helper_sound : (program : Program) (held : Held) (state : State) (machine : MachineState) (n : ℕ) (flow : Flow) (a : Abstracts program.maps held state machine) →
    (t1 t2 t3 t5 t8 t44 : Bool) →
    falls (known_helper (if t1 then Some MapLookupElem else (if t2 then Some MapUpdateElem else (if t3 then Some MapDeleteElem else (if t5 then Some KtimeGetNs
    else (if t8 then Some GetSmpProcessorId else (if t44 then Some XdpAdjustHead else None))))))
    >>= (λ helper. reads_arguments state helper >>= (λ _. checked_call program.maps state machine.slot helper))) ≡ Ok flow →
    Follows program held flow machine (CallHelper (pos n))
    (found_helper_step program machine (if t1 then Some MapLookupElem else (if t2 then Some MapUpdateElem else (if t3 then Some MapDeleteElem
    else (if t5 then Some KtimeGetNs else (if t8 then Some GetSmpProcessorId else (if t44 then Some XdpAdjustHead else None)))))))
helper_sound program held state machine n flow a true t2 t3 t5 t8 t44 e = lookup_sound program held state machine (pos n) flow a e
helper_sound program held state machine n flow a false true t3 t5 t8 t44 e = update_sound program held state machine (pos n) flow a e
helper_sound program held state machine n flow a false false true t5 t8 t44 e = delete_sound program held state machine (pos n) flow a e
helper_sound program held state machine n flow a false false false true t8 t44 e =
    number_sound program held state machine a (pos n) flow any_number (Number machine.now) e (in_full U64 machine.now a.is_machine.time)
helper_sound program held state machine n flow a false false false false true t44 e =
    number_sound program held state machine a (pos n) flow (Scalar (interval_of 0 7)) (Number machine.worker) e
    (let small : machine.worker < 8 = a.is_machine.worker
    in record { number = machine.worker; is = refl; within = record { above = omega arith; below = omega arith }; word = omega arith })
helper_sound program held state machine n flow a false false false false false true e = head_sound program held state machine (pos n) flow a e
helper_sound program held state machine n flow a false false false false false false e = cc

pub call_sound : (program : Program) (held : Held) (state : State) (machine : MachineState) (number : ℤ) (flow : Flow) →
    Abstracts program.maps held state machine → flow_of program.maps state machine.slot (CallHelper number) ≡ Ok flow →
    Follows program held flow machine (CallHelper number) (instruction_step program (CallHelper number) machine)
call_sound program held state machine (pos n) flow a e = helper_sound program held state machine n flow a (n == 1) (n == 2) (n == 3) (n == 5) (n == 8) (n == 44) e
call_sound program held state machine (negsuc below) flow a e = cc
