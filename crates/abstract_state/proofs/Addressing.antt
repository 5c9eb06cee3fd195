-- An address in the value of an array's element 0: its lookup is served, and finds a cell, whatever reply a run may be given.
use Rattle.std.proofs.Common.{◌≡◌, ℕ, ◌+◌, ◌*◌, ◌%◌, ◌<◌, ℤ, pos, negsuc, Option, Some, None, Ok, refl, sym, ◌∙◌, ap, subst, arith}
use Rattle.std.specs.Prelude.{slice_get}
use Rattle.std.specs.List.{AllByRecursion}
use Rattle.std.proofs.lemmas.List.Elements.{All-from_recursion}
use Rattle.isa.specs.declared.operation.Register.{Register}
use Rattle.ebpf_decode.specs.declared.insn.Insn.TheVariants.{Ldval}
use Rattle.ebpf_decode.specs.declared.map.MapDef.{MapDef}
use Rattle.ebpf_decode.specs.declared.map.MapKind.{MapKind}
use Rattle.ebpf_decode.specs.declared.map.MapKind.TheVariants.{Array, Hash, LruHash}
use Rattle.ebpf_decode.specs.InstructionEncoding.{slot_count}
use Rattle.semantics.specs.declared.call.Call.TheVariants.{Lookup}
use Rattle.semantics.specs.declared.call.Reply.{Reply}
use Rattle.semantics.specs.declared.call.Reply.TheVariants.{Entered, Left, Cell, Null, Word, Done, Answer, Freed}
use Rattle.semantics.specs.RegisterValue.{Uninitialized, CellPointer}
use Rattle.semantics.specs.MachineState.{MachineState, with_register}
use Rattle.semantics.specs.PlanLimits.{HasImageSizes, IsIndexSize}
use Rattle.semantics.proofs.shared.PlanLemmas.{each_at}
use Rattle.semantics.specs.Program.{Program, part_of_key, shard_of_key}
use Rattle.semantics.specs.RunTrace.{IsReplyTo}
use Rattle.semantics.specs.Semantics.{first_key, at_next_slot, value_address_step, instruction_step}
use Rattle.semantics.specs.Semantics as meaning
use Rattle.abstract_state.specs.declared.kind.Kind.{Kind}
use Rattle.abstract_state.specs.declared.kind.Kind.TheVariants.{Value}
use Rattle.abstract_state.specs.declared.flow.Flow.{Flow}
use Rattle.abstract_state.specs.declared.flow.Flow.TheVariants.{Falls}
use Rattle.abstract_state.specs.declared.broken_rule.BrokenRule.TheVariants.{UnknownMap, ValueBounds, NotArrayMap}
use Rattle.abstract_state.specs.declared.state.State.{State}
use Rattle.abstract_state.specs.States.{◌>>=◌, with_kind}
use Rattle.abstract_state.specs.Places.{at_offset, place_within}
use Rattle.abstract_state.specs.Flow.{writable, array_size, address_in, checked_value_address, address_flow, flow_of}
use Rattle.abstract_state.specs.Soundness.{GoesOnAt, FallsOn, Follows, HoldsAfter}
use Rattle.abstract_state.specs.Abstraction.{Held, Abstracts}
use Rattle.abstract_state.proofs.shared.Writing.{written}
use Rattle.abstract_state.proofs.shared.Inverting.{err_not_ok, ok_value, ok_then, place_is}
use Rattle.abstract_state.proofs.shared.Following.{written_is, falls_follow}
use Rattle.abstract_state.proofs.LookingUp.{map_known, with_found, kept_found, now_found}

-- the map is an array, and the offset lies in its values
record HasArray (program : Program) (map : ℤ) (slot offset : ℕ) (kind : Kind) : Type 0 where
  place : ℕ
  definition : MapDef
  is : map ≡ pos place
  known : slice_get program.maps place ≡ Some definition
  array : definition.kind ≡ Array
  kind_is : kind ≡ Value place slot (at_offset offset)

is_array : (kind : MapKind) (size value : ℕ) → array_size kind size ≡ Ok value → kind ≡ Array
is_array Array size value e = refl
is_array Hash size value e = absurd (err_not_ok NotArrayMap value e)
is_array LruHash size value e = absurd (err_not_ok NotArrayMap value e)

array_found : (program : Program) (place slot offset : ℕ) (kind : Kind) (found : Option MapDef) → slice_get program.maps place ≡ found →
    address_in found place slot offset ≡ Ok kind → HasArray program (pos place) slot offset kind
array_found program place slot offset kind None is e = absurd (err_not_ok UnknownMap kind e)
array_found program place slot offset kind (Some definition) is e =
    let size = ok_then (array_size definition.kind definition.value_size)
    (λ size. place_within (pos offset) size ValueBounds >>= (λ at. Ok (Value place slot (at_offset at)))) kind e
    in let at = ok_then (place_within (pos offset) size.value ValueBounds) (λ at. Ok (Value place slot (at_offset at))) kind size.next
    in let there = place_is (pos offset) size.value ValueBounds at.value at.is
    in let same : offset ≡ at.value = (let both : pos offset ≡ pos at.value = there.is in cc)
    in record {
      place = place;
      definition = definition;
      is = refl;
      known = is;
      array = is_array definition.kind definition.value_size size.value size.is;
      kind_is = sym (ok_value (Value place slot (at_offset at.value)) kind at.next) ∙ ap (λ n. Value place slot (at_offset n)) (sym same);
    }

array_there : (program : Program) (map : ℤ) (slot offset : ℕ) (kind : Kind) → checked_value_address program.maps slot map offset ≡ Ok kind → HasArray program map slot offset kind
array_there program (pos place) slot offset kind e = array_found program place slot offset kind (slice_get program.maps place) refl e
array_there program (negsuc below) slot offset kind e = absurd (err_not_ok UnknownMap kind e)

-- the lookup goes to the first of the map's shards
no_part : (n : ℕ) → 0 % n ≡ 0
no_part n = omega arith

first_shard : (map shards : ℕ) (kind : MapKind) → kind ≡ Array → map * shards ≡ shard_of_key map kind shards first_key
first_shard map shards kind array =
    let none : 0 % shards ≡ 0 = no_part shards
    in let own : map * shards ≡ map * shards + 0 % shards = omega (arith, none)
    in own ∙ ap (λ kind. map * shards + part_of_key kind shards first_key) (sym array)

two_slots : (dst : Register) (map : ℤ) (offset : ℕ) → 0 < slot_count (Ldval dst map offset)
unfolding slot_count
two_slots dst map offset = omega arith

addressed : (program : Program) (held : Held) (state : State) (machine : MachineState) (a : Abstracts program.maps held state machine) → AllByRecursion HasImageSizes program.maps →
    (dst : Register) → writable dst ≡ Ok tt → (place offset : ℕ) (definition : MapDef) → slice_get program.maps place ≡ Some definition → definition.kind ≡ Array →
    FallsOn program held (with_kind state dst (Value place machine.slot (at_offset offset))) machine (machine.slot + slot_count (Ldval dst (pos place) offset))
    (value_address_step program (Ldval dst (pos place) offset) machine dst (pos place) offset)
addressed program held state machine a sizes dst may place offset definition known array =
    rw (map_known program place definition known, written_is machine dst Uninitialized may) (
      record {
        map = place;
        of_map = record {
          definition = definition;
          known = known;
          key_size = sym (subst (λ kind. IsIndexSize kind definition.key_size) array (each_at HasImageSizes program.maps place definition sizes known).index_size);
          bytes = All-from_recursion (λ byte. byte < 256) first_key (omega arith, (omega arith, (omega arith, (omega arith, tt))));
        };
        own = own;
      },
      given,
    )
  where
    own : place * program.shards ≡ shard_of_key place definition.kind program.shards first_key
    own = first_shard place program.shards definition.kind array

    some : 0 < slot_count (Ldval dst (pos place) offset)
    some = two_slots dst (pos place) offset

    given : (reply : Reply) → IsReplyTo program (Lookup (place * program.shards) first_key) reply → (held' : Held) →
        HoldsAfter program held held' (Lookup (place * program.shards) first_key) reply →
        GoesOnAt program.maps held' (with_kind state dst (Value place machine.slot (at_offset offset))) machine
        (at_next_slot (Ldval dst (pos place) offset) (with_register machine dst (meaning.value_address place offset reply)))
        (machine.slot + slot_count (Ldval dst (pos place) offset))
    given (Cell cell) is held' after = record {
      at = refl;
      counted = refl;
      sound = written program.maps held held' state machine (with_found a.ids machine.slot (Some cell)) dst (Value place machine.slot (at_offset offset))
          (CellPointer place cell.shard cell.id (pos offset)) (machine.slot + slot_count (Ldval dst (pos place) offset)) (machine.steps + 1) a (omega (arith, some)) after.kept
          (λ id h. refl) (kept_found a.ids machine.slot (Some cell)) a.bases
          (record {
            cell = cell;
            found = now_found a.ids machine.slot (Some cell);
            at = offset;
            least = omega arith;
            most = omega arith;
            is = refl;
            held = after.handed_out place definition known own;
            earlier = omega (arith, some);
          });
    }
    given Null is held' after = absurd (is place definition known array refl refl)
    given Entered is held' after = absurd is
    given Left is held' after = absurd is
    given (Word n) is held' after = absurd is
    given Done is held' after = absurd is
    given (Answer code) is held' after = absurd is
    given (Freed count) is held' after = absurd is

pub address_sound : (program : Program) (held : Held) (state : State) (machine : MachineState) (dst : Register) (map : ℤ) (offset : ℕ) (flow : Flow) →
    Abstracts program.maps held state machine → AllByRecursion HasImageSizes program.maps → flow_of program.maps state machine.slot (Ldval dst map offset) ≡ Ok flow →
    Follows program held flow machine (Ldval dst map offset) (instruction_step program (Ldval dst map offset) machine)
address_sound program held state machine dst map offset flow a sizes e =
    falls_follow program held machine (Ldval dst map offset) (instruction_step program (Ldval dst map offset) machine)
    (address_flow program.maps state machine.slot dst map offset) flow e
    (λ after is.
    let may = ok_then (writable dst) (λ _. checked_value_address program.maps machine.slot map offset >>= (λ kind. Ok (with_kind state dst kind))) after is
    in let made = ok_then (checked_value_address program.maps machine.slot map offset) (λ kind. Ok (with_kind state dst kind)) after may.next
    in let has : HasArray program map machine.slot offset made.value = array_there program map machine.slot offset made.value made.is
    in subst (λ x. Follows program held (Falls x) machine (Ldval dst map offset) (instruction_step program (Ldval dst map offset) machine))
    (ap (with_kind state dst) (sym has.kind_is) ∙ ok_value (with_kind state dst made.value) after made.next)
    (subst (λ map. FallsOn program held (with_kind state dst (Value has.place machine.slot (at_offset offset))) machine (machine.slot + slot_count (Ldval dst map offset))
    (value_address_step program (Ldval dst map offset) machine dst map offset)) (sym has.is)
    (addressed program held state machine a sizes dst may.is has.place offset has.definition has.known has.array)))
