-- The rows of single instructions, computed.
use Rattle.std.proofs.Common.{refl}
use Rattle.ebpf_decode.specs.InstructionEncoding.{slot_count}
use Rattle.semantics.specs.RegisterValue.{Uninitialized, Number, ContextPointer, StackPointer, PacketPointer, PacketEnd, MapPointer, CellPointer}
use Rattle.semantics.specs.TraceRows.{StoresAsk, AtomicsAsk, ShortAtomicsAsk, HelpersAsk, AddressesAsk, SpilledPointersComeBack}

pub stores_ask : StoresAsk
unfolding slot_count
stores_ask = record { one_byte = refl; two_bytes = refl; four_bytes = refl; eight_bytes = refl; immediate = refl; long_immediate = refl }

pub atomics_ask : AtomicsAsk
unfolding slot_count
atomics_ask = record {
  add = refl;
  or = refl;
  and = refl;
  xor = refl;
  fetch_add = refl;
  fetch_or = refl;
  fetch_and = refl;
  fetch_xor = refl;
  exchange = refl;
  compare_equal = refl;
  compare_unequal = refl;
}

pub short_atomics_ask : ShortAtomicsAsk
unfolding slot_count
short_atomics_ask = record {
  add = refl;
  or = refl;
  and = refl;
  xor = refl;
  fetch_add = refl;
  fetch_or = refl;
  fetch_and = refl;
  fetch_xor = refl;
  exchange = refl;
  compare_equal = refl;
  compare_unequal = refl;
}

pub helpers_ask : HelpersAsk
unfolding slot_count
helpers_ask = record { delete_calls = refl; delete_absent = refl; delete_done = refl; head_moved = refl; head_verdict = refl; head_stays = refl }

pub addresses_ask : AddressesAsk
unfolding slot_count
addresses_ask = record { asked = refl; verdict = refl; address = refl }

pub spilled_come_back : SpilledPointersComeBack
unfolding slot_count
spilled_come_back Uninitialized pointer = absurd cc
spilled_come_back (Number n) pointer = absurd cc
spilled_come_back ContextPointer pointer = refl
spilled_come_back (StackPointer place) pointer = refl
spilled_come_back (PacketPointer generation place) pointer = refl
spilled_come_back (PacketEnd generation) pointer = refl
spilled_come_back (MapPointer map) pointer = refl
spilled_come_back (CellPointer map shard cell offset) pointer = refl
