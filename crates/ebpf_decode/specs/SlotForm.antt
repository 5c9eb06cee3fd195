-- A slot's eight bytes as fields (RFC 9669, section 3): opcode, destination in the low four bits of the second byte and source
-- in the high four, a signed 16-bit offset, a signed 32-bit immediate, all little-endian.
use Rattle.std.specs.Prelude.{ℕ, zero, suc, ◌+◌, ◌*◌, ◌/◌, ◌%◌, Bool, ◌&&◌, ◌==◌, List, [], ◌∷◌, ◌++◌, drop, slice_index}
use Rattle.std.specs.Int.{w16, w32, to_le_bytes, from_le_bytes, cast_signed, cast_unsigned}
use Rattle.std.specs.Ordering.{int_eq}
use Rattle.ebpf_decode.specs.declared.slot.CodeSlot.{CodeSlot}

abbrev pub slot_bytes : CodeSlot → List ℕ
slot_bytes s =
    s.opcode ∷ (s.dst + 16 * s.src) ∷ [] ++ to_le_bytes w16 (cast_unsigned w16 s.offset) ++ to_le_bytes w32 (cast_unsigned w32 s.immediate)

-- the first slot of the bytes
abbrev pub slot_at : List ℕ → CodeSlot
slot_at bytes = record {
  opcode = slice_index bytes 0;
  dst = slice_index bytes 1 % 16;
  src = slice_index bytes 1 / 16;
  offset = cast_signed w16 (from_le_bytes w16 (slice_index bytes 2 ∷ slice_index bytes 3 ∷ []));
  immediate = cast_signed w32 (from_le_bytes w32 (slice_index bytes 4 ∷ slice_index bytes 5 ∷ slice_index bytes 6 ∷
      slice_index bytes 7 ∷ []));
}

-- this many slots from the front of the bytes
unfoldable pub slots_at : ℕ → List ℕ → List CodeSlot
slots_at zero bytes = []
slots_at (suc n) bytes = slot_at bytes ∷ slots_at n (drop 8 bytes)

abbrev pub same_slot : CodeSlot → CodeSlot → Bool
same_slot a b = a.opcode == b.opcode && a.dst == b.dst && a.src == b.src && int_eq a.offset b.offset && int_eq a.immediate b.immediate
