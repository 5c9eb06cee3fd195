-- What the calls of the tests require.
use Rattle.std.proofs.Common.{◌≡◌, ℕ, zero, suc, ◌<◌, List, length, arith, refl, ◌∙◌, ap}
use Rattle.std.specs.Prelude.{All, Some, slice_get}
use Rattle.ebpf_decode.specs.declared.map.MapDef.{MapDef}
use Rattle.semantics.specs.declared.call.CellRef.{CellRef}
use Rattle.semantics.specs.ServedCalls.{Held, IsKeyOf, IsPairOf, IsHandedOut}
use Rattle.semantics.specs.Program.{value_size_of}
use Rattle.map_port.specs.Served.{Maps, program_over, lookup_call, reply_of_handle, IsReadable}
use Rattle.shard_tests.specs.ExampleMaps.{array_of, hash_map_of, example_maps}
use Rattle.shard_port.proofs.shared.MayAskLemmas.{shard_of_known}

pub record IsExample (served : Maps) (map : ℕ) : Type 0 where
  pub definition : MapDef
  pub known : slice_get served.maps map ≡ Some definition
  pub key_size : 4 ≡ definition.key_size
  pub value_size : 8 ≡ definition.value_size

pub example : (served : Maps) (map : ℕ) → served.maps ≡ example_maps → map < 3 → IsExample served map
example served zero maps below = record {
  definition = array_of 1;
  known = ap (λ all. slice_get all 0) maps;
  key_size = refl;
  value_size =
      refl;
}
example served (suc zero) maps below = record {
  definition = array_of 3;
  known = ap (λ all. slice_get all 1) maps;
  key_size = refl;
  value_size = refl;
}
example served (suc (suc zero)) maps below = record {
  definition = hash_map_of 2;
  known = ap (λ all. slice_get all 2) maps;
  key_size = refl;
  value_size = refl;
}
example served (suc (suc (suc map))) maps below = absurd (omega arith)

pub example_key : (served : Maps) (map : ℕ) (key : List ℕ) → served.maps ≡ example_maps → map < 3 → length key ≡ 4 →
    All (λ byte. byte < 256) key → IsKeyOf served.maps map key
example_key served map key maps below size bytes =
    let known = example served map maps below in
    record { definition = known.definition; known = known.known; key_size = size ∙ known.key_size; bytes = bytes }

pub example_pair : (served : Maps) (map : ℕ) (key value : List ℕ) → served.maps ≡ example_maps → map < 3 → length key ≡ 4 →
    All (λ byte. byte < 256) key → length value ≡ 8 → All (λ byte. byte < 256) value → IsPairOf served.maps map key value
unfolding example_key example
example_pair served map key value maps below size bytes value_size value_bytes =
    record {
      at = example_key served map key maps below size bytes;
      value_size = value_size ∙ (example served map maps below).value_size;
      value_bytes = value_bytes;
    }

pub example_cell : (served served' : Maps) (held : Held) (cell_of : ℕ → CellRef) (map : ℕ) (key : List ℕ) (handle : ℕ) →
    served.maps ≡ example_maps → map < 3 → served' ≡ served →
    IsHandedOut (program_over served) held (lookup_call served map key) (reply_of_handle cell_of handle) → 0 < handle →
    IsReadable served' held (cell_of handle) 0 8
example_cell served served' held cell_of map key zero maps below same handed some = absurd (omega arith)
example_cell served served' held cell_of map key (suc handle) maps below same handed some =
    let known = example served map maps below in
    let there : slice_get served'.maps map ≡ Some known.definition = ap (λ (one : Maps). slice_get one.maps map) same ∙ known.known in
    let size : value_size_of (slice_get served'.maps map) ≡ known.definition.value_size = ap value_size_of there in
    record {
      map = map;
      holds = handed map known.definition known.known (shard_of_known served map key known.definition known.known);
      is_size = refl;
      inside = omega (arith, size, known.value_size);
    }
