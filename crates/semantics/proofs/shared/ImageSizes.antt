-- The maps of an image have sizes that the image format allows, in each version.
use Rattle.std.proofs.Common.{◌≡◌, ℕ, ◌≤◌, true, nat_le, List, [], ◌∷◌, arith}
use Rattle.std.specs.List.{AllByRecursion}
use Rattle.std.proofs.lemmas.Bool.Decides.{nat_tests}
use Rattle.ebpf_decode.specs.declared.version.Version.{Version}
use Rattle.ebpf_decode.specs.declared.version.Version.TheVariants.{V1, V2}
use Rattle.ebpf_decode.specs.declared.map.MapDef.{MapDef}
use Rattle.ebpf_decode.specs.declared.map.MapKind.{MapKind}
use Rattle.ebpf_decode.specs.declared.map.MapKind.TheVariants.{Array, Hash, LruHash}
use Rattle.ebpf_decode.specs.ImageContents.{IsAllowedMap}
use Rattle.ebpf_decode.specs.MapForm.{is_key_size, is_value_size, is_entry_count}
use Rattle.semantics.specs.PlanLimits.{IsIndexSize, HasImageSizes}
use Rattle.semantics.proofs.shared.ConditionLemmas.{first_true, second_true}

few_bytes : (size : ℕ) → is_key_size Hash size ≡ true → size ≤ 32
few_bytes size sized = let most : nat_le size 32 ≡ true = second_true _ _ sized in grind (arith, nat_tests)

key_part : (kind : MapKind) (size : ℕ) → is_key_size kind size ≡ true → (size ≤ 32) × IsIndexSize kind size
key_part Array size sized = let four : size ≡ 4 = grind (arith, nat_tests) in (omega (arith, four), four)
key_part Hash size sized = (few_bytes size sized, tt)
key_part LruHash size sized = (few_bytes size sized, tt)

value_part : (version : Version) (size : ℕ) → is_value_size version size ≡ true → size ≤ 256
value_part V1 size sized = let most : nat_le size 64 ≡ true = second_true _ _ sized in grind (arith, nat_tests)
value_part V2 size sized = let most : nat_le size 256 ≡ true = second_true _ _ sized in grind (arith, nat_tests)

count_part : (count : ℕ) → is_entry_count count ≡ true → (1 ≤ count) × (count ≤ 131072)
count_part count counted =
    let least : nat_le 1 count ≡ true = first_true _ _ counted in
    let most : nat_le count 131072 ≡ true = second_true _ _ counted in
    (grind (arith, nat_tests), grind (arith, nat_tests))

map_sizes : (version : Version) (definition : MapDef) → IsAllowedMap version definition → HasImageSizes definition
map_sizes version definition allowed =
    let key = key_part definition.kind definition.key_size (first_true _ _ (first_true _ _ allowed)) in
    let count = count_part definition.max_entries (second_true _ _ allowed) in
    record {
      key_size = key.0;
      index_size = key.1;
      value_size = value_part version definition.value_size (second_true _ _ (first_true _ _ allowed));
      some_entries = count.0;
      most_entries = count.1;
    }

pub image_sizes : (version : Version) (maps : List MapDef) → AllByRecursion (IsAllowedMap version) maps → AllByRecursion HasImageSizes maps
image_sizes version [] allowed = tt
image_sizes version (one ∷ rest) allowed = (map_sizes version one allowed.0, image_sizes version rest allowed.1)
