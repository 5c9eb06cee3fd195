-- The maps of an image, whatever its version, are ones that an image of version 2 may have.
use Rattle.std.proofs.Common.{List, [], ◌∷◌, arith}
use Rattle.std.specs.List.{AllByRecursion}
use Rattle.std.proofs.lemmas.Bool.Decides.{nat_tests}
use Rattle.ebpf_decode.specs.declared.version.Version.{Version}
use Rattle.ebpf_decode.specs.declared.version.Version.TheVariants.{V1, V2}
use Rattle.ebpf_decode.specs.declared.insn.Insn.{Insn}
use Rattle.ebpf_decode.specs.declared.map.MapDef.{MapDef}
use Rattle.ebpf_decode.specs.ImageContents.{IsAllowedMap, IsEncodable}
use Rattle.journals.specs.JournalsView.{AreImageMaps}

allowed_in_two : (version : Version) (m : MapDef) → IsAllowedMap version m → IsAllowedMap V2 m
allowed_in_two V2 m is = is
allowed_in_two V1 m is = grind (arith, nat_tests)

each_allowed : (version : Version) (maps : List MapDef) → AllByRecursion (IsAllowedMap version) maps → AllByRecursion (IsAllowedMap V2) maps
each_allowed version [] are = tt
each_allowed version (m ∷ maps) are = (allowed_in_two version m are.0, each_allowed version maps are.1)

pub image_maps : (version : Version) (maps : List MapDef) (code : List Insn) → IsEncodable version maps code → AreImageMaps maps
image_maps version maps code is = record { few = is.few_maps; allowed = each_allowed version maps is.maps_allowed }
