-- The entries of a map's shards, one shard after the other.
use Rattle.std.proofs.Common.{◌≡◌, ◌≢◌, ℕ, ◌+◌, ◌*◌, ◌/◌, ◌%◌, ◌==◌, ◌<◌, ◌≤◌, true, ◌&&◌, List, [], ◌++◌, length, Option, Some, None, slice_get, refl, sym, ap, ◌∙◌, inl, inr, arith}
use Rattle.std.specs.Prelude.{nat_lt, option_map, if◌then◌else◌}
use Rattle.std.proofs.Math.Nat.{mod-lt, mul-le-mul_right}
use Rattle.std.proofs.lemmas.Bool.{cases_Bool, cases_lt, lt-ltb, le-ltb, and_parts, eqb-true}
use Rattle.std.proofs.lemmas.Nat.{div-mul-add, mod-mul-add}
use Rattle.ebpf_decode.specs.declared.map.MapDef.{MapDef}
use Rattle.semantics.specs.declared.options.Options.{Options}
use Rattle.semantics.specs.declared.plan.ShardPlan.{ShardPlan}
use Rattle.semantics.specs.Program.{part_of_key}
use Rattle.semantics.specs.ShardPlan.{plan_for_map}
use Rattle.semantics.specs.SequentialShard.{cell_of_key, cell_bytes}
use Rattle.semantics.specs.History.{is_own_key, are_bytes}
use Rattle.plain_maps.specs.Listed.{ListsAll}
use Rattle.plain_maps.proofs.shared.Listing.{when_true, when_false, first_of, lists_append, lists_as, lists_none}
use Rattle.shard_core.specs.JournaledShard.{JournaledShard, state_of}
use Rattle.shard_core.specs.Listing.{value_of_key, AreContentsOfShard}
use Rattle.shard_core.proofs.shared.Ordered.{lists_of_contents}
use Rattle.shards.specs.MapContents.{HasParts, HavePlans, value_in_shard, value_in_map}

module _ (definition : MapDef) (parts : ℕ) (shards : List JournaledShard) (map : ℕ) where
  -- the value of a key of the first parts
  abbrev pub value_below : ℕ → List ℕ → Option (List ℕ)
  value_below count key = if nat_lt (part_of_key definition.kind parts key) count then value_in_map definition parts shards map key else None

  abbrev part_of : List ℕ → ℕ
  part_of key = part_of_key definition.kind parts key

  below : (count : ℕ) (key : List ℕ) → part_of key < count → value_below count key ≡ value_in_map definition parts shards map key
  below count key lt = when_true (nat_lt (part_of key) count) (value_in_map definition parts shards map key) None (lt-ltb (part_of key) count lt)

  not_below : (count : ℕ) (key : List ℕ) → count ≤ part_of key → value_below count key ≡ None
  not_below count key ge = when_false (nat_lt (part_of key) count) (value_in_map definition parts shards map key) None (le-ltb (part_of key) count ge)

  none_below : (key : List ℕ) → None ≡ value_below 0 key
  none_below key = sym (not_below 0 key (omega arith))

  all_below : 0 < parts → (key : List ℕ) → value_below parts key ≡ value_in_map definition parts shards map key
  all_below some key = below parts key (mod-lt _ some)

  module _ (part : ℕ) (shard : JournaledShard) (there : slice_get shards (map * parts + part) ≡ Some shard)
      (same_definition : shard.plan.definition ≡ definition) (same_part : shard.plan.part ≡ part) (same_parts : shard.plan.parts ≡ parts) where
    own_part : (key : List ℕ) → is_own_key shard.plan key ≡ true → part_of_key definition.kind parts key ≡ part
    own_part key own =
        let test = and_parts (length key == shard.plan.definition.key_size) (part_of_key shard.plan.definition.kind shard.plan.parts key == shard.plan.part && are_bytes key) own in
        let is : part_of_key shard.plan.definition.kind shard.plan.parts key ≡ shard.plan.part =
        eqb-true (part_of_key shard.plan.definition.kind shard.plan.parts key) shard.plan.part (and_parts (part_of_key shard.plan.definition.kind shard.plan.parts key == shard.plan.part) (are_bytes key) test.1).0 in
        sym (ap (λ (d : MapDef). part_of_key d.kind parts key) same_definition) ∙ sym (ap (λ (n : ℕ). part_of_key shard.plan.definition.kind n key) same_parts) ∙ is ∙ same_part

    -- a key of another part has no value in the shard
    foreign : (key : List ℕ) → part_of_key definition.kind parts key ≢ part → value_of_key shard.plan (state_of shard) key ≡ None
    foreign key other = elim (cases_Bool (is_own_key shard.plan key)) [
      | inl own ↦ absurd (other (own_part key own))
      | inr not_own ↦ when_false (is_own_key shard.plan key) (option_map (cell_bytes (state_of shard)) (cell_of_key shard.plan (state_of shard) key)) None not_own
    ]

    of_part : (key : List ℕ) → part_of_key definition.kind parts key ≡ part → value_in_map definition parts shards map key ≡ value_of_key shard.plan (state_of shard) key
    of_part key is = ap (λ (found : Option JournaledShard). value_in_shard found key) (ap (λ (n : ℕ). slice_get shards (map * parts + n)) is ∙ there)

    with_none : (found : Option (List ℕ)) → first_of found None ≡ found
    with_none None = refl
    with_none (Some value) = refl

    one_more : (key : List ℕ) → first_of (value_below part key) (value_of_key shard.plan (state_of shard) key) ≡ value_below (part + 1) key
    one_more key = elim (cases_lt (part_of key) part) [
      | inl lower ↦ (let none = foreign key (λ same. absurd (omega (arith, same, lower))) in
          ap (first_of (value_below part key)) none ∙ with_none (value_below part key) ∙ below part key lower ∙ sym (below (part + 1) key (omega (arith, lower))))
      | inr at_least ↦ elim (cases_lt part (part_of key)) [
        | inl higher ↦ (let none = foreign key (λ same. absurd (omega (arith, same, higher))) in
            ap (λ (found : Option (List ℕ)). first_of found (value_of_key shard.plan (state_of shard) key)) (not_below part key at_least) ∙ none ∙ sym (not_below (part + 1) key (omega (arith, higher))))
        | inr at_most ↦ (let same : part_of key ≡ part = omega (arith, at_least, at_most) in
            ap (λ (found : Option (List ℕ)). first_of found (value_of_key shard.plan (state_of shard) key)) (not_below part key at_least)
            ∙ sym (of_part key same) ∙ sym (below (part + 1) key (omega (arith, same))))
      ]
    ]

    apart : (key value : List ℕ) → value_below part key ≡ Some value → value_of_key shard.plan (state_of shard) key ≡ None
    apart key value found = elim (cases_lt (part_of key) part) [
      | inl lower ↦ foreign key (λ same. absurd (omega (arith, same, lower)))
      | inr at_least ↦ (let clash : None ≡ Some value = sym (not_below part key at_least) ∙ found in absurd (cc clash))
    ]

    -- the entries of one part more
    pub lists_more : (entries more : List (List ℕ × List ℕ)) → ListsAll (value_below part) entries → AreContentsOfShard shard more → ListsAll (value_below (part + 1)) (entries ++ more)
    lists_more entries more lists contents =
        lists_as (λ key. first_of (value_below part key) (value_of_key shard.plan (state_of shard) key)) (value_below (part + 1)) (entries ++ more) one_more
        (lists_append (value_below part) (value_of_key shard.plan (state_of shard)) entries more lists
        (lists_of_contents shard.plan.definition.kind (value_of_key shard.plan (state_of shard)) more contents) apart)

  pub lists_start : ListsAll (value_below 0) []
  lists_start = lists_none (value_below 0) none_below

  pub lists_end : 0 < parts → (entries : List (List ℕ × List ℕ)) → ListsAll (value_below parts) entries → ListsAll (value_in_map definition parts shards map) entries
  lists_end some entries lists = lists_as (value_below parts) (value_in_map definition parts shards map) entries (all_below some) lists

-- ---- the plan of a shard of a map

some_same : {one other : ShardPlan} → Some one ≡ Some other → one ≡ other
some_same same = cc

pub plan_there : (maps : List MapDef) (options : Options) (shards : List JournaledShard) (map : ℕ) (definition : MapDef) → HavePlans maps options shards → slice_get maps map ≡ Some definition → HasParts definition map options.shards shards
plan_there maps options shards map definition have known part shard within there =
    let place : (map * options.shards + part) / options.shards ≡ map = div-mul-add map options.shards part within in
    let rest : (map * options.shards + part) % options.shards ≡ part = mod-mul-add map options.shards part within in
    let planned : Some shard.plan ≡ plan_for_map options (map * options.shards + part) (Some definition) =
    sym (have.planned (map * options.shards + part) shard there)
    ∙ ap (λ (n : ℕ). plan_for_map options (map * options.shards + part) (slice_get maps n)) place ∙ ap (plan_for_map options (map * options.shards + part)) known in
    let is : shard.plan ≡ _ = some_same planned in
    record {
      same_definition = ap (λ (plan : ShardPlan). plan.definition) is;
      same_part = ap (λ (plan : ShardPlan). plan.part) is ∙ rest;
      same_parts = ap (λ (plan : ShardPlan). plan.parts) is;
    }

-- the shards of a map are among all
pub parts_within : (maps : List MapDef) (options : Options) (shards : List JournaledShard) (map : ℕ) → HavePlans maps options shards → map < length maps → map * options.shards + options.shards ≤ length shards
parts_within maps options shards map have lt =
    let ends : (map + 1) * options.shards ≤ length maps * options.shards = mul-le-mul_right options.shards (omega (arith, lt)) in
    let count = have.count in
    omega (arith, ends, count)
