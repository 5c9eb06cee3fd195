-- The shard and the cell of a key: with several shards to a map, those of its number's remainder and quotient.
use Rattle.std.proofs.Common.{◌≡◌, ◌≢◌, ◌⊎◌, inl, inr, ℕ, List, [], subst, ◌+◌, ◌*◌, ◌%◌, ◌/◌, ◌<◌, ◌==◌, ◌&&◌, Bool, true, false, refl, sym, ◌∙◌, ap, arith}
use Rattle.std.proofs.Math.Nat.{mod-lt, div-add-mod}
use Rattle.std.proofs.lemmas.Bool.{eqb-true, eqb-false}
use Rattle.std.proofs.lemmas.Bool.Decides.{nat_tests}
use Rattle.std.proofs.lemmas.Nat.{div-mul-add, mod-mul-add}
use Rattle.ebpf_decode.specs.declared.map.MapKind.{MapKind}
use Rattle.ebpf_decode.specs.declared.map.MapKind.TheVariants.{Array}
use Rattle.semantics.specs.declared.call.Entry.{Entry}
use Rattle.semantics.specs.declared.plan.ShardPlan.{ShardPlan}
use Rattle.actors.specs.Rounds.{IsReclaimedBy}

-- how many shards a map may have
abbrev pub IsShards : ℕ → Type 0
IsShards shards = (shards ≡ 1) ⊎ (shards ≡ 2) ⊎ (shards ≡ 4) ⊎ (shards ≡ 8)

pub some_shard : (shards : ℕ) → IsShards shards → 0 < shards
some_shard shards (inl is) = omega (arith, is)
some_shard shards (inr (inl is)) = omega (arith, is)
some_shard shards (inr (inr (inl is))) = omega (arith, is)
some_shard shards (inr (inr (inr is))) = omega (arith, is)

pub rounds_none : (kind : MapKind) → kind ≡ Array → (plan : ShardPlan) (number rounds : ℕ) (own seen : List Entry) → IsReclaimedBy kind plan number rounds own seen → own ≡ []
rounds_none kind array plan number rounds own seen made = subst (λ (k : MapKind). IsReclaimedBy k plan number rounds own seen) array made

pub same_command : (a : ℕ) → (a == a) ≡ true
same_command a = grind (arith, nat_tests)

pub part_place : (shards place part : ℕ) → part < shards → (place * shards + part) / shards ≡ place
part_place shards place part few = div-mul-add place shards part few

module _ (shards : ℕ) (some : 0 < shards) where
  other_place : (place at part rest : ℕ) → part < shards → rest < shards → at ≢ place → (at * shards + part == place * shards + rest) ≡ false
  other_place place at part rest few less other = by (at * shards + part == place * shards + rest) refl
    where
      by : (test : Bool) → (at * shards + part == place * shards + rest) ≡ test → test ≡ false
      by false is = refl
      by true is =
          let same : at * shards + part ≡ place * shards + rest = eqb-true (at * shards + part) (place * shards + rest) is in
          absurd (other (sym (part_place shards at part few) ∙ ap (λ n. n / shards) same ∙ part_place shards place rest less))

  -- an update of another map is in another shard
  pub aside_of : (place at part number : ℕ) (x y : Bool) → part < shards → at ≢ place →
      ((at * shards + part == place * shards + number % shards) && x) ≡ ((at == place) && y)
  aside_of place at part number x y few other =
      ap (λ (t : Bool). t && x) (other_place place at part (number % shards) few (mod-lt number some) other) ∙ by (at == place) refl
    where
      by : (test : Bool) → (at == place) ≡ test → false ≡ (test && y)
      by true is = absurd (other (eqb-true at place is))
      by false is = refl

  -- of the same map it is in the cell if it is of the key
  pub same_place : (place at number : ℕ) (x : Bool) →
      ((place * shards + at % shards == place * shards + number % shards) && (x && (at / shards == number / shards))) ≡ ((place == place) && (x && (at == number)))
  same_place place at number x = by (at == number) refl ∙ ap (λ (t : Bool). t && (x && (at == number))) (sym (same_command place))
    where
      differs : at ≢ number → (one : Bool) → (place * shards + at % shards == place * shards + number % shards) ≡ one → (two : Bool) → (at / shards == number / shards) ≡ two →
          (three : Bool) → (one && (three && two)) ≡ (three && false)
      differs other true is true also three =
          let sums : place * shards + at % shards ≡ place * shards + number % shards = eqb-true (place * shards + at % shards) (place * shards + number % shards) is in
          let rest : at % shards ≡ number % shards =
          sym (mod-mul-add place shards (at % shards) (mod-lt at some)) ∙ ap (λ n. n % shards) sums ∙ mod-mul-add place shards (number % shards) (mod-lt number some) in
          let parts : at / shards ≡ number / shards = eqb-true (at / shards) (number / shards) also in
          absurd (other (sym (div-add-mod at shards) ∙ ap (λ n. shards * n + at % shards) parts ∙ ap (λ n. shards * (number / shards) + n) rest ∙ div-add-mod number shards))
      differs other true is false also three = refl
      differs other false is two also true = refl
      differs other false is two also false = refl

      by : (test : Bool) → (at == number) ≡ test →
          ((place * shards + at % shards == place * shards + number % shards) && (x && (at / shards == number / shards))) ≡ (x && (at == number))
      by true is =
          let same : at ≡ number = eqb-true at number is in
          ap (λ n. (place * shards + n % shards == place * shards + number % shards) && (x && (n / shards == number / shards))) same
          ∙ ap (λ (t : Bool). t && (x && (number / shards == number / shards))) (same_command (place * shards + number % shards))
          ∙ ap (λ (t : Bool). x && t) (same_command (number / shards) ∙ sym is)
      by false is =
          differs (eqb-false at number is) (place * shards + at % shards == place * shards + number % shards) refl (at / shards == number / shards) refl x
          ∙ ap (λ (t : Bool). x && t) (sym is)
