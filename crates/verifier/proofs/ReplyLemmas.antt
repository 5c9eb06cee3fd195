-- A shard's replies have the form and the size that a run expects.
use Rattle.std.proofs.Common.{◌≡◌, ℕ, suc, ◌+◌, ◌*◌, ◌/◌, ◌^◌, ◌<◌, ◌≤◌, List, [], ◌∷◌, length, take, drop, get_or, Option, Some, None, All, refl, ⊎_elim, arith, lit<}
use Rattle.std.specs.Prelude.{slice_get}
use Rattle.std.proofs.Math.Nat.{pow-le-pow_right}
use Rattle.std.proofs.lemmas.Bool.{cases_lt}
use Rattle.std.proofs.lemmas.List.{get_or_past, length-take}
use Rattle.std.proofs.lemmas.List.Elements.{All-nil, All-head, All-tail, All-take, All-drop, All-get_or}
use Rattle.semantics.specs.declared.call.Entry.{Entry}
use Rattle.semantics.specs.declared.call.Call.TheVariants.{Lookup}
use Rattle.semantics.specs.LittleEndian.{number_of_bytes}
use Rattle.semantics.specs.Program.{Program}
use Rattle.semantics.specs.RunTrace.{IsReplyTo, MayBeAbsent}
use Rattle.semantics.proofs.shared.FirstElement.{nothing_found}
use Rattle.semantics.specs.declared.plan.ShardPlan.{ShardPlan}
use Rattle.semantics.specs.SequentialShard.{cell_of_key, number_in_cell, lookup_reply, shard_after, reply_of}
use Rattle.semantics.proofs.shared.LittleEndianLemmas.{below-more, number_of_bytes-cons}
use Rattle.verifier.proofs.SystemInvariant.{IsSoundShard}

reply_to_lookup : (program : Program) (plan : ShardPlan) (shard : ℕ) (key : List ℕ) (found : Option ℕ) → plan.number ≡ shard →
    (found ≡ None → MayBeAbsent program shard key) → IsReplyTo program (Lookup shard key) (lookup_reply plan found)
reply_to_lookup program plan shard key None number absent = absent refl
reply_to_lookup program plan shard key (Some cell) number absent = number

-- a lookup is answered with a cell of its shard, or with none, where there may be none
pub lookup_answer : (program : Program) (plan : ShardPlan) (h : List Entry) (shard : ℕ) (key : List ℕ) → plan.number ≡ shard → 0 < program.shards →
    slice_get program.maps (shard / program.shards) ≡ Some plan.definition → 1 ≤ plan.definition.max_entries →
    IsReplyTo program (Lookup shard key) (reply_of plan h (shard_after plan h) (Lookup shard key))
lookup_answer program plan h shard key number parts of_plan some =
    reply_to_lookup program plan shard key (cell_of_key plan (shard_after plan h) key) number
    (nothing_found program plan (shard_after plan h) shard key parts of_plan some)

abbrev pub AreAllBytes : List ℕ → Type 0
AreAllBytes bytes = All (λ byte. byte < 256) bytes

pub number_below : (bytes : List ℕ) → AreAllBytes bytes → number_of_bytes bytes < 256 ^ length bytes
number_below [] all = omega arith
number_below (byte ∷ higher) all =
    let rest : number_of_bytes higher < 256 ^ length higher = number_below higher (All-tail (λ one. one < 256) byte higher all)
    in let here : byte < 256 = All-head (λ one. one < 256) byte higher all
    in let more : number_of_bytes higher * 256 + byte < 256 ^ suc (length higher) = below-more (number_of_bytes higher) byte (length higher) rest here
    in rw (number_of_bytes-cons byte higher) more

pub taken_below : (size : ℕ) (bytes : List ℕ) → AreAllBytes bytes → number_of_bytes (take size bytes) < 256 ^ size
taken_below size bytes all =
    let some : number_of_bytes (take size bytes) < 256 ^ length (take size bytes) = number_below (take size bytes) (All-take (λ one. one < 256) size bytes all)
    in let few : length (take size bytes) ≤ size = omega (arith, length-take size bytes)
    in let wider : 256 ^ length (take size bytes) ≤ 256 ^ size = pow-le-pow_right {n = 256} (lit< tt) few
    in omega (arith, some, wider)

-- bytes of each cell: of one that is there, or none
pub cell_all : (cells : List (List ℕ)) (cell : ℕ) → All (All (λ byte. byte < 256)) cells → AreAllBytes (get_or cells cell [])
cell_all cells cell all = ⊎_elim
    (λ below. All-get_or (All (λ byte. byte < 256)) cells cell [] below all)
    (λ past. rw (get_or_past cells cell [] past) (All-nil (λ byte. byte < 256)))
    (cases_lt cell (length cells))

-- a number in a cell has the size that is read
pub word_fits : (plan : ShardPlan) (h : List Entry) (cell offset size : ℕ) → IsSoundShard plan h → number_in_cell (shard_after plan h) cell offset size < 256 ^ size
word_fits plan h cell offset size sound =
    taken_below size (drop offset (get_or (shard_after plan h).cells cell []))
    (All-drop (λ one. one < 256) offset (get_or (shard_after plan h).cells cell []) (cell_all (shard_after plan h).cells cell sound.bytes))
