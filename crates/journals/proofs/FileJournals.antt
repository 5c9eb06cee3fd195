-- Each entry of a legal journal is one that a file may have, in the list of its shard; so the text of legal journals is their file.
use Rattle.std.proofs.Common.{◌≡◌, ℕ, zero, suc, ◌+◌, ◌*◌, ◌/◌, ◌<◌, ◌≤◌, List, [], ◌∷◌, ◌++◌, length, reverse, Some, IsTrue, arith, refl, sym, ap}
use Rattle.std.proofs.Common.{subst, ◌∙◌}
use Rattle.std.specs.Prelude.{◌==◌, slice_get, slice_index_or}
use Rattle.std.specs.List.{AllByRecursion}
use Rattle.std.proofs.lemmas.List.{reverse-append}
use Rattle.std.proofs.lemmas.Nat.{div_below}
use Rattle.ebpf_decode.specs.declared.map.MapDef.{MapDef}
use Rattle.ebpf_decode.specs.declared.version.Version.TheVariants.{V2}
use Rattle.semantics.specs.declared.call.Entry.{Entry}
use Rattle.semantics.specs.declared.options.Options.{Options}
use Rattle.semantics.specs.declared.plan.ShardPlan.{ShardPlan}
use Rattle.semantics.specs.ShardPlan.{plan_for_map, plan_at, KeepsRows}
use Rattle.semantics.specs.PlanLimits.{IsPlan}
use Rattle.semantics.specs.History.{shard_of_call, meets_part, IsLegalStep, IsLegalHistory, IsLegalJournal}
use Rattle.semantics.proofs.shared.ConditionLemmas.{first_true, second_true}
use Rattle.semantics.proofs.shared.HoldingLemmas.{each_weaker}
use Rattle.semantics.proofs.shared.ImageSizes.{image_sizes}
use Rattle.semantics.proofs.shared.PlanLemmas.{some_shards, shards_have_plans, few_parts, plan_of}
use Rattle.journals.specs.JournalsView.{JournalsView, AreJournals, entries_at}
use Rattle.journals.specs.EntryForm.{IsShardNumber, EntryFits, ReplyFits, HasSizesOf, IsFileEntry}
use Rattle.journals.specs.JournalText.{all_entries}
use Rattle.journals.specs.JournalReading.{IsOfShard, AreListedFrom}
use Rattle.journals.specs.LegalJournals.{AreLegal}
use Rattle.journals.specs.FileJournals.{ReadBackWhereLegal}
use Rattle.semantics.proofs.shared.CellBytes.{each_append}
use Rattle.journals.proofs.LegalCalls.{caller_fits, call_fits, sizes_fit, HasReply}
use Rattle.semantics.proofs.shared.CallNumbers.{same_number}
use Rattle.journals.proofs.LegalReplies.{reply_fits}

-- ---- a legal history

-- the entry is one of the plan's shard that a file may have
record IsEntryOf (plan : ShardPlan) (entry : Entry) : Type 0 where
  fits : EntryFits entry
  shard : shard_of_call entry.call ≡ plan.number
  sizes : HasSizesOf plan.definition entry.call

step_fits : (plan : ShardPlan) (older : List Entry) (entry : Entry) → IsPlan plan → IsShardNumber plan.number → IsLegalHistory plan older →
    AllByRecursion (IsEntryOf plan) older → IsLegalStep plan older entry → IsEntryOf plan entry
step_fits plan older entry is few legal fit step =
    let same : shard_of_call entry.call ≡ plan.number =
    same_number _ _ (first_true (shard_of_call entry.call == plan.number) (meets_part plan older entry.who entry.call) step.step.met) in
    let met : IsTrue (meets_part plan older entry.who entry.call) =
    second_true (shard_of_call entry.call == plan.number) (meets_part plan older entry.who entry.call) step.step.met in
    let replies : AllByRecursion HasReply older = each_weaker (IsEntryOf plan) HasReply (λ one is_one. is_one.fits.reply) older fit in
    record {
      fits = record {
        who = caller_fits plan older entry.who entry.call is met;
        call = call_fits plan older entry.who entry.call is replies (omega (arith, same, few)) met;
        reply = subst (λ r. ReplyFits entry.call r) (sym step.step.replied) (reply_fits plan older entry.who entry.call is legal same met step.room);
      };
      shard = same;
      sizes = sizes_fit plan older entry.who entry.call met;
    }

history_fits : (plan : ShardPlan) (history : List Entry) → IsPlan plan → IsShardNumber plan.number → IsLegalHistory plan history →
    AllByRecursion (IsEntryOf plan) history
history_fits plan [] is few legal = tt
history_fits plan (entry ∷ older) is few legal =
    let rest : AllByRecursion (IsEntryOf plan) older = history_fits plan older is few legal.1 in
    (step_fits plan older entry is few legal.1 rest legal.0, rest)

-- ---- a shard's list

each_parts : {A : Type 0} (P : A → Type 0) (xs ys : List A) → AllByRecursion P (xs ++ ys) → AllByRecursion P xs × AllByRecursion P ys
each_parts P [] ys each = (tt, each)
each_parts P (x ∷ xs) ys each = let rest = each_parts P xs ys each.1 in ((each.0, rest.0), rest.1)

each_reversed : {A : Type 0} (P : A → Type 0) (xs : List A) → AllByRecursion P (reverse xs) → AllByRecursion P xs
each_reversed P [] each = tt
each_reversed P (x ∷ xs) each =
    let parts = each_parts P (reverse xs) (x ∷ []) (subst (λ l. AllByRecursion P l) (reverse-append (x ∷ []) xs) each) in
    (parts.1.0, each_reversed P xs parts.0)

-- the entry is one that a file may have in the list of the shard of this number
record IsListed (maps : List MapDef) (options : Options) (number : ℕ) (entry : Entry) : Type 0 where
  file : IsFileEntry maps options entry
  shard : IsOfShard number entry

list_of : (maps : List MapDef) (options : Options) (number : ℕ) (definition : MapDef) (entries : List Entry) →
    IsPlan (plan_of options number definition) → IsShardNumber number → slice_get maps (number / options.shards) ≡ Some definition →
    IsLegalJournal (plan_of options number definition) entries → AllByRecursion (IsListed maps options number) entries
list_of maps options number definition entries is few known legal =
    let plan : ShardPlan = plan_of options number definition in
    each_weaker (IsEntryOf plan) (IsListed maps options number)
    (λ entry one. record {
      file = record {
        fits = one.fits;
        on = record {
          definition = definition;
          known = ap (λ n. slice_get maps (n / options.shards)) one.shard ∙ known;
          sizes = one.sizes;
        };
      };
      shard = one.shard;
    })
    entries
    (each_reversed (IsEntryOf plan) entries (history_fits plan (reverse entries) is few legal))

there : {A : Type 0} (xs : List A) (place : ℕ) → place < length xs → (x : A) × (slice_get xs place ≡ Some x)
there [] place within = absurd (omega arith)
there (x ∷ xs) zero within = (x, refl)
there (x ∷ xs) (suc place) within = there xs place (omega (arith, within))

number_few : (maps : List MapDef) (options : Options) (number : ℕ) → length maps ≤ 16 → options.shards ≤ 8 →
    number < length maps * options.shards → IsShardNumber number
number_few maps options number few small below = search (arith, few, small, below)

list_at : (journals : JournalsView) → AreJournals journals.maps journals.options (length journals.shards) → AreLegal journals → (number : ℕ) →
    number < length journals.shards → AllByRecursion (IsListed journals.maps journals.options number) (entries_at journals number)
list_at journals are legal number within =
    let maps : List MapDef = journals.maps in
    let options : Options = journals.options in
    let below : number < length maps * options.shards = omega (arith, within, are.one_each) in
    let place : number / options.shards < length maps =
    div_below number options.shards (length maps) (some_shards maps options are.options_fit) below in
    let found = there maps (number / options.shards) place in
    let plan : ShardPlan = plan_of options number found.0 in
    let planned : plan_at maps options number ≡ Some plan = ap (plan_for_map options number) found.1 in
    let is : IsPlan plan = shards_have_plans maps options number plan (image_sizes V2 maps are.maps_are.allowed) are.options_fit planned in
    let few : IsShardNumber number = number_few maps options number are.maps_are.few (few_parts maps options are.options_fit) below in
    list_of maps options number found.0 (entries_at journals number) is few found.1 (legal number within plan planned)

-- ---- the lists of all shards

-- the lists from this shard on
abbrev AreListsFrom : List MapDef → Options → ℕ → List (List Entry) → Type 0
AreListsFrom maps options from shards =
    (place : ℕ) → place < length shards → AllByRecursion (IsListed maps options (from + place)) (slice_index_or shards place [])

first_list : (maps : List MapDef) (options : Options) (from : ℕ) (entries : List Entry) (shards : List (List Entry)) →
    AreListsFrom maps options from (entries ∷ shards) → AllByRecursion (IsListed maps options from) entries
first_list maps options from entries shards lists =
    let same : from + 0 ≡ from = omega arith in
    subst (λ n. AllByRecursion (IsListed maps options n) entries) same (lists 0 (omega arith))

later_lists : (maps : List MapDef) (options : Options) (from : ℕ) (entries : List Entry) (shards : List (List Entry)) →
    AreListsFrom maps options from (entries ∷ shards) → AreListsFrom maps options (from + 1) shards
later_lists maps options from entries shards lists = λ place within.
    let same : from + suc place ≡ from + 1 + place = omega arith in
    subst (λ n. AllByRecursion (IsListed maps options n) (slice_index_or shards place [])) same (lists (suc place) (omega (arith, within)))

listed_from : (maps : List MapDef) (options : Options) (from : ℕ) (shards : List (List Entry)) → AreListsFrom maps options from shards →
    AreListedFrom from shards
listed_from maps options from [] lists = tt
listed_from maps options from (entries ∷ shards) lists = (
  each_weaker (IsListed maps options from) (IsOfShard from) (λ entry one. one.shard) entries (first_list maps options from entries shards lists),
  listed_from maps options (from + 1) shards (later_lists maps options from entries shards lists),
)

all_fit : (maps : List MapDef) (options : Options) (from : ℕ) (shards : List (List Entry)) → AreListsFrom maps options from shards →
    AllByRecursion (IsFileEntry maps options) (all_entries shards)
all_fit maps options from [] lists = tt
all_fit maps options from (entries ∷ shards) lists =
    each_append (IsFileEntry maps options) entries (all_entries shards)
    (each_weaker (IsListed maps options from) (IsFileEntry maps options) (λ entry one. one.file) entries (first_list maps options from entries shards lists))
    (all_fit maps options (from + 1) shards (later_lists maps options from entries shards lists))

lists_are : (journals : JournalsView) → AreJournals journals.maps journals.options (length journals.shards) → AreLegal journals →
    AreListsFrom journals.maps journals.options 0 journals.shards
lists_are journals are legal = λ place within.
    let same : place ≡ 0 + place = omega arith in
    subst (λ n. AllByRecursion (IsListed journals.maps journals.options n) (entries_at journals place)) same (list_at journals are legal place within)

pub read_back : (journals : JournalsView) → AreJournals journals.maps journals.options (length journals.shards) → KeepsRows journals.options.journal →
    ReadBackWhereLegal journals
read_back journals are rows legal =
    let lists = lists_are journals are legal in
    record {
      of_maps = refl;
      journals_are = are;
      rows = rows;
      fit = all_fit journals.maps journals.options 0 journals.shards lists;
      listed = listed_from journals.maps journals.options 0 journals.shards lists;
      spelled = refl;
    }
