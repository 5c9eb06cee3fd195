-- The shards of an image's maps stay that, whatever is called on them.
use Rattle.std.proofs.Common.{◌≡◌, ⊎_elim, ℕ, zero, suc, ◌<◌, ◌%◌, Bool, true, false, List, [], ◌∷◌, ◌++◌, length, reverse, Option, Some, None, arith, refl, sym, ◌∙◌, ap, subst}
use Rattle.std.specs.Prelude.{Result, Ok, Err}
use Rattle.std.specs.Prelude.{◌==◌, IfOk, OnErr, slice_get, slice_set, if◌then◌else◌}
use Rattle.std.specs.List.{AllByRecursion}
use Rattle.std.proofs.lemmas.List.{length-set}
use Rattle.std.proofs.lemmas.Bool.Decides.{nat_tests}
use Rattle.ebpf_decode.specs.declared.map.MapDef.{MapDef}
use Rattle.semantics.specs.declared.options.Options.{Options}
use Rattle.semantics.specs.declared.plan.ShardPlan.{ShardPlan}
use Rattle.semantics.specs.declared.call.Call.{Call}
use Rattle.semantics.specs.declared.call.Reply.{Reply}
use Rattle.semantics.specs.declared.call.Entry.{Entry}
use Rattle.semantics.specs.ShardPlan.{plan_for_map}
use Rattle.semantics.specs.SequentialShard.{shard_after}
use Rattle.semantics.specs.History.{shard_of_call, IsLegalJournal}
use Rattle.shard_core.specs.JournaledShard.{JournaledShard, shard_with_entry}
use Rattle.semantics.specs.declared.full.JournalFull.{JournalFull}
use Rattle.shard_port.specs.Asking.{is_in, enter_by, leave_by, entered, left, asked_entry, all_left, IsWorkerOf, EntersAndCalls, CannotEnter, CannotCall, CannotEnterOrCall, IsAnsweredAmong, IsTurnedAwayAmong}
use Rattle.shard_port.specs.PortView.{HasByteCells, SetsBytes, IsShardOf, AreShardsOf, IsPortReady}
use Rattle.shard_port.specs.PortLaws.{newest_first, append_none}
use Rattle.semantics.proofs.shared.CellBytes.{cells_after_call}

-- ---- plans

pub plan_number : (options : Options) (number : ℕ) (definition : Option MapDef) (plan : ShardPlan) →
    plan_for_map options number definition ≡ Some plan → (plan.number ≡ number) × (plan.part ≡ number % options.shards)
    × (plan.parts ≡ options.shards) × (plan.workers ≡ options.workers) × (definition ≡ Some plan.definition)
plan_number options number None plan is = cc
plan_number options number (Some definition) plan is =
    let same : (record {
      number = number;
      part = number % options.shards;
      parts = options.shards;
      definition = definition;
      workers =
          options.workers;
      reserve = options.journal;
    }) ≡ plan = cc in (
      ap (λ (one : ShardPlan). one.number) (sym same),
      ap (λ (one : ShardPlan). one.part) (sym same),
      ap (λ (one : ShardPlan). one.parts) (sym same),
      ap (λ (one : ShardPlan). one.workers) (sym same),
      ap (λ (one : ShardPlan). Some one.definition) same,
    )

-- ---- one shard

pub bytes_with_entry : (shard : JournaledShard) (entry : Entry) → SetsBytes entry.call → HasByteCells shard →
    HasByteCells (shard_with_entry shard entry)
bytes_with_entry shard entry sets held =
    rw (newest_first shard entry) (cells_after_call shard.plan (reverse shard.journal) (shard_after shard.plan (reverse shard.journal))
    entry.call sets held)

pub bytes_entered : (worker : ℕ) (shard : JournaledShard) → HasByteCells shard → HasByteCells (entered worker shard)
bytes_entered worker shard held = by_test (is_in worker shard)
  where
    by_test : (inside : Bool) → HasByteCells (record {
      plan = shard.plan;
      journal =
          shard.journal ++ (if inside then [] else enter_by worker shard.plan.number ∷ []);
    })
    by_test true = rw (append_none shard.journal) held
    by_test false = bytes_with_entry shard (enter_by worker shard.plan.number) tt held

bytes_answered : (worker : ℕ) (before : JournaledShard) (call : Call) (reply : Reply) (after : JournaledShard) → SetsBytes call →
    EntersAndCalls worker before call reply after → HasByteCells before → HasByteCells after
bytes_answered worker before call reply after sets answered held =
    subst HasByteCells (sym answered.written) (bytes_with_entry (entered worker before) (asked_entry worker call reply) sets
    (bytes_entered worker before held))

bytes_turned_away : (worker : ℕ) (before : JournaledShard) (call : Call) (after : JournaledShard) → CannotEnterOrCall worker before call after →
    HasByteCells before → HasByteCells after
bytes_turned_away worker before call after away held =
    ⊎_elim (λ (out : CannotEnter worker before after). subst HasByteCells (sym out.unchanged) held)
    (λ (out : CannotCall worker before call after). subst HasByteCells (sym out.entered_only) (bytes_entered worker before held)) away

plan_answered : (worker : ℕ) (before : JournaledShard) (call : Call) (reply : Reply) (after : JournaledShard) →
    EntersAndCalls worker before call reply after → after.plan ≡ before.plan
plan_answered worker before call reply after answered = ap (λ (shard : JournaledShard). shard.plan) answered.written

plan_turned_away : (worker : ℕ) (before : JournaledShard) (call : Call) (after : JournaledShard) → CannotEnterOrCall worker before call after →
    after.plan ≡ before.plan
plan_turned_away worker before call after away =
    ⊎_elim (λ (out : CannotEnter worker before after). ap (λ (shard : JournaledShard). shard.plan) out.unchanged)
    (λ (out : CannotCall worker before call after). ap (λ (shard : JournaledShard). shard.plan) out.entered_only) away

-- ---- many shards

at_set : (shards : List JournaledShard) (number : ℕ) (new : JournaledShard) (P : ℕ → JournaledShard → Type 0) →
    ((at : ℕ) (shard : JournaledShard) → slice_get shards at ≡ Some shard → P at shard) → P number new → (at : ℕ) (shard : JournaledShard) →
    slice_get (slice_set shards number new) at ≡ Some shard → P at shard
at_set [] number new P each here at shard is = cc
at_set (first ∷ rest) zero new P each here zero shard is = let same : new ≡ shard = cc in subst (P zero) same here
at_set (first ∷ rest) zero new P each here (suc at) shard is = each (suc at) shard is
at_set (first ∷ rest) (suc number) new P each here zero shard is = each zero shard is
at_set (first ∷ rest) (suc number) new P each here (suc at) shard is =
    at_set rest number new (λ place. P (suc place)) (λ place. each (suc place)) here at shard is

pub shards_with : (maps : List MapDef) (options : Options) (shards : List JournaledShard) (number : ℕ) (old new : JournaledShard) →
    AreShardsOf maps options shards → slice_get shards number ≡ Some old → new.plan ≡ old.plan → IsLegalJournal new.plan new.journal →
    HasByteCells new → AreShardsOf maps options (slice_set shards number new)
shards_with maps options shards number old new are known same legal bytes = record {
  count = length-set shards number new ∙ are.count;
  each = at_set shards number new (IsShardOf maps options) are.each
      (record { planned = (are.each number old known).planned ∙ ap Some (sym same); legal = legal; bytes = bytes });
}

pub shards_answered : (maps : List MapDef) (options : Options) (worker : ℕ) (before : List JournaledShard) (call : Call) (reply : Reply)
    (after : List JournaledShard) → SetsBytes call → IsAnsweredAmong worker before call reply after → AreShardsOf maps options before →
    AreShardsOf maps options after
shards_answered maps options worker before call reply after sets among are =
    subst (AreShardsOf maps options) (sym among.put_back)
    (shards_with maps options before (shard_of_call call) among.shard among.new are among.known
    (plan_answered worker among.shard call reply among.new among.answered) among.legal
    (bytes_answered worker among.shard call reply among.new sets among.answered
    (are.each (shard_of_call call) among.shard among.known).bytes))

pub shards_turned_away : (maps : List MapDef) (options : Options) (worker : ℕ) (before : List JournaledShard) (call : Call)
    (after : List JournaledShard) → IsTurnedAwayAmong worker before call after → AreShardsOf maps options before →
    AreShardsOf maps options after
shards_turned_away maps options worker before call after among are =
    subst (AreShardsOf maps options) (sym among.put_back)
    (shards_with maps options before (shard_of_call call) among.shard among.new are among.known
    (plan_turned_away worker among.shard call among.new among.turned_away) among.legal
    (bytes_turned_away worker among.shard call among.new among.turned_away (are.each (shard_of_call call) among.shard among.known).bytes))

pub ready_with : (maps : List MapDef) (options : Options) (worker : ℕ) (before after : List JournaledShard) →
    (AreShardsOf maps options before → AreShardsOf maps options after) → IsPortReady maps options worker before →
    IsPortReady maps options worker after
ready_with maps options worker before after kept ready = record {
  few = ready.few;
  sizes = ready.sizes;
  are_options = ready.are_options;
  is_worker = ready.is_worker;
  are_shards = kept ready.are_shards;
}

-- a call that was served or refused, whatever its answer is
pub shards_asked : {A : Type 0} (maps : List MapDef) (options : Options) (worker : ℕ) (before : List JournaledShard) (call : Call)
    (replies : A → Reply) (result : Result A JournalFull) (after : List JournaledShard) → SetsBytes call →
    IfOk result (λ answer. IsAnsweredAmong worker before call (replies answer) after) → OnErr result (IsTurnedAwayAmong worker before call after) →
    AreShardsOf maps options before → AreShardsOf maps options after
shards_asked maps options worker before call replies (Ok answer) after sets answered away are =
    shards_answered maps options worker before call (replies answer) after sets answered are
shards_asked maps options worker before call replies (Err full) after sets answered away are =
    shards_turned_away maps options worker before call after away are

-- ---- leaving

legal_left : (worker : ℕ) (shard : JournaledShard) → IsWorkerOf worker shard → IsLegalJournal shard.plan shard.journal →
    IsLegalJournal (left worker shard).plan (left worker shard).journal
legal_left worker shard known legal = by_test (is_in worker shard) refl
  where
    by_test : (inside : Bool) → is_in worker shard ≡ inside →
        IsLegalJournal shard.plan (shard.journal ++ (if inside then leave_by worker shard.plan.number ∷ [] else []))
    by_test true is =
        let own : (shard.plan.number == shard.plan.number) ≡ true = grind (arith, nat_tests) in
        rw (newest_first shard (leave_by worker shard.plan.number)) (
          record {
            step =
                record { met = rw (own, known, is) refl; replied = refl };
            room = refl;
          },
          legal,
        )
    by_test false is = rw (append_none shard.journal) legal

bytes_left : (worker : ℕ) (shard : JournaledShard) → HasByteCells shard → HasByteCells (left worker shard)
bytes_left worker shard held = by_test (is_in worker shard)
  where
    by_test : (inside : Bool) → HasByteCells (record {
      plan = shard.plan;
      journal =
          shard.journal ++ (if inside then leave_by worker shard.plan.number ∷ [] else []);
    })
    by_test true = bytes_with_entry shard (leave_by worker shard.plan.number) tt held
    by_test false = rw (append_none shard.journal) held

at_left : (worker : ℕ) (shards : List JournaledShard) (number : ℕ) (shard : JournaledShard) →
    slice_get (all_left worker shards) number ≡ Some shard →
    (old : JournaledShard) × (slice_get shards number ≡ Some old) × (left worker old ≡ shard)
at_left worker [] number shard is = cc
at_left worker (first ∷ rest) zero shard is = (first, refl, cc)
at_left worker (first ∷ rest) (suc number) shard is = at_left worker rest number shard is

count_left : (worker : ℕ) (shards : List JournaledShard) → length (all_left worker shards) ≡ length shards
count_left worker [] = refl
count_left worker (first ∷ rest) = ap suc (count_left worker rest)

pub is_worker_of : (maps : List MapDef) (options : Options) (worker number : ℕ) (shard : JournaledShard) → worker < options.workers →
    IsShardOf maps options number shard → IsWorkerOf worker shard
is_worker_of maps options worker number shard below is =
    let planned = plan_number options number _ shard.plan is.planned in
    let same : shard.plan.workers ≡ options.workers = planned.3 in
    grind (arith, nat_tests)

pub worker_of_each : (worker : ℕ) (shards : List JournaledShard) →
    ((number : ℕ) (shard : JournaledShard) → slice_get shards number ≡ Some shard → IsWorkerOf worker shard) →
    AllByRecursion (IsWorkerOf worker) shards
worker_of_each worker [] each = tt
worker_of_each worker (first ∷ rest) each = (each zero first refl, worker_of_each worker rest (λ number. each (suc number)))

pub ready_workers : (maps : List MapDef) (options : Options) (worker : ℕ) (shards : List JournaledShard) →
    IsPortReady maps options worker shards → AllByRecursion (IsWorkerOf worker) shards
ready_workers maps options worker shards ready =
    worker_of_each worker shards (λ number shard known. is_worker_of maps options worker number shard ready.is_worker
    (ready.are_shards.each number shard known))

pub shards_left : (maps : List MapDef) (options : Options) (worker : ℕ) (shards : List JournaledShard) →
    IsPortReady maps options worker shards → AreShardsOf maps options (all_left worker shards)
shards_left maps options worker shards ready = record {
  count = count_left worker shards ∙ ready.are_shards.count;
  each = λ number shard known.
      let from = at_left worker shards number shard known in
      let was : IsShardOf maps options number from.0 = ready.are_shards.each number from.0 from.1 in
      subst (IsShardOf maps options number) from.2 (record {
        planned = was.planned;
        legal = legal_left worker from.0 (is_worker_of maps options worker number from.0 ready.is_worker was) was.legal;
        bytes = bytes_left worker from.0 was.bytes;
      });
}
