-- What rounds of Reclaims leave: in each hash and LRU shard one entry a round, fewer only where its journal is full for it; and over all
-- shards one Reclaim for each of these shards a round, in the order of their numbers.
use Rattle.std.specs.Prelude.{◌≡◌, ◌≤◌, ◌<◌, ℕ, zero, suc, ◌⊎◌, Bool, true, false, List, [], ◌∷◌, ◌++◌, length, reverse, if◌then◌else◌}
use Rattle.std.specs.List.{AllByRecursion}
use Rattle.ebpf_decode.specs.declared.map.MapKind.{MapKind}
use Rattle.ebpf_decode.specs.declared.map.MapKind.TheVariants.{Array}
use Rattle.semantics.specs.declared.call.Caller.TheVariants.{Reclaimer}
use Rattle.semantics.specs.declared.call.Call.TheVariants.{Reclaim}
use Rattle.semantics.specs.declared.call.Reply.TheVariants.{Freed}
use Rattle.semantics.specs.declared.call.Entry.{Entry}
use Rattle.semantics.specs.declared.options.Options.{Options}
use Rattle.semantics.specs.declared.plan.ShardPlan.{ShardPlan}
use Rattle.semantics.specs.History.{IsJournalFull}
use Rattle.semantics.specs.Replay.{is_keyed}
use Rattle.ebpf_decode.specs.declared.map.MapDef.{MapDef}
use Rattle.semantics.specs.ShardPlan.{AreOptions}
use Rattle.journals.specs.JournalsView.{AreImageMaps}
use Rattle.shards.specs.SharedMaps.{ArePlans}
use Rattle.shards.specs.declared.deeds.Deed.{Deed}
use Rattle.shards.specs.declared.deeds.Deed.TheVariants.{Wrote, MetFull}
use Rattle.shards.specs.Passes.{PassView, own_at, seen_at}
use Rattle.shards.specs.Asked.{PassIsServed, PassIsRefused}
use Rattle.semantics.specs.Entries.{NewestFirst, History}

-- the entry of a Reclaim that freed some number of cells
abbrev pub IsReclaim : ℕ → Entry → Type 0
IsReclaim number entry = (freed : ℕ) × (entry ≡ record { who = Reclaimer; call = Reclaim number; reply = Freed freed })

-- N rounds in one hash or LRU shard
pub record IsReclaimed (plan : ShardPlan) (number rounds : ℕ) (own seen : History) : Type 0 where
  pub each : AllByRecursion (IsReclaim number) own
  pub one_a_round : length own ≤ rounds
  pub fewer_if_full : length own < rounds → IsJournalFull plan seen (Reclaim number)

-- an array retires no cell, and is not asked
abbrev pub IsReclaimedBy : MapKind → ShardPlan → ℕ → ℕ → History → History → Type 0
IsReclaimedBy Array plan number rounds own seen = own ≡ []
IsReclaimedBy kind plan number rounds own seen = IsReclaimed plan number rounds own seen

-- the reclaimer's own entries in the history of the shard of this number after N rounds
abbrev pub IsReclaimedAt : (ℕ → ShardPlan) → ℕ → PassView → ℕ → Type 0
IsReclaimedAt plan rounds pass number =
    IsReclaimedBy (plan number).definition.kind (plan number) number rounds (own_at pass number) (seen_at pass number)

-- ---- what the reclaimer did over all shards, the oldest deed first

-- those of N shards whose cells are retired, the lowest number first
abbrev pub keyed_below : (ℕ → ShardPlan) → ℕ → List ℕ
keyed_below plan zero = []
keyed_below plan (suc count) =
    if is_keyed (plan count).definition.kind then keyed_below plan count ++ count ∷ [] else keyed_below plan count

-- a Reclaim of the shard of this number: it freed some number of cells, or met a full journal
abbrev pub IsReclaimDeed : ℕ → Deed → Type 0
IsReclaimDeed number deed =
    ((freed : ℕ) × (deed ≡ Wrote (record { who = Reclaimer; call = Reclaim number; reply = Freed freed })))
    ⊎ (deed ≡ MetFull Reclaimer (Reclaim number))

-- one for each of these shards, in their order, and no other deed
abbrev pub AreReclaimDeeds : List ℕ → List Deed → Type 0
AreReclaimDeeds [] [] = Unit {0}
AreReclaimDeeds (number ∷ numbers) (deed ∷ deeds) = IsReclaimDeed number deed × AreReclaimDeeds numbers deeds
AreReclaimDeeds [] (deed ∷ deeds) = ⊥
AreReclaimDeeds (number ∷ numbers) [] = ⊥

-- those of one round
abbrev pub IsRoundDone : (ℕ → ShardPlan) → ℕ → List Deed → Type 0
IsRoundDone plan count deeds = AreReclaimDeeds (keyed_below plan count) deeds

-- N rounds, one behind the other
abbrev pub AreRoundsDone : (ℕ → ShardPlan) → ℕ → ℕ → List Deed → Type 0
AreRoundsDone plan count zero deeds = deeds ≡ []
AreRoundsDone plan count (suc rounds) deeds =
    (first : List Deed) × (later : List Deed) × (deeds ≡ first ++ later) × IsRoundDone plan count first ×
    AreRoundsDone plan count rounds later

-- one round more: what was done, newest first, is its deeds on top of these
pub record HasMadeRound (plan : ℕ → ShardPlan) (count : ℕ) (before after : NewestFirst Deed) : Type 0 where
  -- the oldest deed first
  pub made : List Deed
  pub round : IsRoundDone plan count made
  pub deeds_are : after ≡ reverse made ++ before

-- the deeds of one round come behind all others
pub record EndsWithRound (plan : ℕ → ShardPlan) (count : ℕ) (order : NewestFirst Deed) : Type 0 where
  pub others : NewestFirst Deed
  pub last : HasMadeRound plan count others order

-- N rounds: what they left in each of N shards, and all that the reclaimer did over them
pub record AreReclaimed (plan : ℕ → ShardPlan) (count rounds : ℕ) (pass : PassView) : Type 0 where
  pub each : (number : ℕ) → number < count → IsReclaimedAt plan rounds pass number
  pub did : AreRoundsDone plan count rounds (reverse pass.deeds)

-- ---- the actor

-- the reclaimer's pass on shards of these maps
pub record IsReclaimersPort (count : ℕ) (plan : ℕ → ShardPlan) (maps : List MapDef) (options : Options) (pass : PassView) : Type 0 where
  pub plans : ArePlans maps options count plan
  pub options_fit : AreOptions maps options
  pub maps_are : AreImageMaps maps
  pub who : pass.who ≡ Reclaimer

-- one Reclaim was asked: it was served, or the journal was full for it
abbrev pub IsReclaimAsked : ShardPlan → ℕ → PassView → PassView → Type 0
IsReclaimAsked plan number before after =
    ((freed : ℕ) × PassIsServed plan number before after (Reclaim number) (Freed freed)) ⊎
    PassIsRefused plan number before after (Reclaim number)

-- one Reclaim of the shard of this number more was done
abbrev pub HasAsked : ℕ → PassView → PassView → Type 0
HasAsked number before after = (deed : Deed) × IsReclaimDeed number deed × (after.deeds ≡ deed ∷ before.deeds)

-- the shard's part of a round: a Reclaim, if cells are retired there
abbrev pub HasTurned : Bool → ℕ → PassView → PassView → Type 0
HasTurned true number before after = HasAsked number before after
HasTurned false number before after = after.deeds ≡ before.deeds
