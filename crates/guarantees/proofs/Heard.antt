-- Which deeds of the controller and the reclaimer are events: what they wrote, and the looks that they may make.
use Rattle.std.proofs.Common.{◌≡◌, ℕ, ◌&&◌, Bool, true, false, cond, List, [], ◌∷◌, Option, Some, None, ap}
use Rattle.std.specs.Prelude.{filter}
use Rattle.semantics.specs.declared.call.Caller.{Caller}
use Rattle.semantics.specs.declared.call.Reply.{Reply}
use Rattle.semantics.specs.declared.plan.ShardPlan.{ShardPlan}
use Rattle.semantics.specs.History.{shard_of_call, meets}
use Rattle.shards.specs.declared.deeds.Deed.{Deed}
use Rattle.shards.specs.declared.deeds.Deed.TheVariants.{Wrote, MetFull}
use Rattle.shards.specs.declared.deeds.OrderPart.TheVariants.{ByCaller}
use Rattle.shards.specs.Deeds.{is_deed_of}

abbrev pub is_askable : (ℕ → ShardPlan) → Caller → Deed → Bool
is_askable plan who (Wrote entry) = true
is_askable plan who (MetFull one call) = meets (plan (shard_of_call call)) [] who call

abbrev pub is_heard : (ℕ → ShardPlan) → Caller → Deed → Bool
is_heard plan who deed = is_deed_of (ByCaller who) deed && is_askable plan who deed

abbrev pub heard : (ℕ → ShardPlan) → Caller → List Deed → List Deed
heard plan who deeds = filter (is_heard plan who) deeds

abbrev pub answer_of_deed : Deed → Option Reply
answer_of_deed (Wrote entry) = Some entry.reply
answer_of_deed (MetFull who call) = None

pub heard_more : (plan : ℕ → ShardPlan) (who : Caller) (deed : Deed) (later : List Deed) → is_heard plan who deed ≡ true →
    heard plan who (deed ∷ later) ≡ deed ∷ heard plan who later
heard_more plan who deed later is = ap (λ (test : Bool). cond test (deed ∷ heard plan who later) (heard plan who later)) is

pub heard_less : (plan : ℕ → ShardPlan) (who : Caller) (deed : Deed) (later : List Deed) → is_heard plan who deed ≡ false →
    heard plan who (deed ∷ later) ≡ heard plan who later
heard_less plan who deed later is = ap (λ (test : Bool). cond test (deed ∷ heard plan who later) (heard plan who later)) is
