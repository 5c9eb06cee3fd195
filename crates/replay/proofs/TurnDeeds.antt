-- One order of all deeds, the shards and the callers' passes as it leaves them, and what some deeds of one caller on one shard make of
-- these.
use Rattle.std.proofs.Common.{◌≡◌, ◌≢◌, ⊎_elim, ℕ, ◌<◌, ◌==◌, Bool, true, false, cond, List, [], ◌∷◌, ◌++◌, length, reverse, Some, refl, sym, ap, ◌∙◌, subst, append_assoc, eq-eqb, ne_eqb}
use Rattle.std.specs.Prelude.{slice_get, slice_set}
use Rattle.std.specs.List.{AllByRecursion}
use Rattle.std.proofs.lemmas.Bool.{cases_eq}
use Rattle.std.proofs.lemmas.Option.{get_or_from_slice_get, slice_get_within}
use Rattle.semantics.specs.declared.call.Caller.{Caller}
use Rattle.semantics.specs.declared.call.Caller.TheVariants.{Worker, Controller, Reclaimer}
use Rattle.semantics.specs.declared.call.Entry.{Entry}
use Rattle.semantics.specs.declared.plan.ShardPlan.{ShardPlan}
use Rattle.semantics.specs.CallerLaws.{is_caller, own_entries}
use Rattle.semantics.specs.History.{shard_of_call, IsLegalHistory}
use Rattle.semantics.proofs.shared.EachLemmas.{or_set_here, or_set_else, set_count}
use Rattle.shard_core.specs.JournaledShard.{JournaledShard, opened_shard}
use Rattle.shards.specs.CallerView.{CallerView, BeginsWith, nothing_seen}
use Rattle.shards.specs.LockRule.{no_plan}
use Rattle.shards.specs.NewShards.{shard_at}
use Rattle.shards.specs.declared.deeds.Deed.{Deed}
use Rattle.shards.specs.declared.deeds.Deed.TheVariants.{Wrote, MetFull}
use Rattle.shards.specs.declared.deeds.OrderPart.TheVariants.{ByCaller}
use Rattle.shards.specs.Deeds.{shard_of_deed, caller_of_deed, deeds_of, made_on, AreMet, AreDeedsWithin}
use Rattle.shards.specs.Passes.{PassView, view_at, own_at, seen_at, IsElsewhereSame}

-- ---- one order

-- each deed is on one of N shards, each history that is left is legal, and each look at a full journal met one
pub record IsSound (plan : ℕ → ShardPlan) (count : ℕ) (order : List Deed) : Type 0 where
  pub within : AreDeedsWithin count order
  pub met : AreMet plan order
  pub legal : (number : ℕ) → number < count → IsLegalHistory (plan number) (made_on number order)

-- the shards have the histories that the order leaves
pub record AreLeftBy (plan : ℕ → ShardPlan) (count : ℕ) (order : List Deed) (shards : List JournaledShard) : Type 0 where
  pub sized : length shards ≡ count
  pub planned : (number : ℕ) → number < count → (shard_at shards number).plan ≡ plan number
  pub written : (number : ℕ) → number < count → reverse (shard_at shards number).journal ≡ made_on number order

-- the pass has its caller's part of the order
pub record IsPassOf (count : ℕ) (who : Caller) (order : List Deed) (pass : PassView) : Type 0 where
  pub caller : pass.who ≡ who
  pub sized : length pass.views ≡ count
  pub own : (number : ℕ) → number < count → own_at pass number ≡ own_entries who (made_on number order)
  pub begins : (number : ℕ) → number < count → BeginsWith (made_on number order) (seen_at pass number)
  pub did : pass.deeds ≡ deeds_of (ByCaller who) order

-- all three
pub record Stands (plan : ℕ → ShardPlan) (count : ℕ) (who : Caller) (order : List Deed) (shards : List JournaledShard) (pass : PassView) : Type 0 where
  pub sound : IsSound plan count order
  pub left : AreLeftBy plan count order shards
  pub mine : IsPassOf count who order pass

-- one caller did more
pub record IsMoreBy (who : Caller) (order order' : List Deed) : Type 0 where
  pub deeds : List Deed
  pub more : order' ≡ deeds ++ order
  pub made_by : AllByRecursion (λ (deed : Deed). caller_of_deed deed ≡ who) deeds

-- ---- deeds of one caller on one shard

pub record IsBy (who : Caller) (number : ℕ) (deed : Deed) : Type 0 where
  pub caller : caller_of_deed deed ≡ who
  pub shard : shard_of_deed deed ≡ number

abbrev pub AreBy : Caller → ℕ → List Deed → Type 0
AreBy who number deeds = AllByRecursion (λ (deed : Deed). IsBy who number deed) deeds

-- the pass of their caller behind them: it has seen the whole history of that shard
abbrev pub pass_after : ℕ → List Deed → List Deed → PassView → PassView
pass_after number deeds order pass = record {
  who = pass.who;
  views = slice_set pass.views number (record { seen = made_on number (deeds ++ order); own = own_entries pass.who (made_on number (deeds ++ order)) });
  deeds = deeds ++ pass.deeds;
}

pub is_own : (who : Caller) → is_caller who who ≡ true
is_own (Worker number) = eq-eqb number number refl
is_own Controller = refl
is_own Reclaimer = refl

pub own_of_maker : (entry : Entry) (history : List Entry) → own_entries entry.who (entry ∷ history) ≡ entry ∷ own_entries entry.who history
own_of_maker entry history =
    ap (λ (mine : Bool). cond mine (entry ∷ own_entries entry.who history) (own_entries entry.who history)) (is_own entry.who)

-- ---- histories

pub made_here : (number : ℕ) (entry : Entry) (order : List Deed) → shard_of_call entry.call ≡ number →
    made_on number (Wrote entry ∷ order) ≡ entry ∷ made_on number order
made_here number entry order here =
    ap (λ (test : Bool). cond test (entry ∷ made_on number order) (made_on number order)) (eq-eqb (shard_of_call entry.call) number here)

pub one_else : (number : ℕ) (deed : Deed) (order : List Deed) → shard_of_deed deed ≢ number → made_on number (deed ∷ order) ≡ made_on number order
one_else number (Wrote entry) order apart =
    ap (λ (test : Bool). cond test (entry ∷ made_on number order) (made_on number order)) (ne_eqb (shard_of_call entry.call) number apart)
one_else number (MetFull who call) order apart = refl

pub made_else : (who : Caller) (number other : ℕ) (deeds order : List Deed) → AreBy who number deeds → other ≢ number →
    made_on other (deeds ++ order) ≡ made_on other order
made_else who number other [] order are apart = refl
made_else who number other (deed ∷ deeds) order are apart =
    one_else other deed (deeds ++ order) (λ same. apart (sym same ∙ are.0.shard)) ∙ made_else who number other deeds order are.1 apart

deeds_mine : (who : Caller) (number : ℕ) (deeds order : List Deed) → AreBy who number deeds →
    deeds_of (ByCaller who) (deeds ++ order) ≡ deeds ++ deeds_of (ByCaller who) order
deeds_mine who number [] order are = refl
deeds_mine who number (deed ∷ deeds) order are =
    ap (λ (mine : Bool). cond mine (deed ∷ deeds_of (ByCaller who) (deeds ++ order)) (deeds_of (ByCaller who) (deeds ++ order)))
    (ap (λ (one : Caller). is_caller who one) are.0.caller ∙ is_own who)
    ∙ ap (λ (list : List Deed). deed ∷ list) (deeds_mine who number deeds order are.1)

all_within : (who : Caller) (count number : ℕ) (deeds order : List Deed) → AreBy who number deeds → number < count → AreDeedsWithin count order →
    AreDeedsWithin count (deeds ++ order)
all_within who count number [] order are below within = within
all_within who count number (deed ∷ deeds) order are below within =
    (subst (λ (n : ℕ). n < count) (sym are.0.shard) below, all_within who count number deeds order are.1 below within)

all_by : (who : Caller) (number : ℕ) (deeds : List Deed) → AreBy who number deeds → AllByRecursion (λ (deed : Deed). caller_of_deed deed ≡ who) deeds
all_by who number [] are = tt
all_by who number (deed ∷ deeds) are = (are.0.caller, all_by who number deeds are.1)

-- ---- more by one caller

pub no_more : (who : Caller) (order : List Deed) → IsMoreBy who order order
no_more who order = record { deeds = []; more = refl; made_by = tt }

pub more_by : (who : Caller) (number : ℕ) (deeds order : List Deed) → AreBy who number deeds → IsMoreBy who order (deeds ++ order)
more_by who number deeds order are = record { deeds = deeds; more = refl; made_by = all_by who number deeds are }

pub both_by : (who : Caller) (first second : List Deed) → AllByRecursion (λ (deed : Deed). caller_of_deed deed ≡ who) first →
    AllByRecursion (λ (deed : Deed). caller_of_deed deed ≡ who) second → AllByRecursion (λ (deed : Deed). caller_of_deed deed ≡ who) (first ++ second)
both_by who [] second one two = two
both_by who (deed ∷ first) second one two = (one.0, both_by who first second one.1 two)

pub more_on : (who : Caller) (first middle last : List Deed) → IsMoreBy who first middle → IsMoreBy who middle last → IsMoreBy who first last
more_on who first middle last one two = record {
  deeds = two.deeds ++ one.deeds;
  more = two.more ∙ ap (λ (list : List Deed). two.deeds ++ list) one.more ∙ sym (append_assoc two.deeds one.deeds first);
  made_by = both_by who two.deeds one.deeds two.made_by one.made_by;
}

-- ---- other callers' passes stay

other_deeds : (who other : Caller) (deeds order : List Deed) → AllByRecursion (λ (deed : Deed). caller_of_deed deed ≡ who) deeds →
    is_caller other who ≡ false → deeds_of (ByCaller other) (deeds ++ order) ≡ deeds_of (ByCaller other) order
other_deeds who other [] order made apart = refl
other_deeds who other (deed ∷ deeds) order made apart =
    ap (λ (mine : Bool). cond mine (deed ∷ deeds_of (ByCaller other) (deeds ++ order)) (deeds_of (ByCaller other) (deeds ++ order)))
    (ap (λ (one : Caller). is_caller other one) made.0 ∙ apart)
    ∙ other_deeds who other deeds order made.1 apart

-- one entry more of another caller, or of another shard
record IsPassedBy (other : Caller) (after before : List Entry) : Type 0 where
  own : own_entries other after ≡ own_entries other before
  begins : BeginsWith after before

passed_entry : (other : Caller) (entry : Entry) (history : List Entry) → is_caller other entry.who ≡ false → (here : Bool) →
    IsPassedBy other (cond here (entry ∷ history) history) history
passed_entry other entry history apart true = record {
  own = ap (λ (mine : Bool). cond mine (entry ∷ own_entries other history) (own_entries other history)) apart;
  begins = (entry ∷ [], refl);
}
passed_entry other entry history apart false = record { own = refl; begins = ([], refl) }

passed_deed : (who other : Caller) (number : ℕ) (deed : Deed) (order : List Deed) → caller_of_deed deed ≡ who → is_caller other who ≡ false →
    IsPassedBy other (made_on number (deed ∷ order)) (made_on number order)
passed_deed who other number (Wrote entry) order made apart =
    passed_entry other entry (made_on number order) (ap (λ (one : Caller). is_caller other one) made ∙ apart) (shard_of_call entry.call == number)
passed_deed who other number (MetFull caller call) order made apart = record { own = refl; begins = ([], refl) }

pub begins_over : (last middle first : List Entry) → BeginsWith last middle → BeginsWith middle first → BeginsWith last first
begins_over last middle first one two =
    (one.0 ++ two.0, one.1 ∙ ap (λ (list : List Entry). one.0 ++ list) two.1 ∙ sym (append_assoc one.0 two.0 first))

passed_deeds : (who other : Caller) (number : ℕ) (deeds order : List Deed) → AllByRecursion (λ (deed : Deed). caller_of_deed deed ≡ who) deeds →
    is_caller other who ≡ false → IsPassedBy other (made_on number (deeds ++ order)) (made_on number order)
passed_deeds who other number [] order made apart = record { own = refl; begins = ([], refl) }
passed_deeds who other number (deed ∷ deeds) order made apart =
    let one = passed_deed who other number deed (deeds ++ order) made.0 apart in
    let rest = passed_deeds who other number deeds order made.1 apart in
    record {
      own = one.own ∙ rest.own;
      begins = begins_over (made_on number (deed ∷ (deeds ++ order))) (made_on number (deeds ++ order)) (made_on number order) one.begins rest.begins;
    }

stays_by : (count : ℕ) (who other : Caller) (deeds order : List Deed) (pass : PassView) →
    AllByRecursion (λ (deed : Deed). caller_of_deed deed ≡ who) deeds → is_caller other who ≡ false → IsPassOf count other order pass →
    IsPassOf count other (deeds ++ order) pass
stays_by count who other deeds order pass made apart was = record {
  caller = was.caller;
  sized = was.sized;
  own = λ number within. was.own number within ∙ sym (passed_deeds who other number deeds order made apart).own;
  begins = λ number within. begins_over (made_on number (deeds ++ order)) (made_on number order) (seen_at pass number)
      (passed_deeds who other number deeds order made apart).begins (was.begins number within);
  did = was.did ∙ sym (other_deeds who other deeds order made apart);
}

pub others_stay : (count : ℕ) (who other : Caller) (order order' : List Deed) (pass : PassView) → IsMoreBy who order order' →
    is_caller other who ≡ false → IsPassOf count other order pass → IsPassOf count other order' pass
others_stay count who other order order' pass more apart was =
    subst (λ (list : List Deed). IsPassOf count other list pass) (sym more.more) (stays_by count who other more.deeds order pass more.made_by apart was)

-- ---- the caller's own pass

pub view_here : (number : ℕ) (deeds order : List Deed) (pass : PassView) → number < length pass.views →
    view_at (pass_after number deeds order pass) number
    ≡ record { seen = made_on number (deeds ++ order); own = own_entries pass.who (made_on number (deeds ++ order)) }
view_here number deeds order pass below = or_set_here pass.views number _ nothing_seen below

pub elsewhere_same : (number : ℕ) (deeds order : List Deed) (pass : PassView) → IsElsewhereSame number pass (pass_after number deeds order pass)
elsewhere_same number deeds order pass = record {
  who = refl;
  count = set_count pass.views number _;
  others = λ other apart. or_set_else pass.views number other _ nothing_seen apart;
}

pub own_here : (who : Caller) (number : ℕ) (deeds order : List Deed) (pass : PassView) → pass.who ≡ who → number < length pass.views →
    own_at (pass_after number deeds order pass) number ≡ own_entries who (made_on number (deeds ++ order))
own_here who number deeds order pass caller below =
    ap (λ (view : CallerView). view.own) (view_here number deeds order pass below)
    ∙ ap (λ (one : Caller). own_entries one (made_on number (deeds ++ order))) caller

pub seen_here : (number : ℕ) (deeds order : List Deed) (pass : PassView) → number < length pass.views →
    seen_at (pass_after number deeds order pass) number ≡ made_on number (deeds ++ order)
seen_here number deeds order pass below = ap (λ (view : CallerView). view.seen) (view_here number deeds order pass below)

pub mine_after : (count : ℕ) (who : Caller) (number : ℕ) (deeds order : List Deed) (pass : PassView) → AreBy who number deeds → number < count →
    IsPassOf count who order pass → IsPassOf count who (deeds ++ order) (pass_after number deeds order pass)
mine_after count who number deeds order pass are below was = record {
  caller = was.caller;
  sized = set_count pass.views number _ ∙ was.sized;
  own = λ other within. ⊎_elim (λ (same : other ≡ number). own_same other same) (λ (apart : other ≡ number → ⊥). own_apart other within apart)
      (cases_eq other number);
  begins = λ other within. ⊎_elim (λ (same : other ≡ number). begins_same other same) (λ (apart : other ≡ number → ⊥). begins_apart other within apart)
      (cases_eq other number);
  did = ap (λ (list : List Deed). deeds ++ list) was.did ∙ sym (deeds_mine who number deeds order are);
}
  where
    after : PassView
    after = pass_after number deeds order pass

    room : number < length pass.views
    room = subst (λ (n : ℕ). number < n) (sym was.sized) below

    own_same : (other : ℕ) → other ≡ number → own_at after other ≡ own_entries who (made_on other (deeds ++ order))
    own_same other same = subst (λ (n : ℕ). own_at after n ≡ own_entries who (made_on n (deeds ++ order))) (sym same)
        (own_here who number deeds order pass was.caller room)

    own_apart : (other : ℕ) → other < count → (other ≡ number → ⊥) → own_at after other ≡ own_entries who (made_on other (deeds ++ order))
    own_apart other within apart =
        ap (λ (view : CallerView). view.own) ((elsewhere_same number deeds order pass).others other apart) ∙ was.own other within
        ∙ ap (own_entries who) (sym (made_else who number other deeds order are apart))

    begins_same : (other : ℕ) → other ≡ number → BeginsWith (made_on other (deeds ++ order)) (seen_at after other)
    begins_same other same = subst (λ (n : ℕ). BeginsWith (made_on n (deeds ++ order)) (seen_at after n)) (sym same)
        ([], sym (seen_here number deeds order pass room))

    begins_apart : (other : ℕ) → other < count → (other ≡ number → ⊥) → BeginsWith (made_on other (deeds ++ order)) (seen_at after other)
    begins_apart other within apart =
        subst (λ (history : List Entry). BeginsWith history (seen_at after other)) (sym (made_else who number other deeds order are apart))
        (subst (λ (view : CallerView). BeginsWith (made_on other order) view.seen) (sym ((elsewhere_same number deeds order pass).others other apart))
        (was.begins other within))

-- ---- the order and the shards

pub sound_after : (plan : ℕ → ShardPlan) (count : ℕ) (who : Caller) (number : ℕ) (deeds order : List Deed) → AreBy who number deeds → number < count →
    IsLegalHistory (plan number) (made_on number (deeds ++ order)) → AreMet plan (deeds ++ order) → IsSound plan count order →
    IsSound plan count (deeds ++ order)
sound_after plan count who number deeds order are below legal met was = record {
  within = all_within who count number deeds order are below was.within;
  met = met;
  legal = λ other within. ⊎_elim
      (λ (same : other ≡ number). subst (λ (n : ℕ). IsLegalHistory (plan n) (made_on n (deeds ++ order))) (sym same) legal)
      (λ (apart : other ≡ number → ⊥). subst (IsLegalHistory (plan other)) (sym (made_else who number other deeds order are apart)) (was.legal other within))
      (cases_eq other number);
}

pub left_after : (plan : ℕ → ShardPlan) (count : ℕ) (who : Caller) (number : ℕ) (deeds order : List Deed) (shards : List JournaledShard)
    (new : JournaledShard) → AreBy who number deeds → number < count → new.plan ≡ plan number → reverse new.journal ≡ made_on number (deeds ++ order) →
    AreLeftBy plan count order shards → AreLeftBy plan count (deeds ++ order) (slice_set shards number new)
left_after plan count who number deeds order shards new are below planned written was = record {
  sized = set_count shards number new ∙ was.sized;
  planned = λ other within. ⊎_elim
      (λ (same : other ≡ number). subst (λ (n : ℕ). (shard_at after n).plan ≡ plan n) (sym same)
      (ap (λ (one : JournaledShard). one.plan) here ∙ planned))
      (λ (apart : other ≡ number → ⊥). ap (λ (one : JournaledShard). one.plan) (there other apart) ∙ was.planned other within)
      (cases_eq other number);
  written = λ other within. ⊎_elim
      (λ (same : other ≡ number). subst (λ (n : ℕ). reverse (shard_at after n).journal ≡ made_on n (deeds ++ order)) (sym same)
      (ap (λ (one : JournaledShard). reverse one.journal) here ∙ written))
      (λ (apart : other ≡ number → ⊥). ap (λ (one : JournaledShard). reverse one.journal) (there other apart) ∙ was.written other within
      ∙ sym (made_else who number other deeds order are apart))
      (cases_eq other number);
}
  where
    after : List JournaledShard
    after = slice_set shards number new

    here : shard_at after number ≡ new
    here = or_set_here shards number new (opened_shard no_plan) (subst (λ (n : ℕ). number < n) (sym was.sized) below)

    there : (other : ℕ) → (other ≡ number → ⊥) → shard_at after other ≡ shard_at shards other
    there other apart = or_set_else shards number other new (opened_shard no_plan) apart

-- all three
pub stands_after : (plan : ℕ → ShardPlan) (count : ℕ) (who : Caller) (number : ℕ) (deeds order : List Deed) (shards : List JournaledShard)
    (new : JournaledShard) (pass : PassView) → AreBy who number deeds → number < count → new.plan ≡ plan number →
    reverse new.journal ≡ made_on number (deeds ++ order) → IsLegalHistory (plan number) (made_on number (deeds ++ order)) → AreMet plan (deeds ++ order) →
    Stands plan count who order shards pass →
    Stands plan count who (deeds ++ order) (slice_set shards number new) (pass_after number deeds order pass)
stands_after plan count who number deeds order shards new pass are below planned written legal met was = record {
  sound = sound_after plan count who number deeds order are below legal met was.sound;
  left = left_after plan count who number deeds order shards new are below planned written was.left;
  mine = mine_after count who number deeds order pass are below was.mine;
}

-- ---- one of the shards

pub record IsOneOf (plan : ℕ → ShardPlan) (count number : ℕ) (order : List Deed) (one : JournaledShard) : Type 0 where
  pub within : number < count
  pub planned : one.plan ≡ plan number
  pub written : reverse one.journal ≡ made_on number order

pub one_of : (plan : ℕ → ShardPlan) (count number : ℕ) (order : List Deed) (shards : List JournaledShard) (one : JournaledShard) →
    AreLeftBy plan count order shards → slice_get shards number ≡ Some one → IsOneOf plan count number order one
one_of plan count number order shards one left known =
    let within : number < count = subst (λ (n : ℕ). number < n) left.sized (slice_get_within shards number one known) in
    let is : shard_at shards number ≡ one = get_or_from_slice_get shards number one (opened_shard no_plan) known in
    record {
      within = within;
      planned = ap (λ (shard : JournaledShard). shard.plan) (sym is) ∙ left.planned number within;
      written = ap (λ (shard : JournaledShard). reverse shard.journal) (sym is) ∙ left.written number within;
    }
