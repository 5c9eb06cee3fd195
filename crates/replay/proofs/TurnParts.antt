-- What was done in each turn, as the turns are taken.
use Rattle.std.proofs.Common.{◌≡◌, ℕ, zero, suc, Bool, false, cond, List, [], ◌∷◌, ◌++◌, length, reverse, Some, refl, sym, ap, ◌∙◌, append_assoc, append-nil}
use Rattle.std.specs.Prelude.{map, slice_get}
use Rattle.std.specs.List.{AllByRecursion, flat_map}
use Rattle.std.proofs.lemmas.List.{map-append, reverse-append, reverse-reverse}
use Rattle.std.proofs.lemmas.List.Elements.{filter-append}
use Rattle.wire.specs.declared.records.Sent.{Sent}
use Rattle.ebpf_decode.specs.declared.map.MapDef.{MapDef}
use Rattle.semantics.specs.declared.call.Caller.{Caller}
use Rattle.semantics.specs.declared.options.Options.{Options}
use Rattle.semantics.specs.declared.plan.ShardPlan.{ShardPlan}
use Rattle.semantics.specs.CallerLaws.{is_caller}
use Rattle.shards.specs.declared.deeds.Deed.{Deed}
use Rattle.shards.specs.declared.deeds.OrderPart.TheVariants.{ByCaller}
use Rattle.shards.specs.Deeds.{caller_of_deed, deeds_of}
use Rattle.shards.specs.Passes.{PassView}
use Rattle.actors.specs.declared.runner.Ran.{Ran}
use Rattle.actors.specs.Commands.{CommandDone}
use Rattle.actors.specs.RunsInOrder.{IsChainOfRuns, HasHandled}
use Rattle.guarantees.specs.TurnByTurn.{Turn, TheCommand, TheRecord, TheRound, TurnDeeds, is_turn_of, turns_of, AreDeedsOfRuns, IsTurnDone}
use Rattle.actors.proofs.shared.DeedLemmas.{same_more}
use Rattle.replay.proofs.TurnDeeds.{IsMoreBy, IsPassOf, is_own}
use Rattle.replay.proofs.TurnFates.{chain_push}

-- ---- lists

pub still_at : {A : Type 0} (xs more : List A) (number : ℕ) (x : A) → slice_get xs number ≡ Some x → slice_get (xs ++ more) number ≡ Some x
still_at [] more number x known = absurd cc
still_at (first ∷ xs) more zero x known = known
still_at (first ∷ xs) more (suc number) x known = still_at xs more number x known

pub last_at : {A : Type 0} (xs : List A) (x : A) → slice_get (xs ++ x ∷ []) (length xs) ≡ Some x
last_at [] x = refl
last_at (first ∷ xs) x = last_at xs x

flat_append : (first second : List TurnDeeds) →
    flat_map (λ (one : TurnDeeds). one.deeds) (first ++ second) ≡ flat_map (λ (one : TurnDeeds). one.deeds) first ++ flat_map (λ (one : TurnDeeds). one.deeds) second
flat_append [] second = refl
flat_append (one ∷ first) second =
    ap (λ (list : List Deed). one.deeds ++ list) (flat_append first second)
    ∙ sym (append_assoc one.deeds (flat_map (λ (each : TurnDeeds). each.deeds) first) (flat_map (λ (each : TurnDeeds). each.deeds) second))

-- ---- one turn more

abbrev pub turns_done : List TurnDeeds → List Turn
turns_done parts = map (λ (one : TurnDeeds). one.turn) parts

abbrev pub deeds_done : List TurnDeeds → List Deed
deeds_done parts = flat_map (λ (one : TurnDeeds). one.deeds) parts

-- what a caller did more, the oldest deed first
abbrev pub done_more : Turn → (who : Caller) (order order' : List Deed) → IsMoreBy who order order' → TurnDeeds
done_more turn who order order' more = record { turn = turn; deeds = reverse more.deeds }

pub turns_more : (parts : List TurnDeeds) (one : TurnDeeds) → turns_done (parts ++ one ∷ []) ≡ turns_done parts ++ one.turn ∷ []
turns_more parts one = map-append (λ (each : TurnDeeds). each.turn) parts (one ∷ [])

-- one turn, and then the others; or some, and then the others
pub then_turns : (turn : Turn) (later : List Turn) (earlier middle last : List TurnDeeds) → turns_done middle ≡ turns_done earlier ++ turn ∷ [] →
    turns_done last ≡ turns_done middle ++ later → turns_done last ≡ turns_done earlier ++ turn ∷ later
then_turns turn later earlier middle last one rest =
    rest ∙ ap (λ (list : List Turn). list ++ later) one ∙ append_assoc (turns_done earlier) (turn ∷ []) later

pub both_turns : (first second : List Turn) (earlier middle last : List TurnDeeds) → turns_done middle ≡ turns_done earlier ++ first →
    turns_done last ≡ turns_done middle ++ second → turns_done last ≡ turns_done earlier ++ (first ++ second)
both_turns first second earlier middle last one rest =
    rest ∙ ap (λ (list : List Turn). list ++ second) one ∙ append_assoc (turns_done earlier) first second

pub no_turns : (earlier : List TurnDeeds) → turns_done earlier ≡ turns_done earlier ++ []
no_turns earlier = sym (append-nil (turns_done earlier))

pub order_more : (first : List Deed) (parts : List TurnDeeds) (turn : Turn) (who : Caller) (order order' : List Deed) (more : IsMoreBy who order order') →
    reverse order ≡ first ++ deeds_done parts → reverse order' ≡ first ++ deeds_done (parts ++ done_more turn who order order' more ∷ [])
order_more first parts turn who order order' more was =
    ap reverse more.more ∙ reverse-append more.deeds order ∙ ap (λ (list : List Deed). list ++ reverse more.deeds) was
    ∙ append_assoc first (deeds_done parts) (reverse more.deeds)
    ∙ ap (λ (list : List Deed). first ++ (deeds_done parts ++ list)) (sym (append-nil (reverse more.deeds)))
    ∙ ap (λ (list : List Deed). first ++ list) (sym (flat_append parts (done_more turn who order order' more ∷ [])))

pub order_same : (first : List Deed) (parts : List TurnDeeds) (turn : Turn) (order : List Deed) → reverse order ≡ first ++ deeds_done parts →
    reverse order ≡ first ++ deeds_done (parts ++ record { turn = turn; deeds = [] } ∷ [])
order_same first parts turn order was =
    was ∙ ap (λ (list : List Deed). first ++ list) (sym (append-nil (deeds_done parts)) ∙ sym (flat_append parts (record { turn = turn; deeds = [] } ∷ [])))

pub turns_of_more : (frames : List (List ℕ)) (workers worker : ℕ) (parts : List TurnDeeds) (one : TurnDeeds) (test : Bool) →
    is_turn_of frames workers worker one.turn ≡ test →
    turns_of frames workers worker (parts ++ one ∷ []) ≡ turns_of frames workers worker parts ++ cond test (one ∷ []) []
turns_of_more frames workers worker parts one test is =
    filter-append (λ (each : TurnDeeds). is_turn_of frames workers worker each.turn) parts (one ∷ [])
    ∙ ap (λ (own : Bool). turns_of frames workers worker parts ++ cond own (one ∷ []) []) is

pub turns_of_none : (frames : List (List ℕ)) (workers worker : ℕ) (parts : List TurnDeeds) (one : TurnDeeds) →
    is_turn_of frames workers worker one.turn ≡ false → turns_of frames workers worker (parts ++ one ∷ []) ≡ turns_of frames workers worker parts
turns_of_none frames workers worker parts one is =
    turns_of_more frames workers worker parts one false is ∙ append-nil (turns_of frames workers worker parts)

-- what was done by the caller of a pass is what the pass has more
deeds_mine : (who : Caller) (deeds order : List Deed) → AllByRecursion (λ (deed : Deed). caller_of_deed deed ≡ who) deeds →
    deeds_of (ByCaller who) (deeds ++ order) ≡ deeds ++ deeds_of (ByCaller who) order
deeds_mine who [] order are = refl
deeds_mine who (deed ∷ deeds) order are =
    ap (λ (mine : Bool). cond mine (deed ∷ deeds_of (ByCaller who) (deeds ++ order)) (deeds_of (ByCaller who) (deeds ++ order)))
    (ap (λ (one : Caller). is_caller who one) are.0 ∙ is_own who)
    ∙ ap (λ (list : List Deed). deed ∷ list) (deeds_mine who deeds order are.1)

pub pass_more : (count : ℕ) (who : Caller) (order order' : List Deed) (pass pass' : PassView) (more : IsMoreBy who order order') →
    IsPassOf count who order pass → IsPassOf count who order' pass' → pass'.deeds ≡ reverse (reverse more.deeds) ++ pass.deeds
pass_more count who order order' pass pass' more was now =
    now.did ∙ ap (deeds_of (ByCaller who)) more.more ∙ deeds_mine who more.deeds order more.made_by
    ∙ (λ i. sym (reverse-reverse more.deeds) i ++ sym was.did i)

-- so what is known of the pass is known of the turn
pub deeds_are : (count : ℕ) (who : Caller) (order order' : List Deed) (pass pass' : PassView) (more : IsMoreBy who order order') (made : List Deed) →
    IsPassOf count who order pass → IsPassOf count who order' pass' → pass'.deeds ≡ reverse made ++ pass.deeds → reverse more.deeds ≡ made
deeds_are count who order order' pass pass' more made was now did =
    same_more (reverse more.deeds) made pass.deeds (sym (pass_more count who order order' pass pass' more was now) ∙ did)

-- ---- one command more

one_grown : (plan : ℕ → ShardPlan) (maps : List MapDef) (options : Options) (count : ℕ) (records : List Sent) (done more : List CommandDone) (turn : Turn)
    (deeds : List Deed) → IsTurnDone plan maps options count records done turn deeds → IsTurnDone plan maps options count records (done ++ more) turn deeds
one_grown plan maps options count records done more (TheCommand number) deeds (one, known, are) = (one, still_at done more number one known, are)
one_grown plan maps options count records done more (TheRecord number) deeds is = is
one_grown plan maps options count records done more TheRound deeds is = is

abbrev pub AreTurnsDone : (plan : ℕ → ShardPlan) (maps : List MapDef) (options : Options) (count : ℕ) (records : List Sent) (done : List CommandDone) →
    List TurnDeeds → Type 0
AreTurnsDone plan maps options count records done parts =
    AllByRecursion (λ (one : TurnDeeds). IsTurnDone plan maps options count records done one.turn one.deeds) parts

pub all_grown : (plan : ℕ → ShardPlan) (maps : List MapDef) (options : Options) (count : ℕ) (records : List Sent) (done more : List CommandDone)
    (parts : List TurnDeeds) → AreTurnsDone plan maps options count records done parts → AreTurnsDone plan maps options count records (done ++ more) parts
all_grown plan maps options count records done more [] are = tt
all_grown plan maps options count records done more (one ∷ parts) are =
    (one_grown plan maps options count records done more one.turn one.deeds are.0, all_grown plan maps options count records done more parts are.1)

pub all_more : (plan : ℕ → ShardPlan) (maps : List MapDef) (options : Options) (count : ℕ) (records : List Sent) (done : List CommandDone)
    (parts : List TurnDeeds) (one : TurnDeeds) → AreTurnsDone plan maps options count records done parts →
    IsTurnDone plan maps options count records done one.turn one.deeds → AreTurnsDone plan maps options count records done (parts ++ one ∷ [])
all_more plan maps options count records done [] one are is = (is, tt)
all_more plan maps options count records done (first ∷ parts) one are is = (are.0, all_more plan maps options count records done parts one are.1 is)

-- ---- the runs of a worker, with what was done in each

pub record HasHandledIn (IsNew : PassView → Type 0) (IsRun : PassView → Ran → PassView → Type 0) (records : List ℕ) (runs : List Ran) (after : PassView)
    (parts : List TurnDeeds) : Type 0 where
  pub handled : HasHandled IsNew IsRun records runs after
  pub of_runs : AreDeedsOfRuns IsRun handled.before runs after handled.chain parts

pub deeds_push : (IsRun : PassView → Ran → PassView → Type 0) (before middle after : PassView) (runs : List Ran) (ran : Ran)
    (chain : IsChainOfRuns IsRun before runs middle) (run : IsRun middle ran after) (parts : List TurnDeeds) (one : TurnDeeds) →
    AreDeedsOfRuns IsRun before runs middle chain parts → one.turn ≡ TheRecord ran.number → after.deeds ≡ reverse one.deeds ++ middle.deeds →
    AreDeedsOfRuns IsRun before (runs ++ ran ∷ []) after (chain_push IsRun before middle after runs ran chain run) (parts ++ one ∷ [])
unfolding chain_push
deeds_push IsRun before middle after [] ran chain run [] one are turn did =
    (turn, did ∙ ap (λ (pass : PassView). reverse one.deeds ++ pass.deeds) (sym chain), tt)
deeds_push IsRun before middle after [] ran chain run (other ∷ parts) one are turn did = absurd are
deeds_push IsRun before middle after (first ∷ later) ran chain run [] one are turn did = absurd are
deeds_push IsRun before middle after (first ∷ later) ran chain run (other ∷ parts) one are turn did =
    (are.0, are.1, deeds_push IsRun chain.0 middle after later ran chain.2 run parts one are.2 turn did)
