-- Behind each number of commands a replay has a moment: the history of each shard is cut behind the last update of these commands.
use Rattle.std.proofs.Common.{◌≡◌, ℕ, ◌<◌, ◌==◌, zero, suc, Bool, true, false, List, [], ◌∷◌, ◌++◌, length, refl, sym, ◌∙◌, ap, append_assoc}
use Rattle.std.specs.Prelude.{if◌then◌else◌, take, drop}
use Rattle.std.proofs.lemmas.Bool.{eqb-true}
use Rattle.ebpf_decode.specs.declared.map.MapDef.{MapDef}
use Rattle.wire.specs.declared.records.Sent.{Sent}
use Rattle.semantics.specs.declared.call.Caller.TheVariants.{Controller}
use Rattle.semantics.specs.declared.call.Entry.{Entry}
use Rattle.semantics.specs.declared.options.Options.{Options}
use Rattle.semantics.specs.CallerLaws.{is_caller, own_entries}
use Rattle.conntrack.specs.SteeringMaps.{sized_maps}
use Rattle.control.specs.declared.command.Command.{Command}
use Rattle.map_updates.specs.declared.update.MapUpdate.{MapUpdate}
use Rattle.actors.specs.declared.outcome.Outcome.{Outcome}
use Rattle.actors.specs.Commands.{AnsweredUpdate, CommandDone, all_set, made_in, with_updates, with_update, controller_entry}
use Rattle.actors.specs.SharedUpdates.{shard_of}
use Rattle.actors.proofs.shared.Moving.{with_updates_more}
use Rattle.steered_replays.specs.TablesAtEnd.{last_histories, IsPlainReplay, IsMoment, MomentsExist}
use Rattle.steered_replays.specs.StrangerRuns.{MomentsLieAnywhere}

-- ---- a history without its newest entries

-- down to the newest entry of the controller that is older than so many of its own
abbrev cut : ℕ → List Entry → List Entry
cut zero history = history
cut (suc more) [] = []
cut (suc more) (entry ∷ older) = if is_caller Controller entry.who then cut more older else cut (suc more) older

abbrev cut_off : ℕ → List Entry → List Entry
cut_off zero history = []
cut_off (suc more) [] = []
cut_off (suc more) (entry ∷ older) = entry ∷ (if is_caller Controller entry.who then cut_off more older else cut_off (suc more) older)

both_parts : (more : ℕ) (history : List Entry) → history ≡ cut_off more history ++ cut more history
both_parts zero history = refl
both_parts (suc more) [] = refl
both_parts (suc more) (entry ∷ older) =
    ap (λ (rest : List Entry). entry ∷ rest) (by (is_caller Controller entry.who) (both_parts more older) (both_parts (suc more) older))
  where
    by : (test : Bool) → older ≡ cut_off more older ++ cut more older → older ≡ cut_off (suc more) older ++ cut (suc more) older →
        older ≡ (if test then cut_off more older else cut_off (suc more) older) ++ (if test then cut more older else cut (suc more) older)
    by true one other = one
    by false one other = other

-- the older ones of the controller are left
own_left : (newer older history : List Entry) → own_entries Controller history ≡ newer ++ older → own_entries Controller (cut (length newer) history) ≡ older
own_left [] older history is = is
own_left (first ∷ newer) older [] is = absurd cc
own_left (first ∷ newer) older (entry ∷ history) is =
    by (is_caller Controller entry.who) (λ own. own_left newer older history own) (λ own. own_left (first ∷ newer) older history own) is
  where
    by : (test : Bool) → (own_entries Controller history ≡ newer ++ older → own_entries Controller (cut (length newer) history) ≡ older) →
        (own_entries Controller history ≡ first ∷ (newer ++ older) → own_entries Controller (cut (suc (length newer)) history) ≡ older) →
        (if test then entry ∷ own_entries Controller history else own_entries Controller history) ≡ first ∷ (newer ++ older) →
        own_entries Controller (if test then cut (length newer) history else cut (suc (length newer)) history) ≡ older
    by true one other own = one (let rest : own_entries Controller history ≡ newer ++ older = cc own in rest)
    by false one other own = other own

-- ---- the controller's own entries

-- later updates come before what was there
made_above : (maps : List MapDef) (options : Options) (number : ℕ) (made : List AnsweredUpdate) (history : List Entry) →
    with_updates maps options number made history ≡ with_updates maps options number made [] ++ history
made_above maps options number [] history = refl
made_above maps options number (one ∷ made) history =
    made_above maps options number made (with_update maps options number one history)
    ∙ ap (λ (rest : List Entry). with_updates maps options number made [] ++ rest) (by (shard_of maps options one.update == number))
    ∙ sym (append_assoc (with_updates maps options number made []) (with_update maps options number one []) history)
    ∙ ap (λ (front : List Entry). front ++ history) (sym (made_above maps options number made (with_update maps options number one [])))
  where
    by : (test : Bool) →
        (if test then controller_entry number one ∷ history else history) ≡ (if test then controller_entry number one ∷ [] else []) ++ history
    by true = refl
    by false = refl

made_parts : (done : List CommandDone) (commands : ℕ) → made_in done ≡ made_in (take commands done) ++ made_in (drop commands done)
made_parts done zero = refl
made_parts [] (suc commands) = refl
made_parts (one ∷ done) (suc commands) =
    ap (λ (rest : List AnsweredUpdate). one.made ++ rest) (made_parts done commands)
    ∙ sym (append_assoc one.made (made_in (take commands done)) (made_in (drop commands done)))

-- ---- the moment

module _ (notes size : ℕ) (script : List Command) (options : Options) (records : List Sent) (outcome : Outcome)
    (plain : IsPlainReplay notes size script options records outcome) (commands : ℕ) where
  abbrev all_done : List CommandDone
  all_done = plain.accounted.commands.done

  abbrev whole : ℕ → List Entry
  whole number = last_histories outcome.journals number

  abbrev so_far : ℕ → List Entry
  so_far number = with_updates (sized_maps notes size) options number (made_in (take commands all_done)) []

  -- what the controller does behind these commands
  abbrev later : ℕ → List Entry
  later number = with_updates (sized_maps notes size) options number (made_in (drop commands all_done)) []

  own_parts : (number : ℕ) → number < plain.accounted.count → own_entries Controller (whole number) ≡ later number ++ so_far number
  own_parts number within =
      plain.accounted.commands.own number within
      ∙ ap (λ (updates : List MapUpdate). with_updates (sized_maps notes size) options number (all_set updates ++ made_in all_done) []) plain.none_set
      ∙ ap (λ (made : List AnsweredUpdate). with_updates (sized_maps notes size) options number made []) (made_parts all_done commands)
      ∙ with_updates_more (sized_maps notes size) options number (made_in (take commands all_done)) (made_in (drop commands all_done)) []
      ∙ made_above (sized_maps notes size) options number (made_in (drop commands all_done)) (so_far number)

  abbrev histories : ℕ → List Entry
  histories number = cut (length (later number)) (whole number)

  pub is_moment : IsMoment notes size script options records outcome plain commands histories
  is_moment = record {
    newer = λ number. cut_off (length (later number)) (whole number);
    oldest = λ number within. both_parts (length (later number)) (whole number);
    controlled = λ number within. own_left (later number) (so_far number) (whole number) (own_parts number within);
  }

pub moments_exist : MomentsExist
moments_exist notes size script options records outcome plain commands =
    (histories notes size script options records outcome plain commands, is_moment notes size script options records outcome plain commands)

-- ---- a moment at another place of one shard

pub moments_lie_anywhere : MomentsLieAnywhere
moments_lie_anywhere notes size script options records outcome plain commands histories moment number newer older is own = record {
  newer = λ shard. if shard == number then newer else moment.newer shard;
  oldest = λ shard within. oldest shard (shard == number) refl within;
  controlled = λ shard within. controlled shard (shard == number) refl within;
}
  where
    oldest : (shard : ℕ) (here : Bool) → (shard == number) ≡ here → shard < plain.accounted.count →
        last_histories outcome.journals shard ≡ (if here then newer else moment.newer shard) ++ (if here then older else histories shard)
    oldest shard true same within = ap (last_histories outcome.journals) (eqb-true shard number same) ∙ is
    oldest shard false same within = moment.oldest shard within

    controlled : (shard : ℕ) (here : Bool) → (shard == number) ≡ here → shard < plain.accounted.count →
        own_entries Controller (if here then older else histories shard)
        ≡ with_updates (sized_maps notes size) options shard (made_in (take commands plain.accounted.commands.done)) []
    controlled shard true same within =
        own ∙ ap (λ (n : ℕ). with_updates (sized_maps notes size) options n (made_in (take commands plain.accounted.commands.done)) []) (sym (eqb-true shard number same))
    controlled shard false same within = moment.controlled shard within
