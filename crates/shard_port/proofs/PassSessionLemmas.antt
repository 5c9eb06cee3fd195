-- What a chain of calls adds to a worker's own entries.
use Rattle.std.proofs.Common.{◌≡◌, ◌⊎◌, inl, inr, ⊎_elim, ℕ, ◌<◌, Bool, true, false, cond, List, [], ◌∷◌, ◌++◌, map, reverse, arith, refl, sym, ◌∙◌, ap, subst, append_assoc}
use Rattle.std.specs.Prelude.{◌==◌, if◌then◌else◌}
use Rattle.std.specs.List.{filter}
use Rattle.std.proofs.lemmas.List.{reverse-append}
use Rattle.std.proofs.lemmas.Bool.Decides.{nat_tests}
use Rattle.semantics.specs.declared.plan.ShardPlan.{ShardPlan}
use Rattle.semantics.specs.declared.call.Caller.TheVariants.{Worker}
use Rattle.semantics.specs.declared.call.Call.{Call}
use Rattle.semantics.specs.declared.call.Reply.{Reply}
use Rattle.semantics.specs.declared.call.Entry.{Entry}
use Rattle.semantics.specs.Reclamation.{is_inside}
use Rattle.semantics.specs.History.{shard_of_call}
use Rattle.map_port.specs.Exchanges.{Exchange, IsChain}
use Rattle.shards.specs.CallerView.{CallerView, BeginsWith, ViewIsServed}
use Rattle.shards.specs.Passes.{PassView, view_at, own_at, seen_at}
use Rattle.shard_port.specs.Asking.{enter_by, leave_by, asked_entry}
use Rattle.shard_port.specs.PortView.{IsRunCall}
use Rattle.shard_port.specs.PortLaws.{same_worker, inside_after_call}
use Rattle.shard_port.specs.Sessions.{exchange_entry, is_asked_of, exchange_entries, behind_enter, session}
use Rattle.shard_port.specs.PassPorts.{PassPort, worker_number, entering_by_own, inside_own, IsAskedAt, CannotEnterAt, CannotCallAt, CannotEnterBy, CannotCallBy, IsTurnedAwayBy, ViewHasLeft, PassGives, PassRefuses, IsFinishedBy}
use Rattle.shard_port.specs.PassPortLaws.{inside_once, stays_inside}
use Rattle.shard_port.specs.PassSessions.{session_at, IsOutsideAt, AreCallsWithin, HasSessions, IsVisitedAt, IsKeptOut, HasRefusedSessions}
use Rattle.shard_port.proofs.PassDeedLemmas.{done_deeds, call_deeds, enter_deeds}
use Rattle.shard_port.proofs.SessionLemmas.{is_some_entry}

-- ---- one shard: a view that has grown by entries, the oldest first

pub record IsGrown (entries : List Entry) (before after : CallerView) : Type 0 where
  pub own : after.own ≡ reverse entries ++ before.own
  pub begins : BeginsWith after.seen before.seen

grown_none : (before after : CallerView) → after ≡ before → IsGrown [] before after
grown_none before after same = record {
  own = ap (λ (view : CallerView). view.own) same;
  begins = ([], ap (λ (view : CallerView). view.seen) same);
}

begins_on : (last middle first : List Entry) → BeginsWith last middle → BeginsWith middle first → BeginsWith last first
begins_on last middle first one two =
    (one.0 ++ two.0, one.1 ∙ ap (λ (list : List Entry). one.0 ++ list) two.1 ∙ sym (append_assoc one.0 two.0 first))

grown_join : (first second : List Entry) (before middle after : CallerView) → IsGrown first before middle → IsGrown second middle after →
    IsGrown (first ++ second) before after
grown_join first second before middle after one two = record {
  own = two.own ∙ ap (λ (list : List Entry). reverse second ++ list) one.own
      ∙ sym (append_assoc (reverse second) (reverse first) before.own)
      ∙ ap (λ (list : List Entry). list ++ before.own) (sym (reverse-append first second));
  begins = begins_on after.seen middle.seen before.seen two.begins one.begins;
}

-- a view whose own entries stayed
grown_on : (entries : List Entry) (before middle after : CallerView) → IsGrown entries before middle → after.own ≡ middle.own →
    BeginsWith after.seen middle.seen → IsGrown entries before after
grown_on entries before middle after one same begins = record {
  own = same ∙ one.own;
  begins = begins_on after.seen middle.seen before.seen begins one.begins;
}

asked_begins : (plan : ShardPlan) (number worker : ℕ) (before after : CallerView) (call : Call) (reply : Reply) →
    IsAskedAt plan number worker before after call reply → BeginsWith after.seen before.seen
asked_begins plan number worker before after call reply asked =
    let first : List Entry = entering_by_own worker number before.own in (
      asked_entry worker call reply ∷ first ++ asked.begins.0,
      asked.seen ∙ ap (λ (list : List Entry). asked_entry worker call reply ∷ first ++ list) asked.begins.1
          ∙ ap (λ (list : List Entry). asked_entry worker call reply ∷ list) (sym (append_assoc first asked.begins.0 before.seen)),
    )

-- a call of a worker that is inside
step_inside : (plan : ShardPlan) (number worker : ℕ) (before after : CallerView) (call : Call) (reply : Reply) →
    IsAskedAt plan number worker before after call reply → is_inside worker before.own ≡ true →
    IsGrown (asked_entry worker call reply ∷ []) before after
step_inside plan number worker before after call reply asked inside = record {
  own = asked.own ∙ ap (λ (list : List Entry). asked_entry worker call reply ∷ list) (stays_inside worker number before.own inside);
  begins = asked_begins plan number worker before after call reply asked;
}

-- a call of a worker that is outside
step_outside : (plan : ShardPlan) (number worker : ℕ) (before after : CallerView) (call : Call) (reply : Reply) →
    IsAskedAt plan number worker before after call reply → is_inside worker before.own ≡ false →
    IsGrown (enter_by worker number ∷ asked_entry worker call reply ∷ []) before after
step_outside plan number worker before after call reply asked outside = record {
  own = asked.own ∙ ap (λ (test : Bool). asked_entry worker call reply ∷ (if test then [] else enter_by worker number ∷ []) ++ before.own) outside;
  begins = asked_begins plan number worker before after call reply asked;
}

-- after a call the worker is inside
asked_is_inside : (plan : ShardPlan) (number worker : ℕ) (before after : CallerView) (call : Call) (reply : Reply) → IsRunCall call →
    IsAskedAt plan number worker before after call reply → is_inside worker after.own ≡ true
asked_is_inside plan number worker before after call reply run asked =
    subst (λ (own : List Entry). is_inside worker own ≡ true) (sym asked.own)
    (inside_after_call worker call reply (inside_own worker number before.own) run (inside_once worker number before.own))

served_grown : (plan : ShardPlan) (before after : CallerView) (entry : Entry) → ViewIsServed plan before after entry →
    IsGrown (entry ∷ []) before after
served_grown plan before after entry served = record {
  own = served.own;
  begins = (entry ∷ served.begins.0, served.seen ∙ ap (λ (list : List Entry). entry ∷ list) served.begins.1);
}

-- ---- a chain

asked_here : (plan : ℕ → ShardPlan) (count worker number : ℕ) (before after : PassPort) (call : Call) (reply : Reply) →
    before.pass.who ≡ Worker worker → PassGives plan count before call reply after → (shard_of_call call == number) ≡ true →
    IsAskedAt (plan number) number worker (view_at before.pass number) (view_at after.pass number) call reply
asked_here plan count worker number before after call reply who given here =
    let same : shard_of_call call ≡ number = grind (arith, nat_tests) in
    let mine : worker_number before.pass.who ≡ worker = ap worker_number who in
    subst (λ (n : ℕ). IsAskedAt (plan n) n worker (view_at before.pass n) (view_at after.pass n) call reply) same
    (subst (λ (w : ℕ). IsAskedAt (plan (shard_of_call call)) (shard_of_call call) w (view_at before.pass (shard_of_call call))
    (view_at after.pass (shard_of_call call)) call reply) mine given.asked.at)

differ : (one number : ℕ) → (one == number) ≡ false → number ≡ one → ⊥
differ one number other same = grind (arith, nat_tests)

pub record IsInsideAfter (worker : ℕ) (entries : List Entry) (before after : CallerView) : Type 0 where
  pub grown : IsGrown entries before after
  pub inside : is_inside worker after.own ≡ true

inside_join : (worker : ℕ) (first second : List Entry) (before middle after : CallerView) → IsGrown first before middle →
    IsInsideAfter worker second middle after → IsInsideAfter worker (first ++ second) before after
inside_join worker first second before middle after one rest = record {
  grown = grown_join first second before middle after one rest.grown;
  inside = rest.inside;
}

chain_inside : (plan : ℕ → ShardPlan) (count worker number : ℕ) (before after : PassPort) (exchanges : List Exchange) →
    before.pass.who ≡ Worker worker → IsChain (PassGives plan count) before exchanges after →
    is_inside worker (own_at before.pass number) ≡ true →
    IsInsideAfter worker (exchange_entries worker number exchanges) (view_at before.pass number) (view_at after.pass number)
chain_inside plan count worker number before after [] who chain inside = record {
  grown = grown_none _ _ (ap (λ (port : PassPort). view_at port.pass number) (sym chain));
  inside = subst (λ (port : PassPort). is_inside worker (own_at port.pass number) ≡ true) chain inside;
}
chain_inside plan count worker number before after (exchange ∷ later) who chain inside =
    by_place (is_asked_of number exchange) refl
    (chain_inside plan count worker number chain.0 after later (chain.1.elsewhere.who ∙ who) chain.2)
  where
    by_place : (here : Bool) → is_asked_of number exchange ≡ here →
        (is_inside worker (own_at chain.0.pass number) ≡ true →
        IsInsideAfter worker (exchange_entries worker number later) (view_at chain.0.pass number) (view_at after.pass number)) →
        IsInsideAfter worker (map (exchange_entry worker) (cond here (exchange ∷ filter (is_asked_of number) later) (filter (is_asked_of number) later)))
        (view_at before.pass number) (view_at after.pass number)
    by_place true is onward =
        let asked = asked_here plan count worker number before chain.0 exchange.call exchange.reply who chain.1 is in
        inside_join worker (exchange_entry worker exchange ∷ []) (exchange_entries worker number later) _ _ _
        (step_inside (plan number) number worker _ _ exchange.call exchange.reply asked inside)
        (onward (asked_is_inside (plan number) number worker _ _ exchange.call exchange.reply chain.1.run_call asked))
    by_place false is onward =
        let same : view_at chain.0.pass number ≡ view_at before.pass number =
        chain.1.elsewhere.others number (differ (shard_of_call exchange.call) number is) in
        inside_join worker [] (exchange_entries worker number later) _ _ _ (grown_none _ _ same)
        (onward (subst (λ (view : CallerView). is_inside worker view.own ≡ true) (sym same) inside))

-- from outside
pub record IsWrittenAt (worker number : ℕ) (entries : List Entry) (before after : CallerView) : Type 0 where
  pub grown : IsGrown (behind_enter worker number entries) before after
  pub inside : is_inside worker after.own ≡ is_some_entry entries

pub chain_outside : (plan : ℕ → ShardPlan) (count worker number : ℕ) (before after : PassPort) (exchanges : List Exchange) →
    before.pass.who ≡ Worker worker → IsChain (PassGives plan count) before exchanges after →
    is_inside worker (own_at before.pass number) ≡ false →
    IsWrittenAt worker number (exchange_entries worker number exchanges) (view_at before.pass number) (view_at after.pass number)
chain_outside plan count worker number before after [] who chain outside = record {
  grown = grown_none _ _ (ap (λ (port : PassPort). view_at port.pass number) (sym chain));
  inside = subst (λ (port : PassPort). is_inside worker (own_at port.pass number) ≡ false) chain outside;
}
chain_outside plan count worker number before after (exchange ∷ later) who chain outside =
    by_place (is_asked_of number exchange) refl
    (chain_outside plan count worker number chain.0 after later (chain.1.elsewhere.who ∙ who) chain.2)
  where
    by_place : (here : Bool) → is_asked_of number exchange ≡ here →
        (is_inside worker (own_at chain.0.pass number) ≡ false →
        IsWrittenAt worker number (exchange_entries worker number later) (view_at chain.0.pass number) (view_at after.pass number)) →
        IsWrittenAt worker number
        (map (exchange_entry worker) (cond here (exchange ∷ filter (is_asked_of number) later) (filter (is_asked_of number) later)))
        (view_at before.pass number) (view_at after.pass number)
    by_place true is onward =
        let asked = asked_here plan count worker number before chain.0 exchange.call exchange.reply who chain.1 is in
        let rest : IsInsideAfter worker (exchange_entries worker number later) (view_at chain.0.pass number) (view_at after.pass number) =
        chain_inside plan count worker number chain.0 after later (chain.1.elsewhere.who ∙ who) chain.2
        (asked_is_inside (plan number) number worker _ _ exchange.call exchange.reply chain.1.run_call asked) in
        record {
          grown =
              grown_join (enter_by worker number ∷ exchange_entry worker exchange ∷ []) (exchange_entries worker number later) _ _ _
              (step_outside (plan number) number worker _ _ exchange.call exchange.reply asked outside) rest.grown;
          inside = rest.inside;
        }
    by_place false is onward =
        let same : view_at chain.0.pass number ≡ view_at before.pass number =
        chain.1.elsewhere.others number (differ (shard_of_call exchange.call) number is) in
        let rest : IsWrittenAt worker number (exchange_entries worker number later) (view_at chain.0.pass number) (view_at after.pass number) =
        onward (subst (λ (view : CallerView). is_inside worker view.own ≡ false) (sym same) outside) in
        record {
          grown = grown_join [] (behind_enter worker number (exchange_entries worker number later)) _ _ _ (grown_none _ _ same) rest.grown;
          inside = rest.inside;
        }

pub chain_who : (plan : ℕ → ShardPlan) (count : ℕ) (before after : PassPort) (exchanges : List Exchange) →
    IsChain (PassGives plan count) before exchanges after → after.pass.who ≡ before.pass.who
chain_who plan count before after [] chain = ap (λ (port : PassPort). port.pass.who) (sym chain)
chain_who plan count before after (exchange ∷ later) chain =
    chain_who plan count chain.0 after later chain.2 ∙ chain.1.elsewhere.who

chain_within : (plan : ℕ → ShardPlan) (count : ℕ) (before after : PassPort) (exchanges : List Exchange) →
    IsChain (PassGives plan count) before exchanges after → AreCallsWithin count exchanges
chain_within plan count before after [] chain = tt
chain_within plan count before after (exchange ∷ later) chain =
    (chain.1.within, chain_within plan count chain.0 after later chain.2)

-- ---- the end

-- the session is whole, and the worker outside
pub record IsWholeAt (worker number : ℕ) (entries : List Entry) (before after : CallerView) : Type 0 where
  pub grown : IsGrown (session worker number entries) before after
  pub outside : is_inside worker after.own ≡ false

left_is_outside : (plan : ShardPlan) (worker number : ℕ) (before after : CallerView) →
    ViewIsServed plan before after (leave_by worker number) → is_inside worker after.own ≡ false
left_is_outside plan worker number before after served =
    subst (λ (own : List Entry). is_inside worker own ≡ false) (sym served.own) (rw (same_worker worker) refl)

left_at : (plan : ShardPlan) (worker number : ℕ) (entries : List Entry) (before middle after : CallerView) →
    IsWrittenAt worker number entries before middle → ViewHasLeft (is_inside worker middle.own) plan number worker middle after →
    IsWholeAt worker number entries before after
left_at plan worker number [] before middle after written left =
    let same : after ≡ middle = subst (λ (test : Bool). ViewHasLeft test plan number worker middle after) written.inside left in
    record {
      grown =
          grown_on [] before middle after written.grown (ap (λ (view : CallerView). view.own) same)
          ([], ap (λ (view : CallerView). view.seen) same);
      outside = subst (λ (view : CallerView). is_inside worker view.own ≡ false) (sym same) written.inside;
    }
left_at plan worker number (first ∷ later) before middle after written left =
    let served : ViewIsServed plan middle after (leave_by worker number) =
    subst (λ (test : Bool). ViewHasLeft test plan number worker middle after) written.inside left in
    record {
      grown =
          grown_join (enter_by worker number ∷ first ∷ later) (leave_by worker number ∷ []) before middle after written.grown
          (served_grown plan middle after (leave_by worker number) served);
      outside = left_is_outside plan worker number middle after served;
    }

left_here : (plan : ℕ → ShardPlan) (count worker number : ℕ) (before after : PassView) → before.who ≡ Worker worker →
    IsFinishedBy plan count before after → number < count →
    ViewHasLeft (is_inside worker (own_at before number)) (plan number) number worker (view_at before number) (view_at after number)
left_here plan count worker number before after who finished within =
    subst (λ (w : ℕ). ViewHasLeft (is_inside w (own_at before number)) (plan number) number w (view_at before number) (view_at after number))
    (ap worker_number who) (finished.left number within)

pub writes_own_sessions : (plan : ℕ → ShardPlan) (count worker : ℕ) (before after : PassPort) (finished : PassView)
    (exchanges : List Exchange) → before.pass.who ≡ Worker worker →
    ((number : ℕ) → number < count → IsOutsideAt worker before.pass number) → IsChain (PassGives plan count) before exchanges after →
    IsFinishedBy plan count after.pass finished → HasSessions count worker exchanges before.pass finished
writes_own_sessions plan count worker before after finished exchanges who outside chain left = record {
  same_caller = left.same_caller ∙ chain_who plan count before after exchanges chain;
  within = chain_within plan count before after exchanges chain;
  written = λ number within. (whole number within).grown.own;
  seen_on = λ number within. (whole number within).grown.begins;
  outside = λ number within. (whole number within).outside;
  did = done_deeds plan count worker before after finished exchanges who outside chain left;
}
  where
    whole : (number : ℕ) → number < count →
        IsWholeAt worker number (exchange_entries worker number exchanges) (view_at before.pass number) (view_at finished number)
    whole number within =
        left_at (plan number) worker number (exchange_entries worker number exchanges) _ (view_at after.pass number) _
        (chain_outside plan count worker number before after exchanges who chain (outside number within))
        (left_here plan count worker number after.pass finished (chain_who plan count before after exchanges chain ∙ who) left within)

-- ---- a refusal at the end

none_of : (entries : List Entry) → is_some_entry entries ≡ false → entries ≡ []
none_of [] none = refl
none_of (first ∷ later) none = cc

-- what a shard has more after a refusal there: the session, or an Enter and a Leave
pub record IsRefusedHere (plan : ShardPlan) (worker number : ℕ) (entries : List Entry) (call : Call) (before after : CallerView) : Type 0
  where
    pub written :
        IsGrown (session worker number entries) before after
        ⊎ ((entries ≡ []) × IsGrown (enter_by worker number ∷ leave_by worker number ∷ []) before after)
    pub begins : BeginsWith after.seen before.seen
    pub outside : is_inside worker after.own ≡ false

left_begins : (plan : ShardPlan) (worker number : ℕ) (inside : Bool) (before after : CallerView) →
    ViewHasLeft inside plan number worker before after → BeginsWith after.seen before.seen
left_begins plan worker number true before after served = (served_grown plan before after (leave_by worker number) served).begins
left_begins plan worker number false before after same = ([], ap (λ (view : CallerView). view.seen) same)

refused_enter : (plan : ShardPlan) (worker number : ℕ) (entries : List Entry) (call : Call) (before middle after finished : CallerView) →
    IsWrittenAt worker number entries before middle → CannotEnterAt plan number worker middle after →
    ViewHasLeft (is_inside worker after.own) plan number worker after finished →
    IsRefusedHere plan worker number entries call before finished
refused_enter plan worker number entries call before middle after finished written cannot left =
    let same : after.own ≡ middle.own = cannot.refused.own in
    let still : IsWrittenAt worker number entries before after = record {
      grown = grown_on (behind_enter worker number entries) before middle after written.grown same cannot.refused.begins;
      inside = ap (is_inside worker) same ∙ written.inside;
    } in
    let whole : IsWholeAt worker number entries before finished = left_at plan worker number entries before after finished still left in
    record { written = inl whole.grown; begins = whole.grown.begins; outside = whole.outside }

-- a worker that was kept out had not called the shard, and wrote nothing there
kept_out : (plan : ShardPlan) (worker number : ℕ) (entries : List Entry) (before middle after finished : CallerView) →
    IsWrittenAt worker number entries before middle → CannotEnterAt plan number worker middle after →
    ViewHasLeft (is_inside worker after.own) plan number worker after finished →
    (entries ≡ []) × (finished.own ≡ before.own)
kept_out plan worker number entries before middle after finished written cannot left =
    let same : after.own ≡ middle.own = cannot.refused.own in
    let still : IsWrittenAt worker number entries before after = record {
      grown = grown_on (behind_enter worker number entries) before middle after written.grown same cannot.refused.begins;
      inside = ap (is_inside worker) same ∙ written.inside;
    } in
    let whole : IsWholeAt worker number entries before finished = left_at plan worker number entries before after finished still left in
    let none : entries ≡ [] = none_of entries (sym written.inside ∙ cannot.outside) in
    (none, whole.grown.own ∙ ap (λ (list : List Entry). reverse (session worker number list) ++ before.own) none)

call_begins : (plan : ShardPlan) (worker number : ℕ) (call : Call) (middle after : CallerView) →
    CannotCallAt plan number worker middle after call → BeginsWith after.seen middle.seen
call_begins plan worker number call middle after cannot =
    let first : List Entry = entering_by_own worker number middle.own in (
      first ++ cannot.begins.0,
      cannot.seen ∙ ap (λ (list : List Entry). first ++ list) cannot.begins.1
          ∙ sym (append_assoc first cannot.begins.0 middle.seen),
    )

-- a worker that had not called the shard entered it, met a full journal there, and left it
pub record IsVisit (plan : ShardPlan) (worker number : ℕ) (before after finished : CallerView) : Type 0 where
  pub served : ViewIsServed plan after finished (leave_by worker number)
  pub grown : IsGrown (enter_by worker number ∷ leave_by worker number ∷ []) before finished

visit : (plan : ShardPlan) (worker number : ℕ) (call : Call) (before middle after finished : CallerView) →
    IsWrittenAt worker number [] before middle → CannotCallAt plan number worker middle after call →
    ViewHasLeft (is_inside worker after.own) plan number worker after finished → IsVisit plan worker number before after finished
visit plan worker number call before middle after finished written cannot left =
    let outside : is_inside worker middle.own ≡ false = written.inside in
    let entered : after.own ≡ enter_by worker number ∷ middle.own =
    cannot.own ∙ ap (λ (test : Bool). (if test then [] else enter_by worker number ∷ []) ++ middle.own) outside in
    let inside : is_inside worker after.own ≡ true = ap (is_inside worker) entered ∙ rw (same_worker worker) refl in
    let served : ViewIsServed plan after finished (leave_by worker number) =
    subst (λ (test : Bool). ViewHasLeft test plan number worker after finished) inside left in
    let visited : IsGrown (enter_by worker number ∷ []) middle after =
    record { own = entered; begins = call_begins plan worker number call middle after cannot } in
    let grown : IsGrown (enter_by worker number ∷ leave_by worker number ∷ []) middle finished =
    grown_join (enter_by worker number ∷ []) (leave_by worker number ∷ []) middle after finished visited
    (served_grown plan after finished (leave_by worker number) served) in
    record {
      served = served;
      grown = grown_join [] (enter_by worker number ∷ leave_by worker number ∷ []) before middle finished written.grown grown;
    }

visited_own : (plan : ShardPlan) (worker number : ℕ) (entries : List Entry) (call : Call) (before middle after finished : CallerView) →
    IsWrittenAt worker number entries before middle → CannotCallAt plan number worker middle after call →
    ViewHasLeft (is_inside worker after.own) plan number worker after finished → entries ≡ [] →
    finished.own ≡ leave_by worker number ∷ enter_by worker number ∷ before.own
visited_own plan worker number entries call before middle after finished written cannot left none =
    (visit plan worker number call before middle after finished
    (subst (λ (list : List Entry). IsWrittenAt worker number list before middle) none written) cannot left).grown.own

refused_call : (plan : ShardPlan) (worker number : ℕ) (entries : List Entry) (call : Call) (before middle after finished : CallerView) →
    IsWrittenAt worker number entries before middle → CannotCallAt plan number worker middle after call →
    ViewHasLeft (is_inside worker after.own) plan number worker after finished →
    IsRefusedHere plan worker number entries call before finished
refused_call plan worker number [] call before middle after finished written cannot left =
    let here = visit plan worker number call before middle after finished written cannot left in
    record {
      written = inr (refl, here.grown);
      begins = here.grown.begins;
      outside = left_is_outside plan worker number after finished here.served;
    }
refused_call plan worker number (first ∷ later) call before middle after finished written cannot left =
    let same : after.own ≡ middle.own = cannot.own ∙ stays_inside worker number middle.own written.inside in
    let still : IsWrittenAt worker number (first ∷ later) before after = record {
      grown =
          grown_on (behind_enter worker number (first ∷ later)) before middle after written.grown same
          (call_begins plan worker number call middle after cannot);
      inside = ap (is_inside worker) same ∙ written.inside;
    } in
    let whole : IsWholeAt worker number (first ∷ later) before finished =
    left_at plan worker number (first ∷ later) before after finished still left in
    record {
      written = inl whole.grown;
      begins = whole.grown.begins;
      outside = whole.outside;
    }

abbrev IsTurnedAwayAt : ShardPlan → ℕ → ℕ → CallerView → CallerView → Call → Type 0
IsTurnedAwayAt plan number worker before after call =
    CannotEnterAt plan number worker before after ⊎ CannotCallAt plan number worker before after call

away_at : (plan : ShardPlan) (number : ℕ) (before after : PassView) (call : Call) → IsTurnedAwayBy plan number before after call →
    IsTurnedAwayAt plan number (worker_number before.who) (view_at before number) (view_at after number) call
away_at plan number before after call away = ⊎_elim (λ (cannot : CannotEnterBy plan number before after). inl cannot.at)
    (λ (cannot : CannotCallBy plan number before after call). inr cannot.at) away

refused_here : (plan : ShardPlan) (worker number : ℕ) (entries : List Entry) (call : Call) (before middle after finished : CallerView) →
    IsWrittenAt worker number entries before middle → IsTurnedAwayAt plan number worker middle after call →
    ViewHasLeft (is_inside worker after.own) plan number worker after finished →
    IsRefusedHere plan worker number entries call before finished
refused_here plan worker number entries call before middle after finished written away left =
    ⊎_elim (λ (cannot : CannotEnterAt plan number worker middle after).
    refused_enter plan worker number entries call before middle after finished written cannot left)
    (λ (cannot : CannotCallAt plan number worker middle after call).
    refused_call plan worker number entries call before middle after finished written cannot left) away

away_here : (plan : ℕ → ShardPlan) (count worker number : ℕ) (before after : PassPort) (call : Call) → before.pass.who ≡ Worker worker →
    PassRefuses plan count before call after → shard_of_call call ≡ number →
    IsTurnedAwayAt (plan number) number worker (view_at before.pass number) (view_at after.pass number) call
away_here plan count worker number before after call who refused same =
    subst (λ (n : ℕ). IsTurnedAwayAt (plan n) n worker (view_at before.pass n) (view_at after.pass n) call) same
    (subst (λ (w : ℕ). IsTurnedAwayAt (plan (shard_of_call call)) (shard_of_call call) w (view_at before.pass (shard_of_call call))
    (view_at after.pass (shard_of_call call)) call) (ap worker_number who)
    (away_at (plan (shard_of_call call)) (shard_of_call call) before.pass after.pass call refused.turned_away))

-- what each shard has more after a run that ended by a refusal
pub record IsEndedAt (worker : ℕ) (exchanges : List Exchange) (call : Call) (number : ℕ) (before after : CallerView) : Type 0 where
  pub written :
      (after.own ≡ reverse (session_at worker number exchanges) ++ before.own)
      ⊎ IsVisitedAt worker exchanges call number before.own after.own
  pub begins : BeginsWith after.seen before.seen
  pub outside : is_inside worker after.own ≡ false

ended_here : (plan : ShardPlan) (worker number : ℕ) (exchanges : List Exchange) (call : Call) (before after : CallerView) →
    shard_of_call call ≡ number → IsRefusedHere plan worker number (exchange_entries worker number exchanges) call before after →
    IsEndedAt worker exchanges call number before after
ended_here plan worker number exchanges call before after same here = record {
  written =
      ⊎_elim (λ (grown : IsGrown (session worker number (exchange_entries worker number exchanges)) before after). inl grown.own)
      (λ (visited : (exchange_entries worker number exchanges ≡ []) × IsGrown (enter_by worker number ∷ leave_by worker number ∷ []) before after).
      inr (record { own_shard = same; first_call = visited.0; written = visited.1.own })) here.written;
  begins = here.begins;
  outside = here.outside;
}

pub writes_refused_own_sessions : (plan : ℕ → ShardPlan) (count worker : ℕ) (before middle after : PassPort) (finished : PassView)
    (exchanges : List Exchange) (call : Call) → before.pass.who ≡ Worker worker →
    ((number : ℕ) → number < count → IsOutsideAt worker before.pass number) → IsChain (PassGives plan count) before exchanges middle →
    PassRefuses plan count middle call after → IsFinishedBy plan count after.pass finished →
    HasRefusedSessions plan count worker exchanges call before.pass finished
writes_refused_own_sessions plan count worker before middle after finished exchanges call who outside chain refused left = record {
  same_caller = left.same_caller ∙ (refused.elsewhere.who ∙ chain_who plan count before middle exchanges chain);
  within = chain_within plan count before middle exchanges chain;
  refused_within = refused.within;
  written = λ number within. (ended number within).written;
  seen_on = λ number within. (ended number within).begins;
  outside = λ number within. (ended number within).outside;
  full_at = seen_at after.pass (shard_of_call call);
  full_seen = left_begins (plan (shard_of_call call)) worker (shard_of_call call)
      (is_inside worker (own_at after.pass (shard_of_call call))) (view_at after.pass (shard_of_call call))
      (view_at finished (shard_of_call call)) (left_there (shard_of_call call) refused.within);
  full = ⊎_elim
      (λ (cannot : CannotEnterBy (plan (shard_of_call call)) (shard_of_call call) middle.pass after.pass). inr (record {
        kept_out = kept_at cannot;
        did = enter_deeds plan count worker before middle after finished exchanges call who outside chain refused cannot left;
      }))
      (λ (cannot : CannotCallBy (plan (shard_of_call call)) (shard_of_call call) middle.pass after.pass call). inl (record {
        full = cannot.at.full;
        visited = visited_at cannot;
        did = call_deeds plan count worker before middle after finished exchanges call who outside chain refused cannot left;
      })) refused.turned_away;
}
  where
    middle_who : middle.pass.who ≡ Worker worker
    middle_who = chain_who plan count before middle exchanges chain ∙ who

    written_at : (number : ℕ) → number < count →
        IsWrittenAt worker number (exchange_entries worker number exchanges) (view_at before.pass number) (view_at middle.pass number)
    written_at number within = chain_outside plan count worker number before middle exchanges who chain (outside number within)

    left_there : (number : ℕ) → number < count →
        ViewHasLeft (is_inside worker (own_at after.pass number)) (plan number) number worker (view_at after.pass number)
        (view_at finished number)
    left_there number within =
        left_here plan count worker number after.pass finished (refused.elsewhere.who ∙ middle_who) left within

    at : (number : ℕ) → number < count → shard_of_call call ≡ number →
        IsRefusedHere (plan number) worker number (exchange_entries worker number exchanges) call (view_at before.pass number)
        (view_at finished number)
    at number within same =
        refused_here (plan number) worker number (exchange_entries worker number exchanges) call _ (view_at middle.pass number)
        (view_at after.pass number) _ (written_at number within) (away_here plan count worker number middle after call middle_who refused same)
        (left_there number within)

    visited_at : CannotCallBy (plan (shard_of_call call)) (shard_of_call call) middle.pass after.pass call →
        exchange_entries worker (shard_of_call call) exchanges ≡ [] →
        own_at finished (shard_of_call call)
        ≡ leave_by worker (shard_of_call call) ∷ enter_by worker (shard_of_call call) ∷ own_at before.pass (shard_of_call call)
    visited_at cannot none =
        let mine : CannotCallAt (plan (shard_of_call call)) (shard_of_call call) worker (view_at middle.pass (shard_of_call call))
        (view_at after.pass (shard_of_call call)) call =
        subst (λ (w : ℕ). CannotCallAt (plan (shard_of_call call)) (shard_of_call call) w (view_at middle.pass (shard_of_call call))
        (view_at after.pass (shard_of_call call)) call) (ap worker_number middle_who) cannot.at in
        visited_own (plan (shard_of_call call)) worker (shard_of_call call) (exchange_entries worker (shard_of_call call) exchanges) call
        (view_at before.pass (shard_of_call call)) (view_at middle.pass (shard_of_call call)) (view_at after.pass (shard_of_call call))
        (view_at finished (shard_of_call call)) (written_at (shard_of_call call) refused.within) mine (left_there (shard_of_call call) refused.within) none

    kept_at : CannotEnterBy (plan (shard_of_call call)) (shard_of_call call) middle.pass after.pass →
        IsKeptOut (plan (shard_of_call call)) (seen_at after.pass (shard_of_call call)) worker exchanges (shard_of_call call)
        (own_at before.pass (shard_of_call call)) (own_at finished (shard_of_call call))
    kept_at cannot =
        let mine : CannotEnterAt (plan (shard_of_call call)) (shard_of_call call) worker (view_at middle.pass (shard_of_call call))
        (view_at after.pass (shard_of_call call)) =
        subst (λ (w : ℕ). CannotEnterAt (plan (shard_of_call call)) (shard_of_call call) w (view_at middle.pass (shard_of_call call))
        (view_at after.pass (shard_of_call call))) (ap worker_number middle_who) cannot.at in
        let kept = kept_out (plan (shard_of_call call)) worker (shard_of_call call) (exchange_entries worker (shard_of_call call) exchanges) _
        (view_at middle.pass (shard_of_call call)) (view_at after.pass (shard_of_call call)) _ (written_at (shard_of_call call) refused.within) mine
        (left_there (shard_of_call call) refused.within) in
        record { first_call = kept.0; nothing = kept.1; full = cannot.at.refused.full }

    by_place : (number : ℕ) → number < count → (here : Bool) → (shard_of_call call == number) ≡ here →
        IsEndedAt worker exchanges call number (view_at before.pass number) (view_at finished number)
    by_place number within true is =
        let same : shard_of_call call ≡ number = grind (arith, nat_tests) in
        ended_here (plan number) worker number exchanges call _ _ same (at number within same)
    by_place number within false is =
        let same : view_at after.pass number ≡ view_at middle.pass number =
        refused.elsewhere.others number (differ (shard_of_call call) number is) in
        let still : IsWrittenAt worker number (exchange_entries worker number exchanges) (view_at before.pass number) (view_at after.pass number) =
        subst (λ (view : CallerView). IsWrittenAt worker number (exchange_entries worker number exchanges) (view_at before.pass number) view)
        (sym same) (written_at number within) in
        let whole = left_at (plan number) worker number (exchange_entries worker number exchanges) _ (view_at after.pass number) _ still
        (left_there number within) in
        record { written = inl whole.grown.own; begins = whole.grown.begins; outside = whole.outside }

    ended : (number : ℕ) → number < count →
        IsEndedAt worker exchanges call number (view_at before.pass number) (view_at finished number)
    ended number within = by_place number within (shard_of_call call == number) refl
