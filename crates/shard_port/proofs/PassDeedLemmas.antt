-- What a chain of calls adds to a worker's deeds, in order.
use Rattle.std.proofs.Common.{◌≡◌, ℕ, zero, suc, ◌<◌, ◌≤◌, ◌||◌, Bool, true, false, List, [], ◌∷◌, ◌++◌, reverse, arith, refl, sym, ◌∙◌, ap, subst, append_assoc}
use Rattle.std.specs.Prelude.{◌==◌, if◌then◌else◌}
use Rattle.std.proofs.lemmas.List.{reverse-append, map-append}
use Rattle.std.proofs.lemmas.Bool.{eqb-true}
use Rattle.std.proofs.lemmas.Bool.Decides.{nat_tests}
use Rattle.semantics.specs.declared.plan.ShardPlan.{ShardPlan}
use Rattle.semantics.specs.declared.call.Caller.{Caller}
use Rattle.semantics.specs.declared.call.Caller.TheVariants.{Worker}
use Rattle.semantics.specs.declared.call.Call.{Call}
use Rattle.semantics.specs.declared.call.Call.TheVariants.{Enter}
use Rattle.semantics.specs.declared.call.Entry.{Entry}
use Rattle.semantics.specs.Reclamation.{is_inside}
use Rattle.semantics.specs.History.{shard_of_call}
use Rattle.semantics.specs.System.{is_entered}
use Rattle.map_port.specs.Exchanges.{Exchange, IsChain}
use Rattle.shards.specs.declared.deeds.Deed.{Deed}
use Rattle.shards.specs.declared.deeds.Deed.TheVariants.{Wrote, MetFull}
use Rattle.shards.specs.CallerView.{CallerView}
use Rattle.shards.specs.Passes.{PassView, own_at, IsElsewhereSame}
use Rattle.shard_port.specs.Asking.{enter_by, leave_by, asked_entry}
use Rattle.shard_port.specs.PortLaws.{inside_after_call}
use Rattle.shard_port.specs.Sessions.{exchange_entry}
use Rattle.shard_port.specs.PassPorts.{PassPort, worker_number, inside_own, entered_deeds, left_deeds, all_left_deeds, CannotEnterBy, CannotCallBy, PassGives, PassRefuses, IsFinishedBy}
use Rattle.shard_port.specs.PassPortLaws.{inside_once}
use Rattle.shard_port.specs.PassDeeds.{entered_now, entering_deeds, asked_deeds, shards_entered, rising, leaving_deeds, run_deeds, deeds_to_call, deeds_to_enter}
use Rattle.shard_port.specs.PassSessions.{IsOutsideAt}

-- ---- the shards that a run has entered, by its worker's own entries

abbrev pub AreInside : ℕ → ℕ → List ℕ → PassView → Type 0
AreInside count worker entered pass = (number : ℕ) → number < count → is_inside worker (own_at pass number) ≡ is_entered number entered

or_true : (test : Bool) → (test || true) ≡ true
or_true true = refl
or_true false = refl

-- one more, or one that it had
is_now_here : (number shard : ℕ) (entered : List ℕ) → shard ≡ number → is_entered number (entered_now shard entered) ≡ true
is_now_here number shard entered same = by_test (is_entered shard entered) refl
  where
    by_test : (test : Bool) → is_entered shard entered ≡ test → is_entered number (if test then entered else shard ∷ entered) ≡ true
    by_test true is = subst (λ (n : ℕ). is_entered n entered ≡ true) same is
    by_test false is =
        let here : (shard == number) ≡ true = grind (arith, nat_tests, same) in
        ap (λ (test : Bool). test || is_entered number entered) here

is_now_elsewhere : (number shard : ℕ) (entered : List ℕ) → (shard == number) ≡ false →
    is_entered number (entered_now shard entered) ≡ is_entered number entered
is_now_elsewhere number shard entered other = by_test (is_entered shard entered)
  where
    by_test : (test : Bool) → is_entered number (if test then entered else shard ∷ entered) ≡ is_entered number entered
    by_test true = refl
    by_test false = ap (λ (test : Bool). test || is_entered number entered) other

-- after a call of one shard the worker is inside of it, and elsewhere as before
inside_then : (count worker shard : ℕ) (entered : List ℕ) (before after : PassView) → AreInside count worker entered before →
    IsElsewhereSame shard before after → is_inside worker (own_at after shard) ≡ true →
    AreInside count worker (entered_now shard entered) after
inside_then count worker shard entered before after are elsewhere here number within = by_place (shard == number) refl
  where
    by_place : (test : Bool) → (shard == number) ≡ test → is_inside worker (own_at after number) ≡ is_entered number (entered_now shard entered)
    by_place true is =
        let same : shard ≡ number = eqb-true shard number is in
        subst (λ (n : ℕ). is_inside worker (own_at after n) ≡ true) same here ∙ sym (is_now_here number shard entered same)
    by_place false is =
        let apart : number ≡ shard → ⊥ = (λ same. grind (arith, nat_tests, is, same)) in
        ap (λ (view : CallerView). is_inside worker view.own) (elsewhere.others number apart) ∙ are number within
        ∙ sym (is_now_elsewhere number shard entered is)

-- where nothing was written, it is inside of the same ones
inside_still : (count worker shard : ℕ) (entered : List ℕ) (before after : PassView) → AreInside count worker entered before →
    IsElsewhereSame shard before after → own_at after shard ≡ own_at before shard → AreInside count worker entered after
inside_still count worker shard entered before after are elsewhere same number within = by_place (shard == number) refl
  where
    by_place : (test : Bool) → (shard == number) ≡ test → is_inside worker (own_at after number) ≡ is_entered number entered
    by_place true is =
        let here : shard ≡ number = eqb-true shard number is in
        ap (is_inside worker) (subst (λ (n : ℕ). own_at after n ≡ own_at before n) here same) ∙ are number within
    by_place false is =
        let apart : number ≡ shard → ⊥ = (λ one. grind (arith, nat_tests, is, one)) in
        ap (λ (view : CallerView). is_inside worker view.own) (elsewhere.others number apart) ∙ are number within

-- ---- lists of at most one

one_back : (deed : Deed) (test : Bool) → reverse (if test then [] else deed ∷ []) ≡ (if test then [] else deed ∷ [])
one_back deed true = refl
one_back deed false = refl

entering_back : (worker : ℕ) (entered : List ℕ) (shard : ℕ) → reverse (entering_deeds worker entered shard) ≡ entering_deeds worker entered shard
entering_back worker entered shard = one_back (Wrote (enter_by worker shard)) (is_entered shard entered)

entered_are : (worker shard : ℕ) (entered : List ℕ) (own : List Entry) → is_inside worker own ≡ is_entered shard entered →
    entered_deeds worker shard own ≡ entering_deeds worker entered shard
entered_are worker shard entered own is = ap (λ (test : Bool). if test then [] else Wrote (enter_by worker shard) ∷ []) is

-- a deed behind its Enter, and later ones, newest first
turned : (first later : List Deed) (deed : Deed) (before : List Deed) → reverse first ≡ first →
    reverse later ++ (deed ∷ first ++ before) ≡ reverse (first ++ deed ∷ later) ++ before
turned first later deed before same =
    ap (λ (list : List Deed). reverse later ++ (deed ∷ list ++ before)) (sym same)
    ∙ sym (append_assoc (reverse later) (deed ∷ reverse first) before)
    ∙ ap (λ (list : List Deed). list ++ before) (sym (append_assoc (reverse later) (deed ∷ []) (reverse first)))
    ∙ ap (λ (list : List Deed). (list ++ reverse first) ++ before) (sym (reverse-append (deed ∷ []) later))
    ∙ ap (λ (list : List Deed). list ++ before) (sym (reverse-append first (deed ∷ later)))

-- ---- a chain

pub record HasDone (count worker : ℕ) (entered : List ℕ) (exchanges : List Exchange) (before after : PassView) : Type 0 where
  pub did : after.deeds ≡ reverse (asked_deeds worker entered exchanges) ++ before.deeds
  pub inside : AreInside count worker (shards_entered entered exchanges) after
  pub who : after.who ≡ Worker worker

chain_deeds : (plan : ℕ → ShardPlan) (count worker : ℕ) (before after : PassPort) (exchanges : List Exchange) (entered : List ℕ) →
    before.pass.who ≡ Worker worker → AreInside count worker entered before.pass → IsChain (PassGives plan count) before exchanges after →
    HasDone count worker entered exchanges before.pass after.pass
chain_deeds plan count worker before after [] entered who are chain = record {
  did = ap (λ (port : PassPort). port.pass.deeds) (sym chain);
  inside = subst (λ (port : PassPort). AreInside count worker entered port.pass) chain are;
  who = ap (λ (port : PassPort). port.pass.who) (sym chain) ∙ who;
}
chain_deeds plan count worker before after (exchange ∷ later) entered who are chain =
    let middle : PassPort = chain.0 in
    let given = chain.1 in
    let shard : ℕ = shard_of_call exchange.call in
    let mine : worker_number before.pass.who ≡ worker = ap worker_number who in
    let inside : is_inside worker (own_at middle.pass shard) ≡ true =
    subst (λ (own : List Entry). is_inside worker own ≡ true)
    (sym (given.asked.at.own
    ∙ ap (λ (w : ℕ). asked_entry w exchange.call exchange.reply ∷ inside_own w shard (own_at before.pass shard)) mine))
    (inside_after_call worker exchange.call exchange.reply (inside_own worker shard (own_at before.pass shard)) given.run_call
    (inside_once worker shard (own_at before.pass shard))) in
    let first : List Deed = entering_deeds worker entered shard in
    let did : middle.pass.deeds ≡ Wrote (exchange_entry worker exchange) ∷ first ++ before.pass.deeds =
    given.asked.did
    ∙ ap (λ (w : ℕ). Wrote (asked_entry w exchange.call exchange.reply) ∷ entered_deeds w shard (own_at before.pass shard) ++ before.pass.deeds) mine
    ∙ ap (λ (list : List Deed). Wrote (exchange_entry worker exchange) ∷ list ++ before.pass.deeds)
    (entered_are worker shard entered (own_at before.pass shard) (are shard given.within)) in
    let rest = chain_deeds plan count worker middle after later (entered_now shard entered) (given.elsewhere.who ∙ who)
    (inside_then count worker shard entered before.pass middle.pass are given.elsewhere inside) chain.2 in
    record {
      did = rest.did ∙ ap (λ (list : List Deed). reverse (asked_deeds worker (entered_now shard entered) later) ++ list) did
          ∙ turned first (asked_deeds worker (entered_now shard entered) later) (Wrote (exchange_entry worker exchange)) before.pass.deeds
          (entering_back worker entered shard);
      inside = rest.inside;
      who = rest.who;
    }

-- ---- leaving

left_are : (worker number : ℕ) (entered : List ℕ) (own : List Entry) → is_inside worker own ≡ is_entered number entered →
    left_deeds worker number own ≡ reverse (leaving_deeds worker (if is_entered number entered then number ∷ [] else []))
left_are worker number entered own is =
    ap (λ (test : Bool). if test then Wrote (leave_by worker number) ∷ [] else []) is ∙ by_test (is_entered number entered)
  where
    by_test : (test : Bool) →
        (if test then Wrote (leave_by worker number) ∷ [] else []) ≡ reverse (leaving_deeds worker (if test then number ∷ [] else []))
    by_test true = refl
    by_test false = refl

all_left : (count worker : ℕ) (entered : List ℕ) (pass : PassView) → AreInside count worker entered pass → (most : ℕ) → most ≤ count →
    all_left_deeds worker pass most ≡ reverse (leaving_deeds worker (rising most entered))
all_left count worker entered pass are zero few = refl
all_left count worker entered pass are (suc number) few =
    let last : List ℕ = if is_entered number entered then number ∷ [] else [] in
    ap (λ (list : List Deed). list ++ all_left_deeds worker pass number)
    (left_are worker number entered (own_at pass number) (are number (omega (arith, few))))
    ∙ ap (λ (list : List Deed). reverse (leaving_deeds worker last) ++ list) (all_left count worker entered pass are number (omega (arith, few)))
    ∙ sym (reverse-append (leaving_deeds worker (rising number entered)) (leaving_deeds worker last))
    ∙ ap reverse (sym (map-append (λ (shard : ℕ). Wrote (leave_by worker shard)) (rising number entered) last))

-- what was done before, and then the Leaves
finished_deeds : (plan : ℕ → ShardPlan) (count worker : ℕ) (entered : List ℕ) (before finished : PassView) (did earlier : List Deed) →
    before.who ≡ Worker worker → AreInside count worker entered before → IsFinishedBy plan count before finished →
    before.deeds ≡ reverse did ++ earlier → finished.deeds ≡ reverse (did ++ leaving_deeds worker (rising count entered)) ++ earlier
finished_deeds plan count worker entered before finished did earlier who are left done =
    let leaves : List Deed = leaving_deeds worker (rising count entered) in
    left.did
    ∙ ap (λ (w : ℕ). all_left_deeds w before count ++ before.deeds) (ap worker_number who)
    ∙ ap (λ (list : List Deed). list ++ before.deeds) (all_left count worker entered before are count (omega arith))
    ∙ ap (λ (list : List Deed). reverse leaves ++ list) done
    ∙ sym (append_assoc (reverse leaves) (reverse did) earlier)
    ∙ ap (λ (list : List Deed). list ++ earlier) (sym (reverse-append did leaves))

-- ---- whole runs

module _ (plan : ℕ → ShardPlan) (count worker : ℕ) (before : PassPort) (who : before.pass.who ≡ Worker worker)
    (outside : (number : ℕ) → number < count → IsOutsideAt worker before.pass number) where
  none_inside : AreInside count worker [] before.pass
  none_inside number within = outside number within

pub done_deeds : (plan : ℕ → ShardPlan) (count worker : ℕ) (before after : PassPort) (finished : PassView) (exchanges : List Exchange) →
    before.pass.who ≡ Worker worker → ((number : ℕ) → number < count → IsOutsideAt worker before.pass number) →
    IsChain (PassGives plan count) before exchanges after → IsFinishedBy plan count after.pass finished →
    finished.deeds ≡ reverse (run_deeds worker count exchanges) ++ before.pass.deeds
done_deeds plan count worker before after finished exchanges who outside chain left =
    let done = chain_deeds plan count worker before after exchanges [] who (none_inside plan count worker before who outside) chain in
    finished_deeds plan count worker (shards_entered [] exchanges) after.pass finished (asked_deeds worker [] exchanges) before.pass.deeds done.who
    done.inside left done.did

pub enter_deeds : (plan : ℕ → ShardPlan) (count worker : ℕ) (before middle after : PassPort) (finished : PassView) (exchanges : List Exchange)
    (call : Call) → before.pass.who ≡ Worker worker → ((number : ℕ) → number < count → IsOutsideAt worker before.pass number) →
    IsChain (PassGives plan count) before exchanges middle → PassRefuses plan count middle call after →
    CannotEnterBy (plan (shard_of_call call)) (shard_of_call call) middle.pass after.pass → IsFinishedBy plan count after.pass finished →
    finished.deeds ≡ reverse (deeds_to_enter worker count exchanges call) ++ before.pass.deeds
enter_deeds plan count worker before middle after finished exchanges call who outside chain refused cannot left =
    let done = chain_deeds plan count worker before middle exchanges [] who (none_inside plan count worker before who outside) chain in
    let shard : ℕ = shard_of_call call in
    let entered : List ℕ = shards_entered [] exchanges in
    let asked : List Deed = asked_deeds worker [] exchanges in
    let look : Deed = MetFull (Worker worker) (Enter shard) in
    let did : after.pass.deeds ≡ reverse (asked ++ look ∷ []) ++ before.pass.deeds =
    cannot.did ∙ ap (λ (one : Caller). MetFull one (Enter shard) ∷ middle.pass.deeds) done.who ∙ ap (λ (list : List Deed). look ∷ list) done.did
    ∙ ap (λ (list : List Deed). list ++ before.pass.deeds) (sym (reverse-append asked (look ∷ []))) in
    finished_deeds plan count worker entered after.pass finished (asked ++ look ∷ []) before.pass.deeds (refused.elsewhere.who ∙ done.who)
    (inside_still count worker shard entered middle.pass after.pass done.inside refused.elsewhere cannot.at.refused.own) left did
    ∙ ap (λ (list : List Deed). reverse list ++ before.pass.deeds) (append_assoc asked (look ∷ []) (leaving_deeds worker (rising count entered)))

pub call_deeds : (plan : ℕ → ShardPlan) (count worker : ℕ) (before middle after : PassPort) (finished : PassView) (exchanges : List Exchange)
    (call : Call) → before.pass.who ≡ Worker worker → ((number : ℕ) → number < count → IsOutsideAt worker before.pass number) →
    IsChain (PassGives plan count) before exchanges middle → PassRefuses plan count middle call after →
    CannotCallBy (plan (shard_of_call call)) (shard_of_call call) middle.pass after.pass call → IsFinishedBy plan count after.pass finished →
    finished.deeds ≡ reverse (deeds_to_call worker count exchanges call) ++ before.pass.deeds
call_deeds plan count worker before middle after finished exchanges call who outside chain refused cannot left =
    let done = chain_deeds plan count worker before middle exchanges [] who (none_inside plan count worker before who outside) chain in
    let shard : ℕ = shard_of_call call in
    let entered : List ℕ = shards_entered [] exchanges in
    let asked : List Deed = asked_deeds worker [] exchanges in
    let first : List Deed = entering_deeds worker entered shard in
    let look : Deed = MetFull (Worker worker) call in
    let mine : worker_number middle.pass.who ≡ worker = ap worker_number done.who in
    let inside : is_inside worker (own_at after.pass shard) ≡ true =
    subst (λ (own : List Entry). is_inside worker own ≡ true)
    (sym (cannot.at.own ∙ ap (λ (w : ℕ). inside_own w shard (own_at middle.pass shard)) mine)) (inside_once worker shard (own_at middle.pass shard)) in
    let did : after.pass.deeds ≡ reverse (asked ++ first ++ look ∷ []) ++ before.pass.deeds =
    cannot.did
    ∙ ap (λ (one : Caller). MetFull one call ∷ entered_deeds (worker_number one) shard (own_at middle.pass shard) ++ middle.pass.deeds) done.who
    ∙ ap (λ (list : List Deed). look ∷ list ++ middle.pass.deeds)
    (entered_are worker shard entered (own_at middle.pass shard) (done.inside shard refused.within))
    ∙ ap (λ (list : List Deed). look ∷ first ++ list) done.did
    ∙ turned first [] look (reverse asked ++ before.pass.deeds) (entering_back worker entered shard)
    ∙ sym (append_assoc (reverse (first ++ look ∷ [])) (reverse asked) before.pass.deeds)
    ∙ ap (λ (list : List Deed). list ++ before.pass.deeds) (sym (reverse-append asked (first ++ look ∷ [])))
    ∙ ap (λ (list : List Deed). reverse list ++ before.pass.deeds) (sym (append_assoc asked first (look ∷ []))) in
    let leaves : List Deed = leaving_deeds worker (rising count (entered_now shard entered)) in
    finished_deeds plan count worker (entered_now shard entered) after.pass finished (asked ++ first ++ look ∷ []) before.pass.deeds
    (refused.elsewhere.who ∙ done.who)
    (inside_then count worker shard entered middle.pass after.pass done.inside refused.elsewhere inside) left did
    ∙ ap (λ (list : List Deed). reverse list ++ before.pass.deeds) (append_assoc (asked ++ first) (look ∷ []) leaves)
