-- What is left to do by each worker, and the histories, after one deed.
use Rattle.std.proofs.Common.{⊎_elim, ◌≡◌, ◌≢◌, ℕ, ◌<◌, ◌==◌, Bool, true, cond, List, [], ◌∷◌, ◌++◌, length, reverse, refl, sym, ◌∙◌, ap, subst, arith, append-nil}
use Rattle.std.specs.Prelude.{slice_index_or, if◌then◌else◌}
use Rattle.std.proofs.lemmas.Bool.{cases_eq, ne_eqb}
use Rattle.std.proofs.lemmas.Bool.Decides.{nat_tests}
use Rattle.std.proofs.lemmas.List.{reverse-append, length-set}
use Rattle.semantics.specs.declared.call.Caller.{Caller}
use Rattle.semantics.specs.declared.call.Call.{Call}
use Rattle.semantics.specs.declared.call.Entry.{Entry}
use Rattle.semantics.specs.History.{shard_of_call}
use Rattle.semantics.specs.System.{SystemState, history_of, with_entry}
use Rattle.semantics.proofs.shared.SystemSteps.{history_there, history_elsewhere}
use Rattle.shards.specs.declared.deeds.Deed.{Deed}
use Rattle.shards.specs.declared.deeds.Deed.TheVariants.{Wrote, MetFull}
use Rattle.shards.specs.Deeds.{made_on}
use Rattle.guarantees.specs.Steps.{AskedOfShard, Nothing, Writes, TurnedAway}
use Rattle.guarantees.specs.Moves.{after_asked}
use Rattle.actors.proofs.shared.DeedLemmas.{made_append}

-- ---- what is left to do, by worker

abbrev pub put : {A : Type 0} → ℕ → A → (ℕ → A) → ℕ → A
put worker own rest other = if other == worker then own else rest other

pub put_there : {A : Type 0} (worker : ℕ) (own : A) (rest : ℕ → A) → put worker own rest worker ≡ own
put_there worker own rest =
    let same : (worker == worker) ≡ true = grind (arith, nat_tests) in
    ap (λ (test : Bool). cond test own (rest worker)) same

pub put_other : {A : Type 0} (worker other : ℕ) (own : A) (rest : ℕ → A) → other ≢ worker → put worker own rest other ≡ rest other
put_other worker other own rest apart = ap (λ (test : Bool). cond test own (rest other)) (ne_eqb other worker apart)

-- ---- the histories after one deed

made_there : (entry : Entry) → made_on (shard_of_call entry.call) (Wrote entry ∷ []) ≡ entry ∷ []
made_there entry =
    let same : (shard_of_call entry.call == shard_of_call entry.call) ≡ true = grind (arith, nat_tests) in
    ap (λ (test : Bool). cond test (entry ∷ []) []) same

made_elsewhere : (entry : Entry) (number : ℕ) → number ≢ shard_of_call entry.call → made_on number (Wrote entry ∷ []) ≡ []
made_elsewhere entry number apart =
    ap (λ (test : Bool). cond test (entry ∷ []) []) (ne_eqb (shard_of_call entry.call) number (λ same. apart (sym same)))

abbrev pub HaveHistories : ℕ → List Deed → SystemState → Type 0
HaveHistories count deeds system = (number : ℕ) → number < count → history_of system number ≡ reverse (made_on number deeds)

pub after_entry : (count : ℕ) (earlier : List Deed) (system after : SystemState) (entry : Entry) → length system.histories ≡ count →
    shard_of_call entry.call < count → HaveHistories count earlier system →
    after.histories ≡ (with_entry system (shard_of_call entry.call) entry).histories → HaveHistories count (earlier ++ Wrote entry ∷ []) after
after_entry count earlier system after entry shards within histories same number below =
    let shard : ℕ = shard_of_call entry.call in
    let room : shard < length system.histories = subst (λ (n : ℕ). shard < n) (sym shards) within in
    ⊎_elim
    (λ at. subst (λ (one : ℕ). history_of after one ≡ reverse (made_on one (earlier ++ Wrote entry ∷ []))) (sym at)
    (ap (λ list. slice_index_or list shard []) same ∙ history_there system shard entry room
    ∙ ap (λ (list : List Entry). entry ∷ list) (histories shard within)
    ∙ sym (reverse-append (made_on shard earlier) (entry ∷ []))
    ∙ ap (λ (list : List Entry). reverse (made_on shard earlier ++ list)) (sym (made_there entry))
    ∙ ap reverse (sym (made_append shard earlier (Wrote entry ∷ [])))))
    (λ apart. ap (λ list. slice_index_or list number []) same ∙ history_elsewhere system shard number entry apart ∙ histories number below
    ∙ ap reverse (sym (append-nil (made_on number earlier))
    ∙ ap (λ (list : List Entry). made_on number earlier ++ list) (sym (made_elsewhere entry number apart))
    ∙ sym (made_append number earlier (Wrote entry ∷ []))))
    (cases_eq number shard)

pub after_look : (count : ℕ) (earlier : List Deed) (system after : SystemState) (who : Caller) (call : Call) → HaveHistories count earlier system →
    after.histories ≡ system.histories → HaveHistories count (earlier ++ MetFull who call ∷ []) after
after_look count earlier system after who call histories same number below =
    ap (λ list. slice_index_or list number []) same ∙ histories number below
    ∙ ap reverse (sym (append-nil (made_on number earlier)) ∙ sym (made_append number earlier (MetFull who call ∷ [])))

pub asked_shards : (system : SystemState) (asked : AskedOfShard) → length (after_asked system asked).histories ≡ length system.histories
asked_shards system Nothing = refl
asked_shards system (Writes entry) =
    length-set system.histories (shard_of_call entry.call) (entry ∷ history_of system (shard_of_call entry.call))
asked_shards system (TurnedAway call) = refl
