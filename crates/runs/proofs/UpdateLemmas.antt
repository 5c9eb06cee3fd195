-- Updates before a run: which calls they are, and what the journals have of them.
use Rattle.std.proofs.Common.{◌≡◌, ◌≢◌, ⊎_elim, ℕ, ◌+◌, ◌<◌, ◌≤◌, ◌^◌, Bool, true, false, cond, List, [], ◌∷◌, ◌++◌, length, take, map, Option, Some, None, pos, arith, refl, sym, ap, ◌∙◌, subst, append-nil}
use Rattle.std.specs.Prelude.{◌==◌, All, IsTrue, slice_get, slice_set, slice_index_or}
use Rattle.std.specs.List.{AllByRecursion, filter}
use Rattle.std.proofs.lemmas.Bool.{cases_eq}
use Rattle.std.proofs.lemmas.Bool.Decides.{nat_tests}
use Rattle.std.proofs.lemmas.List.{length-set, map-append}
use Rattle.std.proofs.lemmas.List.Elements.{filter_more, recursion_from_All, All-get_or}
use Rattle.std.proofs.lemmas.Option.{slice_get-get_or, slice_get_within, get_or_from_slice_get}
use Rattle.ebpf_decode.specs.declared.map.MapDef.{MapDef}
use Rattle.map_updates.specs.Misfits.{misfit_among, misfit_of, AreFitting}
use Rattle.map_updates.specs.declared.update.MapUpdate.{MapUpdate}
use Rattle.semantics.specs.declared.call.Entry.{Entry}
use Rattle.semantics.specs.declared.call.Call.TheVariants.{Update}
use Rattle.semantics.specs.declared.call.Caller.TheVariants.{Controller}
use Rattle.semantics.specs.declared.call.Reply.TheVariants.{Answer}
use Rattle.semantics.specs.declared.options.Options.{Options}
use Rattle.semantics.specs.declared.plan.ShardPlan.{ShardPlan}
use Rattle.semantics.specs.History.{IsLegalJournal}
use Rattle.semantics.specs.PlanLimits.{IsIndexSize, HasImageSizes}
use Rattle.semantics.specs.ServedCalls.{IsKeyOf}
use Rattle.semantics.specs.ShardPlan.{plan_at, AreOptions}
use Rattle.semantics.proofs.shared.ConditionLemmas.{bytes_test}
use Rattle.semantics.proofs.shared.PlanLemmas.{each_at}
use Rattle.shard_core.specs.JournaledShard.{JournaledShard, opened_shard}
use Rattle.map_port.specs.Served.{Maps}
use Rattle.shard_port.specs.PortView.{AreShardsOf, IsPortReady, ServesMaps}
use Rattle.shard_port.specs.Sessions.{CallsKeepServing}
use Rattle.shard_port.proofs.shared.MayAskLemmas.{at_key, same_test, flags_test}
use Rattle.shard_port.proofs.shared.ReadyLemmas.{plan_number}
use Rattle.shard_port.specs.PortLaws.{both_true}
use Rattle.shards.specs.Seats.{no_plan}
use Rattle.shards.specs.NewShards.{shard_at}
use Rattle.semantics.proofs.shared.EachLemmas.{or_set_here, or_set_else}
use Rattle.runs.specs.Updates.{served_by, shard_of_update, entry_of_update, is_update_at, updates_at, AreUpdated, may_update, IsUpdateMade, IsNext}

-- ---- an update that fits its map

pub record Fits (maps : List MapDef) (update : MapUpdate) : Type 0 where
  pub definition : MapDef
  pub known : slice_get maps update.map ≡ Some definition
  pub key_size : length update.key ≡ definition.key_size
  pub value_size : length update.value ≡ definition.value_size

both_sizes : (maps : List MapDef) (update : MapUpdate) (definition : MapDef) → slice_get maps update.map ≡ Some definition →
    (key value : Bool) → (length update.key == definition.key_size) ≡ key → (length update.value == definition.value_size) ≡ value →
    misfit_among (Some definition) update ≡ None → Fits maps update
both_sizes maps update definition known true true key value none = record {
  definition = definition;
  known = known;
  key_size = grind (arith, nat_tests);
  value_size = grind (arith, nat_tests);
}
both_sizes maps update definition known true false key value none = absurd (let wrong = rw (key, value) at none in cc)
both_sizes maps update definition known false value key other none = absurd (let wrong = rw key at none in cc)

pub fits_map : (maps : List MapDef) (update : MapUpdate) → misfit_of maps update ≡ None → Fits maps update
fits_map maps update none = by_map (slice_get maps update.map) refl none
  where
    by_map : (found : Option MapDef) → slice_get maps update.map ≡ found → misfit_among found update ≡ None → Fits maps update
    by_map None is none = absurd cc
    by_map (Some definition) is none = both_sizes maps update definition is _ _ refl refl none

-- its key is of the size that its map's kind has
pub index_size : (maps : List MapDef) (update : MapUpdate) (definition : MapDef) → AllByRecursion HasImageSizes maps → Fits maps update →
    slice_get maps update.map ≡ Some definition → IsIndexSize definition.kind (length update.key)
index_size maps update definition sizes fits found =
    let same : fits.definition ≡ definition = cc (fits.known, found) in
    subst (λ n. IsIndexSize definition.kind n) (sym (fits.key_size ∙ ap (λ (one : MapDef). one.key_size) same))
    (each_at HasImageSizes maps update.map definition sizes found).index_size

-- the controller may make it
pub may_make : (maps : List MapDef) (options : Options) (shards : List JournaledShard) (update : MapUpdate) → IsPortReady maps options 0 shards →
    Fits maps update → All (λ byte. byte < 256) update.key → All (λ byte. byte < 256) update.value →
    IsTrue (may_update (slice_get shards (shard_of_update (served_by maps options) update)) update)
may_make maps options shards update ready fits bytes value_bytes =
    let of_map : IsKeyOf maps update.map update.key =
    record { definition = fits.definition; known = fits.known; key_size = fits.key_size; bytes = bytes } in
    let at = at_key maps options 0 shards update.map update.key ready of_map in
    let same : fits.definition ≡ at.shard.plan.definition = cc (fits.known, at.definition) in
    let sized : length update.value ≡ at.shard.plan.definition.value_size = fits.value_size ∙ ap (λ (one : MapDef). one.value_size) same in
    let few : 0 < 2 ^ 64 = omega arith in
    rw at.known (both_true _ _ (same_test at.shard.plan.number at.shard.plan.number refl)
    (both_true _ _ at.own_key (both_true _ _ (both_true _ _ (same_test _ _ sized) (bytes_test update.value value_bytes)) (flags_test 0 few))))

-- ---- the entries of updates

mapped : {A B : Type 0} (f : A → B) (test : Bool) (x : A) → map f (cond test (x ∷ []) []) ≡ cond test (f x ∷ []) []
mapped f true x = refl
mapped f false x = refl

one_more : (served : Maps) (number : ℕ) (updates : List MapUpdate) (place : ℕ) (update : MapUpdate) → place < length updates →
    slice_index_or updates place update ≡ update → updates_at served number (take (place + 1) updates)
    ≡ updates_at served number (take place updates) ++ cond (is_update_at served number update) (entry_of_update served update ∷ []) []
one_more served number updates place update within is =
    let test : MapUpdate → Bool = is_update_at served number in
    let entry : MapUpdate → Entry = entry_of_update served in
    let before : List MapUpdate = filter test (take place updates) in
    ap (map entry) (filter_more test updates place update within ∙ ap (λ (one : MapUpdate). before ++ cond (test one) (one ∷ []) []) is)
    ∙ map-append entry before (cond (test update) (update ∷ []) [])
    ∙ ap (λ (later : List Entry). map entry before ++ later) (mapped entry (test update) update)

own : (served : Maps) (number : ℕ) (updates : List MapUpdate) (place : ℕ) (update : MapUpdate) → place < length updates →
    slice_index_or updates place update ≡ update → shard_of_update served update ≡ number →
    updates_at served number (take (place + 1) updates) ≡ updates_at served number (take place updates) ++ entry_of_update served update ∷ []
own served number updates place update within is at =
    one_more served number updates place update within is
    ∙ ap (λ (test : Bool). updates_at served number (take place updates) ++ cond test (entry_of_update served update ∷ []) []) (same_test _ _ at)

not_same : (a b : ℕ) → a ≢ b → (a == b) ≡ false
not_same a b apart = grind (arith, nat_tests)

others : (served : Maps) (number : ℕ) (updates : List MapUpdate) (place : ℕ) (update : MapUpdate) → place < length updates →
    slice_index_or updates place update ≡ update → shard_of_update served update ≢ number →
    updates_at served number (take (place + 1) updates) ≡ updates_at served number (take place updates)
others served number updates place update within is apart =
    one_more served number updates place update within is
    ∙ ap (λ (test : Bool). updates_at served number (take place updates) ++ cond test (entry_of_update served update ∷ []) []) (not_same _ _ apart)
    ∙ append-nil (updates_at served number (take place updates))

-- ---- one update more

module _ (maps : List MapDef) (options : Options) (updates : List MapUpdate) (place : ℕ) (update : MapUpdate) (before after : List JournaledShard)
    (number : ℕ) (were : AreUpdated maps options (take place updates) before) (within : place < length updates)
    (is : slice_index_or updates place update ≡ update) (at : number ≡ shard_of_update (served_by maps options) update)
    (made : IsUpdateMade before number update (pos 0) after)
  where
    abbrev served : Maps
    served = served_by maps options

    abbrev new : JournaledShard
    new = record {
      plan = made.one.plan;
      journal = made.one.journal ++ record {
        who = Controller;
        call = Update made.one.plan.number update.key update.value 0;
        reply = Answer (pos 0);
      } ∷ [];
    }

    there : number < length before
    there = slice_get_within before number made.one made.known

    one_is : shard_at before number ≡ made.one
    one_is = get_or_from_slice_get before number made.one (opened_shard no_plan) made.known

    planned_here : plan_at maps options number ≡ Some made.one.plan
    planned_here = were.planned number there ∙ ap (λ (one : JournaledShard). Some one.plan) one_is

    written_here : made.one.journal ≡ updates_at served number (take place updates)
    written_here = ap (λ (one : JournaledShard). one.journal) (sym one_is) ∙ were.written number there

    number_is : made.one.plan.number ≡ shard_of_update served update
    number_is = (plan_number options number _ made.one.plan planned_here).0 ∙ at

    written_new : new.journal ≡ updates_at served number (take (place + 1) updates)
    written_new =
        ap (λ (n : ℕ). made.one.journal ++ record { who = Controller; call = Update n update.key update.value 0; reply = Answer (pos 0) } ∷ []) number_is
        ∙ ap (λ (earlier : List Entry). earlier ++ entry_of_update served update ∷ []) written_here
        ∙ sym (own served number updates place update within is (sym at))

    now_at : (k : ℕ) → shard_at after k ≡ shard_at (slice_set before number new) k
    now_at k = ap (λ (shards : List JournaledShard). shard_at shards k) made.put_back

    same_count : length after ≡ length before
    same_count = ap (λ (shards : List JournaledShard). length shards) made.put_back ∙ length-set before number new

    here : (k : ℕ) → k ≡ number → (plan_at maps options k ≡ Some (shard_at after k).plan)
        × ((shard_at after k).journal ≡ updates_at served k (take (place + 1) updates))
    here k same =
        let stands : shard_at after number ≡ new = now_at number ∙ or_set_here before number new (opened_shard no_plan) there in
        subst (λ (n : ℕ). (plan_at maps options n ≡ Some (shard_at after n).plan) × ((shard_at after n).journal ≡ updates_at served n (take (place + 1) updates)))
        (sym same) (
          planned_here ∙ ap (λ (one : JournaledShard). Some one.plan) (sym stands),
          ap (λ (one : JournaledShard). one.journal) stands ∙ written_new,
        )

    elsewhere : (k : ℕ) → k < length before → k ≢ number → (plan_at maps options k ≡ Some (shard_at after k).plan)
        × ((shard_at after k).journal ≡ updates_at served k (take (place + 1) updates))
    elsewhere k below apart =
        let stays : shard_at after k ≡ shard_at before k = now_at k ∙ or_set_else before number k new (opened_shard no_plan) apart in (
          were.planned k below ∙ ap (λ (one : JournaledShard). Some one.plan) (sym stays),
          ap (λ (one : JournaledShard). one.journal) stays ∙ were.written k below
              ∙ sym (others served k updates place update within is (λ same. apart (sym same ∙ sym at))),
        )

    each : (k : ℕ) → k < length after → (plan_at maps options k ≡ Some (shard_at after k).plan)
        × ((shard_at after k).journal ≡ updates_at served k (take (place + 1) updates))
    each k below =
        ⊎_elim (here k) (elsewhere k (subst (λ (n : ℕ). k < n) same_count below)) (cases_eq k number)

    -- the update's shard took it, by the entry that it wrote; the journals of the others have the entries that they had
    taken_here : (k : ℕ) (plan : ShardPlan) → plan_at maps options k ≡ Some plan → k ≡ number →
        IsLegalJournal plan (updates_at served k (take (place + 1) updates))
    taken_here k plan planned same =
        let at_number : plan_at maps options number ≡ Some plan = subst (λ (n : ℕ). plan_at maps options n ≡ Some plan) same planned in
        let same_plan : made.one.plan ≡ plan = cc (planned_here, at_number) in
        subst (λ (n : ℕ). IsLegalJournal plan (updates_at served n (take (place + 1) updates))) (sym same)
        (subst (λ (journal : List Entry). IsLegalJournal plan journal) written_new
        (subst (λ (p : ShardPlan). IsLegalJournal p new.journal) same_plan made.legal))

    taken_elsewhere : (k : ℕ) (plan : ShardPlan) → plan_at maps options k ≡ Some plan → k ≢ number →
        IsLegalJournal plan (updates_at served k (take (place + 1) updates))
    taken_elsewhere k plan planned apart =
        subst (λ (journal : List Entry). IsLegalJournal plan journal)
        (sym (others served k updates place update within is (λ same. apart (sym same ∙ sym at)))) (were.taken k plan planned)

    pub updated_more : AreUpdated maps options (take (place + 1) updates) after
    updated_more = record {
      count = same_count ∙ were.count;
      planned = λ k below. (each k below).0;
      written = λ k below. (each k below).1;
      taken = λ k plan planned. ⊎_elim (taken_here k plan planned) (taken_elsewhere k plan planned) (cases_eq k number);
    }

-- the shards serve the maps as before
pub still_serve : CallsKeepServing → (maps : List MapDef) (options : Options) (update : MapUpdate) (before after : List JournaledShard) (number : ℕ) →
    ServesMaps maps options before → All (λ byte. byte < 256) update.value → IsUpdateMade before number update (pos 0) after → ServesMaps maps options after
still_serve keep maps options update before after number serve bytes made =
    subst (ServesMaps maps options) (sym made.put_back)
    (keep maps options before number made.one _ serve made.known (recursion_from_All (λ byte. byte < 256) update.value bytes) made.legal)

-- what is refused is the next update
pub is_next : (maps : List MapDef) (options : Options) (updates : List MapUpdate) (place : ℕ) (update : MapUpdate) (before : List JournaledShard)
    (number : ℕ) (one : JournaledShard) → AreUpdated maps options (take place updates) before → place < length updates →
    slice_index_or updates place update ≡ update → number ≡ shard_of_update (served_by maps options) update → slice_get before number ≡ Some one →
    IsNext maps options updates place update one
is_next maps options updates place update before number one were within is at known =
    let there = slice_get_within before number one known in
    let one_is : shard_at before number ≡ one = get_or_from_slice_get before number one (opened_shard no_plan) known in
    let written : one.journal ≡ updates_at (served_by maps options) number (take place updates) =
    ap (λ (s : JournaledShard). s.journal) (sym one_is) ∙ were.written number there in
    record {
      known = slice_get-get_or updates place update within ∙ ap Some is;
      plan = one.plan;
      planned = subst (λ (n : ℕ). plan_at maps options n ≡ Some one.plan) at (were.planned number there ∙ ap (λ (s : JournaledShard). Some s.plan) one_is);
      shard_is = ap (λ (journal : List Entry). record { plan = one.plan; journal = journal })
          (written ∙ ap (λ (n : ℕ). updates_at (served_by maps options) n (take place updates)) at);
      taken = were.taken;
    }

-- an update at a place of a list that fits
pub fits_at : (maps : List MapDef) (updates : List MapUpdate) (place : ℕ) (update : MapUpdate) → place < length updates →
    update ≡ slice_index_or updates place update → AreFitting maps updates → Fits maps update
fits_at maps updates place update within is fit =
    fits_map maps update
    (subst (λ (one : MapUpdate). misfit_of maps one ≡ None) (sym is)
    (All-get_or (λ (one : MapUpdate). misfit_of maps one ≡ None) updates place update within fit))

-- shards that serve the maps are ready for a caller
pub ready_for : (maps : List MapDef) (options : Options) (shards : List JournaledShard) → length maps ≤ 16 → AllByRecursion HasImageSizes maps →
    AreOptions maps options → AreShardsOf maps options shards → IsPortReady maps options 0 shards
ready_for maps options shards few sizes are shards_are = record {
  few = few;
  sizes = sizes;
  are_options = are;
  is_worker = (let some = are.some_worker in omega (arith, some));
  are_shards = shards_are;
}
