-- An update that the controller's port takes is one that its shard serves.
use Rattle.std.proofs.Common.{◌≡◌, ◌<◌, ℕ, Bool, true, ◌&&◌, List, ◌∷◌, length, Some, refl, sym, ap, ◌∙◌, subst, arith}
use Rattle.std.specs.Prelude.{All, IsTrue, ◌==◌, slice_get, ℤ, Option, Result, Ok, Err, IfOk, OnErr}
use Rattle.std.proofs.lemmas.Bool.Decides.{nat_tests}
use Rattle.ebpf_decode.specs.declared.map.MapDef.{MapDef}
use Rattle.ebpf_decode.specs.declared.version.Version.TheVariants.{V2}
use Rattle.semantics.specs.declared.call.Caller.{Caller}
use Rattle.semantics.specs.declared.call.Caller.TheVariants.{Controller}
use Rattle.semantics.specs.declared.call.Call.{Call}
use Rattle.semantics.specs.declared.call.Call.TheVariants.{Update}
use Rattle.semantics.specs.declared.call.Entry.{Entry}
use Rattle.semantics.specs.declared.call.Reply.TheVariants.{Answer}
use Rattle.semantics.specs.declared.full.JournalFull.{JournalFull}
use Rattle.semantics.specs.declared.options.Options.{Options}
use Rattle.semantics.specs.declared.plan.ShardPlan.{ShardPlan}
use Rattle.semantics.specs.declared.linux.UpdateFlags.TheVariants.{Any}
use Rattle.semantics.specs.Linux.{flags_number}
use Rattle.semantics.specs.PlanLimits.{IsIndexSize, HasImageSizes}
use Rattle.semantics.specs.Program.{shard_of_key}
use Rattle.semantics.specs.History.{Meets, is_own_key, is_value, entry_of}
use Rattle.semantics.proofs.shared.ConditionLemmas.{bytes_test}
use Rattle.semantics.proofs.shared.ImageSizes.{image_sizes}
use Rattle.semantics.proofs.shared.PlanLemmas.{each_at}
use Rattle.journals.specs.JournalsView.{AreImageMaps}
use Rattle.shards.specs.declared.deeds.Deed.TheVariants.{Wrote, MetFull}
use Rattle.shards.specs.Deeds.{deed_by}
use Rattle.shards.specs.Passes.{PassView, own_at, IsElsewhereSame}
use Rattle.shards.specs.Asked.{PassMayAsk, PassIsServed, PassIsRefused}
use Rattle.shards.proofs.shared.Keys.{IsAtKey, at_key}
use Rattle.actors.specs.SharedUpdates.{UpdatesView, IsControllersPort, shard_of_map_key, IsUpdated, IsTurnedAway}

-- the flags that an update is made with
abbrev any : ℕ
any = flags_number Any

pub same_found : (one other : MapDef) (found : Option MapDef) → found ≡ Some one → found ≡ Some other → one ≡ other
same_found one other found first second = cc (first, second)

-- the key is of the size that its map's kind has
pub index_size : (maps : List MapDef) (map : ℕ) (definition : MapDef) (key : List ℕ) → AreImageMaps maps → slice_get maps map ≡ Some definition →
    length key ≡ definition.key_size → IsIndexSize definition.kind (length key)
index_size maps map definition key are known size =
    subst (λ n. IsIndexSize definition.kind n) (sym size)
    (each_at HasImageSizes maps map definition (image_sizes V2 maps are.allowed) known).index_size

pub shard_known : (maps : List MapDef) (options : Options) (map : ℕ) (key : List ℕ) (definition : MapDef) → slice_get maps map ≡ Some definition →
    shard_of_map_key maps options map key ≡ shard_of_key map definition.kind options.shards key
shard_known maps options map key definition known = rw known refl

both_true : (a b : Bool) → a ≡ true → b ≡ true → (a && b) ≡ true
both_true a b first second = rw (first, second) refl

same_test : (a b : ℕ) → a ≡ b → (a == b) ≡ true
same_test a b same = grind (arith, nat_tests)

may_change : (plan : ShardPlan) (number : ℕ) (own : List Entry) (who : Caller) (key value : List ℕ) → who ≡ Controller →
    (number == plan.number) ≡ true → IsTrue (is_own_key plan key) → IsTrue (is_value plan value) →
    Meets plan own who (Update number key value any)
may_change plan number own who key value is numbered own_key fits =
    subst (λ one. Meets plan own one (Update number key value any)) (sym is)
    (both_true _ _ numbered (both_true _ _ own_key (both_true _ _ fits refl)))

-- what is known of the shard of an update
pub record IsAtUpdate (count : ℕ) (plan : ℕ → ShardPlan) (maps : List MapDef) (options : Options) (map : ℕ) (key value : List ℕ) (pass : PassView) : Type 0 where
  pub within : shard_of_map_key maps options map key < count
  pub may : PassMayAsk (plan (shard_of_map_key maps options map key)) (shard_of_map_key maps options map key) pass
      (Update (shard_of_map_key maps options map key) key value any)
  pub of_map : slice_get maps map ≡ Some (plan (shard_of_map_key maps options map key)).definition
  pub who : pass.who ≡ Controller

pub at_update : (count : ℕ) (plan : ℕ → ShardPlan) (maps : List MapDef) (options : Options) (map : ℕ) (key value : List ℕ) (pass : PassView)
    (definition : MapDef) → IsControllersPort count plan maps options pass → slice_get maps map ≡ Some definition → length key ≡ definition.key_size →
    length value ≡ definition.value_size → All (λ byte. byte < 256) key → All (λ byte. byte < 256) value →
    IsAtUpdate count plan maps options map key value pass
at_update count plan maps options map key value pass definition port known key_size value_size key_bytes value_bytes =
    let at : IsAtKey maps options count plan (shard_of_key map definition.kind options.shards key) definition key =
    at_key maps options count plan map definition key port.plans port.options_fit known key_size key_bytes in
    let is : shard_of_key map definition.kind options.shards key ≡ shard_of_map_key maps options map key =
    sym (shard_known maps options map key definition known) in
    let here : IsAtKey maps options count plan (shard_of_map_key maps options map key) definition key =
    subst (λ number. IsAtKey maps options count plan number definition key) is at in
    let number : ℕ = shard_of_map_key maps options map key in
    let sized : length value ≡ (plan number).definition.value_size = value_size ∙ ap (λ (one : MapDef). one.value_size) (sym here.is.defined) in
    record {
      within = here.within;
      may = may_change (plan number) number (own_at pass number) pass.who key value port.who
          (same_test number (plan number).number (sym here.is.numbered)) here.own_key
          (both_true _ _ (same_test _ _ sized) (bytes_test value value_bytes));
      of_map = known ∙ ap (λ (one : MapDef). Some one) (sym here.is.defined);
      who = port.who;
    }

-- ---- the same, in the words of the port's code: the fields of the port, what contracts see of it, and what the calls before said

abbrev pub viewed : List MapDef → Options → PassView → UpdatesView
viewed maps options pass = record { maps = maps; options = options; pass = pass }

shard_viewed : (maps : List MapDef) (options : Options) (pass : PassView) (now : UpdatesView) (map shard : ℕ) (key : List ℕ) → viewed maps options pass ≡ now →
    shard ≡ shard_of_map_key now.maps now.options map key → shard ≡ shard_of_map_key maps options map key
shard_viewed maps options pass now map shard key view_is is =
    is ∙ sym (ap (λ (view : UpdatesView). shard_of_map_key view.maps view.options map key) view_is)

pub at_viewed : (count : ℕ) (plan : ℕ → ShardPlan) (maps : List MapDef) (options : Options) (pass : PassView) (now : UpdatesView) (map : ℕ)
    (key value key' value' : List ℕ) (definition : MapDef) → viewed maps options pass ≡ now → IsControllersPort count plan maps options pass →
    slice_get now.maps map ≡ Some definition → length key ≡ definition.key_size → length value ≡ definition.value_size → key' ≡ key → value' ≡ value →
    All (λ byte. byte < 256) key' → All (λ byte. byte < 256) value' → IsAtUpdate count plan maps options map key value pass
at_viewed count plan maps options pass now map key value key' value' definition view_is port known key_size value_size key_is value_is key_bytes value_bytes =
    at_update count plan maps options map key value pass definition port
    (ap (λ (view : UpdatesView). slice_get view.maps map) view_is ∙ known) key_size value_size
    (subst (λ bytes. All (λ byte. byte < 256) bytes) key_is key_bytes) (subst (λ bytes. All (λ byte. byte < 256) bytes) value_is value_bytes)

pub may_viewed : (count : ℕ) (plan : ℕ → ShardPlan) (maps : List MapDef) (options : Options) (pass : PassView) (now : UpdatesView) (map shard : ℕ)
    (key value key' value' : List ℕ) (flags : ℕ) → viewed maps options pass ≡ now → IsAtUpdate count plan maps options map key value pass →
    key' ≡ key → value' ≡ value → shard ≡ shard_of_map_key now.maps now.options map key → flags ≡ any →
    PassMayAsk (plan shard) shard pass (Update shard key' value' flags)
may_viewed count plan maps options pass now map shard key value key' value' flags view_is at key_is value_is is flags_are =
    let number : ℕ = shard_of_map_key maps options map key in
    let valued : PassMayAsk (plan number) number pass (Update number key value' any) =
    subst (λ bytes. PassMayAsk (plan number) number pass (Update number key bytes any)) (sym value_is) at.may in
    let keyed : PassMayAsk (plan number) number pass (Update number key' value' any) =
    subst (λ bytes. PassMayAsk (plan number) number pass (Update number bytes value' any)) (sym key_is) valued in
    let here : PassMayAsk (plan shard) shard pass (Update shard key' value' any) =
    subst (λ n. PassMayAsk (plan n) n pass (Update n key' value' any)) (sym (shard_viewed maps options pass now map shard key view_is is)) keyed in
    subst (λ f. PassMayAsk (plan shard) shard pass (Update shard key' value' f)) (sym flags_are) here

-- the call that was made, in the words of the update
same_call : (shard : ℕ) (key value key' value' : List ℕ) (flags : ℕ) → key' ≡ key → value' ≡ value → flags ≡ any →
    Update shard key' value' flags ≡ Update shard key value any
same_call shard key value key' value' flags key_is value_is flags_are =
    ap (λ (f : ℕ). Update shard key' value' f) flags_are ∙ ap (λ (bytes : List ℕ). Update shard bytes value' any) key_is
    ∙ ap (λ (bytes : List ℕ). Update shard key bytes any) value_is

pub given : (count : ℕ) (plan : ℕ → ShardPlan) (maps : List MapDef) (options : Options) (pass pass' : PassView) (now : UpdatesView) (map shard : ℕ)
    (key value key' value' : List ℕ) (flags : ℕ) → viewed maps options pass ≡ now → IsAtUpdate count plan maps options map key value pass →
    key' ≡ key → value' ≡ value → shard ≡ shard_of_map_key now.maps now.options map key → flags ≡ any → IsElsewhereSame shard pass pass' →
    (result : Result ℤ JournalFull) → IfOk result (λ code. PassIsServed (plan shard) shard pass pass' (Update shard key' value' flags) (Answer code)) →
    pass'.deeds ≡ deed_by pass.who (Update shard key' value' flags) Answer result ∷ pass.deeds →
    IfOk result (λ answer. IsUpdated plan now (record { map = map; key = key; value = value }) answer (viewed maps options pass'))
given count plan maps options pass pass' now map shard key value key' value' flags view_is at key_is value_is is flags_are elsewhere (Err full) answered did = tt
given count plan maps options pass pass' now map shard key value key' value' flags view_is at key_is value_is is flags_are elsewhere (Ok code) answered did =
    let number : ℕ = shard_of_map_key maps options map key in
    let here : shard ≡ number = shard_viewed maps options pass now map shard key view_is is in
    let same : Update shard key' value' flags ≡ Update shard key value any = same_call shard key value key' value' flags key_is value_is flags_are in
    let called : PassIsServed (plan shard) shard pass pass' (Update shard key value any) (Answer code) =
    subst (λ (call : Call). PassIsServed (plan shard) shard pass pass' call (Answer code)) same answered in
    subst (λ port. IsUpdated plan port (record { map = map; key = key; value = value }) code (viewed maps options pass')) view_is (record {
      maps = refl;
      options = refl;
      of_map = at.of_map;
      elsewhere = subst (λ n. IsElsewhereSame n pass pass') here elsewhere;
      answered = subst (λ n. PassIsServed (plan n) n pass pass' (Update n key value any) (Answer code)) here called;
      did = did ∙ ap (λ (who : Caller). Wrote (entry_of who (Update shard key' value' flags) (Answer code)) ∷ pass.deeds) at.who
          ∙ ap (λ (call : Call). Wrote (entry_of Controller call (Answer code)) ∷ pass.deeds) same
          ∙ ap (λ (n : ℕ). Wrote (entry_of Controller (Update n key value any) (Answer code)) ∷ pass.deeds) here;
    })

pub turned_away : (count : ℕ) (plan : ℕ → ShardPlan) (maps : List MapDef) (options : Options) (pass pass' : PassView) (now : UpdatesView) (map shard : ℕ)
    (key value key' value' : List ℕ) (flags : ℕ) → viewed maps options pass ≡ now → IsAtUpdate count plan maps options map key value pass →
    key' ≡ key → value' ≡ value → shard ≡ shard_of_map_key now.maps now.options map key → flags ≡ any → IsElsewhereSame shard pass pass' →
    (result : Result ℤ JournalFull) → OnErr result (PassIsRefused (plan shard) shard pass pass' (Update shard key' value' flags)) →
    pass'.deeds ≡ deed_by pass.who (Update shard key' value' flags) Answer result ∷ pass.deeds →
    OnErr result (IsTurnedAway plan now (record { map = map; key = key; value = value }) (viewed maps options pass'))
turned_away count plan maps options pass pass' now map shard key value key' value' flags view_is at key_is value_is is flags_are elsewhere (Ok code) refused did =
    tt
turned_away count plan maps options pass pass' now map shard key value key' value' flags view_is at key_is value_is is flags_are elsewhere (Err full) refused did =
    let number : ℕ = shard_of_map_key maps options map key in
    let here : shard ≡ number = shard_viewed maps options pass now map shard key view_is is in
    let same : Update shard key' value' flags ≡ Update shard key value any = same_call shard key value key' value' flags key_is value_is flags_are in
    let called : PassIsRefused (plan shard) shard pass pass' (Update shard key value any) =
    subst (λ (call : Call). PassIsRefused (plan shard) shard pass pass' call) same refused in
    subst (λ port. IsTurnedAway plan port (record { map = map; key = key; value = value }) (viewed maps options pass')) view_is (record {
      maps = refl;
      options = refl;
      of_map = at.of_map;
      elsewhere = subst (λ n. IsElsewhereSame n pass pass') here elsewhere;
      refused = subst (λ n. PassIsRefused (plan n) n pass pass' (Update n key value any)) here called;
      did = did ∙ ap (λ (who : Caller). MetFull who (Update shard key' value' flags) ∷ pass.deeds) at.who
          ∙ ap (λ (call : Call). MetFull Controller call ∷ pass.deeds) same
          ∙ ap (λ (n : ℕ). MetFull Controller (Update n key value any) ∷ pass.deeds) here;
    })
