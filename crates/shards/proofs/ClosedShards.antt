-- The plans of the shards that are closed, one after the other.
use Rattle.std.proofs.Common.{◌≡◌, ◌⊎◌, ℕ, zero, suc, List, [], ◌∷◌, ◌++◌, length, Some, slice_get, refl, ap, ◌∙◌, inl, inr, ⊎_elim}
use Rattle.ebpf_decode.specs.declared.map.MapDef.{MapDef}
use Rattle.semantics.specs.declared.options.Options.{Options}
use Rattle.semantics.specs.ShardPlan.{plan_at}
use Rattle.shard_core.specs.JournaledShard.{JournaledShard}
use Rattle.journals.specs.KeptEntries.{ArePlanned}

-- what is at a place of a list that has one more at its end
got_snoc : {A : Type 0} (xs : List A) (a b : A) (k : ℕ) → slice_get (xs ++ a ∷ []) k ≡ Some b → (slice_get xs k ≡ Some b) ⊎ ((k ≡ length xs) × (a ≡ b))
got_snoc [] a b zero e = inr (refl, cc e)
got_snoc [] a b (suc k) e = absurd (cc e)
got_snoc (x ∷ xs) a b zero e = inl e
got_snoc (x ∷ xs) a b (suc k) e = elim (got_snoc xs a b k e) [ inl was ↦ inl was | inr t ↦ inr (ap suc t.0, t.1) ]

pub planned_more : (maps : List MapDef) (options : Options) (shards : List JournaledShard) (one : JournaledShard) (number : ℕ) → length shards ≡ number →
    ArePlanned maps options shards → plan_at maps options number ≡ Some one.plan → ArePlanned maps options (shards ++ one ∷ [])
planned_more maps options shards one number many planned is = λ k shard there. ⊎_elim
    (λ was. planned k shard was)
    (λ t. ap (plan_at maps options) (t.0 ∙ many) ∙ is ∙ ap (λ (s : JournaledShard). Some s.plan) t.1)
    (got_snoc shards one shard k there)
