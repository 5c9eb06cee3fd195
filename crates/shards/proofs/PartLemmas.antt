-- A pass with one part changed.
use Rattle.std.proofs.Common.{◌≡◌, ◌≢◌, ℕ, zero, suc, ◌<◌, false, List, [], ◌∷◌, length, refl, sym, ap, ◌∙◌, subst, ⊎_elim, arith}
use Rattle.std.specs.Prelude.{map, slice_set, slice_index_or}
use Rattle.atomic_table.specs.Seated.{TableId}
use Rattle.semantics.specs.declared.call.Caller.{Caller}
use Rattle.semantics.specs.declared.plan.ShardPlan.{ShardPlan}
use Rattle.shards.specs.declared.deeds.Deed.{Deed}
use Rattle.shards.specs.GuardedView.{KeyedPlan}
use Rattle.semantics.proofs.shared.EachLemmas.{or_set_here, or_set_else, or_within, set_count}
use Rattle.shards.specs.CallerView.{CallerView, ViewHasLooked}
use Rattle.shards.specs.ShardPasses.{ShardPassView, IsSameShard}
use Rattle.shards.specs.Passes.{PassView, view_at, IsElsewhereSame, shard_pass_at, no_part, pass_view, IsPartOf, IsPass}
use Rattle.shards.proofs.Settling.{same_or_other}

views_count : (parts : List ShardPassView) → length (map (λ (part : ShardPassView). part.view) parts) ≡ length parts
views_count [] = refl
views_count (p ∷ ps) = ap suc (views_count ps)

pub view_is : (who : Caller) (parts : List ShardPassView) (deeds : List Deed) (number : ℕ) → view_at (pass_view who parts deeds) number ≡ (shard_pass_at parts number).view
view_is who [] deeds number = refl
view_is who (p ∷ ps) deeds zero = refl
view_is who (p ∷ ps) deeds (suc number) = view_is who ps deeds number

-- what is said of a part, and what is said of the pass
pub record Said : Type 0 where
  pub plan : ShardPlan
  pub number : ℕ
  pub who : Caller
  pub before : CallerView
  pub after : CallerView

module _ (table : ℕ → TableId) (key : ℕ → KeyedPlan) (count : ℕ) (who : Caller) (parts : List ShardPassView) (deeds deeds' : List Deed) (now : PassView) (number : ℕ) (part after : ShardPassView)
    (pass : IsPass table key count who parts) (is_now : pass_view who parts deeds ≡ now) (below : number < count) (lent : part ≡ slice_index_or parts number part) where
  within : number < length parts
  within = (let sized = pass.sized in omega (arith, sized, below))

  pub part_is_at : part ≡ shard_pass_at parts number
  part_is_at = lent ∙ or_within parts part no_part number within

  pub part_is : IsPartOf (table number) (key number) who part
  part_is = subst (IsPartOf (table number) (key number) who) (sym part_is_at) (pass.each number below)

  pub before_is : part.view ≡ view_at now number
  before_is = ap (λ (p : ShardPassView). p.view) part_is_at ∙ sym (view_is who parts deeds number) ∙ ap (λ (p : PassView). view_at p number) is_now

  pub after_is : after.view ≡ view_at (pass_view who (slice_set parts number after) deeds') number
  after_is = ap (λ (p : ShardPassView). p.view) (sym (or_set_here parts number after no_part within)) ∙ sym (view_is who (slice_set parts number after) deeds' number)

  pub elsewhere : IsElsewhereSame number now (pass_view who (slice_set parts number after) deeds')
  elsewhere = subst (λ (before : PassView). IsElsewhereSame number before (pass_view who (slice_set parts number after) deeds')) is_now (record {
    who = refl;
    count = views_count (slice_set parts number after) ∙ set_count parts number after ∙ sym (views_count parts);
    others = λ other apart. view_is who (slice_set parts number after) deeds' other ∙ ap (λ (p : ShardPassView). p.view) (or_set_else parts number other after no_part apart) ∙ sym (view_is who parts deeds other);
  })

  pub looked_at : ViewHasLooked part.key.plan part.view after.view → ViewHasLooked (key number).plan (view_at now number) (view_at (pass_view who (slice_set parts number after) deeds') number)
  looked_at = subst (λ (x : ShardPlan × CallerView × CallerView). ViewHasLooked x.0 x.1 x.2) (λ i. ((part_is.key_is i).plan, before_is i, after_is i))

  pub pass_after : IsSameShard part after → after.has_it ≡ false → IsPass table key count who (slice_set parts number after)
  pass_after same alone = record {
    sized = set_count parts number after ∙ pass.sized;
    each = λ k less. ⊎_elim
        (λ (here : k ≡ number). subst (λ (n : ℕ). IsPartOf (table n) (key n) who (shard_pass_at (slice_set parts number after) n)) (sym here)
        (subst (IsPartOf (table number) (key number) who) (sym (or_set_here parts number after no_part within))
        (record { table_is = same.table ∙ part_is.table_is; key_is = same.key ∙ part_is.key_is; caller = same.who ∙ part_is.caller; alone = alone })))
        (λ (apart : k ≢ number). subst (IsPartOf (table k) (key k) who) (sym (or_set_else parts number k after no_part apart)) (pass.each k less))
        (same_or_other k number);
  }

  abbrev pub by_part : Said
  by_part = record { plan = part.key.plan; number = part.key.plan.number; who = who; before = part.view; after = after.view }

  abbrev pub by_pass : Said
  by_pass = record { plan = (key number).plan; number = number; who = now.who; before = view_at now number; after = view_at (pass_view who (slice_set parts number after) deeds') number }

  pub said : (key number).plan.number ≡ number → by_part ≡ by_pass
  said numbered = λ i. record {
    plan = (part_is.key_is i).plan;
    number = (ap (λ (k : KeyedPlan). k.plan.number) part_is.key_is ∙ numbered) i;
    who = ap (λ (p : PassView). p.who) is_now i;
    before = before_is i;
    after = after_is i;
  }
