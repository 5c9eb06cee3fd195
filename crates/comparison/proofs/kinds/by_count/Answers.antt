use Rattle.std.proofs.Common.{rules, ◌-◌, ◌^◌, ℕ, List, String, Global, subst}
use Rattle.std.specs.Prelude.{IsPermutation}
use Rattle.std.proofs.lemmas.List.Sorted.{IsNonDecreasingBy-from_sort_by_key}
use Rattle.comparison.proofs.kinds.by_count.Goals as goal

pub returns : goal.returns
returns c = record {
  ordered = c.len-ordered.ensures.ordered;
  listed = subst (λ (it : List (String Global × ℕ)). IsPermutation it c.sort_by_key.new.self.items) c.in_ok-kinds.ensures c.sort_by_key.ensures.permutation;
  falling = IsNonDecreasingBy-from_sort_by_key (λ kind. 2 ^ 64 - 1 - kind.1) _ c.in_ok-sort_by_key.ensures.sorted (λ a r q k. search rules);
}
