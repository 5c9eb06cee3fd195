-- Leaving shards one after another.
use Rattle.std.proofs.Common.{◌≡◌, ℕ, zero, suc, List, [], ◌∷◌, ◌++◌, take, drop, Some, sym, ap}
use Rattle.std.specs.Prelude.{slice_get, slice_set}
use Rattle.shard_core.specs.JournaledShard.{JournaledShard}
use Rattle.shard_port.specs.Asking.{left, all_left}

pub left_one_more : (worker : ℕ) (shards : List JournaledShard) (number : ℕ) (shard : JournaledShard) →
    slice_get (all_left worker (take number shards) ++ drop number shards) number ≡ Some shard →
    slice_set (all_left worker (take number shards) ++ drop number shards) number (left worker shard) ≡ all_left worker
    (take (suc number) shards) ++ drop (suc number) shards
left_one_more worker [] zero shard at = cc
left_one_more worker [] (suc number) shard at = cc
left_one_more worker (first ∷ rest) zero shard at =
    let same : first ≡ shard = cc in
    ap (λ (one : JournaledShard). left worker one ∷ rest) (sym same)
left_one_more worker (first ∷ rest) (suc number) shard at =
    ap (λ (others : List JournaledShard). left worker first ∷ others) (left_one_more worker rest number shard at)
