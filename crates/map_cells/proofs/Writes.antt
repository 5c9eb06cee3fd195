-- Writing a piece of one part leaves that part with the piece, and the others as they were.
use Rattle.std.proofs.Common.{◌≡◌, ◌≢◌, ℕ, ◌+◌, ◌*◌, ◌<◌, ◌≤◌, List, length, take, drop, inl, inr, arith, rules}
use Rattle.std.proofs.lemmas.List.{same_lists, places}
use Rattle.std.proofs.lemmas.Bool.{cases_lt}
use Rattle.std.proofs.Math.Nat.{mul-le-mul_right}
use Rattle.wire.specs.FrameView.{overwritten_at}
use Rattle.map_cells.specs.Blocks.{block_of}

part_here : (size from offset : ℕ) (bytes piece : List ℕ) → from + size ≤ length bytes → offset + length piece ≤ size → take size (drop from (overwritten_at (from + offset) piece bytes)) ≡ overwritten_at offset piece (take size (drop from bytes))
part_here size from offset bytes piece fits within = same_lists _ _ (search (rules, places)) (λ k d h. grind (arith, places))

part_below : (size from at : ℕ) (bytes piece : List ℕ) → from + size ≤ at → at + length piece ≤ length bytes → take size (drop from (overwritten_at at piece bytes)) ≡ take size (drop from bytes)
part_below size from at bytes piece before fits = same_lists _ _ (search (rules, places)) (λ k d h. grind (arith, places))

part_above : (size from at : ℕ) (bytes piece : List ℕ) → at + length piece ≤ from → at + length piece ≤ length bytes → take size (drop from (overwritten_at at piece bytes)) ≡ take size (drop from bytes)
part_above size from at bytes piece after fits = same_lists _ _ (search (rules, places)) (λ k d h. grind (arith, places))

end_of_block : (m n size : ℕ) → m < n → m * size + size ≤ n * size
end_of_block m n size lt = let h : (m + 1) * size ≤ n * size = mul-le-mul_right size (omega arith) in omega (arith, h)

module _ (size n offset : ℕ) (bytes piece : List ℕ) (fits : n * size + size ≤ length bytes) (within : offset + length piece ≤ size) where
  pub block_here : block_of size (overwritten_at (n * size + offset) piece bytes) n ≡ overwritten_at offset piece (block_of size bytes n)
  block_here = part_here size (n * size) offset bytes piece fits within

  pub block_elsewhere : (m : ℕ) → m ≢ n → block_of size (overwritten_at (n * size + offset) piece bytes) m ≡ block_of size bytes m
  block_elsewhere m apart = elim (cases_lt m n) [
    | inl lower ↦ (let ends = end_of_block m n size lower in part_below size (m * size) (n * size + offset) bytes piece (omega (arith, ends)) (omega arith))
    | inr at_least ↦ (let starts = end_of_block n m size (omega arith) in part_above size (m * size) (n * size + offset) bytes piece (omega (arith, starts)) (omega arith))
  ]
