-- Fronts of lists.
use Rattle.std.proofs.Common.{◌≡◌, ◌+◌, ◌-◌, ◌≤◌, ◌<◌, ℕ, zero, suc, List, [], ◌∷◌, ◌++◌, length, take, ap, sym, refl, arith}
use Rattle.folders.specs.declared.folder.Front.{Front}
use Rattle.folders.specs.Fronts.{HasFront, IsShortFront}

abbrev zeros : ℕ → List ℕ
zeros zero = []
zeros (suc count) = 0 ∷ zeros count

length-zeros : (count : ℕ) → length (zeros count) ≡ count
length-zeros zero = refl
length-zeros (suc count) = ap suc (length-zeros count)

-- a list with this many zeros behind it
behind : (kept : List ℕ) (more most : ℕ) → length kept ≤ most → (length kept < most → more ≡ 0) → take most (kept ++ zeros more) ≡ kept
behind [] more zero few others = refl
behind [] more (suc most) few others = ap (λ count. take (suc most) (zeros count)) (others (omega arith))
behind (byte ∷ kept) more zero few others = absurd (omega (arith, few))
behind (byte ∷ kept) more (suc most) few others =
    ap (λ rest. byte ∷ rest) (behind kept more most (omega (arith, few)) (λ less. others (omega (arith, less))))

behind-length : (kept : List ℕ) (more : ℕ) → length (kept ++ zeros more) ≡ length kept + more
behind-length [] more = (let all = length-zeros more in omega (arith, all))
behind-length (byte ∷ kept) more = (let rest = behind-length kept more in omega (arith, rest))

-- where nothing says what the bytes are, there are some that begin with these
pub some_front : (most : ℕ) (front : Front) → IsShortFront most front → HasFront (λ bytes. Unit {0}) most front
some_front most front short =
    let kept = front.bytes.items in
    let within = short.within in
    let others = short.others in
    record {
      bytes = kept ++ zeros (front.length - length kept);
      held = tt;
      is_front = record {
        kept = sym (behind kept (front.length - length kept) most short.few (λ less. let all = others less in omega (arith, all, within)));
        whole = (let sum = behind-length kept (front.length - length kept) in omega (arith, sum, within));
      };
    }

-- a front that is no shorter is all
pub all_of_it : (most : ℕ) (bytes : List ℕ) → length (take most bytes) ≡ length bytes → take most bytes ≡ bytes
all_of_it zero [] same = refl
all_of_it (suc most) [] same = refl
all_of_it zero (byte ∷ bytes) same = absurd (omega (arith, same))
all_of_it (suc most) (byte ∷ bytes) same = ap (λ rest. byte ∷ rest) (all_of_it most bytes (omega (arith, same)))
