-- A list with some items in place of those from an index on.
use Rattle.std.proofs.Common.{◌≡◌, ℕ, ◌+◌, ◌-◌, ◌<◌, ◌≤◌, List, ◌++◌, length, take, drop, ◌∙◌, ap, arith}
use Rattle.std.specs.Prelude.{All, slice_index_or}
use Rattle.std.proofs.lemmas.List.{length-append, length-take-le, length-drop, get_or-take, get_or-drop, get_or_append_left, get_or-append_right}
use Rattle.std.proofs.lemmas.List.Elements.{All-take, All-drop, All-append}

front_length : {A : Type 0} → (old items : List A) (from n : ℕ) → length items ≡ n → from + n ≤ length old → length (take from old ++ items) ≡ from + n
front_length old items from n e h =
    let taken : length (take from old) ≡ from = length-take-le from old (omega arith)
    in let both : length (take from old ++ items) ≡ length (take from old) + length items = length-append (take from old) items
    in omega arith

pub length-spliced : {A : Type 0} → (old items : List A) (from n : ℕ) → length items ≡ n → from + n ≤ length old →
    length (take from old ++ items ++ drop (from + n) old) ≡ length old
length-spliced old items from n e h =
    let front : length (take from old ++ items) ≡ from + n = front_length old items from n e h
    in let both : length (take from old ++ items ++ drop (from + n) old) ≡ length (take from old ++ items) + length (drop (from + n) old) =
    length-append (take from old ++ items) (drop (from + n) old)
    in let rest : length (drop (from + n) old) ≡ length old - (from + n) = length-drop (from + n) old
    in omega arith

pub before-spliced : {A : Type 0} → (old items : List A) (from n : ℕ) (d : A) → length items ≡ n → from + n ≤ length old → (k : ℕ) → k < from →
    slice_index_or (take from old ++ items ++ drop (from + n) old) k d ≡ slice_index_or old k d
before-spliced old items from n d e h k below =
    let front : length (take from old ++ items) ≡ from + n = front_length old items from n e h
    in let taken : length (take from old) ≡ from = length-take-le from old (omega arith)
    in get_or_append_left (take from old ++ items) (drop (from + n) old) d k (omega arith)
    ∙ get_or_append_left (take from old) items d k (omega arith)
    ∙ get_or-take from old k d below

pub after-spliced : {A : Type 0} → (old items : List A) (from n : ℕ) (d : A) → length items ≡ n → from + n ≤ length old → (k : ℕ) → from + n ≤ k →
    slice_index_or (take from old ++ items ++ drop (from + n) old) k d ≡ slice_index_or old k d
after-spliced old items from n d e h k past =
    let front : length (take from old ++ items) ≡ from + n = front_length old items from n e h
    in let whole : (from + n) + (k - (from + n)) ≡ k = omega arith
    in get_or-append_right (take from old ++ items) (drop (from + n) old) (from + n) k d front past
    ∙ get_or-drop (from + n) old (k - (from + n)) d
    ∙ ap (λ at. slice_index_or old at d) whole

pub inside-spliced : {A : Type 0} → (old items : List A) (from n : ℕ) (d : A) → length items ≡ n → from + n ≤ length old → (k : ℕ) → k < n →
    slice_index_or (take from old ++ items ++ drop (from + n) old) (from + k) d ≡ slice_index_or items k d
inside-spliced old items from n d e h k inside =
    let front : length (take from old ++ items) ≡ from + n = front_length old items from n e h
    in let taken : length (take from old) ≡ from = length-take-le from old (omega arith)
    in let back : (from + k) - from ≡ k = omega arith
    in get_or_append_left (take from old ++ items) (drop (from + n) old) d (from + k) (omega arith)
    ∙ get_or-append_right (take from old) items from (from + k) d taken (omega arith)
    ∙ ap (λ at. slice_index_or items at d) back

pub All-spliced : {A : Type 0} → (P : A → Type 0) (old items : List A) (from n : ℕ) → All P old → All P items →
    All P (take from old ++ items ++ drop (from + n) old)
All-spliced P old items from n each new =
    All-append P (take from old ++ items) (drop (from + n) old)
    (All-append P (take from old) items (All-take P from old each) new) (All-drop P (from + n) old each)
