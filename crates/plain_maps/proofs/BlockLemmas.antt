-- Blocks of numbers as one list: what a block that is one too long or one too short leaves of it.
use Rattle.std.proofs.Common.{◌≡◌, ℕ, zero, suc, ◌+◌, ◌-◌, ◌*◌, ◌/◌, ◌%◌, ◌<◌, ◌≤◌, List, [], ◌∷◌, ◌++◌, length, take, drop, set, get_or, replicate, refl, sym, ◌∙◌, ap, subst, arith}
use Rattle.std.specs.List.{insert, remove}
use Rattle.std.proofs.lemmas.List.{append_assoc, length-append, length-take-le, length-drop, take-append-le, drop-append-le, get_or_append_left, get_or-append_right, get_or_read, length-set}
use Rattle.plain_maps.specs.NumberBlocks.{block_size, joined, Shaped, Over, Under}

abbrev pub block_at : List (List ℕ) → ℕ → List ℕ
block_at blocks k = get_or blocks k []

-- ---- one list before another

insert_front : (b more : List ℕ) (j x : ℕ) → j ≤ length b → insert b j x ++ more ≡ insert (b ++ more) j x
insert_front b more j x le =
    append_assoc (take j b) (x ∷ drop j b) more
    ∙ sym (ap (λ (ys : List ℕ). ys ++ x ∷ drop j (b ++ more)) (take-append-le j b more le) ∙ ap (λ (ys : List ℕ). take j b ++ x ∷ ys) (drop-append-le j b more le))

insert_back : (b more : List ℕ) (m x : ℕ) → b ++ insert more m x ≡ insert (b ++ more) (length b + m) x
insert_back [] more m x = let e : m ≡ 0 + m = omega arith in ap (λ (i : ℕ). insert more i x) e
insert_back (c ∷ b) more m x =
    let e : suc (length b + m) ≡ suc (length b) + m = omega arith in
    ap (λ (ys : List ℕ). c ∷ ys) (insert_back b more m x) ∙ ap (λ (i : ℕ). insert (c ∷ (b ++ more)) i x) e

remove_front : (b more : List ℕ) (j : ℕ) → j < length b → remove b j ++ more ≡ remove (b ++ more) j
remove_front b more j lt =
    append_assoc (take j b) (drop (suc j) b) more
    ∙ sym (ap (λ (ys : List ℕ). ys ++ drop (suc j) (b ++ more)) (take-append-le j b more (omega (arith, lt))) ∙ ap (λ (ys : List ℕ). take j b ++ ys) (drop-append-le (suc j) b more (omega (arith, lt))))

remove_back : (b more : List ℕ) (m : ℕ) → b ++ remove more m ≡ remove (b ++ more) (length b + m)
remove_back [] more m = let e : m ≡ 0 + m = omega arith in ap (λ (i : ℕ). remove more i) e
remove_back (c ∷ b) more m =
    let e : suc (length b + m) ≡ suc (length b) + m = omega arith in
    ap (λ (ys : List ℕ). c ∷ ys) (remove_back b more m) ∙ ap (λ (i : ℕ). remove (c ∷ (b ++ more)) i) e

length_insert : (b : List ℕ) (j x : ℕ) → j ≤ length b → length (insert b j x) ≡ length b + 1
length_insert b j x le = omega (arith, length-append (take j b) (x ∷ drop j b), length-take-le j b le, length-drop j b, le)

length_remove : (b : List ℕ) (j : ℕ) → j < length b → length (remove b j) + 1 ≡ length b
length_remove b j lt = omega (arith, length-append (take j b) (drop (suc j) b), length-take-le j b (omega (arith, lt)), length-drop (suc j) b, lt)

-- ---- reading

pub joined_length : (n : ℕ) (bs : List (List ℕ)) → Shaped n bs → length (joined bs) ≡ n
joined_length n [] shaped = sym shaped
joined_length n (b ∷ bs) shaped = omega (arith, length-append b (joined bs), joined_length (n - block_size) bs shaped.1, shaped.0)

pub block_within : (n : ℕ) (bs : List (List ℕ)) (k j : ℕ) → Shaped n bs → j < block_size → k * block_size + j < n → (k < length bs) × (j < length (block_at bs k))
block_within n [] k j shaped small lt = absurd (omega (arith, shaped, lt))
block_within n (b ∷ bs) zero j shaped small lt = (omega arith, omega (arith, shaped.0, small, lt))
block_within n (b ∷ bs) (suc k) j shaped small lt =
    let inner = block_within (n - block_size) bs k j shaped.1 small (omega (arith, lt)) in
    (omega (arith, inner.0), inner.1)

pub number_at : (n : ℕ) (bs : List (List ℕ)) (k j : ℕ) → Shaped n bs → j < block_size → k * block_size + j < n → get_or (joined bs) (k * block_size + j) 0 ≡ get_or (block_at bs k) j 0
number_at n [] k j shaped small lt = absurd (omega (arith, shaped, lt))
number_at n (b ∷ bs) zero j shaped small lt =
    let e : 0 * block_size + j ≡ j = omega arith in
    ap (λ (i : ℕ). get_or (b ++ joined bs) i 0) e ∙ get_or_append_left b (joined bs) 0 j (omega (arith, shaped.0, small, lt))
number_at n (b ∷ bs) (suc k) j shaped small lt =
    let e : suc k * block_size + j - block_size ≡ k * block_size + j = omega arith in
    get_or-append_right b (joined bs) block_size (suc k * block_size + j) 0 (omega (arith, shaped.0, lt)) (omega arith)
    ∙ ap (λ (i : ℕ). get_or (joined bs) i 0) e
    ∙ number_at (n - block_size) bs k j shaped.1 small (omega (arith, lt))

-- ---- a number is put in

pub room_within : (n : ℕ) (bs : List (List ℕ)) (k j : ℕ) → Shaped n bs → j < block_size → k * block_size + j ≤ n → k < length bs → (j ≤ length (block_at bs k)) × (length (block_at bs k) ≤ block_size)
room_within n [] k j shaped small le within = absurd (omega (arith, within))
room_within n (b ∷ bs) zero j shaped small le within = (omega (arith, shaped.0, small, le), omega (arith, shaped.0))
room_within n (b ∷ bs) (suc k) j shaped small le within = room_within (n - block_size) bs k j shaped.1 small (omega (arith, le)) (omega (arith, within))

pub put_in : (n : ℕ) (bs : List (List ℕ)) (k j x : ℕ) → Shaped n bs → j < block_size → k * block_size + j ≤ n → k < length bs
    → Over k n (set bs k (insert (block_at bs k) j x)) × (joined (set bs k (insert (block_at bs k) j x)) ≡ insert (joined bs) (k * block_size + j) x)
put_in n [] k j x shaped small le within = absurd (omega (arith, within))
put_in n (b ∷ bs) zero j x shaped small le within =
    let here : j ≤ length b = omega (arith, shaped.0, small, le) in
    let e : j ≡ 0 * block_size + j = omega arith in
    ((omega (arith, length_insert b j x here, shaped.0), shaped.1), insert_front b (joined bs) j x here ∙ ap (λ (i : ℕ). insert (b ++ joined bs) i x) e)
put_in n (b ∷ bs) (suc k) j x shaped small le within =
    let long : length b ≡ block_size = omega (arith, shaped.0, le) in
    let inner = put_in (n - block_size) bs k j x shaped.1 small (omega (arith, le)) (omega (arith, within)) in
    let e : length b + (k * block_size + j) ≡ suc k * block_size + j = omega (arith, long) in (
      (omega (arith, le), long, inner.0),
      ap (λ (ys : List ℕ). b ++ ys) inner.1 ∙ insert_back b (joined bs) (k * block_size + j) x ∙ ap (λ (i : ℕ). insert (b ++ joined bs) i x) e,
    )

pub over_within : (n : ℕ) (bs : List (List ℕ)) (k : ℕ) → Over k n bs → k < length bs
over_within n [] k over = absurd over
over_within n (b ∷ bs) zero over = omega arith
over_within n (b ∷ bs) (suc k) over = let inner = over_within (n - block_size) bs k over.2 in omega (arith, inner)

pub over_long : (n : ℕ) (bs : List (List ℕ)) (k : ℕ) → Over k n bs → k * block_size + block_size ≤ n → length (block_at bs k) ≡ block_size + 1
over_long n [] k over more = absurd over
over_long n (b ∷ bs) zero over more = omega (arith, over.0, more)
over_long n (b ∷ bs) (suc k) over more = over_long (n - block_size) bs k over.2 (omega (arith, more))

pub next_fits : (n : ℕ) (bs : List (List ℕ)) (k : ℕ) (init : List ℕ) → Over k n bs → suc k < length bs → length (block_at (set bs k init) (suc k)) ≤ block_size
next_fits n [] k init over within = absurd over
next_fits n (b ∷ []) zero init over within = absurd (omega (arith, within))
next_fits n (b ∷ (c ∷ bs)) zero init over within = omega (arith, over.1.0)
next_fits n (b ∷ bs) (suc k) init over within = next_fits (n - block_size) bs k init over.2 (omega (arith, within))

-- the last number of the long block goes to the front of the next one
pub pass_on : (n : ℕ) (bs : List (List ℕ)) (k last : ℕ) (init : List ℕ) → Over k n bs → block_at bs k ≡ init ++ last ∷ [] → block_size < length (block_at bs k) → suc k < length bs
    → Over (suc k) n (set (set bs k init) (suc k) (last ∷ block_at (set bs k init) (suc k)))
    × (joined (set (set bs k init) (suc k) (last ∷ block_at (set bs k init) (suc k))) ≡ joined bs)
pass_on n [] k last init over is long within = absurd over
pass_on n (b ∷ []) zero last init over is long within = absurd (omega (arith, within))
pass_on n (b ∷ (c ∷ bs)) zero last init over is long within =
    let count : length b ≡ length init + 1 = ap length is ∙ length-append init (last ∷ []) in (
      (omega (arith, over.0, long), omega (arith, over.0, long, count), (omega (arith, over.1.0), over.1.1)),
      sym (append_assoc init (last ∷ []) (c ++ joined bs)) ∙ ap (λ (ys : List ℕ). ys ++ (c ++ joined bs)) (sym is),
    )
pass_on n (b ∷ bs) (suc k) last init over is long within =
    let inner = pass_on (n - block_size) bs k last init over.2 is long (omega (arith, within)) in
    ((over.0, over.1, inner.0), ap (λ (ys : List ℕ). b ++ ys) inner.1)

pub settled : (n : ℕ) (bs : List (List ℕ)) (k : ℕ) → Over k n bs → n < k * block_size + block_size → Shaped (n + 1) bs
settled n [] k over le = absurd over
settled n (b ∷ bs) zero over le =
    let e : n - block_size ≡ n + 1 - block_size = omega (arith, le) in
    (omega (arith, over.0, le), subst (λ (m : ℕ). Shaped m bs) e over.1)
settled n (b ∷ bs) (suc k) over le =
    let e : n - block_size + 1 ≡ n + 1 - block_size = omega (arith, over.0) in
    (omega (arith, over.0, over.1), subst (λ (m : ℕ). Shaped m bs) e (settled (n - block_size) bs k over.2 (omega (arith, over.0, le))))

-- ---- a number is taken out

pub take_out : (n : ℕ) (bs : List (List ℕ)) (k j : ℕ) → Shaped n bs → j < block_size → k * block_size + j < n
    → Under k n (set bs k (remove (block_at bs k) j)) × (joined (set bs k (remove (block_at bs k) j)) ≡ remove (joined bs) (k * block_size + j))
take_out n [] k j shaped small lt = absurd (omega (arith, shaped, lt))
take_out n (b ∷ bs) zero j shaped small lt =
    let here : j < length b = omega (arith, shaped.0, small, lt) in
    let e : j ≡ 0 * block_size + j = omega arith in
    ((omega (arith, length_remove b j here, shaped.0), shaped.1), remove_front b (joined bs) j here ∙ ap (λ (i : ℕ). remove (b ++ joined bs) i) e)
take_out n (b ∷ bs) (suc k) j shaped small lt =
    let long : length b ≡ block_size = omega (arith, shaped.0, lt) in
    let inner = take_out (n - block_size) bs k j shaped.1 small (omega (arith, lt)) in
    let e : length b + (k * block_size + j) ≡ suc k * block_size + j = omega (arith, long) in (
      (omega (arith, lt), long, inner.0),
      ap (λ (ys : List ℕ). b ++ ys) inner.1 ∙ remove_back b (joined bs) (k * block_size + j) ∙ ap (λ (i : ℕ). remove (b ++ joined bs) i) e,
    )

pub under_within : (n : ℕ) (bs : List (List ℕ)) (k : ℕ) → Under k n bs → k < length bs
under_within n [] k under = absurd under
under_within n (b ∷ bs) zero under = omega arith
under_within n (b ∷ bs) (suc k) under = let inner = under_within (n - block_size) bs k under.2 in omega (arith, inner)

pub short_fits : (n : ℕ) (bs : List (List ℕ)) (k : ℕ) (rest : List ℕ) → Under k n bs → length (block_at (set bs (suc k) rest) k) ≤ block_size
short_fits n [] k rest under = absurd under
short_fits n (b ∷ bs) zero rest under = omega (arith, under.0)
short_fits n (b ∷ bs) (suc k) rest under = short_fits (n - block_size) bs k rest under.2

-- the first number of the next block goes to the end of the short one
pub take_over : (n : ℕ) (bs : List (List ℕ)) (k first : ℕ) (rest : List ℕ) → Under k n bs → block_at bs (suc k) ≡ first ∷ rest → suc k < length bs
    → Under (suc k) n (set (set bs (suc k) rest) k (block_at (set bs (suc k) rest) k ++ first ∷ []))
    × (joined (set (set bs (suc k) rest) k (block_at (set bs (suc k) rest) k ++ first ∷ [])) ≡ joined bs)
take_over n [] k first rest under is within = absurd under
take_over n (b ∷ []) zero first rest under is within = absurd (omega (arith, within))
take_over n (b ∷ (c ∷ bs)) zero first rest under is within =
    let count : length c ≡ suc (length rest) = ap length is in
    let grown : length (b ++ first ∷ []) ≡ length b + 1 = length-append b (first ∷ []) in (
      (omega (arith, under.1.0, count), omega (arith, under.0, under.1.0, count, grown), (omega (arith, under.1.0, count), under.1.1)),
      append_assoc b (first ∷ []) (rest ++ joined bs) ∙ ap (λ (ys : List ℕ). b ++ (ys ++ joined bs)) (sym is),
    )
take_over n (b ∷ bs) (suc k) first rest under is within =
    let inner = take_over (n - block_size) bs k first rest under.2 is (omega (arith, within)) in
    ((under.0, under.1, inner.0), ap (λ (ys : List ℕ). b ++ ys) inner.1)

-- the next block has a number where there are this many
pub next_some : (n : ℕ) (bs : List (List ℕ)) (k : ℕ) → Under k n bs → k * block_size + block_size < n → (suc k < length bs) × (0 < length (block_at bs (suc k)))
next_some n [] k under more = absurd under
next_some n (b ∷ []) zero under more = absurd (omega (arith, under.1, more))
next_some n (b ∷ (c ∷ bs)) zero under more = (omega arith, omega (arith, under.1.0, more))
next_some n (b ∷ bs) (suc k) under more = let inner = next_some (n - block_size) bs k under.2 (omega (arith, more)) in (omega (arith, inner.0), inner.1)

pub filled : (n : ℕ) (bs : List (List ℕ)) (k : ℕ) → Under k n bs → n ≤ k * block_size + block_size → Shaped (n - 1) bs
filled n [] k under le = absurd under
filled n (b ∷ bs) zero under le =
    let e : n - block_size ≡ n - 1 - block_size = omega (arith, le) in
    (omega (arith, under.0, le), subst (λ (m : ℕ). Shaped m bs) e under.1)
filled n (b ∷ bs) (suc k) under le =
    let inner = filled (n - block_size) bs k under.2 (omega (arith, under.0, le)) in
    let some : 0 < n - block_size = some_left (n - block_size) bs k under.2 in
    let e : n - block_size - 1 ≡ n - 1 - block_size = omega arith in
    (omega (arith, under.0, under.1, some), subst (λ (m : ℕ). Shaped m bs) e inner)
  where
    some_left : (m : ℕ) (xs : List (List ℕ)) (i : ℕ) → Under i m xs → 0 < m
    some_left m [] i short = absurd short
    some_left m (x ∷ xs) zero short = omega (arith, short.0)
    some_left m (x ∷ xs) (suc i) short = omega (arith, short.0)

-- ---- as the code has it

-- the block that a place of the list names
pub place_of : (at : ℕ) → (at / block_size * block_size + at % block_size ≡ at) × (at % block_size < block_size)
place_of at = (omega arith, omega arith)

pub block_read : (bs : List (List ℕ)) (k : ℕ) (block : List ℕ) → k < length bs → block ≡ get_or bs k block → block ≡ block_at bs k
block_read bs k block within is = get_or_read bs k block within is []

pub block_read_after : (bs : List (List ℕ)) (k j : ℕ) (put block : List ℕ) → k < length bs → block ≡ get_or (set bs j put) k block → block ≡ block_at (set bs j put) k
block_read_after bs k j put block within is = get_or_read (set bs j put) k block (omega (arith, within, length-set bs j put)) is []

pub after_fits : (n : ℕ) (bs : List (List ℕ)) (k : ℕ) (init : List ℕ) → Over k n bs → k * block_size + block_size ≤ n → n < length bs * block_size → length (block_at (set bs k init) (k + 1)) ≤ block_size
after_fits n bs k init over more room =
    let e : suc k ≡ k + 1 = omega arith in
    subst (λ (i : ℕ). length (block_at (set bs k init) i) ≤ block_size) e (next_fits n bs k init over (omega (arith, more, room)))

pub passed_on : (n : ℕ) (bs : List (List ℕ)) (k last : ℕ) (init : List ℕ) → Over k n bs → k * block_size + block_size ≤ n → n < length bs * block_size → block_at bs k ≡ init ++ last ∷ []
    → Over (k + 1) n (set (set bs k init) (k + 1) (last ∷ block_at (set bs k init) (k + 1)))
    × (joined (set (set bs k init) (k + 1) (last ∷ block_at (set bs k init) (k + 1))) ≡ joined bs)
passed_on n bs k last init over more room is =
    let e : suc k ≡ k + 1 = omega arith in
    let long : block_size < length (block_at bs k) = omega (arith, over_long n bs k over more) in
    subst (λ (i : ℕ). Over i n (set (set bs k init) i (last ∷ block_at (set bs k init) i)) × (joined (set (set bs k init) i (last ∷ block_at (set bs k init) i)) ≡ joined bs)) e
    (pass_on n bs k last init over is long (omega (arith, more, room)))

pub after_some : (n : ℕ) (bs : List (List ℕ)) (k : ℕ) → Under k n bs → k * block_size + block_size < n → (k + 1 < length bs) × (0 < length (block_at bs (k + 1)))
after_some n bs k under more =
    let e : suc k ≡ k + 1 = omega arith in
    subst (λ (i : ℕ). (i < length bs) × (0 < length (block_at bs i))) e (next_some n bs k under more)

pub short_fits_after : (n : ℕ) (bs : List (List ℕ)) (k : ℕ) (rest : List ℕ) → Under k n bs → length (block_at (set bs (k + 1) rest) k) ≤ block_size
short_fits_after n bs k rest under =
    let e : suc k ≡ k + 1 = omega arith in
    subst (λ (i : ℕ). length (block_at (set bs i rest) k) ≤ block_size) e (short_fits n bs k rest under)

pub took_over : (n : ℕ) (bs : List (List ℕ)) (k first : ℕ) (rest : List ℕ) → Under k n bs → k * block_size + block_size < n → block_at bs (k + 1) ≡ first ∷ rest
    → Under (k + 1) n (set (set bs (k + 1) rest) k (block_at (set bs (k + 1) rest) k ++ first ∷ []))
    × (joined (set (set bs (k + 1) rest) k (block_at (set bs (k + 1) rest) k ++ first ∷ [])) ≡ joined bs)
took_over n bs k first rest under more is =
    let e : suc k ≡ k + 1 = omega arith in
    let back : k + 1 ≡ suc k = omega arith in
    let next : block_at bs (suc k) ≡ first ∷ rest = ap (λ (i : ℕ). block_at bs i) e ∙ is in
    subst (λ (i : ℕ). Under i n (set (set bs i rest) k (block_at (set bs i rest) k ++ first ∷ [])) × (joined (set (set bs i rest) k (block_at (set bs i rest) k ++ first ∷ [])) ≡ joined bs)) e
    (take_over n bs k first rest under next (next_some n bs k under more).0)

-- ---- blocks without numbers

pub empty_shaped : (count : ℕ) → Shaped 0 (replicate count [])
empty_shaped zero = refl
empty_shaped (suc count) = (refl, empty_shaped count)

pub empty_joined : (count : ℕ) → joined (replicate count []) ≡ []
empty_joined zero = refl
empty_joined (suc count) = empty_joined count
