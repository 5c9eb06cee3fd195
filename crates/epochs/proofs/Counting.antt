-- What the counts of a list of parts say of its parts, and what a change of one part does to them.
use Rattle.std.proofs.Common.{◌≡◌, ℕ, zero, suc, ◌+◌, ◌-◌, ◌==◌, ◌<◌, ◌≤◌, ◌⊎◌, List, [], ◌∷◌, length, set, inl, inr, refl, arith, eq-eqb}
use Rattle.std.proofs.lemmas.Bool.{cases_Bool, cases_lt, eqb-true}
use Rattle.epochs.specs.declared.counts.EpochRuns.{EpochRuns}
use Rattle.epochs.specs.EpochCounts.{EpochCounts, runs_of, runs_among, all_runs, part_at, one_at, IsFloor, AllEnteredAfter, NoneAhead}

-- parts that all have runs have as many runs at least as there are parts
pub runs_of_all : (parts : List EpochRuns) → ((k : ℕ) → k < length parts → 0 < (part_at parts k).runs) → length parts ≤ all_runs parts
runs_of_all [] some = omega arith
runs_of_all (part ∷ parts) some =
    let first = some 0 (omega arith) in
    let rest = runs_of_all parts (λ k lt. some (suc k) (omega arith)) in
    omega (arith, first, rest)

pub runs_of_none : (epoch : ℕ) (parts : List EpochRuns) → ((k : ℕ) → k < length parts → runs_of epoch (part_at parts k) ≡ 0) → runs_among epoch parts ≡ 0
runs_of_none epoch [] none = refl
runs_of_none epoch (part ∷ parts) none =
    let first = none 0 (omega arith) in
    let rest = runs_of_none epoch parts (λ k lt. none (suc k) (omega arith)) in
    omega (arith, first, rest)

-- a part counts among all
pub part_counts : (parts : List EpochRuns) (at : ℕ) → at < length parts → (part_at parts at).runs ≤ all_runs parts
part_counts [] at lt = absurd (omega arith)
part_counts (part ∷ parts) zero lt = omega arith
part_counts (part ∷ parts) (suc at) lt = let rest = part_counts parts at (omega arith) in omega (arith, rest)

pub part_counts_among : (epoch : ℕ) (parts : List EpochRuns) (at : ℕ) → at < length parts → runs_of epoch (part_at parts at) ≤ runs_among epoch parts
part_counts_among epoch [] at lt = absurd (omega arith)
part_counts_among epoch (part ∷ parts) zero lt = omega arith
part_counts_among epoch (part ∷ parts) (suc at) lt = let rest = part_counts_among epoch parts at (omega arith) in omega (arith, rest)

pub changed_among : (epoch : ℕ) (parts : List EpochRuns) (at : ℕ) (part : EpochRuns) → at < length parts → runs_among epoch (set parts at part) + runs_of epoch (part_at parts at) ≡ runs_among epoch parts + runs_of epoch part
changed_among epoch [] at part lt = absurd (omega arith)
changed_among epoch (other ∷ parts) zero part lt = omega arith
changed_among epoch (other ∷ parts) (suc at) part lt = let rest = changed_among epoch parts at part (omega arith) in omega (arith, rest)

pub changed_all : (parts : List EpochRuns) (at : ℕ) (part : EpochRuns) → at < length parts → all_runs (set parts at part) + (part_at parts at).runs ≡ all_runs parts + part.runs
changed_all [] at part lt = absurd (omega arith)
changed_all (other ∷ parts) zero part lt = omega arith
changed_all (other ∷ parts) (suc at) part lt = let rest = changed_all parts at part (omega arith) in omega (arith, rest)

-- an epoch that has runs has a part with runs
pub part_with_runs : (epoch : ℕ) (parts : List EpochRuns) → 0 < runs_among epoch parts → (at : ℕ) × (at < length parts) × (0 < (part_at parts at).runs) × ((part_at parts at).epoch ≡ epoch)
part_with_runs epoch [] some = absurd (omega arith)
part_with_runs epoch (part ∷ parts) some = elim (cases_Bool (part.epoch == epoch)) [
  | inl same ↦ elim (cases_lt 0 part.runs) [
    | inl more ↦ (0, omega arith, more, eqb-true part.epoch epoch same)
    | inr none ↦ (let rest : 0 < runs_among epoch parts = (let here = rw same at some in omega (arith, here, none)) in
        let there = part_with_runs epoch parts rest in
        (suc there.0, omega (arith, there.1), there.2, there.3))
  ]
  | inr apart ↦ (let rest : 0 < runs_among epoch parts = (let here = rw apart at some in omega (arith, here)) in
      let there = part_with_runs epoch parts rest in
      (suc there.0, omega (arith, there.1), there.2, there.3))
]

-- a part that has no runs counts for no epoch
idle_counts_none : (epoch : ℕ) (part : EpochRuns) → part.runs ≡ 0 → runs_of epoch part ≡ 0
idle_counts_none epoch part idle = elim (cases_Bool (part.epoch == epoch)) [ inl same ↦ rw same idle | inr apart ↦ rw apart refl ]

module _ (parts : List EpochRuns) (at : ℕ) (within : at < length parts) (epoch : ℕ) where
  grown : (other : ℕ) → ((part_at parts at).runs ≡ 0) ⊎ ((part_at parts at).epoch ≡ epoch) → runs_of other (record { epoch = epoch; runs = (part_at parts at).runs + 1 }) ≡ runs_of other (part_at parts at) + one_at epoch other
  grown other (inl idle) =
      let none = idle_counts_none other (part_at parts at) idle in
      elim (cases_Bool (epoch == other)) [
        | inl same ↦ rw (same, none) (omega (arith, idle))
        | inr apart ↦ rw (apart, none) refl
      ]
  grown other (inr same) = rw same (elim (cases_Bool (epoch == other)) [ inl here ↦ rw here refl | inr apart ↦ rw apart refl ])

  pub entered_among : ((part_at parts at).runs ≡ 0) ⊎ ((part_at parts at).epoch ≡ epoch) → (other : ℕ) → runs_among other (set parts at (record { epoch = epoch; runs = (part_at parts at).runs + 1 })) ≡ runs_among other parts + one_at epoch other
  entered_among fits other =
      let changed = changed_among other parts at (record { epoch = epoch; runs = (part_at parts at).runs + 1 }) within in
      let more = grown other fits in
      omega (arith, changed, more)

  shrunk : (other : ℕ) → 0 < (part_at parts at).runs → (part_at parts at).epoch ≡ epoch → runs_of other (record { epoch = epoch; runs = (part_at parts at).runs - 1 }) + one_at epoch other ≡ runs_of other (part_at parts at)
  shrunk other some same = rw same (elim (cases_Bool (epoch == other)) [ inl here ↦ rw here (omega arith) | inr apart ↦ rw apart refl ])

  pub left_among : 0 < (part_at parts at).runs → (part_at parts at).epoch ≡ epoch → (other : ℕ) → runs_among other (set parts at (record { epoch = epoch; runs = (part_at parts at).runs - 1 })) + one_at epoch other ≡ runs_among other parts
  left_among some same other =
      let changed = changed_among other parts at (record { epoch = epoch; runs = (part_at parts at).runs - 1 }) within in
      let less = shrunk other some same in
      omega (arith, changed, less)

one_at_apart : (epoch other : ℕ) → 0 < one_at epoch other → epoch ≡ other
one_at_apart epoch other some = elim (cases_Bool (epoch == other)) [
  | inl same ↦ eqb-true epoch other same
  | inr apart ↦ (let none = rw apart at some in absurd (omega (arith, none)))
]

-- a run that enters in the present epoch is in none that is to come
pub none_ahead_entered : (present : ℕ) (before after : List EpochRuns) → NoneAhead present before → ((other : ℕ) → runs_among other after ≡ runs_among other before + one_at present other) → NoneAhead present after
none_ahead_entered present before after none changed = λ other some.
    let change = changed other in
    elim (cases_lt 0 (runs_among other before)) [
      | inl there ↦ none other there
      | inr gone ↦ (let here : present ≡ other = one_at_apart present other (omega (arith, change, gone, some)) in omega (arith, here))
    ]

pub none_ahead_left : (present epoch : ℕ) (before after : List EpochRuns) → NoneAhead present before → ((other : ℕ) → runs_among other after + one_at epoch other ≡ runs_among other before) → NoneAhead present after
none_ahead_left present epoch before after none changed = λ other some. let change = changed other in none other (omega (arith, change, some))

-- what the lowest epoch says of stamps
pub floor_decides : (counts : EpochCounts) (floor : ℕ) → IsFloor counts.present counts.parts (length counts.parts) floor → (stamp : ℕ) → stamp < counts.present → (stamp < floor → AllEnteredAfter counts stamp) × (AllEnteredAfter counts stamp → stamp < floor)
floor_decides counts floor is_floor stamp given = (
  λ below epoch some.
      let there = part_with_runs epoch counts.parts some in
      let lowest = is_floor.below there.0 there.1 there.2 in
      omega (arith, lowest, there.3, below),
  λ after. elim is_floor.reached [
    | inl idle ↦ omega (arith, idle, given)
    | inr there ↦ (
        let counted = part_counts_among (part_at counts.parts there.0).epoch counts.parts there.0 there.1 in
        let own : runs_of (part_at counts.parts there.0).epoch (part_at counts.parts there.0) ≡ (part_at counts.parts there.0).runs = rw (eq-eqb (part_at counts.parts there.0).epoch (part_at counts.parts there.0).epoch refl) refl in
        let later = after (part_at counts.parts there.0).epoch (omega (arith, counted, own, there.2)) in
        omega (arith, there.3, later))
  ],
)
