-- The entry states of a program: what is known at a slot is decided below it, so they are a function of the program.
use Rattle.std.proofs.Common.{◌≡◌, ℕ, zero, suc, ◌+◌, ◌-◌, ◌<◌, ◌≤◌, List, [], ◌∷◌, ◌++◌, length, Option, None, refl, sym, ap, subst, ◌∙◌, arith}
use Rattle.ebpf_decode.specs.declared.version.Version.{Version}
use Rattle.ebpf_decode.specs.declared.insn.Insn.{Insn}
use Rattle.ebpf_decode.specs.declared.map.MapDef.{MapDef}
use Rattle.ebpf_decode.specs.InstructionEncoding.{total_slots}
use Rattle.semantics.specs.Program.{instruction_at}
use Rattle.abstract_state.specs.declared.state.State.{State}
use Rattle.verifier.specs.Dataflow.{known_at, arrived, states_to, states_of, AreEntryStates}

-- ---- what is known below a slot decides what arrives from below it

pub agree : (version : Version) (maps : List MapDef) (code : List Insn) (one two : List (Option State)) (target end : ℕ) →
    ((k : ℕ) → k < end → known_at one k ≡ known_at two k) → arrived version maps code one target end ≡ arrived version maps code two target end
agree version maps code one two target zero same = refl
agree version maps code one two target (suc end) same =
    rw (same end (omega arith), agree version maps code one two target end (λ k h. same k (omega arith))) refl

-- slots at which no instruction begins bring nothing
pub quiet : (version : Version) (maps : List MapDef) (code : List Insn) (states : List (Option State)) (target start more : ℕ) →
    ((k : ℕ) → start ≤ k → k < start + more → instruction_at code k ≡ None) →
    arrived version maps code states target (start + more) ≡ arrived version maps code states target start
quiet version maps code states target start zero none = let e : start + zero ≡ start = omega arith in rw e refl
quiet version maps code states target start (suc more) none =
    let e : start + suc more ≡ suc (start + more) = omega arith
    in rw (e, none (start + more) (omega arith) (omega arith)) (quiet version maps code states target start more (λ k g h. none k g (omega arith)))

-- ---- the entry states are a function of the program

last_known : (xs : List (Option State)) (x : Option State) → known_at (xs ++ x ∷ []) (length xs) ≡ x
last_known [] x = refl
last_known (y ∷ xs) x = last_known xs x

known_before : (xs : List (Option State)) (x : Option State) (k : ℕ) → k < length xs → known_at (xs ++ x ∷ []) k ≡ known_at xs k
known_before [] x k h = absurd (omega arith)
known_before (y ∷ xs) x zero h = refl
known_before (y ∷ xs) x (suc k) h = known_before xs x k (omega arith)

one_longer : (xs : List (Option State)) (x : Option State) → length (xs ++ x ∷ []) ≡ length xs + 1
one_longer [] x = refl
one_longer (y ∷ xs) x = let rest : length (xs ++ x ∷ []) ≡ length xs + 1 = one_longer xs x in omega (arith, rest)

to_length : (version : Version) (maps : List MapDef) (code : List Insn) (n : ℕ) → length (states_to version maps code n) ≡ n
unfolding states_to
to_length version maps code zero = refl
to_length version maps code (suc n) =
    let more : length (states_to version maps code n ++ arrived version maps code (states_to version maps code n) n n ∷ []) ≡ length (states_to version maps code n) + 1 = one_longer (states_to version maps code n) (arrived version maps code (states_to version maps code n) n n)
    in let rest : length (states_to version maps code n) ≡ n = to_length version maps code n
    in let all : length (states_to version maps code n ++ arrived version maps code (states_to version maps code n) n n ∷ []) ≡ suc n = omega (arith, more, rest) in all

to_last : (version : Version) (maps : List MapDef) (code : List Insn) (n : ℕ) → known_at (states_to version maps code (suc n)) n ≡ arrived version maps code (states_to version maps code n) n n
unfolding states_to
to_last version maps code n =
    subst (λ k. known_at (states_to version maps code n ++ arrived version maps code (states_to version maps code n) n n ∷ []) k ≡ arrived version maps code (states_to version maps code n) n n) (to_length version maps code n)
    (last_known (states_to version maps code n) (arrived version maps code (states_to version maps code n) n n))

to_before : (version : Version) (maps : List MapDef) (code : List Insn) (n k : ℕ) → k < n → known_at (states_to version maps code (suc n)) k ≡ known_at (states_to version maps code n) k
unfolding states_to
to_before version maps code n k h = known_before (states_to version maps code n) (arrived version maps code (states_to version maps code n) n n) k (let size : length (states_to version maps code n) ≡ n = to_length version maps code n in omega (arith, size))

to_same : (version : Version) (maps : List MapDef) (code : List Insn) (n more k : ℕ) → k < n → known_at (states_to version maps code (n + more)) k ≡ known_at (states_to version maps code n) k
to_same version maps code n zero k h = let e : n + 0 ≡ n = omega arith in rw e refl
to_same version maps code n (suc more) k h =
    let e : n + suc more ≡ suc (n + more) = omega arith in rw e (to_before version maps code (n + more) k (omega arith) ∙ to_same version maps code n more k h)

to_agrees : (version : Version) (maps : List MapDef) (code : List Insn) (n m k : ℕ) → k < n → n ≤ m → known_at (states_to version maps code m) k ≡ known_at (states_to version maps code n) k
to_agrees version maps code n m k h le =
    let e : m ≡ n + (m - n) = omega arith in ap (λ j. known_at (states_to version maps code j) k) e ∙ to_same version maps code n (m - n) k h

-- they are the entry states
to_entry : (version : Version) (maps : List MapDef) (code : List Insn) (n : ℕ) → AreEntryStates version maps code (states_to version maps code n) n
to_entry version maps code n slot h =
    to_agrees version maps code (suc slot) n slot (omega arith) (omega arith) ∙ to_last version maps code slot
    ∙ agree version maps code (states_to version maps code slot) (states_to version maps code n) slot slot (λ k g. sym (to_agrees version maps code slot n k g (omega arith)))

pub are_entry_states : (version : Version) (maps : List MapDef) (code : List Insn) → AreEntryStates version maps code (states_of version maps code) (total_slots code)
are_entry_states version maps code = to_entry version maps code (total_slots code)
