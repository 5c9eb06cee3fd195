-- What a result of the rule asks of the counts: its verdict's is raised once, and nothing else is changed.
use Rattle.std.proofs.Common.{◌≡◌, ◌⊎◌, inl, inr, ℕ, ◌+◌, ◌*◌, ◌%◌, ◌/◌, ◌<◌, ◌≤◌, ◌==◌, Bool, true, false, List, [], ◌∷◌, ◌++◌, refl, sym, ◌∙◌, ap, subst, arith}
use Rattle.std.specs.Prelude.{if◌then◌else◌, Option, Some, None}
use Rattle.std.specs.List.{AllByRecursion}
use Rattle.std.proofs.lemmas.Bool.Decides.{nat_tests}
use Rattle.std.proofs.Math.Nat.{mod-lt, div-add-mod}
use Rattle.wire.specs.FrameView.{FrameView}
use Rattle.wire.specs.Fnv.{fnv1a64_of}
use Rattle.semantics.specs.declared.call.Call.{Call}
use Rattle.semantics.specs.declared.call.Call.TheVariants.{Enter, Leave, Lookup, Load, Store, Atomic, Update, Delete, Reclaim}
use Rattle.semantics.specs.declared.call.CellRef.{CellRef}
use Rattle.semantics.specs.declared.call.Reply.{Reply}
use Rattle.semantics.specs.declared.call.Reply.TheVariants.{Cell}
use Rattle.semantics.specs.declared.verdict.Verdict.{Verdict}
use Rattle.semantics.specs.declared.verdict.Verdict.TheVariants.{Aborted, Drop, Pass, Tx}
use Rattle.semantics.specs.History.{shard_of_call}
use Rattle.semantics.specs.LittleEndian.{number_of_bytes}
use Rattle.semantics.specs.Semantics.{verdict_number}
use Rattle.map_port.specs.Exchanges.{Exchange}
use Rattle.conntrack.specs.declared.steering_maps.SteeringMap.TheVariants.{Stats}
use Rattle.conntrack.specs.SteeringRule.{flow_update}
use Rattle.conntrack.specs.Steering.{SteeringSizes, steering_shard, count_call}
use Rattle.conntrack.specs.Results.{IsResult, IsRaised, IsNotFound, IsNoCell, change_of, changes_in, note_call, count_key, count_lookup}
use Rattle.steered_replays.specs.Counting.{IsQuiet, IsCounting, raised_by}
use Rattle.actors.proofs.shared.EveryEntry.{all_both, all_parts}
use Rattle.steered_replays.proofs.CountLemmas.{quiet_raises}

-- ---- where a verdict's count is

abbrev pub count_shard : SteeringSizes → Verdict → ℕ
count_shard sizes verdict = steering_shard sizes Stats (count_key verdict)

abbrev pub count_id : SteeringSizes → Verdict → ℕ
count_id sizes verdict = verdict_number verdict / sizes.shards

abbrev pub count_cell : SteeringSizes → Verdict → CellRef
count_cell sizes verdict = record { shard = count_shard sizes verdict; id = count_id sizes verdict }

pub key_number : (verdict : Verdict) → number_of_bytes (count_key verdict) ≡ verdict_number verdict
key_number Aborted = refl
key_number Drop = refl
key_number Pass = refl
key_number Tx = refl

pub count_shard_is : (sizes : SteeringSizes) (verdict : Verdict) → count_shard sizes verdict ≡ 5 * sizes.shards + verdict_number verdict % sizes.shards
count_shard_is sizes verdict = ap (λ n. 5 * sizes.shards + n % sizes.shards) (key_number verdict)

-- the count of another verdict is in another cell or shard
if_same_number : (shards a b : ℕ) → (test : Bool) → (a == b) ≡ test →
    ◌≡◌ {A = ℕ} (if 5 * shards + a % shards == 5 * shards + b % shards then (if a / shards == b / shards then 1 else 0) else 0) (if test then 1 else 0)
if_same_number shards a b true is =
    let same : a ≡ b = grind (arith, nat_tests) in
    let shard : (5 * shards + a % shards == 5 * shards + b % shards) ≡ true = ap (λ n. (5 * shards + n % shards == 5 * shards + b % shards)) same ∙ self (5 * shards + b % shards) in
    let cell : (a / shards == b / shards) ≡ true = ap (λ n. (n / shards == b / shards)) same ∙ self (b / shards) in
    rw (shard, cell) refl
  where
    self : (n : ℕ) → (n == n) ≡ true
    self n = grind (arith, nat_tests)
if_same_number shards a b false is =
    by (5 * shards + a % shards == 5 * shards + b % shards) refl (a / shards == b / shards) refl
  where
    other : a ≡ b → ⊥
    other same = grind (arith, nat_tests)

    by : (shard : Bool) → (5 * shards + a % shards == 5 * shards + b % shards) ≡ shard → (cell : Bool) → (a / shards == b / shards) ≡ cell →
        ◌≡◌ {A = ℕ} (if shard then (if cell then 1 else 0) else 0) 0
    by true one true two =
        let rest : a % shards ≡ b % shards = grind (arith, nat_tests) in
        let whole : a / shards ≡ b / shards = grind (arith, nat_tests) in
        absurd (other (sym (div-add-mod a shards) ∙ ap (λ n. shards * n + a % shards) whole ∙ ap (λ n. shards * (b / shards) + n) rest ∙ div-add-mod b shards))
    by true one false two = refl
    by false one cell two = refl

-- ---- what exchanges raise

-- how often they raise the count of a cell in a shard
abbrev pub raised_on : ℕ → ℕ → List Exchange → ℕ
raised_on number cell [] = 0
raised_on number cell (exchange ∷ later) = (if shard_of_call exchange.call == number then raised_by cell exchange.call else 0) + raised_on number cell later

raised_both : (number cell : ℕ) (xs ys : List Exchange) → raised_on number cell (xs ++ ys) ≡ raised_on number cell xs + raised_on number cell ys
raised_both number cell [] ys = omega arith
raised_both number cell (x ∷ xs) ys = (let rest = raised_both number cell xs ys in omega (arith, rest))

-- a count that was looked up was found
abbrev pub IsFound : SteeringSizes → Call → Reply → Type 0
IsFound sizes call reply = (verdict : Verdict) → call ≡ count_lookup sizes verdict → reply ≡ Cell (count_cell sizes verdict)

-- ---- the calls before the count

-- the call is one of a map before the counts, and raises none
record IsAside (sizes : SteeringSizes) (call : Call) : Type 0 where
  before : shard_of_call call < 5 * sizes.shards
  raises_none : (cell : ℕ) → raised_by cell call ≡ 0

by_call : (Q : Call → Type 0) (call : Call) → AllByRecursion Q (change_of call) → IsQuiet call ⊎ Q call
by_call Q (Lookup shard key) all = inl tt
by_call Q (Load cell offset size) all = inl tt
by_call Q (Enter shard) all = inr all.0
by_call Q (Leave shard) all = inr all.0
by_call Q (Store cell offset size value) all = inr all.0
by_call Q (Atomic cell offset size op value expected) all = inr all.0
by_call Q (Update shard key value flags) all = inr all.0
by_call Q (Delete shard key) all = inr all.0
by_call Q (Reclaim shard) all = inr all.0

quiet_or : (Q : Call → Type 0) (exchanges : List Exchange) → AllByRecursion Q (changes_in exchanges) →
    AllByRecursion (λ (exchange : Exchange). IsQuiet exchange.call ⊎ Q exchange.call) exchanges
quiet_or Q [] all = tt
quiet_or Q (exchange ∷ later) all =
    let parts = all_parts Q (change_of exchange.call) (changes_in later) all in (by_call Q exchange.call parts.0, quiet_or Q later parts.1)

note_aside : (sizes : SteeringSizes) → 0 < sizes.shards → (note : Option (List ℕ × List ℕ)) → AllByRecursion (IsAside sizes) (note_call sizes note)
note_aside sizes some None = tt
note_aside sizes some (Some note) =
    let part : fnv1a64_of note.0 % sizes.shards < sizes.shards = mod-lt (fnv1a64_of note.0) some in
    (record { before = omega (arith, part, some); raises_none = λ cell. refl }, tt)

abbrev IsBefore : SteeringSizes → Exchange → Type 0
IsBefore sizes exchange = IsQuiet exchange.call ⊎ IsAside sizes exchange.call

none_raised : (sizes : SteeringSizes) (number cell : ℕ) (exchanges : List Exchange) → AllByRecursion (IsBefore sizes) exchanges → raised_on number cell exchanges ≡ 0
none_raised sizes number cell [] all = refl
none_raised sizes number cell (exchange ∷ later) all =
    let rest : raised_on number cell later ≡ 0 = none_raised sizes number cell later all.1 in
    let here : raised_by cell exchange.call ≡ 0 = by_kind all.0 in
    let none : (if shard_of_call exchange.call == number then raised_by cell exchange.call else 0) ≡ 0 = by_test (shard_of_call exchange.call == number) here in
    omega (arith, rest, none)
  where
    by_kind : IsBefore sizes exchange → raised_by cell exchange.call ≡ 0
    by_kind (inl quiet) = quiet_raises cell exchange.call quiet
    by_kind (inr aside) = aside.raises_none cell

    by_test : (test : Bool) → raised_by cell exchange.call ≡ 0 → (if test then raised_by cell exchange.call else 0) ≡ 0
    by_test true zero = zero
    by_test false zero = refl

-- ---- the count

module _ (sizes : SteeringSizes) (some : 0 < sizes.shards) (verdict : Verdict) where
  -- the count is found, and raised
  pub raised_last : (last : List Exchange) → IsRaised sizes verdict last ⊎ IsNotFound sizes verdict last →
      AllByRecursion (λ (exchange : Exchange). IsFound sizes exchange.call exchange.reply) last →
      (old : Reply) × (last ≡ (record { call = count_lookup sizes verdict; reply = Cell (count_cell sizes verdict) })
      ∷ (record { call = count_call (count_cell sizes verdict); reply = old }) ∷ [])
  raised_last last (inl raised) found =
      let first = (subst (λ (l : List Exchange). AllByRecursion (λ (exchange : Exchange). IsFound sizes exchange.call exchange.reply) l) raised.calls found).0 in
      let same : raised.cell ≡ count_cell sizes verdict = cc (first verdict refl) in (
        raised.old,
        raised.calls ∙ ap (λ (cell : CellRef). (record { call = count_lookup sizes verdict; reply = Cell cell })
            ∷ (record { call = count_call cell; reply = raised.old }) ∷ []) same,
      )
  raised_last last (inr absent) found =
      let first = (subst (λ (l : List Exchange). AllByRecursion (λ (exchange : Exchange). IsFound sizes exchange.call exchange.reply) l) absent.calls found).0 in
      absurd (subst IsNoCell (first verdict refl) absent.no_cell)

  raised_once : (other : Verdict) (old : Reply) →
      raised_on (count_shard sizes other) (count_id sizes other) ((record { call = count_lookup sizes verdict; reply = Cell (count_cell sizes verdict) })
      ∷ (record { call = count_call (count_cell sizes verdict); reply = old }) ∷ [])
      ≡ (if verdict_number verdict == verdict_number other then 1 else 0)
  raised_once other old =
      let lookup : ◌≡◌ {A = ℕ} (if count_shard sizes verdict == count_shard sizes other then 0 else 0) 0 = nothing (count_shard sizes verdict == count_shard sizes other) in
      let added : ◌≡◌ {A = ℕ} (if count_shard sizes verdict == count_shard sizes other then (if count_id sizes verdict == count_id sizes other then 1 else 0) else 0)
      (if verdict_number verdict == verdict_number other then 1 else 0) =
      ap {B = ℕ} (λ n. (if n == count_shard sizes other then (if count_id sizes verdict == count_id sizes other then 1 else 0) else 0)) (count_shard_is sizes verdict)
      ∙ ap {B = ℕ} (λ n. (if 5 * sizes.shards + verdict_number verdict % sizes.shards == n then (if count_id sizes verdict == count_id sizes other then 1 else 0) else 0))
      (count_shard_is sizes other)
      ∙ if_same_number sizes.shards (verdict_number verdict) (verdict_number other) (verdict_number verdict == verdict_number other) refl in
      omega (arith, lookup, added)
    where
      nothing : (test : Bool) → ◌≡◌ {A = ℕ} (if test then 0 else 0) 0
      nothing true = refl
      nothing false = refl

-- a result raises the count of its verdict once, and no other one
pub result_raises : (sizes : SteeringSizes) → 0 < sizes.shards → (frame : FrameView) (exchanges : List Exchange) (verdict : Verdict) (left : FrameView) →
    IsResult sizes frame exchanges verdict left → AllByRecursion (λ (exchange : Exchange). IsFound sizes exchange.call exchange.reply) exchanges →
    (other : Verdict) → raised_on (count_shard sizes other) (count_id sizes other) exchanges ≡ (if verdict_number verdict == verdict_number other then 1 else 0)
result_raises sizes some frame exchanges verdict left result found other =
    let number : ℕ = count_shard sizes other in
    let cell : ℕ = count_id sizes other in
    let parts = all_parts (λ (exchange : Exchange). IsFound sizes exchange.call exchange.reply) result.before result.last
    (subst (λ (l : List Exchange). AllByRecursion (λ (exchange : Exchange). IsFound sizes exchange.call exchange.reply) l) result.all found) in
    let last = raised_last sizes some verdict result.last result.counted parts.1 in
    let aside = quiet_or (IsAside sizes) result.before
    (subst (λ (calls : List Call). AllByRecursion (IsAside sizes) calls) (sym result.noted) (note_aside sizes some (flow_update frame.bytes result.choice))) in
    let none : raised_on number cell result.before ≡ 0 = none_raised sizes number cell result.before aside in
    let once : raised_on number cell result.last ≡ (if verdict_number verdict == verdict_number other then 1 else 0) =
    ap (raised_on number cell) last.1 ∙ raised_once sizes some verdict other last.0 in
    ap (raised_on number cell) result.all ∙ raised_both number cell result.before result.last
    ∙ ap (λ n. n + raised_on number cell result.last) none ∙ plain (raised_on number cell result.last) ∙ once
  where
    plain : (n : ℕ) → 0 + n ≡ n
    plain n = omega arith

-- a call of a shard of counts finds, reads or raises one
abbrev pub IsCountingIn : SteeringSizes → Exchange → Type 0
IsCountingIn sizes exchange = 5 * sizes.shards ≤ shard_of_call exchange.call → IsCounting exchange.call

counting_before : (sizes : SteeringSizes) (exchanges : List Exchange) → AllByRecursion (IsBefore sizes) exchanges → AllByRecursion (IsCountingIn sizes) exchanges
counting_before sizes [] all = tt
counting_before sizes (exchange ∷ later) all = (by_kind all.0, counting_before sizes later all.1)
  where
    by_kind : IsBefore sizes exchange → IsCountingIn sizes exchange
    by_kind (inl quiet) = λ past. inl quiet
    by_kind (inr aside) = λ past. absurd (let before = aside.before in omega (arith, before, past))

pub result_counts : (sizes : SteeringSizes) → 0 < sizes.shards → (frame : FrameView) (exchanges : List Exchange) (verdict : Verdict) (left : FrameView) →
    IsResult sizes frame exchanges verdict left → AllByRecursion (IsCountingIn sizes) exchanges
result_counts sizes some frame exchanges verdict left result =
    let aside = quiet_or (IsAside sizes) result.before
    (subst (λ (calls : List Call). AllByRecursion (IsAside sizes) calls) (sym result.noted) (note_aside sizes some (flow_update frame.bytes result.choice))) in
    subst (λ (l : List Exchange). AllByRecursion (IsCountingIn sizes) l) (sym result.all)
    (all_both (IsCountingIn sizes) result.before result.last (counting_before sizes result.before aside) (by_last result.counted))
  where
    by_last : IsRaised sizes verdict result.last ⊎ IsNotFound sizes verdict result.last → AllByRecursion (IsCountingIn sizes) result.last
    by_last (inl raised) =
        subst (λ (l : List Exchange). AllByRecursion (IsCountingIn sizes) l) (sym raised.calls) ((λ past. inl tt), ((λ past. inr (raised.cell, refl)), tt))
    by_last (inr absent) = subst (λ (l : List Exchange). AllByRecursion (IsCountingIn sizes) l) (sym absent.calls) ((λ past. inl tt), tt)
