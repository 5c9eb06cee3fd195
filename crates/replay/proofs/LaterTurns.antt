-- The deeds up to the state behind any number of turns, and what is written behind them.
use Rattle.std.proofs.Common.{◌≡◌, ◌⊎◌, inl, inr, ⊎_elim, ℕ, zero, suc, ◌+◌, ◌<◌, ◌≤◌, ◌==◌, Bool, true, cond, List, [], ◌∷◌, ◌++◌, length, sym, ◌∙◌, ap, subst, arith, append_assoc}
use Rattle.std.specs.List.{AllByRecursion}
use Rattle.std.proofs.lemmas.Bool.Decides.{nat_tests}
use Rattle.std.proofs.lemmas.List.{length-append, length-reverse}
use Rattle.wire.specs.declared.records.Sent.{Sent}
use Rattle.semantics.specs.declared.call.Entry.{Entry}
use Rattle.semantics.specs.History.{shard_of_call}
use Rattle.semantics.specs.Program.{Program}
use Rattle.shard_core.specs.JournaledShard.{JournaledShard}
use Rattle.shards.specs.declared.deeds.Deed.{Deed}
use Rattle.shards.specs.declared.deeds.Deed.TheVariants.{Wrote}
use Rattle.shards.specs.Deeds.{shard_of_deed, made_on, AreDeedsWithin}
use Rattle.shards.specs.NewShards.{shard_at}
use Rattle.control.specs.declared.command.Command.{Command}
use Rattle.actors.proofs.shared.DeedLemmas.{made_append}
use Rattle.replay.specs.Turns.{Turn, all_turns}
use Rattle.replay.specs.InTurn.{TurnState, AreTurns}
use Rattle.replay.specs.ExactReplays.{starts_in, first_state}
use Rattle.replay.specs.TurnOrder.{HaveWritten, GoesThrough}
use Rattle.replay.specs.LaterTurns.{state_behind, IsWrittenBehind, TurnsComeInOrder}

-- ---- what is written by deeds of two lists

as_many_more : (number : ℕ) (more deeds : List Deed) → length (made_on number deeds) ≤ length (made_on number (more ++ deeds))
as_many_more number more deeds =
    let both : length (made_on number (more ++ deeds)) ≡ length (made_on number more) + length (made_on number deeds) =
    ap (λ (list : List Entry). length list) (made_append number more deeds) ∙ length-append (made_on number more) (made_on number deeds) in
    omega (arith, both)

-- an entry is one more on its shard
one_more : (entry : Entry) (deeds : List Deed) →
    length (made_on (shard_of_call entry.call) (Wrote entry ∷ deeds)) ≡ length (made_on (shard_of_call entry.call) deeds) + 1
one_more entry deeds =
    let shard : ℕ = shard_of_call entry.call in
    let same : (shard == shard) ≡ true = grind (arith, nat_tests) in
    let more : length (entry ∷ made_on shard deeds) ≡ length (made_on shard deeds) + 1 = omega arith in
    ap (λ (test : Bool). length (cond test (entry ∷ made_on shard deeds) (made_on shard deeds))) same ∙ more

-- ---- two ends of one list

record IsEndOf (end whole : List Deed) : Type 0 where
  more : List Deed
  is : whole ≡ more ++ end

-- of two ends of a list, one is an end of the other
either_end : (newer later older past : List Deed) (x : Deed) → newer ++ x ∷ older ≡ later ++ past → IsEndOf past older ⊎ IsEndOf (x ∷ older) past
either_end [] [] older past x is = inr (record { more = []; is = sym is })
either_end [] (y ∷ later) older past x is =
    let rest : older ≡ later ++ past = cc in inl (record { more = later; is = rest })
either_end (y ∷ newer) [] older past x is = inr (record { more = y ∷ newer; is = sym is })
either_end (y ∷ newer) (z ∷ later) older past x is =
    let rest : newer ++ x ∷ older ≡ later ++ past = cc in either_end newer later older past x rest

at_place : (P : Deed → Type 0) (newer older : List Deed) (deed : Deed) → AllByRecursion P (newer ++ deed ∷ older) → P deed
at_place P [] older deed all = all.0
at_place P (first ∷ newer) older deed all = at_place P newer older deed all.1

-- ---- the deeds up to a state

record IsSplit (count : ℕ) (order : List Deed) (shards : List JournaledShard) : Type 0 where
  past : List Deed
  end : IsEndOf past order
  written : HaveWritten count past shards

module _ (program : Program) (script : List Command) (records : List Sent) (workers count : ℕ) where
  begins_so : (turns : List Turn) (before after : TurnState) → (made : AreTurns program script records workers turns before after) → (begun order : List Deed) →
      GoesThrough program script records workers count turns before after made begun order → IsEndOf begun order
  begins_so [] before after made begun order through = record { more = []; is = through }
  begins_so (turn ∷ later) before after made begun order through =
      let rest = begins_so later made.0 after made.2 (through.0 ++ begun) order through.3 in
      record { more = rest.more ++ through.0; is = rest.is ∙ sym (append_assoc rest.more through.0 begun) }

  split_behind : (turns : List Turn) (before after : TurnState) → (made : AreTurns program script records workers turns before after) →
      (begun order : List Deed) → GoesThrough program script records workers count turns before after made begun order →
      HaveWritten count begun before.all.shards → (number : ℕ) →
      IsSplit count order (state_behind program script records workers turns before after made number).all.shards
  split_behind [] before after made begun order through written number = record {
    past = begun;
    end = begins_so [] before after made begun order through;
    written = written;
  }
  split_behind (turn ∷ later) before after made begun order through written zero = record {
    past = begun;
    end = begins_so (turn ∷ later) before after made begun order through;
    written = written;
  }
  split_behind (turn ∷ later) before after made begun order through written (suc number) =
      split_behind later made.0 after made.2 (through.0 ++ begun) order through.3 through.2 number

-- ---- what is written behind it

behind_split : (count : ℕ) (order : List Deed) (shards : List JournaledShard) → AreDeedsWithin count order → IsSplit count order shards →
    IsWrittenBehind count shards order
behind_split count order shards within split newer older entry is later number below =
    let long : (one : ℕ) → one < count → length (made_on one split.past) ≡ length (shard_at shards one).journal =
    λ one under. ap (λ (list : List Entry). length list) (split.written one under) ∙ length-reverse (shard_at shards one).journal in
    ⊎_elim
    (λ (end : IsEndOf split.past older).
    let enough : length (made_on number split.past) ≤ length (made_on number older) =
    subst (λ (list : List Deed). length (made_on number split.past) ≤ length (made_on number list)) (sym end.is)
    (as_many_more number end.more split.past) in
    let same = long number below in
    omega (arith, enough, same))
    (λ (end : IsEndOf (Wrote entry ∷ older) split.past).
    let shard : ℕ = shard_of_call entry.call in
    let under : shard < count =
    at_place (λ (deed : Deed). shard_of_deed deed < count) newer older (Wrote entry) (subst (AreDeedsWithin count) is within) in
    let some = one_more entry older in
    let many : length (made_on shard (Wrote entry ∷ older)) ≤ length (made_on shard split.past) =
    subst (λ (list : List Deed). length (made_on shard (Wrote entry ∷ older)) ≤ length (made_on shard list)) (sym end.is)
    (as_many_more shard end.more (Wrote entry ∷ older)) in
    let same = long shard under in
    absurd (omega (arith, some, many, same, later)))
    (either_end newer split.end.more older split.past (Wrote entry) (sym is ∙ split.end.is))

pub turns_come_in_order : TurnsComeInOrder
turns_come_in_order program script options records outcome accounted exact turns =
    behind_split accounted.count accounted.order
    (state_behind program script records options.workers (all_turns (starts_in script) (length records))
    (first_state exact.turns.begun exact.turns.size) exact.turns.last exact.turns.in_order turns).all.shards accounted.ordered.within
    (split_behind program script records options.workers accounted.count (all_turns (starts_in script) (length records))
    (first_state exact.turns.begun exact.turns.size) exact.turns.last exact.turns.in_order exact.begun accounted.order exact.through exact.begun_is turns)
