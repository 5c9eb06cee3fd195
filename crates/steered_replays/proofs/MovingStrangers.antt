-- What moves when a backend goes down in a replay.
use Rattle.std.proofs.Common.{◌≡◌, ℕ, zero, suc, ◌+◌, ◌<◌, Bool, true, false, List, [], ◌∷◌, ◌++◌, refl, ◌∙◌, ap, subst, arith, add-one}
use Rattle.std.specs.Prelude.{Some, slice_get, if◌then◌else◌, take}
use Rattle.std.proofs.lemmas.List.Elements.{All-from_recursion, All-contains}
use Rattle.maglev.specs.RingSize.{IsRingSize, ring_sizes}
use Rattle.maglev.specs.declared.backend.Backend.{Backend as Server}
use Rattle.control.specs.declared.command.Action.{Action}
use Rattle.control.specs.declared.command.Action.TheVariants.{Down}
use Rattle.control.specs.declared.command.Command.{Command}
use Rattle.control.specs.Controlling.{IsTable}
use Rattle.actors.specs.declared.outcome.Applied.{Applied}
use Rattle.steered_replays.specs.TablesAtEnd.{MapsAt, AreTablesAtEnd, TablesFollow, is_refused, carried_out}
use Rattle.steered_replays.specs.Fleets.{StrangersMove, StrangersMoveInReplays}
use Rattle.steered_replays.proofs.FleetLemmas.{left_both}

pub from_zero : (n : ℕ) → 0 + n ≡ n
from_zero n = omega arith

-- one command more that was carried out
pub one_more : (refused : List Applied) (first : ℕ) (script : List Command) (count : ℕ) (command : Command) → slice_get script count ≡ Some command →
    is_refused refused (first + count) ≡ false →
    carried_out refused first (take (suc count) script) ≡ carried_out refused first (take count script) ++ command.action ∷ []
one_more refused first [] count command known kept = absurd cc
one_more refused first (one ∷ later) zero command known kept =
    let same : one ≡ command = cc known in
    ap (λ (test : Bool). if test then [] else one.action ∷ []) (ap (is_refused refused) (plain first) ∙ kept)
    ∙ ap (λ (it : Command). it.action ∷ []) same
  where
    plain : (n : ℕ) → n ≡ n + 0
    plain n = omega arith
one_more refused first (one ∷ later) (suc count) command known kept =
    ap (λ (rest : List Action). if is_refused refused first then rest else one.action ∷ rest)
    (one_more refused (first + 1) later count command known (ap (is_refused refused) (shifted first count) ∙ kept))
    ∙ by (is_refused refused first) (carried_out refused (first + 1) (take count later))
  where
    shifted : (n k : ℕ) → (n + 1) + k ≡ n + suc k
    shifted n k = omega arith

    by : (test : Bool) (rest : List Action) →
        (if test then rest ++ command.action ∷ [] else one.action ∷ (rest ++ command.action ∷ []))
        ≡ (if test then rest else one.action ∷ rest) ++ command.action ∷ []
    by true rest = refl
    by false rest = refl

pub some_slots : (size : ℕ) → IsRingSize size → 0 < size
some_slots size is =
    All-contains (λ n. 0 < n) ring_sizes size (All-from_recursion (λ n. 0 < n) ring_sizes (omega arith, (omega arith, (omega arith, (omega arith, tt))))) is

pub strangers_move_in_replays : TablesFollow → StrangersMove → StrangersMoveInReplays
strangers_move_in_replays follow move notes size is script options records outcome plain commands command number known down kept before after moment next =
    let first : MapsAt = record { journals = outcome.journals; histories = before } in
    let second : MapsAt = record { journals = outcome.journals; histories = after } in
    let done : List Action = carried_out outcome.refused.items 0 (take commands script) in
    let more : carried_out outcome.refused.items 0 (take (commands + 1) script) ≡ done ++ Down number ∷ [] =
    ap (λ (count : ℕ). carried_out outcome.refused.items 0 (take count script)) (add-one commands)
    ∙ one_more outcome.refused.items 0 script commands command known (ap (is_refused outcome.refused.items) (from_zero commands) ∙ kept)
    ∙ ap (λ (action : Action). done ++ action ∷ []) down in
    let tables : AreTablesAtEnd size done first = follow notes size is script options records outcome plain commands before moment in
    let its : AreTablesAtEnd size (done ++ Down number ∷ []) second =
    subst (λ (acts : List Action). AreTablesAtEnd size acts second) more (follow notes size is script options records outcome plain (commands + 1) after next) in
    record {
      owners = tables.owners;
      table = tables.table;
      later_owners = its.owners;
      later_table = subst (λ (up : List Server). IsTable size up its.owners) (left_both [] done (Down number)) its.table;
      moved = λ frame vip choice later sent also.
          move size done number first second (some_slots size is) tables its frame vip choice later sent also;
    }
