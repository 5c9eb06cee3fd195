-- The commands of a script put nothing into the shards of counts: their updates are of the services, the lookup table, the backends and the
-- tunnel.
use Rattle.std.proofs.Common.{◌≡◌, inl, inr, ℕ, ◌*◌, ◌%◌, ◌<◌, ◌≤◌, ◌==◌, Bool, false, List, [], ◌∷◌, refl, sym, ◌∙◌, ap, subst, arith}
use Rattle.std.specs.Prelude.{Option, Some, None, if◌then◌else◌}
use Rattle.std.specs.List.{AllByRecursion}
use Rattle.std.proofs.Math.Nat.{mod-lt}
use Rattle.std.proofs.lemmas.Bool.Decides.{nat_tests}
use Rattle.wire.specs.Fnv.{fnv1a64_of}
use Rattle.semantics.specs.declared.call.Entry.{Entry}
use Rattle.semantics.specs.declared.options.Options.{Options}
use Rattle.semantics.specs.LittleEndian.{number_of_bytes, bytes_of_number}
use Rattle.conntrack.specs.Layouts.{service_key}
use Rattle.conntrack.specs.SteeringMaps.{sized_maps}
use Rattle.control.specs.declared.fault.ControlFault.{ControlFault}
use Rattle.control.specs.declared.fault.ControlFault.TheVariants.{BadSize, BadLine, UnknownBackend, BackendTwice, Refused, JournalFull, Memory}
use Rattle.control.specs.declared.update.Update.{Update as Change}
use Rattle.control.specs.declared.update.Update.TheVariants.{Vip, Ring, Backend, Tunnel}
use Rattle.control.specs.Controlling.{ControllerState}
use Rattle.control.specs.MapUpdates.{UpdateBytes, map_update}
use Rattle.actors.specs.Commands.{AnsweredUpdate, CommandDone, AreDone, IsDoneBy, IsNothing, all_done, made_in, with_updates, with_update, controller_entry}
use Rattle.actors.specs.SharedUpdates.{shard_of}
use Rattle.actors.proofs.shared.EveryEntry.{all_both}

-- ---- which updates are made

-- the update is one that a command asks
abbrev pub IsOfChange : AnsweredUpdate → Type 0
IsOfChange made = (change : Change) × (made.update ≡ map_update change)

done_changes : (changes : List Change) → AllByRecursion IsOfChange (all_done changes)
done_changes [] = tt
done_changes (change ∷ later) = ((change, refl), done_changes later)

nothing_made : (state : ControllerState) (one : CommandDone) (state' : ControllerState) → IsNothing state one state' → AllByRecursion IsOfChange one.made
nothing_made state one state' nothing = subst (λ (l : List AnsweredUpdate). AllByRecursion IsOfChange l) (sym nothing.made) tt

made_by : (fault : Option ControlFault) (state : ControllerState) (one : CommandDone) (state' : ControllerState) → IsDoneBy fault state one state' →
    AllByRecursion IsOfChange one.made
made_by None state one state' done = subst (λ (l : List AnsweredUpdate). AllByRecursion IsOfChange l) (sym done.made) (done_changes _)
made_by (Some UnknownBackend) state one state' done = nothing_made state one state' done.0
made_by (Some BackendTwice) state one state' done = nothing_made state one state' done.0
made_by (Some (Refused answer)) state one state' done =
    subst (λ (l : List AnsweredUpdate). AllByRecursion IsOfChange l) (sym done.made) ((done.change, refl), tt)
made_by (Some JournalFull) state one state' (inl nothing) = nothing_made state one state' nothing.0
made_by (Some JournalFull) state one state' (inr cut) = subst (λ (l : List AnsweredUpdate). AllByRecursion IsOfChange l) (sym cut.made) (done_changes cut.begun)
made_by (Some Memory) state one state' done = nothing_made state one state' done.0
made_by (Some BadSize) state one state' done = absurd done
made_by (Some (BadLine line)) state one state' done = absurd done

pub all_made : (state : ControllerState) (done : List CommandDone) (state' : ControllerState) → AreDone state done state' → AllByRecursion IsOfChange (made_in done)
all_made state [] state' are = tt
all_made state (one ∷ later) state' are =
    all_both IsOfChange one.made (made_in later) (made_by one.fault state one are.0 are.1.did) (all_made are.0 later state' are.2)

-- ---- where they go

change_below : (notes size : ℕ) (options : Options) → 0 < options.shards → (change : Change) → shard_of (sized_maps notes size) options (map_update change) < 5 * options.shards
change_below notes size options some (Vip service vip) =
    let part : fnv1a64_of (service_key service) % options.shards < options.shards = mod-lt (fnv1a64_of (service_key service)) some in omega (arith, part, some)
change_below notes size options some (Ring slot ring) =
    let part : number_of_bytes (bytes_of_number 4 slot) % options.shards < options.shards = mod-lt (number_of_bytes (bytes_of_number 4 slot)) some in
    omega (arith, part, some)
change_below notes size options some (Backend number backend) =
    let part : number_of_bytes (bytes_of_number 4 number) % options.shards < options.shards = mod-lt (number_of_bytes (bytes_of_number 4 number)) some in
    omega (arith, part, some)
change_below notes size options some (Tunnel tunnel) =
    let part : number_of_bytes (bytes_of_number 4 0) % options.shards < options.shards = mod-lt (number_of_bytes (bytes_of_number 4 0)) some in
    omega (arith, part, some)

not_there : (at number most : ℕ) → at < most → most ≤ number → (at == number) ≡ false
not_there at number most below past =
    let less : at < number = omega (arith, below, past) in grind (arith, nat_tests, less)

module _ (notes size : ℕ) (options : Options) (some : 0 < options.shards) (number : ℕ) (past : 5 * options.shards ≤ number) where
  one_aside : (made : AnsweredUpdate) → IsOfChange made → (history : List Entry) → with_update (sized_maps notes size) options number made history ≡ history
  one_aside made of history =
      let below : shard_of (sized_maps notes size) options made.update < 5 * options.shards =
      subst (λ (update : UpdateBytes). shard_of (sized_maps notes size) options update < 5 * options.shards) (sym of.1) (change_below notes size options some of.0) in
      ap (λ (test : Bool). if test then controller_entry number made ∷ history else history)
      (not_there (shard_of (sized_maps notes size) options made.update) number (5 * options.shards) below past)

  all_aside : (made : List AnsweredUpdate) → AllByRecursion IsOfChange made → (history : List Entry) →
      with_updates (sized_maps notes size) options number made history ≡ history
  all_aside [] all history = refl
  all_aside (made ∷ later) all history =
      all_aside later all.1 (with_update (sized_maps notes size) options number made history) ∙ one_aside made all.0 history

  -- the controller's entries there are none
  pub none_from_commands : (state : ControllerState) (done : List CommandDone) (state' : ControllerState) → AreDone state done state' →
      with_updates (sized_maps notes size) options number (made_in done) [] ≡ []
  none_from_commands state done state' are = all_aside (made_in done) (all_made state done state' are) []
