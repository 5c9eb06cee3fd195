-- Commands that are applied one after the other.
use Rattle.std.proofs.Common.{◌≡◌, ◌+◌, ◌∙◌, ℕ, List, [], ◌∷◌, ap, drop, length, refl, subst, sym}
use Rattle.std.proofs.Math.Seq.{drop-length}
use Rattle.control.specs.declared.command.Command.{Command}
use Rattle.control.specs.Controlling.{ControllerState, opened_controller}
use Rattle.traffic.specs.WrittenMaps.{MapsState}
use Rattle.traffic.specs.TableText.{no_maps}
use Rattle.traffic.specs.Applied.{AreApplied, AreWordsAfter, IsApplied}

-- whatever the commands from this place on lead to, all commands lead to it
abbrev pub IsAppliedUntil : ℕ → ℕ → List Command → ControllerState → MapsState → Type 0
IsAppliedUntil size place commands state maps =
    (last : ControllerState) (left : MapsState) → AreApplied state maps (drop place commands) last left
    → AreApplied (opened_controller size) (no_maps size) commands last left

pub none_applied : (size : ℕ) (commands : List Command) (state : ControllerState) (maps : MapsState) → state ≡ opened_controller size
    → maps ≡ no_maps size → IsAppliedUntil size 0 commands state maps
none_applied size commands state maps first none = λ last left applied.
    subst (λ (s : ControllerState). AreApplied s (no_maps size) commands last left) first
    (subst (λ (m : MapsState). AreApplied state m commands last left) none applied)

pub one_applied : (size place : ℕ) (commands : List Command) (command : Command) (state state' : ControllerState) (maps maps' : MapsState)
    → drop place commands ≡ command ∷ drop (place + 1) commands → IsAppliedUntil size place commands state maps
    → IsApplied state maps command.action state' maps' → IsAppliedUntil size (place + 1) commands state' maps'
one_applied size place commands command state state' maps maps' next until here = λ last left more.
    until last left (subst (λ (c : List Command). AreApplied state maps c last left) (sym next) (state', maps', here, more))

pub all_applied : (size place : ℕ) (commands : List Command) (state : ControllerState) (maps : MapsState) (words : List ℕ)
    → place ≡ length commands → IsAppliedUntil size place commands state maps → words ≡ maps.words → AreWordsAfter size commands words
all_applied size place commands state maps words at until are = record {
  state = state;
  maps = maps;
  applied = until state maps
      (subst (λ (c : List Command). AreApplied state maps c state maps) (sym (ap (λ (n : ℕ). drop n commands) at ∙ drop-length commands)) (refl, refl));
  words_are = are;
}
