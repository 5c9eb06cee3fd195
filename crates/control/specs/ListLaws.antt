-- What a list in memory owes as a port.
use Rattle.std.proofs.Common.{◌≡◌, ◌<◌, ℕ, Bool, true, ltb, eqb, ◌&&◌, refl, ap, ◌∙◌, arith, Some}
use Rattle.std.specs.Prelude.{ℤ, pos}
use Rattle.std.proofs.lemmas.Bool.Decides.{nat_tests}
use Rattle.control.specs.MapUpdates.{UpdateBytes, IsInArray}
use Rattle.control.specs.ListOfUpdates.{UpdateListState, IsUpdateNoted, IsWithoutRoom, is_taken, answer_if}

index_test : (n a b : ℕ) → n ≡ 4 → a < b → (eqb n 4 && ltb a b) ≡ true
index_test n a b is lt = grind (arith, nat_tests)

takes : (state : UpdateListState) (update : UpdateBytes) → IsInArray state.maps update → is_taken state update ≡ true
takes state update stands = rw (stands.known, stands.array) (index_test _ _ _ stands.index stands.inside)

pub listed_array_takes : (state : UpdateListState) (update : UpdateBytes) (answer : ℤ) (after : UpdateListState) →
    IsInArray state.maps update → IsUpdateNoted state update answer after → answer ≡ pos 0
listed_array_takes state update answer after stands noted = noted.answer_is ∙ ap answer_if (takes state update stands)

pub same_maps : (before after : UpdateListState) (update : UpdateBytes) (answer : ℤ) → IsUpdateNoted before update answer after →
    after.maps ≡ before.maps
same_maps before after update answer noted = ap (λ (state : UpdateListState). state.maps) noted.state_is

pub still_maps : (before after : UpdateListState) → IsWithoutRoom before after → after.maps ≡ before.maps
still_maps before after refused = ap (λ (state : UpdateListState). state.maps) refused.state_is
