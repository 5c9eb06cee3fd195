use Rattle.std.proofs.Common.{◌≡◌, ◌∙◌, ℕ, List, ap, replicate}
use Rattle.traffic.specs.WrittenMaps.{MapsState}
use Rattle.traffic.proofs.written_maps.WrittenMaps.open.Goals as goal

abbrev maps_of : ℕ → List ℕ → List (List ℕ) → List (List ℕ) → MapsState
maps_of size words backends keys = record { size = size; words = words; backends = backends; keys = keys }

same_parts : (size : ℕ) (words words' : List ℕ) (backends backends' keys keys' : List (List ℕ)) → words ≡ words' → backends ≡ backends' → keys ≡ keys'
    → maps_of size words backends keys ≡ maps_of size words' backends' keys'
same_parts size words words' backends backends' keys keys' w b k =
    ap (λ (x : List ℕ). maps_of size x backends keys) w
    ∙ (ap (λ (x : List (List ℕ)). maps_of size words' x keys) b ∙ ap (λ (x : List (List ℕ)). maps_of size words' backends' x) k)

pub returns : goal.returns
returns c =
    same_parts c.args.size _ _ _ _ _ _ (c.in_ok-words.ensures.items_if_clones_equal (λ y same. same))
    (c.in_ok-backends.ensures.items_if_clones_equal (λ y same. same) ∙ ap (λ (v : List ℕ). replicate 256 v) c.empty.ensures)
    c.in_ok-keys.ensures.items
