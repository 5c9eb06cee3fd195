-- What one more entry changes of who is inside and of what is held.
use Rattle.std.proofs.Common.{◌≡◌, ◌≢◌, ℕ, Bool, true, false, ◌||◌, List, ◌∷◌, length, inl, inr, refl, sym, ◌∙◌, arith}
use Rattle.std.specs.Prelude.{◌⊎◌, is_some}
use Rattle.std.proofs.lemmas.Bool.Decides.{nat_tests}
use Rattle.semantics.specs.declared.call.Caller.TheVariants.{Worker}
use Rattle.semantics.specs.declared.call.CellRef.{CellRef}
use Rattle.semantics.specs.declared.call.Call.TheVariants.{Enter, Leave, Lookup}
use Rattle.semantics.specs.declared.call.Reply.{Reply}
use Rattle.semantics.specs.declared.call.Reply.TheVariants.{Cell}
use Rattle.semantics.specs.declared.call.Entry.{Entry}
use Rattle.semantics.specs.declared.call.SectionChange.TheVariants.{Stays}
use Rattle.semantics.specs.Sections.{section_change}
use Rattle.semantics.specs.Reclamation.{is_worker, entered_by, entered_at, is_inside, held_by, holds}
use Rattle.semantics.proofs.shared.HoldingLemmas as holding
use Rattle.semantics.proofs.shared.HoldingLemmas.{found_cell}
use Rattle.semantics.proofs.shared.KeptLemmas.{second_or}

-- ---- entries of others

pub inside_other : (worker : ℕ) (entry : Entry) (h : List Entry) → is_worker worker entry.who ≡ false → is_inside worker (entry ∷ h) ≡ is_inside worker h
inside_other worker entry h other = rw other refl

pub holds_other : (worker cell : ℕ) (entry : Entry) (h : List Entry) → is_worker worker entry.who ≡ false → holds worker cell (entry ∷ h) ≡ holds worker cell h
holds_other worker cell entry h other = rw other refl

-- an entry of another worker
pub is_another : (worker number : ℕ) (entry : Entry) → entry.who ≡ Worker number → number ≢ worker → is_worker worker entry.who ≡ false
is_another worker number entry who other = rw who (grind (arith, nat_tests))

-- ---- own entries

pub is_own : (worker : ℕ) (entry : Entry) → entry.who ≡ Worker worker → is_worker worker entry.who ≡ true
is_own worker entry who = rw who (grind (arith, nat_tests))

inside_own : (worker : ℕ) (entry : Entry) (h : List Entry) → entry.who ≡ Worker worker →
    is_inside worker (entry ∷ h) ≡ is_some (entered_by entry.call (length h) (entered_at worker h))
inside_own worker entry h who = rw (is_own worker entry who) refl

holds_own : (worker cell : ℕ) (entry : Entry) (h : List Entry) → entry.who ≡ Worker worker →
    holds worker cell (entry ∷ h) ≡ held_by entry.call entry.reply cell (holds worker cell h)
holds_own worker cell entry h who = rw (is_own worker entry who) refl

pub inside_enter : (worker shard : ℕ) (entry : Entry) (h : List Entry) → entry.who ≡ Worker worker → entry.call ≡ Enter shard → is_inside worker (entry ∷ h) ≡ true
inside_enter worker shard entry h who call = inside_own worker entry h who ∙ rw call refl

pub holds_enter : (worker cell shard : ℕ) (entry : Entry) (h : List Entry) → entry.who ≡ Worker worker → entry.call ≡ Enter shard → holds worker cell (entry ∷ h) ≡ false
holds_enter worker cell shard entry h who call = holds_own worker cell entry h who ∙ rw call refl

pub inside_leave : (worker shard : ℕ) (entry : Entry) (h : List Entry) → entry.who ≡ Worker worker → entry.call ≡ Leave shard → is_inside worker (entry ∷ h) ≡ false
inside_leave worker shard entry h who call = inside_own worker entry h who ∙ rw call refl

pub holds_leave : (worker cell shard : ℕ) (entry : Entry) (h : List Entry) → entry.who ≡ Worker worker → entry.call ≡ Leave shard → holds worker cell (entry ∷ h) ≡ false
holds_leave worker cell shard entry h who call = holds_own worker cell entry h who ∙ rw call refl

pub inside_lookup : (worker shard : ℕ) (key : List ℕ) (entry : Entry) (h : List Entry) → entry.who ≡ Worker worker → entry.call ≡ Lookup shard key →
    is_inside worker (entry ∷ h) ≡ is_inside worker h
inside_lookup worker shard key entry h who call = inside_own worker entry h who ∙ rw call refl

-- a call by which its worker stays inside
pub inside_stays : (worker : ℕ) (entry : Entry) (h : List Entry) → entry.who ≡ Worker worker → section_change entry.call ≡ Stays →
    is_inside worker (entry ∷ h) ≡ is_inside worker h
inside_stays worker entry h who stays = inside_own worker entry h who ∙ rw stays refl

-- a call that changes nothing of what is held
pub holds_still : (worker one : ℕ) (entry : Entry) (h : List Entry) → entry.who ≡ Worker worker →
    ((before : Bool) → held_by entry.call entry.reply one before ≡ before) → holds worker one (entry ∷ h) ≡ holds worker one h
holds_still worker one entry h who same = holds_own worker one entry h who ∙ same (holds worker one h)

-- a lookup adds the found cell
pub holds_lookup : (worker one shard : ℕ) (key : List ℕ) (entry : Entry) (h : List Entry) → entry.who ≡ Worker worker →
    entry.call ≡ Lookup shard key → holds worker one (entry ∷ h) ≡ (found_cell entry.reply one || holds worker one h)
holds_lookup worker one shard key entry h who call = holds_own worker one entry h who ∙ rw call (holding.held_by_lookup shard key entry.reply one (holds worker one h))

pub still_held : (worker one shard : ℕ) (key : List ℕ) (entry : Entry) (h : List Entry) → entry.who ≡ Worker worker →
    entry.call ≡ Lookup shard key → holds worker one h ≡ true → holds worker one (entry ∷ h) ≡ true
still_held worker one shard key entry h who call held =
    holds_lookup worker one shard key entry h who call ∙ second_or (found_cell entry.reply one) (holds worker one h) held

pub found_held : (worker shard : ℕ) (key : List ℕ) (c : CellRef) (entry : Entry) (h : List Entry) → entry.who ≡ Worker worker →
    entry.call ≡ Lookup shard key → entry.reply ≡ Cell c → holds worker c.id (entry ∷ h) ≡ true
found_held worker shard key c entry h who call reply =
    let found : found_cell entry.reply c.id ≡ true = rw reply (grind (arith, nat_tests)) in
    holds_lookup worker c.id shard key entry h who call ∙ rw found refl

found_is : (reply : Reply) (one : ℕ) (before : Bool) → (found_cell reply one || before) ≡ true → (before ≡ true) ⊎ ((c : CellRef) × (reply ≡ Cell c) × (c.id ≡ one))
found_is (Cell c) one true is = inl refl
found_is (Cell c) one false is = inr (c, refl, grind (arith, nat_tests))
found_is reply one before is = inl is

-- what is held after a lookup was held before, or is the found cell
pub held_by_lookup : (worker one shard : ℕ) (key : List ℕ) (entry : Entry) (h : List Entry) → entry.who ≡ Worker worker →
    entry.call ≡ Lookup shard key → holds worker one (entry ∷ h) ≡ true →
    (holds worker one h ≡ true) ⊎ ((c : CellRef) × (entry.reply ≡ Cell c) × (c.id ≡ one))
held_by_lookup worker one shard key entry h who call held =
    found_is entry.reply one (holds worker one h) (sym (holds_lookup worker one shard key entry h who call) ∙ held)
