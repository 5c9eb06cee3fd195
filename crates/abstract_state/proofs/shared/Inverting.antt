-- What a check that passed says of its parts.
use Rattle.std.proofs.Common.{◌≡◌, ℕ, ◌≤◌, Bool, true, false, if◌then◌else◌, ℤ, pos, negsuc, Ok, Err, nat_le, refl, sym, ap, subst, arith}
use Rattle.std.proofs.lemmas.Bool.{leb-true}
use Rattle.abstract_state.specs.declared.broken_rule.BrokenRule.{BrokenRule}
use Rattle.abstract_state.specs.States.{Checked, ◌>>=◌}
use Rattle.abstract_state.specs.Places.{place_within}

abbrev passes : {A : Type 0} → Checked A → Type 0
passes (Ok x) = Unit {0}
passes (Err why) = ⊥

pub err_not_ok : {A : Type 0} (why : BrokenRule) (x : A) → ◌≡◌ {A = Checked A} (Err why) (Ok x) → ⊥
err_not_ok why x e = subst passes (sym e) tt

abbrev value_or : {A : Type 0} → A → Checked A → A
value_or other (Ok x) = x
value_or other (Err why) = other

pub ok_value : {A : Type 0} (x y : A) → ◌≡◌ {A = Checked A} (Ok x) (Ok y) → x ≡ y
ok_value x y e = ap (value_or x) e

-- a step that passed, and what it was followed by
pub record Passed (A B : Type 0) (first : Checked A) (go : A → Checked B) (x : B) : Type 0 where
  pub value : A
  pub is : first ≡ Ok value
  pub next : go value ≡ Ok x

pub ok_then : {A B : Type 0} (first : Checked A) (go : A → Checked B) (x : B) → (first >>= go) ≡ Ok x → Passed A B first go x
ok_then (Ok value) go x e = record { value = value; is = refl; next = e }
ok_then (Err why) go x e = absurd (err_not_ok why x e)

pub record Chosen (A : Type 0) (test : Bool) (go : Checked A) (x : A) : Type 0 where
  pub holds : test ≡ true
  pub next : go ≡ Ok x

pub ok_if : {A : Type 0} (test : Bool) (go : Checked A) (why : BrokenRule) (x : A) → (if test then go else Err why) ≡ Ok x → Chosen A test go x
ok_if true go why x e = record { holds = refl; next = e }
ok_if false go why x e = absurd (err_not_ok why x e)

pub record IsPlace (place : ℤ) (limit to : ℕ) : Type 0 where
  pub is : place ≡ pos to
  pub within : to ≤ limit

pub place_is : (place : ℤ) (limit : ℕ) (why : BrokenRule) (to : ℕ) → place_within place limit why ≡ Ok to → IsPlace place limit to
place_is (pos place) limit why to e =
    let c = ok_if (nat_le place limit) (Ok place) why to e
    in let same : place ≡ to = ok_value place to c.next
    in let l : place ≤ limit = leb-true place limit c.holds
    in record { is = ap pos same; within = omega arith }
place_is (negsuc below) limit why to e = absurd (err_not_ok why to e)
