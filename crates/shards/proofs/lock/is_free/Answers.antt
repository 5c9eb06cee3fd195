use Rattle.std.proofs.Common.{◌≡◌, ℕ, ◌*◌, ◌/◌, ◌%◌, Bool, true, false, eqb-true, true≢false, refl, eq-eqb, sym, ◌∙◌, arith}
use Rattle.std.specs.Prelude.{◌==◌, ◌≢◌, MatchBool}
use Rattle.std.proofs.Math.Nat.{div-add-mod}
use Rattle.shards.proofs.lock.is_free.Goals as goal

free_by : (word : ℕ) (test : Bool) → (word % 4 == 0) ≡ test → MatchBool test ((quarter : ℕ) × (word ≡ 4 * quarter)) (word % 4 ≢ 0)
free_by word true is = (word / 4, (let d = div-add-mod word 4 in let z = eqb-true (word % 4) 0 is in omega (arith, d, z)))
free_by word false is = λ zero. true≢false (sym (eq-eqb (word % 4) 0 zero) ∙ is)

pub returns : goal.returns
returns c = free_by c.args.word _ refl
