-- Results whose value or error is known.
use Rattle.std.specs.Prelude.{Result, Ok, Err, IfOk, IfErr}

pub under_ok : {A E : Type 0} (P Q : A → Type 0) → ((x : A) → P x → Q x) → (r : Result A E) → IfOk r P → IfOk r Q
under_ok P Q f (Ok x) p = f x p
under_ok P Q f (Err e) p = p

pub under_err : {A E : Type 0} (P Q : E → Type 0) → ((e : E) → P e → Q e) → (r : Result A E) → IfErr r P → IfErr r Q
under_err P Q f (Ok x) p = p
under_err P Q f (Err e) p = f e p
