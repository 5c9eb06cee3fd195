-- Bytes of the stack that are looked at one after the other.
use Rattle.std.proofs.Common.{◌≡◌, ℕ, zero, suc, ◌+◌, ◌-◌, ◌<◌, ◌&&◌, refl, arith, ◌∙◌, ap, Bool, true, false}
use Rattle.abstract_state.specs.declared.state.State.{State}
use Rattle.abstract_state.specs.Words.{is_byte_set, are_bytes_set}

pub first_byte : (state : State) (place n m : ℕ) → n ≡ suc m → are_bytes_set state place n ≡ (is_byte_set state place && are_bytes_set state (place + 1) m)
first_byte state place n m e = rw e refl

pub after_set_byte : (state : State) (place i count : ℕ) (rest : Bool) → i < count → is_byte_set state (place + i) ≡ true →
    rest ≡ are_bytes_set state (place + i) (count - i) → rest ≡ are_bytes_set state (place + (i + 1)) (count - (i + 1))
after_set_byte state place i count rest h t e =
    let n : count - i ≡ suc (count - (i + 1)) = omega arith
    in let p : (place + i) + 1 ≡ place + (i + 1) = omega arith
    in e ∙ first_byte state (place + i) (count - i) (count - (i + 1)) n ∙ ap (λ b. b && are_bytes_set state ((place + i) + 1) (count - (i + 1))) t
    ∙ ap (λ x. are_bytes_set state x (count - (i + 1))) p

pub unset_byte : (state : State) (place i count : ℕ) (rest : Bool) → i < count → is_byte_set state (place + i) ≡ false →
    rest ≡ are_bytes_set state (place + i) (count - i) → rest ≡ false
unset_byte state place i count rest h t e =
    let n : count - i ≡ suc (count - (i + 1)) = omega arith
    in e ∙ first_byte state (place + i) (count - i) (count - (i + 1)) n ∙ ap (λ b. b && are_bytes_set state ((place + i) + 1) (count - (i + 1))) t

pub no_byte_left : (state : State) (place i count : ℕ) (rest : Bool) → count ≡ i →
    rest ≡ are_bytes_set state (place + i) (count - i) → rest ≡ true
no_byte_left state place i count rest e f =
    let n : count - i ≡ zero = omega arith
    in f ∙ ap (are_bytes_set state (place + i)) n
