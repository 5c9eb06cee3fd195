use Rattle.std.proofs.Common.{rules, ◌≡◌, ◌∷◌, length, sym, ap}
use Rattle.abstract_state.specs.declared.kind.Kind.TheVariants.{Unset}
use Rattle.abstract_state.proofs.RegisterLemmas.{last_five}
use Rattle.abstract_state.proofs.state.State.return_with.Goals as goal

pub returns : goal.returns
returns c =
    let eleven : length c.args.self.now.registers ≡ 11 = search rules
    in ap (λ kept. record { version = c.args.self.now.version; registers = c.args.answer ∷ Unset ∷ Unset ∷ Unset ∷ Unset ∷ Unset ∷ kept; stack = c.args.self.now.stack; start_range = c.args.self.now.start_range })
    (sym (last_five c.args.self.now.registers Unset eleven))
