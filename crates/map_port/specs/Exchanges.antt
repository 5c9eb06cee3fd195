-- What a run asked of a port and what it was answered, in order.
use Rattle.std.specs.Prelude.{◌≡◌, List, [], ◌∷◌, map}
use Rattle.semantics.specs.declared.call.Call.{Call}
use Rattle.semantics.specs.declared.call.Reply.{Reply}

pub record Exchange : Type 0 where
  pub call : Call
  pub reply : Reply

abbrev pub calls_in : List Exchange → List Call
calls_in exchanges = map (λ exchange. exchange.call) exchanges

abbrev pub replies_in : List Exchange → List Reply
replies_in exchanges = map (λ exchange. exchange.reply) exchanges

-- each call is made of the port that the one before it left
abbrev pub IsChain : {P : Type 0} → (P → Call → Reply → P → Type 0) → P → List Exchange → P → Type 0
IsChain gives before [] after = before ≡ after
IsChain {P} gives before (exchange ∷ later) after =
    (middle : P) × gives before exchange.call exchange.reply middle × IsChain gives middle later after
