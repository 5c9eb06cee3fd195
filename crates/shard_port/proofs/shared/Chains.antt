-- Chains of calls, seen through a view of the port.
use Rattle.std.proofs.Common.{◌≡◌, List, [], ◌∷◌, sym, ◌∙◌, ap}
use Rattle.semantics.specs.declared.call.Call.{Call}
use Rattle.semantics.specs.declared.call.Reply.{Reply}
use Rattle.map_port.specs.Exchanges.{Exchange, IsChain}

-- where each call of one port is a call of what is seen of it, a chain of the one is a chain of the other
pub chain_of : {P Q : Type 0} (view : P → Q) (gives : P → Call → Reply → P → Type 0) (shows : Q → Call → Reply → Q → Type 0) →
    ((before after : P) (call : Call) (reply : Reply) → gives before call reply after → shows (view before) call reply (view after)) →
    (before after : P) (exchanges : List Exchange) → IsChain gives before exchanges after →
    IsChain shows (view before) exchanges (view after)
chain_of view gives shows step before after [] chain = ap view chain
chain_of view gives shows step before after (exchange ∷ later) chain = (
  view chain.0,
  step before chain.0 exchange.call exchange.reply chain.1,
  chain_of view gives shows step chain.0 after later chain.2,
)

-- what each call keeps, a chain keeps
pub chain_keeps : {P A : Type 0} (part : P → A) (gives : P → Call → Reply → P → Type 0) →
    ((before after : P) (call : Call) (reply : Reply) → gives before call reply after → part after ≡ part before) →
    (before after : P) (exchanges : List Exchange) → IsChain gives before exchanges after → part after ≡ part before
chain_keeps part gives step before after [] chain = ap part (sym chain)
chain_keeps part gives step before after (exchange ∷ later) chain =
    chain_keeps part gives step chain.0 after later chain.2 ∙ step before chain.0 exchange.call exchange.reply chain.1
