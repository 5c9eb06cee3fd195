use Rattle.std.proofs.Common.{◌≡◌, ◌<◌, ℕ, List, length, refl, sym, subst, ⊎_elim, arith}
use Rattle.std.proofs.lemmas.Bool.{cases_eq}
use Rattle.semantics.specs.History.{IsLegalJournal}
use Rattle.semantics.proofs.shared.EachLemmas.{found_or}
use Rattle.shard_core.specs.JournaledShard.{JournaledShard, opened_shard}
use Rattle.shards.specs.NewShards.{shard_at}
use Rattle.shards.specs.Seats.{no_plan}
use Rattle.runs.proofs.closing.are_legal.Goals as goal

pub shards-init : goal.shards-init
shards-init c = record { end_is = refl; legal = λ k below. absurd (omega (arith, below)) }

pub shards-preserved : goal.shards-preserved
shards-preserved c =
    let i = c.shards.invariant in
    let number = c.shards.number in
    let there : c.index-shards-number.result ≡ shard_at c.args.shards.now number =
    found_or c.args.shards.now number c.index-shards-number.result (opened_shard no_plan)
    (let e = i.end_is in let t = c.shards-test.true in omega (arith, e, t)) c.index-shards-number.is in
    let here = subst (λ (one : JournaledShard). IsLegalJournal one.plan one.journal) there c.journal.ensures.legal in
    record {
      end_is = i.end_is;
      legal = λ k below. ⊎_elim
          (λ (same : k ≡ number). subst (λ (n : ℕ). IsLegalJournal (shard_at c.args.shards.now n).plan (shard_at c.args.shards.now n).journal)
          (sym same) here)
          (λ (apart : k ≡ number → ⊥). i.legal k (omega (arith, below, apart)))
          (cases_eq k number);
    }

pub returns : goal.returns
returns c = λ number below.
    let i = c.shards.invariant in
    i.legal number (let e = i.end_is in let t = c.shards-test.false in omega (arith, e, t, below))
