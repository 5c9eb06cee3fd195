-- One job more.
use Rattle.std.proofs.Common.{◌≡◌, ℕ, zero, suc, ◌+◌, List, [], ◌∷◌, ◌++◌, refl, sym, ap, ◌∙◌, append_assoc, arith}
use Rattle.std.specs.Prelude.{replicate}
use Rattle.std.proofs.lemmas.List.{append-nil}
use Rattle.rx_queues.specs.declared.job.Job.{Job}
use Rattle.rx_queues.specs.declared.job.Job.TheVariants.{Command as CommandJob, Note}
use Rattle.semantics.specs.declared.plan.ShardPlan.{ShardPlan}
use Rattle.shards.specs.Passes.{PassView}
use Rattle.actors.specs.declared.outcome.Applied.{Applied}
use Rattle.actors.specs.Actors.{IsUnused}
use Rattle.actors.specs.ActorJobs.{command_jobs}
use Rattle.actors.specs.Rounds.{AreReclaimed}
use Rattle.actors.proofs.shared.RoundLemmas.{no_round}

-- since these were noted, the commands of the jobs were, each once and in order
pub record AreNotedSince (before after : List Applied) (jobs : List Job) : Type 0 where
  pub later : List Applied
  pub noted : after ≡ before ++ later
  pub each_once : jobs ≡ command_jobs later

command_jobs_more : (noted : List Applied) (last : Applied) → command_jobs (noted ++ last ∷ []) ≡ command_jobs noted ++ CommandJob last.command ∷ []
command_jobs_more [] last = refl
command_jobs_more (one ∷ noted) last = ap (λ rest. CommandJob one.command ∷ rest) (command_jobs_more noted last)

pub none_since : (noted : List Applied) (jobs : List Job) → jobs ≡ [] → AreNotedSince noted noted jobs
none_since noted jobs none = record { later = []; noted = sym (append-nil noted); each_once = none }

pub one_since : (before after after' : List Applied) (jobs jobs' : List Job) (last : Applied) → AreNotedSince before after jobs →
    after' ≡ after ++ last ∷ [] → jobs' ≡ jobs ++ CommandJob last.command ∷ [] → AreNotedSince before after' jobs'
one_since before after after' jobs jobs' last since noted taken = record {
  later = since.later ++ last ∷ [];
  noted = noted ∙ ap (λ all. all ++ last ∷ []) since.noted ∙ append_assoc before since.later (last ∷ []);
  each_once = taken ∙ ap (λ all. all ++ CommandJob last.command ∷ []) since.each_once ∙ sym (command_jobs_more since.later last);
}

notes_more : (rounds : ℕ) → replicate rounds Note ++ Note ∷ [] ≡ replicate (suc rounds) Note
notes_more zero = refl
notes_more (suc rounds) = ap (λ rest. Note ∷ rest) (notes_more rounds)

-- N notes were taken, and N rounds made
pub record AreNotesTaken (plan : ℕ → ShardPlan) (count : ℕ) (jobs : List Job) (pass : PassView) : Type 0 where
  pub rounds : ℕ
  pub notes : jobs ≡ replicate rounds Note
  pub reclaimed : AreReclaimed plan count rounds pass

pub no_notes : (plan : ℕ → ShardPlan) (count : ℕ) (jobs : List Job) (pass : PassView) → jobs ≡ [] → IsUnused pass →
    AreNotesTaken plan count jobs pass
no_notes plan count jobs pass none unused = record { rounds = 0; notes = none; reclaimed = no_round plan count pass unused }

pub one_note : (plan : ℕ → ShardPlan) (count : ℕ) (jobs jobs' : List Job) (before after : PassView) → AreNotesTaken plan count jobs before →
    jobs' ≡ jobs ++ Note ∷ [] → ((rounds : ℕ) → AreReclaimed plan count rounds before → AreReclaimed plan count (rounds + 1) after) →
    AreNotesTaken plan count jobs' after
one_note plan count jobs jobs' before after taken more round = record {
  rounds = taken.rounds + 1;
  notes = more ∙ ap (λ all. all ++ Note ∷ []) taken.notes ∙ notes_more taken.rounds ∙ ap (λ n. replicate n Note) (one_over taken.rounds);
  reclaimed = round taken.rounds taken.reclaimed;
}
  where
    one_over : (n : ℕ) → suc n ≡ n + 1
    one_over n = omega arith
