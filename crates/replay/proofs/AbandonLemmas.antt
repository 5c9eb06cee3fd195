-- Why the threads of a replay were given up.
use Rattle.std.proofs.Common.{inl, inr, ◌≡◌, ◌∙◌, ℕ, ◌+◌, ◌<◌, List, length}
use Rattle.rx_queues.specs.declared.job.Job.{Job}
use Rattle.actors.specs.Actors.{AreAllEnded}
use Rattle.actors.specs.Puts.{put_at}
use Rattle.actors.specs.Shares.{frames_of}
use Rattle.replay.specs.declared.threads.Setting.{Setting}
use Rattle.replay.specs.Settings.{IsAbandoned, WereGivenUp}
use Rattle.actors.specs.UpdateFaults.{IsOfNoUpdate}
use Rattle.actors.specs.declared.fault.ReplayFault.{ReplayFault}
use Rattle.actors.specs.declared.fault.ReplayFault.TheVariants.{BadOptions}

-- the workers were, and then every thread was handed the end
pub given_up_then : {W R : Type 0} (setting : Setting W R) (workers : ℕ) (before after : List (List Job)) (fault : ReplayFault)
    → WereGivenUp setting workers before fault → ((place : ℕ) → place < workers → put_at after place ≡ put_at before place)
    → AreAllEnded (workers + 2) after
    → IsAbandoned (frames_of setting.capture.now.records.items) workers (length setting.capture.now.records.items) fault after
given_up_then setting workers before after fault (inl unstarted) same ended =
    inr (inl (record {
      no_thread = unstarted.0;
      no_record = λ worker below. same worker below ∙ unstarted.1 worker below;
      ended = ended;
    }))
given_up_then setting workers before after fault (inr refused) same ended =
    inr (inr (record {
      no_memory = refused.0;
      records = λ worker below. same worker below ∙ refused.1 worker below;
      ended = ended;
    }))

-- the fault is that of no update, and not that of the options
pub of_abandoned : (frames : List (List ℕ)) (workers count : ℕ) (fault : ReplayFault) (puts : List (List Job))
    → IsAbandoned frames workers count fault puts → IsOfNoUpdate fault × (fault ≡ BadOptions → ⊥)
of_abandoned frames workers count fault puts (inl it) = (let is = it.no_memory in (inl is, λ bad. cc))
of_abandoned frames workers count fault puts (inr (inl it)) = (let is = it.no_thread in (inr (inr is), λ bad. cc))
of_abandoned frames workers count fault puts (inr (inr it)) = (let is = it.no_memory in (inl is, λ bad. cc))
