-- What a change of one worker or of one history of the system leaves of the others.
use Rattle.std.proofs.Common.{◌≡◌, ◌≢◌, ℕ, zero, suc, ◌<◌, ◌==◌, Bool, true, false, not, List, [], ◌∷◌, length, replicate, refl}
use Rattle.std.specs.Prelude.{slice_index_or, if◌then◌else◌}
use Rattle.std.proofs.lemmas.Grind.{get_or-set_at}
use Rattle.std.proofs.lemmas.List.{get_or-set_other}
use Rattle.semantics.specs.declared.call.Entry.{Entry}
use Rattle.semantics.specs.System.{SystemState, WorkerState, Idle, worker_state, history_of, with_worker, with_entry, is_entered, without_shard}

pub state_there : (system : SystemState) (worker : ℕ) (now : WorkerState) → worker < length system.workers → worker_state (with_worker system worker now) worker ≡ now
state_there system worker now below = get_or-set_at system.workers worker worker now Idle refl below

pub state_elsewhere : (system : SystemState) (worker other : ℕ) (now : WorkerState) → other ≢ worker → worker_state (with_worker system worker now) other ≡ worker_state system other
state_elsewhere system worker other now apart = get_or-set_other system.workers worker other now Idle apart

pub history_there : (system : SystemState) (number : ℕ) (entry : Entry) → number < length system.histories → history_of (with_entry system number entry) number ≡ entry ∷ history_of system number
history_there system number entry below = get_or-set_at system.histories number number (entry ∷ history_of system number) [] refl below

pub history_elsewhere : (system : SystemState) (number shard : ℕ) (entry : Entry) → shard ≢ number → history_of (with_entry system number entry) shard ≡ history_of system shard
history_elsewhere system number shard entry apart = get_or-set_other system.histories number shard (entry ∷ history_of system number) [] apart

-- a shard that was left is no longer entered
gone_by : (shard one : ℕ) (entered : List ℕ) (same : Bool) → (one == shard) ≡ same → is_entered shard (without_shard shard entered) ≡ false →
    is_entered shard (if not same then one ∷ without_shard shard entered else without_shard shard entered) ≡ false
gone_by shard one entered true e h = h
gone_by shard one entered false e h = rw e h

pub gone : (shard : ℕ) (entered : List ℕ) → is_entered shard (without_shard shard entered) ≡ false
gone shard [] = refl
gone shard (one ∷ entered) = gone_by shard one entered (one == shard) refl (gone shard entered)

pub same_everywhere : {A : Type 0} → (n k : ℕ) (d : A) → slice_index_or (replicate n d) k d ≡ d
same_everywhere zero k d = refl
same_everywhere (suc n) zero d = refl
same_everywhere (suc n) (suc k) d = same_everywhere n k d
