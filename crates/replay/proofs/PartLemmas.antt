-- The controller's part and the reclaimer's.
use Rattle.std.proofs.Common.{◌≡◌, ℕ, zero, suc, ◌+◌, ◌*◌, ◌<◌, ◌≤◌, Bool, true, false, nat_lt, List, [], ◌∷◌, ◌++◌, length, take, length-append, refl, sym, ap, ◌∙◌, subst, arith}
use Rattle.std.specs.Prelude.{Option, Some, None, IfSome, IsTrue, is_some, slice_get, map, replicate, reverse, slice_index, if◌then◌else◌}
use Rattle.std.proofs.lemmas.Bool.Decides.{nat_tests}
use Rattle.std.proofs.lemmas.Option.{slice_get_within}
use Rattle.std.proofs.Math.Nat.{mod-lt}
use Rattle.ebpf_decode.specs.declared.map.MapDef.{MapDef}
use Rattle.ebpf_decode.specs.declared.map.MapKind.{MapKind}
use Rattle.ebpf_decode.specs.declared.map.MapKind.TheVariants.{Array, Hash, LruHash}
use Rattle.semantics.specs.declared.call.Caller.{Caller}
use Rattle.semantics.specs.declared.call.Caller.TheVariants.{Reclaimer}
use Rattle.shards.specs.declared.deeds.Deed.{Deed}
use Rattle.shards.specs.declared.deeds.OrderPart.TheVariants.{ByCaller}
use Rattle.shards.specs.Deeds.{deeds_of, AreFirst}
use Rattle.semantics.specs.declared.call.Call.TheVariants.{Reclaim}
use Rattle.semantics.specs.declared.call.Entry.{Entry}
use Rattle.semantics.specs.declared.options.Options.{Options}
use Rattle.semantics.specs.declared.plan.ShardPlan.{ShardPlan}
use Rattle.semantics.specs.CallerLaws.{own_entries}
use Rattle.semantics.specs.Program.{part_of_key, shard_in_map, shard_number_of_key}
use Rattle.semantics.specs.ShardPlan.{AreOptions}
use Rattle.journals.specs.JournalsView.{JournalsView, entries_at}
use Rattle.shards.specs.CallerView.{BeginsWith}
use Rattle.shards.specs.SharedMaps.{ArePlans}
use Rattle.shards.specs.Passes.{PassView, own_at, seen_at, pass_at, AreSettled}
use Rattle.rx_queues.specs.declared.job.Job.{Job}
use Rattle.rx_queues.specs.declared.job.Job.TheVariants.{Frame, Command as CommandJob, Note, End}
use Rattle.control.specs.declared.command.Command.{Command}
use Rattle.control.specs.MapUpdates.{UpdateBytes}
use Rattle.actors.specs.declared.outcome.Applied.{Applied}
use Rattle.actors.specs.SharedUpdates.{shard_of, controller_update}
use Rattle.actors.specs.Commands.{CommanderView, CommandDone, AreNotedOf, IsScriptAccountBehind, IsShardFullForUpdate, HasAccount, OfEachAccount, ServesScript}
use Rattle.actors.specs.ActorJobs.{command_jobs, AreRoundsMade}
use Rattle.actors.specs.Rounds.{AreReclaimed, AreRoundsDone, IsReclaimedBy}
use Rattle.actors.specs.Actors.{numbers_from, commands_from, due_to, AreDue}
use Rattle.maglev.specs.RingSize.{IsRingSize}
use Rattle.map_updates.specs.declared.update.MapUpdate.{MapUpdate}
use Rattle.semantics.proofs.shared.HoldingLemmas.{each_weaker}
use Rattle.semantics.proofs.shared.PlanLemmas.{some_shards, below_count}
use Rattle.actors.specs.Parts.{HasCommanded, HasBegunWith, IsScriptRun, IsScriptRunBehind, IsFullInJournal, IsScriptAccounted, AreRoundsAccounted, numbers_of, refused_of, first_commands, first_deeds}
use Rattle.replay.proofs.Accounts.{full_later, IsOwnIn}

-- ---- rounds

-- as many notes as rounds
ends_length : (notes : ℕ) → length (replicate notes Note ++ End ∷ []) ≡ notes + 1
ends_length zero = refl
ends_length (suc notes) = (let rest = ends_length notes in omega (arith, rest))

same_rounds : (a b : ℕ) → replicate a Note ++ End ∷ [] ≡ replicate b Note ++ End ∷ [] → a ≡ b
same_rounds a b same =
    let first = ends_length a in
    let second = ends_length b in
    let both = ap (λ (jobs : List Job). length jobs) same in
    omega (arith, first, second, both)

pub rounds_made : (plan : ℕ → ShardPlan) (count rounds : ℕ) (pass : PassView) → AreRoundsMade plan count (replicate rounds Note ++ End ∷ []) pass →
    AreReclaimed plan count rounds pass
rounds_made plan count rounds pass are =
    subst (λ (n : ℕ). AreReclaimed plan count n pass) (same_rounds are.rounds rounds (sym are.notes)) are.reclaimed

-- what was seen, held against a later history
reclaimed_later : (kind : MapKind) (plan : ShardPlan) (number rounds : ℕ) (own seen later : List Entry) → BeginsWith later seen →
    IsReclaimedBy kind plan number rounds own seen → IsReclaimedBy kind plan number rounds own later
reclaimed_later Array plan number rounds own seen later begins none = none
reclaimed_later Hash plan number rounds own seen later begins made = record {
  each = made.each;
  one_a_round = made.one_a_round;
  fewer_if_full = λ fewer. full_later plan later seen (Reclaim number) begins (made.fewer_if_full fewer);
}
reclaimed_later LruHash plan number rounds own seen later begins made = record {
  each = made.each;
  one_a_round = made.one_a_round;
  fewer_if_full = λ fewer. full_later plan later seen (Reclaim number) begins (made.fewer_if_full fewer);
}

pub rounds_stand : (plan : ℕ → ShardPlan) (count rounds : ℕ) (journals : JournalsView) (order : List Deed) (pass : PassView) → pass.who ≡ Reclaimer →
    AreSettled count journals pass → IsOwnIn order pass → AreReclaimed plan count rounds pass → AreRoundsAccounted plan count rounds journals order
rounds_stand plan count rounds journals order pass who settled owned reclaimed = record {
  each = λ number within.
      let all : List Entry = reverse (entries_at journals number) in
      let kind = (plan number).definition.kind in
      let own_is : own_at pass number ≡ own_entries Reclaimer all = (settled number within).own ∙ ap (λ (c : Caller). own_entries c all) who in
      subst (λ (own : List Entry). IsReclaimedBy kind (plan number) number rounds own all) own_is
      (reclaimed_later kind (plan number) number rounds (own_at pass number) (seen_at pass number) all (settled number within).begins
      (reclaimed.each number within));
  did = subst (λ (deeds : List Deed). AreRoundsDone plan count rounds (reverse deeds)) (owned ∙ ap (λ (c : Caller). deeds_of (ByCaller c) order) who)
      reclaimed.did;
}

-- ---- the numbers of commands

numbers_more : (first n m : ℕ) → numbers_from first n ++ numbers_from (first + n) m ≡ numbers_from first (n + m)
numbers_more first zero m =
    let here : first + zero ≡ first = omega arith in
    let all : m ≡ zero + m = omega arith in
    ap (λ (k : ℕ). numbers_from k m) here ∙ ap (λ (k : ℕ). numbers_from first k) all
numbers_more first (suc n) m =
    let here : first + suc n ≡ (first + 1) + n = omega arith in
    let all : suc (n + m) ≡ suc n + m = omega arith in
    ap (λ (k : ℕ). first ∷ (numbers_from (first + 1) n ++ numbers_from k m)) here
    ∙ ap (λ (l : List ℕ). first ∷ l) (numbers_more (first + 1) n m)
    ∙ ap (λ (k : ℕ). numbers_from first k) all

abbrev job_numbers : List Job → List ℕ
job_numbers [] = []
job_numbers (CommandJob number ∷ later) = number ∷ job_numbers later
job_numbers (Frame number ∷ later) = job_numbers later
job_numbers (Note ∷ later) = job_numbers later
job_numbers (End ∷ later) = job_numbers later

numbers_noted : (noted : List Applied) → job_numbers (command_jobs noted ++ End ∷ []) ≡ numbers_of noted
numbers_noted [] = refl
numbers_noted (one ∷ later) = ap (λ (l : List ℕ). one.command ∷ l) (numbers_noted later)

numbers_handed : (numbers : List ℕ) → job_numbers (map (λ (number : ℕ). CommandJob number) numbers ++ End ∷ []) ≡ numbers
numbers_handed [] = refl
numbers_handed (number ∷ later) = ap (λ (l : List ℕ). number ∷ l) (numbers_handed later)

numbers_both : (before later : List Applied) → numbers_of (before ++ later) ≡ numbers_of before ++ numbers_of later
numbers_both [] later = refl
numbers_both (one ∷ before) later = ap (λ (l : List ℕ). one.command ∷ l) (numbers_both before later)

-- one command more
pub numbers_next : (before after : List Applied) (one : Applied) (first : ℕ) → numbers_of before ≡ numbers_from 0 first → one.command ≡ first →
    after ≡ before ++ one ∷ [] → numbers_of after ≡ numbers_from 0 (first + 1)
numbers_next before after one first were is noted =
    let here : one.command ≡ 0 + first = (omega (arith, is)) in
    ap numbers_of noted ∙ numbers_both before (one ∷ []) ∙ ap (λ (l : List ℕ). l ++ one.command ∷ []) were
    ∙ ap (λ (n : ℕ). numbers_from 0 first ++ n ∷ []) here ∙ numbers_more 0 first 1

-- ---- the script

pub script_run : (plan : ℕ → ShardPlan) (maps : List MapDef) (options : Options) (updates : List MapUpdate) (script : List Command) (size : ℕ)
    (start : CommanderView) (noted : List Applied) (pass : PassView) (first count : ℕ) → start.updates ≡ updates → start.script ≡ script → start.port.maps ≡ maps → start.port.options ≡ options
    → start.controller.size ≡ size → numbers_of start.noted ≡ numbers_from 0 first → first + count ≡ length script
    → HasCommanded plan start (commands_from first count ++ End ∷ []) noted pass
    → OfEachAccount plan start (λ done. IsScriptRun plan maps options updates script size done noted pass)
script_run plan maps options updates script size start noted pass first count is_updates is_script is_maps is_options is_size were all has begun =
    let later = has.taken.later in
    let rest : numbers_of later ≡ numbers_from first count =
    sym (numbers_noted later) ∙ ap job_numbers (sym has.taken.each_once) ∙ numbers_handed (numbers_from first count) in
    let here : first ≡ 0 + first = omega arith in
    let state = has.account.state in
    let one = subst (λ m. IsScriptAccountBehind plan m start.port.options start.updates start.script start.controller.size noted state pass begun.done) is_maps (has.account.account begun) in
    let two = subst (λ o. IsScriptAccountBehind plan maps o start.updates start.script start.controller.size noted state pass begun.done) is_options one in
    let set = subst (λ u. IsScriptAccountBehind plan maps options u start.script start.controller.size noted state pass begun.done) is_updates two in
    let three = subst (λ s. IsScriptAccountBehind plan maps options updates s start.controller.size noted state pass begun.done) is_script set in
    record {
      each_once = ap numbers_of has.taken.noted ∙ numbers_both start.noted later ∙ ap (λ (l : List ℕ). l ++ numbers_of later) were
          ∙ ap (λ (l : List ℕ). numbers_from 0 first ++ l) (rest ∙ ap (λ (n : ℕ). numbers_from n count) here) ∙ numbers_more 0 first count
          ∙ ap (λ (n : ℕ). numbers_from 0 n) all;
      state = state;
      account = subst (λ n. IsScriptAccountBehind plan maps options updates script n noted state pass begun.done) is_size three;
      who = has.who;
    }

-- and so are the deeds with which the order begins
pub script_run_behind : (plan : ℕ → ShardPlan) (maps : List MapDef) (options : Options) (updates : List MapUpdate) (script : List Command) (size : ℕ)
    (start : CommanderView) (noted : List Applied) (pass : PassView) (deeds : List Deed) →
    OfEachAccount plan start (λ done. IsScriptRun plan maps options updates script size done noted pass) → HasBegunWith plan maps options updates script start deeds →
    IsScriptRunBehind plan maps options updates script size noted pass deeds
script_run_behind plan maps options updates script size start noted pass deeds runs begun =
    record { first = begun.account.done; run = runs begun.account; counted = begun.counted; deeds_are = begun.deeds_are }

-- ---- the commands before the first record

pub noted_as_many : (script : List Command) (noted : List Applied) (done : List CommandDone) → AreNotedOf script noted done → length done ≡ length (numbers_of noted)
noted_as_many script [] [] are = refl
noted_as_many script [] (one ∷ later) are = absurd are
noted_as_many script (noted ∷ more) [] are = absurd are
noted_as_many script (noted ∷ more) (one ∷ later) are = ap suc (noted_as_many script more later are.1)

pub numbers_count : (first count : ℕ) → length (numbers_from first count) ≡ count
numbers_count first zero = refl
numbers_count first (suc count) = ap suc (numbers_count (first + 1) count)

due_is : (starts : List ℕ) (end : ℕ) → end ≤ length starts → ((place : ℕ) → place < end → slice_index starts place ≤ 0) →
    (end < length starts → 0 < slice_index starts end) → due_to starts 0 ≡ end
due_is [] end within due early = omega (arith, within)
due_is (start ∷ later) zero within due early =
    let some : 0 < start = early (omega arith) in
    let is : nat_lt 0 start ≡ true = grind (arith, nat_tests, some) in
    ap (λ (test : Bool). if test then 0 else suc (due_to later 0)) is
due_is (start ∷ later) (suc end) within due early =
    let none : start ≤ 0 = due 0 (omega arith) in
    let is : nat_lt 0 start ≡ false = grind (arith, nat_tests, none) in
    ap (λ (test : Bool). if test then 0 else suc (due_to later 0)) is
    ∙ ap suc (due_is later end (omega (arith, within)) (λ place below. due (suc place) (omega (arith, below))) (λ below. early (omega (arith, below))))

pub begun_with : (plan : ℕ → ShardPlan) (maps : List MapDef) (options : Options) (updates : List MapUpdate) (script : List Command) (start : CommanderView)
    (starts : List ℕ) (first : ℕ) (deeds : List Deed) → start.port.maps ≡ maps → start.port.options ≡ options → start.updates ≡ updates → start.script ≡ script →
    numbers_of start.noted ≡ numbers_from 0 first → starts ≡ map (λ (line : Command). line.frame) script → AreDue starts 0 0 first → HasAccount plan start →
    deeds ≡ start.port.pass.deeds → HasBegunWith plan maps options updates script start deeds
begun_with plan maps options updates script start starts first deeds is_maps is_options is_updates is_script numbers are due account same = record {
  account = account;
  counted = noted_as_many start.script start.noted account.done account.are_noted ∙ ap (λ (l : List ℕ). length l) numbers ∙ numbers_count 0 first
      ∙ sym (due_is starts first due.within (λ place below. due.due place (omega arith) below) due.early) ∙ ap (λ (l : List ℕ). due_to l 0) are;
  deeds_are = same ∙ account.did
      ∙ (λ i. first_deeds (is_maps i) (is_options i) (is_updates i) account.done);
}

pub within_of : (maps : List MapDef) (map parts : ℕ) (key : List ℕ) (found : Option MapDef) → 0 < parts → slice_get maps map ≡ found →
    IsTrue (is_some found) → shard_in_map found parts map key < length maps * parts
within_of maps map parts key None some is there = absurd cc
within_of maps map parts key (Some definition) some is there =
    below_count map (length maps) parts (part_of_key definition.kind parts key) (slice_get_within maps map definition is)
    (mod-lt (shard_number_of_key definition.kind key) some)

full_stands : (plan : ℕ → ShardPlan) (maps : List MapDef) (options : Options) (count : ℕ) (journals : JournalsView) (pass : PassView) →
    ArePlans maps options count plan → AreOptions maps options → AreSettled count journals pass → (stopped : Option UpdateBytes) →
    IfSome stopped (IsShardFullForUpdate plan maps options pass) → IfSome stopped (IsFullInJournal plan maps options count journals)
full_stands plan maps options count journals pass plans are settled None full = tt
full_stands plan maps options count journals pass plans are settled (Some update) full =
    let shard = shard_of maps options update in
    let below : shard < length maps * options.shards =
    within_of maps update.map options.shards update.key (slice_get maps update.map) (some_shards maps options are) refl full.of_map in
    let within : shard < count = subst (λ (n : ℕ). shard < n) (sym plans.count_is) below in
    record {
      within = within;
      full = full_later (plan shard) (reverse (entries_at journals shard)) (seen_at pass shard) (controller_update shard update) (settled shard within).begins
          full.full;
    }

pub script_stands : (plan : ℕ → ShardPlan) (maps : List MapDef) (options : Options) (count : ℕ) (updates : List MapUpdate) (script : List Command)
    (size : ℕ) (noted : List Applied) (pass : PassView) (journals : JournalsView) (order : List Deed) (refused : List Applied) → ArePlans maps options count plan → AreOptions maps options →
    IsRingSize size → ServesScript maps size script → (first : List CommandDone) → IsScriptRun plan maps options updates script size first noted pass → AreSettled count journals pass →
    IsOwnIn order pass → refused ≡ refused_of noted → IsScriptAccounted plan maps options count updates script journals order refused
script_stands plan maps options count updates script size noted pass journals order refused plans are served serves first run settled owned refused_are = record {
  done = run.account.account.done;
  of_script = record {
    size = size;
    size_is_served = served;
    serves = serves;
    noted = noted;
    each_once = run.each_once;
    are_noted = run.account.account.are_noted;
    state = run.state;
    are_done = run.account.account.are_done;
    refused_are = refused_are;
  };
  own = λ number within. ap (λ (c : Caller). own_entries c (reverse (entries_at journals number))) (sym run.who) ∙ sym (settled number within).own ∙ run.account.account.own number;
  full = each_weaker (λ (one : CommandDone). IfSome one.stopped (IsShardFullForUpdate plan maps options pass))
      (λ (one : CommandDone). IfSome one.stopped (IsFullInJournal plan maps options count journals))
      (λ one. full_stands plan maps options count journals pass plans are settled one.stopped) run.account.account.done run.account.account.full;
  did = ap (λ (c : Caller). deeds_of (ByCaller c) order) (sym run.who) ∙ sym owned ∙ run.account.account.did;
}

-- with what the order begins with
pub record IsScriptBegun (plan : ℕ → ShardPlan) (maps : List MapDef) (options : Options) (count : ℕ) (updates : List MapUpdate) (script : List Command)
    (journals : JournalsView) (order : List Deed) (refused : List Applied) : Type 0 where
  pub commands : IsScriptAccounted plan maps options count updates script journals order refused
  pub begins : AreFirst (first_deeds maps options updates (take (first_commands script) commands.done)) order

take_first : (first later : List CommandDone) → take (length first) (first ++ later) ≡ first
take_first [] later = refl
take_first (one ∷ first) later = ap (λ (done : List CommandDone). one ∷ done) (take_first first later)

pub script_begins : (plan : ℕ → ShardPlan) (maps : List MapDef) (options : Options) (count : ℕ) (updates : List MapUpdate) (script : List Command)
    (size : ℕ) (noted : List Applied) (pass : PassView) (journals : JournalsView) (order : List Deed) (refused : List Applied) (deeds : List Deed) →
    ArePlans maps options count plan → AreOptions maps options → IsRingSize size → ServesScript maps size script →
    IsScriptRunBehind plan maps options updates script size noted pass deeds → AreSettled count journals pass →
    IsOwnIn order pass → refused ≡ refused_of noted → AreFirst deeds order → IsScriptBegun plan maps options count updates script journals order refused
unfolding script_stands
script_begins plan maps options count updates script size noted pass journals order refused deeds plans are served serves behind settled owned refused_are begins =
    let run = behind.run in record {
      commands = script_stands plan maps options count updates script size noted pass journals order refused plans are served serves behind.first run settled owned refused_are;
      begins = subst (λ (first : List Deed). AreFirst first order)
          (behind.deeds_are ∙ ap (λ (done : List CommandDone). first_deeds maps options updates done)
          (sym (ap (λ (n : ℕ). take n run.account.account.done) (sym behind.counted)
          ∙ ap (λ (done : List CommandDone). take (length behind.first) done) run.account.goes_on ∙ take_first behind.first run.account.later))) begins;
    }

-- the commands are those of the account
pub script_done : (plan : ℕ → ShardPlan) (maps : List MapDef) (options : Options) (count : ℕ) (updates : List MapUpdate) (script : List Command)
    (size : ℕ) (noted : List Applied) (pass : PassView) (journals : JournalsView) (order : List Deed) (refused : List Applied) (deeds : List Deed) →
    (plans : ArePlans maps options count plan) (are : AreOptions maps options) (served : IsRingSize size) (serves : ServesScript maps size script) →
    (behind : IsScriptRunBehind plan maps options updates script size noted pass deeds) (settled : AreSettled count journals pass) →
    (owned : IsOwnIn order pass) (refused_are : refused ≡ refused_of noted) (begins : AreFirst deeds order) →
    (script_begins plan maps options count updates script size noted pass journals order refused deeds plans are served serves behind settled owned refused_are
    begins).commands.done ≡ behind.run.account.account.done
unfolding script_begins script_stands
script_done plan maps options count updates script size noted pass journals order refused deeds plans are served serves behind settled owned refused_are begins = refl

-- ---- all passes, when the shards are closed

first_at : (xs more : List PassView) (j : ℕ) → j < length xs → pass_at (xs ++ more) j ≡ pass_at xs j
first_at [] more j below = absurd (omega arith)
first_at (x ∷ xs) more zero below = refl
first_at (x ∷ xs) more (suc j) below = first_at xs more j (omega arith)

next_at : (xs : List PassView) (a b : PassView) → pass_at (xs ++ a ∷ b ∷ []) (length xs) ≡ a
next_at [] a b = refl
next_at (x ∷ xs) a b = next_at xs a b

last_at : (xs : List PassView) (a b : PassView) → pass_at (xs ++ a ∷ b ∷ []) (suc (length xs)) ≡ b
last_at [] a b = refl
last_at (x ∷ xs) a b = last_at xs a b

pub record AllOf (P : PassView → Type 0) (xs : List PassView) (a b : PassView) : Type 0 where
  pub first : (j : ℕ) → j < length xs → P (pass_at xs j)
  pub next : P a
  pub last : P b

-- what holds of each pass of a list holds of its parts
pub all_of : (P : PassView → Type 0) (passes xs : List PassView) (a b : PassView) → passes ≡ xs ++ a ∷ b ∷ [] →
    ((place : ℕ) → place < length passes → P (pass_at passes place)) → AllOf P xs a b
all_of P passes xs a b are each =
    let long = length-append xs (a ∷ b ∷ []) in
    let same = ap (λ (l : List PassView). length l) are in
    let at : (place : ℕ) → place < length passes → P (pass_at (xs ++ a ∷ b ∷ []) place) =
    λ place below. subst (λ (l : List PassView). P (pass_at l place)) are (each place below) in
    record {
      first = λ j below. subst P (first_at xs (a ∷ b ∷ []) j below) (at j (omega (arith, below, long, same)));
      next = subst P (next_at xs a b) (at (length xs) (omega (arith, long, same)));
      last = subst P (last_at xs a b) (at (suc (length xs)) (omega (arith, long, same)));
    }
