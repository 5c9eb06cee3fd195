-- A worker leaves the shards of one thread that it is inside of, and with that its run is one of its pass.
use Rattle.std.proofs.Common.{◌≡◌, ⊎_elim, ℕ, zero, suc, ◌<◌, ◌≤◌, ◌&&◌, nat_lt, Bool, true, false, List, [], ◌∷◌, ◌++◌, length, reverse, refl, sym, ap, ◌∙◌, subst, arith, eq-eqb}
use Rattle.std.specs.Prelude.{◌==◌, if◌then◌else◌}
use Rattle.std.proofs.lemmas.Bool.{cases_eq}
use Rattle.std.proofs.lemmas.Bool.Decides.{nat_tests}
use Rattle.std.proofs.lemmas.List.{reverse-append}
use Rattle.wire.specs.FrameView.{FrameView}
use Rattle.semantics.specs.declared.call.Caller.TheVariants.{Worker}
use Rattle.semantics.specs.declared.call.Call.{Call}
use Rattle.semantics.specs.declared.call.Reply.{Reply}
use Rattle.semantics.specs.declared.call.Entry.{Entry}
use Rattle.semantics.specs.declared.plan.ShardPlan.{ShardPlan}
use Rattle.semantics.specs.declared.verdict.Verdict.{Verdict}
use Rattle.semantics.specs.CallerLaws.{own_entries}
use Rattle.semantics.specs.MachineState.{MachineState}
use Rattle.semantics.specs.Program.{Program}
use Rattle.semantics.specs.Reclamation.{is_inside}
use Rattle.semantics.specs.RunTrace.{IsReplyTo}
use Rattle.semantics.specs.History.{IsLegalHistory}
use Rattle.semantics.proofs.shared.CallerLemmas.{own_inside}
use Rattle.map_port.specs.Served.{Maps, program_over}
use Rattle.map_port.specs.Exchanges.{Exchange, IsChain}
use Rattle.machine.specs.declared.exit.Stop.{Stop}
use Rattle.machine.specs.declared.exit.Stop.TheVariants.{JournalFull}
use Rattle.shard_core.specs.JournaledShard.{JournaledShard}
use Rattle.shards.specs.CallerView.{CallerView, ViewIsServed}
use Rattle.shards.specs.NewShards.{shard_at}
use Rattle.shards.specs.declared.deeds.Deed.{Deed}
use Rattle.shards.specs.declared.deeds.Deed.TheVariants.{Wrote}
use Rattle.shards.specs.Deeds.{made_on}
use Rattle.shards.specs.Passes.{PassView, view_at, own_at}
use Rattle.shard_port.specs.Asking.{is_in, leave_by, left, leaving, all_left}
use Rattle.shard_port.specs.PassPorts.{PassPort, worker_number, all_left_deeds, ViewHasLeft, IsFinishedBy, PassGives}
use Rattle.shard_port.specs.PassSessions.{WritesOwnSessions, WritesRefusedOwnSessions, IsOutsideAt}
use Rattle.runs.specs.FrameRuns.{AreFormed, HasRun, HasStopped}
use Rattle.replay.specs.InTurn.{worker_port, EndsInTurn, StopsInTurn}
use Rattle.replay.proofs.TurnDeeds.{IsSound, IsPassOf, Stands, IsMoreBy, AreBy, pass_after, own_of_maker, made_here, made_else, no_more, more_by, more_on, elsewhere_same, own_here, seen_here, mine_after, sound_after}
use Rattle.replay.proofs.TurnRuns.{one_port, chain_steps, refused_step}

both_true : (a b : Bool) → a ≡ true → b ≡ true → (a && b) ≡ true
both_true true b held also = also
both_true false b held also = absurd cc

below_test : (a b : ℕ) → a < b → nat_lt a b ≡ true
below_test a b below = grind (arith, nat_tests)

-- ---- one shard

-- a Leave of a worker that is inside is legal
legal_leave : (plan : ShardPlan) (worker number : ℕ) (history : List Entry) → plan.number ≡ number → worker < plan.workers →
    is_inside worker history ≡ true → IsLegalHistory plan history → IsLegalHistory plan (leave_by worker number ∷ history)
legal_leave plan worker number history numbered staffed inside legal = (
  record {
    step = record {
      met = both_true (number == plan.number) (nat_lt worker plan.workers && is_inside worker history) (eq-eqb number plan.number (sym numbered))
          (both_true (nat_lt worker plan.workers) (is_inside worker history) (below_test worker plan.workers staffed) inside);
      replied = refl;
    };
    room = refl;
  },
  legal,
)

-- the entry by which a worker leaves, by the history of the shard
abbrev pub leaving_at : ℕ → ℕ → List Entry → List Entry
leaving_at worker number history = if is_inside worker history then leave_by worker number ∷ [] else []

reverse_leaving : (worker number : ℕ) (inside : Bool) →
    reverse (if inside then leave_by worker number ∷ [] else []) ≡ (if inside then leave_by worker number ∷ [] else [])
reverse_leaving worker number true = refl
reverse_leaving worker number false = refl

left_history : (worker number : ℕ) (one : JournaledShard) → one.plan.number ≡ number →
    reverse (left worker one).journal ≡ leaving_at worker number (reverse one.journal) ++ reverse one.journal
left_history worker number one numbered =
    reverse-append one.journal (leaving worker one)
    ∙ ap (λ (list : List Entry). list ++ reverse one.journal)
    (reverse_leaving worker one.plan.number (is_in worker one)
    ∙ ap (λ (n : ℕ). if is_in worker one then leave_by worker n ∷ [] else []) numbered)

left_at : (worker : ℕ) (shards : List JournaledShard) (number : ℕ) → number < length shards →
    shard_at (all_left worker shards) number ≡ left worker (shard_at shards number)
left_at worker [] number below = absurd (omega (arith, below))
left_at worker (first ∷ rest) zero below = refl
left_at worker (first ∷ rest) (suc number) below = left_at worker rest number (omega (arith, below))

all_as_many : (worker : ℕ) (shards : List JournaledShard) → length (all_left worker shards) ≡ length shards
all_as_many worker [] = refl
all_as_many worker (first ∷ rest) = ap suc (all_as_many worker rest)

-- ---- shard after shard

module _ (plan : ℕ → ShardPlan) (count worker : ℕ) (numbered : (number : ℕ) → number < count → (plan number).number ≡ number)
    (staffed : (number : ℕ) → number < count → worker < (plan number).workers) where
  -- it has left those below a number
  record IsLeftBelow (order : List Deed) (pass : PassView) (most : ℕ) : Type 0 where
    order' : List Deed
    pass' : PassView
    more : IsMoreBy (Worker worker) order order'
    sound : IsSound plan count order'
    mine : IsPassOf count (Worker worker) order' pass'
    did : pass'.deeds ≡ all_left_deeds worker pass most ++ pass.deeds
    below : (number : ℕ) → number < most → number < count →
        (made_on number order' ≡ leaving_at worker number (made_on number order) ++ made_on number order)
        × ViewHasLeft (is_inside worker (own_at pass number)) (plan number) number worker (view_at pass number) (view_at pass' number)
    from : (number : ℕ) → most ≤ number → (made_on number order' ≡ made_on number order) × (view_at pass' number ≡ view_at pass number)

  none_left : (order : List Deed) (pass : PassView) → IsSound plan count order → IsPassOf count (Worker worker) order pass → IsLeftBelow order pass 0
  none_left order pass sound mine = record {
    order' = order;
    pass' = pass;
    more = no_more (Worker worker) order;
    sound = sound;
    mine = mine;
    did = refl;
    below = λ number below within. absurd (omega (arith, below));
    from = λ number up. (refl, refl);
  }

  inside_of : (order : List Deed) (pass : PassView) (number : ℕ) → number < count → IsPassOf count (Worker worker) order pass →
      is_inside worker (own_at pass number) ≡ is_inside worker (made_on number order)
  inside_of order pass number within mine = ap (is_inside worker) (mine.own number within) ∙ own_inside worker (made_on number order)

  is_outside : (order : List Deed) (pass : PassView) (most : ℕ) → most < count → IsPassOf count (Worker worker) order pass →
      (was : IsLeftBelow order pass most) → is_inside worker (own_at pass most) ≡ false → IsLeftBelow order pass (suc most)
  is_outside order pass most within mine was outside =
      let there = was.from most (omega arith) in
      let still : is_inside worker (made_on most order) ≡ false = sym (inside_of order pass most within mine) ∙ outside in
      let here : (made_on most was.order' ≡ leaving_at worker most (made_on most order) ++ made_on most order)
      × ViewHasLeft (is_inside worker (own_at pass most)) (plan most) most worker (view_at pass most) (view_at was.pass' most) = (
        there.0 ∙ sym (ap (λ (test : Bool). (if test then leave_by worker most ∷ [] else []) ++ made_on most order) still),
        subst (λ (test : Bool). ViewHasLeft test (plan most) most worker (view_at pass most) (view_at was.pass' most)) (sym outside) there.1,
      ) in
      record {
        order' = was.order';
        pass' = was.pass';
        more = was.more;
        sound = was.sound;
        mine = was.mine;
        did = was.did ∙ ap (λ (test : Bool). (if test then Wrote (leave_by worker most) ∷ [] else []) ++ all_left_deeds worker pass most ++ pass.deeds)
            (sym outside);
        below = λ number below inside. ⊎_elim
            (λ (same : number ≡ most). subst (λ (n : ℕ). (made_on n was.order' ≡ leaving_at worker n (made_on n order) ++ made_on n order)
            × ViewHasLeft (is_inside worker (own_at pass n)) (plan n) n worker (view_at pass n) (view_at was.pass' n)) (sym same) here)
            (λ (apart : number ≡ most → ⊥). was.below number (omega (arith, below, apart)) inside)
            (cases_eq number most);
        from = λ number up. was.from number (omega (arith, up));
      }

  leaves_one : (order : List Deed) (pass : PassView) (most : ℕ) → most < count → IsPassOf count (Worker worker) order pass →
      (was : IsLeftBelow order pass most) → is_inside worker (own_at pass most) ≡ true → IsLeftBelow order pass (suc most)
  leaves_one order pass most within mine was inside =
      let entry : Entry = leave_by worker most in
      let deeds : List Deed = Wrote entry ∷ [] in
      let are : AreBy (Worker worker) most deeds = (record { caller = refl; shard = refl }, tt) in
      let there = was.from most (omega arith) in
      let pass'' : PassView = pass_after most deeds was.order' was.pass' in
      let room : most < length was.pass'.views = subst (λ (n : ℕ). most < n) (sym was.mine.sized) within in
      let newest : made_on most (deeds ++ was.order') ≡ entry ∷ made_on most was.order' = made_here most entry was.order' refl in
      let inside_there : is_inside worker (made_on most was.order') ≡ true =
      ap (is_inside worker) there.0 ∙ sym (inside_of order pass most within mine) ∙ inside in
      let legal : IsLegalHistory (plan most) (made_on most (deeds ++ was.order')) =
      subst (IsLegalHistory (plan most)) (sym newest)
      (legal_leave (plan most) worker most (made_on most was.order') (numbered most within) (staffed most within) inside_there (was.sound.legal most within)) in
      let seen = seen_here most deeds was.order' was.pass' room in
      let served : ViewIsServed (plan most) (view_at pass most) (view_at pass'' most) entry = record {
        earlier = made_on most order;
        seen = seen ∙ newest ∙ ap (λ (history : List Entry). entry ∷ history) there.0;
        begins = mine.begins most within;
        legal = subst (IsLegalHistory (plan most)) (sym seen) legal;
        own = own_here (Worker worker) most deeds was.order' was.pass' was.mine.caller room ∙ ap (own_entries (Worker worker)) newest
            ∙ own_of_maker entry (made_on most was.order')
            ∙ ap (λ (history : List Entry). entry ∷ own_entries (Worker worker) history) there.0
            ∙ ap (λ (history : List Entry). entry ∷ history) (sym (mine.own most within));
      } in
      let is_in_order : is_inside worker (made_on most order) ≡ true = sym (inside_of order pass most within mine) ∙ inside in
      let here : (made_on most (deeds ++ was.order') ≡ leaving_at worker most (made_on most order) ++ made_on most order)
      × ViewHasLeft (is_inside worker (own_at pass most)) (plan most) most worker (view_at pass most) (view_at pass'' most) = (
        newest ∙ ap (λ (history : List Entry). entry ∷ history) there.0
            ∙ sym (ap (λ (test : Bool). (if test then leave_by worker most ∷ [] else []) ++ made_on most order) is_in_order),
        subst (λ (test : Bool). ViewHasLeft test (plan most) most worker (view_at pass most) (view_at pass'' most)) (sym inside) served,
      ) in
      record {
        order' = deeds ++ was.order';
        pass' = pass'';
        more = more_on (Worker worker) order was.order' (deeds ++ was.order') was.more (more_by (Worker worker) most deeds was.order' are);
        sound = sound_after plan count (Worker worker) most deeds was.order' are within legal (tt, was.sound.met) was.sound;
        mine = mine_after count (Worker worker) most deeds was.order' was.pass' are within was.mine;
        did = ap (λ (list : List Deed). Wrote entry ∷ list) was.did
            ∙ ap (λ (test : Bool). (if test then Wrote entry ∷ [] else []) ++ all_left_deeds worker pass most ++ pass.deeds) (sym inside);
        below = λ number below inside_count. ⊎_elim
            (λ (same : number ≡ most). subst (λ (n : ℕ). (made_on n (deeds ++ was.order') ≡ leaving_at worker n (made_on n order) ++ made_on n order)
            × ViewHasLeft (is_inside worker (own_at pass n)) (plan n) n worker (view_at pass n) (view_at pass'' n)) (sym same) here)
            (λ (apart : number ≡ most → ⊥).
            let lower = was.below number (omega (arith, below, apart)) inside_count in (
              made_else (Worker worker) most number deeds was.order' are apart ∙ lower.0,
              subst (λ (view : CallerView). ViewHasLeft (is_inside worker (own_at pass number)) (plan number) number worker (view_at pass number) view)
                  (sym ((elsewhere_same most deeds was.order' was.pass').others number apart)) lower.1,
            ))
            (cases_eq number most);
        from = λ number up.
            let apart : number ≡ most → ⊥ = (λ same. omega (arith, same, up)) in
            let upper = was.from number (omega (arith, up)) in (
              made_else (Worker worker) most number deeds was.order' are apart ∙ upper.0,
              (elsewhere_same most deeds was.order' was.pass').others number apart ∙ upper.1,
            );
      }

  leaves_below : (order : List Deed) (pass : PassView) → IsSound plan count order → IsPassOf count (Worker worker) order pass → (most : ℕ) → most ≤ count →
      IsLeftBelow order pass most
  leaves_below order pass sound mine zero few = none_left order pass sound mine
  leaves_below order pass sound mine (suc most) few = by_test (is_inside worker (own_at pass most)) refl (leaves_below order pass sound mine most (omega (arith, few)))
    where
      by_test : (inside : Bool) → is_inside worker (own_at pass most) ≡ inside → IsLeftBelow order pass most → IsLeftBelow order pass (suc most)
      by_test true is was = leaves_one order pass most (omega (arith, few)) mine was is
      by_test false is was = is_outside order pass most (omega (arith, few)) mine was is

  -- it has left them all
  pub record HasLeft (order : List Deed) (shards : List JournaledShard) (pass : PassView) : Type 0 where
    pub order' : List Deed
    pub pass' : PassView
    pub more : IsMoreBy (Worker worker) order order'
    pub stands : Stands plan count (Worker worker) order' (all_left worker shards) pass'
    pub finished : IsFinishedBy plan count pass pass'

  pub leaves_all : (order : List Deed) (shards : List JournaledShard) (pass : PassView) → Stands plan count (Worker worker) order shards pass →
      HasLeft order shards pass
  leaves_all order shards pass stands =
      let done = leaves_below order pass stands.sound stands.mine count (omega arith) in
      let caller : worker_number pass.who ≡ worker = ap worker_number stands.mine.caller in
      record {
        order' = done.order';
        pass' = done.pass';
        more = done.more;
        stands = record {
          sound = done.sound;
          left = record {
            sized = all_as_many worker shards ∙ stands.left.sized;
            planned = λ number within. ap (λ (one : JournaledShard). one.plan) (at number within) ∙ stands.left.planned number within;
            written = λ number within.
                ap (λ (one : JournaledShard). reverse one.journal) (at number within)
                ∙ left_history worker number (shard_at shards number) (ap (λ (p : ShardPlan). p.number) (stands.left.planned number within) ∙ numbered number within)
                ∙ ap (λ (history : List Entry). leaving_at worker number history ++ history) (stands.left.written number within)
                ∙ sym (done.below number within within).0;
          };
          mine = done.mine;
        };
        finished = record {
          same_caller = done.mine.caller ∙ sym stands.mine.caller;
          left = λ number within.
              subst (λ (w : ℕ). ViewHasLeft (is_inside w (own_at pass number)) (plan number) number w (view_at pass number) (view_at done.pass' number)) (sym caller)
              (done.below number within within).1;
          did = done.did ∙ ap (λ (w : ℕ). all_left_deeds w pass count ++ pass.deeds) (sym caller);
        };
      }
    where
      at : (number : ℕ) → number < count → shard_at (all_left worker shards) number ≡ left worker (shard_at shards number)
      at number within = left_at worker shards number (subst (λ (n : ℕ). number < n) (sym stands.left.sized) within)

  -- ---- a run

  abbrev maps_in : Program → Maps
  maps_in program = record { maps = program.maps; shards = program.shards }

  form_of : (program : Program) (call : Call) (reply : Reply) → IsReplyTo (program_over (maps_in program)) call reply → IsReplyTo program call reply
  form_of program call reply formed = formed

  formed_by_chain : (program : Program) (before after : PassPort) (exchanges : List Exchange) → before.served ≡ maps_in program →
      IsChain (PassGives plan count) before exchanges after → AreFormed program exchanges
  formed_by_chain program before after [] same chain = tt
  formed_by_chain program before after (exchange ∷ later) same chain = (
    form_of program exchange.call exchange.reply
        (subst (λ (served : Maps). IsReplyTo (program_over served) exchange.call exchange.reply) same chain.1.formed),
    formed_by_chain program chain.0 after later (chain.1.same_maps ∙ same) chain.2,
  )

  -- a run that ended, by the worker's pass
  pub record IsRunOfPass (program : Program) (start : MachineState) (order : List Deed) (pass : PassView) (after : List JournaledShard) (verdict : Verdict)
      (steps : ℕ) (frame : FrameView) : Type 0 where
    pub order' : List Deed
    pub pass' : PassView
    pub more : IsMoreBy (Worker worker) order order'
    pub stands : Stands plan count (Worker worker) order' after pass'
    pub run : HasRun program start count worker pass pass' verdict steps frame

  pub ends_by_pass : WritesOwnSessions → (program : Program) (start : MachineState) (order : List Deed) (before after : List JournaledShard)
      (pass : PassView) (verdict : Verdict) (steps : ℕ) (frame : FrameView) → Stands plan count (Worker worker) order before pass →
      ((number : ℕ) → number < count → IsOutsideAt worker pass number) → EndsInTurn program start worker before after verdict steps frame →
      IsRunOfPass program start order pass after verdict steps frame
  ends_by_pass writes program start order before after pass verdict steps frame stands outside ended =
      let ends = ended.ends in
      let chained = chain_steps plan count numbered worker order pass (worker_port program worker before) ended.last ends.exchanges refl stands ends.chain in
      let left = leaves_all chained.order' ended.last.shards chained.pass' chained.stands in
      let first : PassPort = one_port (maps_in program) pass in
      let last : PassPort = one_port ended.last.served chained.pass' in
      record {
        order' = left.order';
        pass' = left.pass';
        more = more_on (Worker worker) order chained.order' left.order' chained.more left.more;
        stands = subst (λ (shards : List JournaledShard). Stands plan count (Worker worker) left.order' shards left.pass')
            (ap (λ (w : ℕ). all_left w ended.last.shards) (sym chained.same_worker) ∙ sym ended.left) left.stands;
        run = record {
          exchanges = ends.exchanges;
          last = ends.last;
          trace = ends.trace;
          formed = formed_by_chain program first last ends.exchanges refl chained.chain;
          counted = ends.steps_done;
          bounded = ends.bounded;
          sent = ends.frame_left;
          sessions = writes plan count worker first last left.pass' ends.exchanges stands.mine.caller outside chained.chain left.finished;
        };
      }

  -- the same of one that a full journal stopped
  pub record IsStopOfPass (program : Program) (start : MachineState) (order : List Deed) (pass : PassView) (after : List JournaledShard) (frame : FrameView)
      (stop : Stop) : Type 0 where
    pub order' : List Deed
    pub pass' : PassView
    pub more : IsMoreBy (Worker worker) order order'
    pub stands : Stands plan count (Worker worker) order' after pass'
    pub run : HasStopped program start plan count worker pass pass' frame stop

  pub stops_by_pass : WritesRefusedOwnSessions → (program : Program) (start : MachineState) (order : List Deed) (before after : List JournaledShard)
      (pass : PassView) (frame : FrameView) (stop : Stop) → Stands plan count (Worker worker) order before pass →
      ((number : ℕ) → number < count → IsOutsideAt worker pass number) → StopsInTurn program start worker before after frame stop →
      IsStopOfPass program start order pass after frame stop
  stops_by_pass writes program start order before after pass frame (JournalFull shard) stands outside stopped =
      let stops = stopped.stops in
      let chained = chain_steps plan count numbered worker order pass (worker_port program worker before) stops.middle stops.exchanges refl stands stops.chain in
      let last = refused_step plan count numbered chained.order' chained.pass' stops.middle stopped.last stops.call
      (subst (λ (w : ℕ). Stands plan count (Worker w) chained.order' stops.middle.shards chained.pass') (sym chained.same_worker) chained.stands) stops.refused in
      let same : stopped.last.worker ≡ worker = stops.refused.same_worker ∙ chained.same_worker in
      let ended : Stands plan count (Worker worker) last.order' stopped.last.shards last.pass' =
      subst (λ (w : ℕ). Stands plan count (Worker w) last.order' stopped.last.shards last.pass') chained.same_worker last.stands in
      let left = leaves_all last.order' stopped.last.shards last.pass' ended in
      let first : PassPort = one_port (maps_in program) pass in
      let middle : PassPort = one_port stops.middle.served chained.pass' in
      let final : PassPort = one_port stopped.last.served last.pass' in
      record {
        order' = left.order';
        pass' = left.pass';
        more = more_on (Worker worker) order chained.order' left.order' chained.more
            (more_on (Worker worker) chained.order' last.order' left.order'
            (subst (λ (w : ℕ). IsMoreBy (Worker w) chained.order' last.order') chained.same_worker last.more) left.more);
        stands = subst (λ (shards : List JournaledShard). Stands plan count (Worker worker) left.order' shards left.pass')
            (ap (λ (w : ℕ). all_left w stopped.last.shards) (sym same) ∙ sym stopped.left) left.stands;
        run = record {
          exchanges = stops.exchanges;
          refused = stops.call;
          named = stops.names_the_shard;
          waiting = stops.waiting;
          trace = stops.trace;
          formed = formed_by_chain program first middle stops.exchanges refl chained.chain;
          kept_back = stops.frame_left;
          sessions = writes plan count worker first middle final left.pass' stops.exchanges stops.call stands.mine.caller outside chained.chain last.refused
              left.finished;
        };
      }
