-- The flag that says whether a worker is inside, when it makes a call.
use Rattle.std.proofs.Common.{◌≡◌, ℕ, Bool, List, ◌∷◌, length, eq-eqb, refl, sym, ap, ◌∙◌, subst}
use Rattle.std.specs.Prelude.{Option, is_some, if◌then◌else◌, Result, Ok, Err, IfOk, OnErr}
use Rattle.semantics.specs.declared.call.Caller.{Caller}
use Rattle.semantics.specs.declared.call.Caller.TheVariants.{Worker, Controller, Reclaimer}
use Rattle.semantics.specs.declared.call.Call.{Call}
use Rattle.semantics.specs.declared.call.Reply.{Reply}
use Rattle.semantics.specs.declared.call.Entry.{Entry}
use Rattle.semantics.specs.declared.call.SectionChange.{SectionChange}
use Rattle.semantics.specs.declared.call.SectionChange.TheVariants.{Begins, Ends, Stays}
use Rattle.semantics.specs.declared.full.JournalFull.{JournalFull}
use Rattle.semantics.specs.declared.plan.ShardPlan.{ShardPlan}
use Rattle.semantics.specs.Sections.{section_change}
use Rattle.semantics.specs.Reclamation.{is_inside, entered_at, entered_where}
use Rattle.shards.specs.CallerView.{CallerView, ViewIsServed, ViewIsRefused}
use Rattle.shards.specs.ShardPasses.{IsFlagOf}
use Rattle.shards.specs.Passes.{after_section, flag_after}

by_change : (change : SectionChange) (place : ℕ) (before : Option ℕ) → is_some (entered_where change place before) ≡ after_section change (is_some before)
by_change Begins place before = refl
by_change Ends place before = refl
by_change Stays place before = refl

inside_after : (number : ℕ) (call : Call) (reply : Reply) (own : List Entry) →
    is_inside number ((record { who = Worker number; call = call; reply = reply }) ∷ own) ≡ after_section (section_change call) (is_inside number own)
inside_after number call reply own =
    ap (λ (mine : Bool). is_some (if mine then entered_where (section_change call) (length own) (entered_at number own) else entered_at number own)) (eq-eqb number number refl)
    ∙ by_change (section_change call) (length own) (entered_at number own)

flag_one : (who : Caller) (call : Call) (reply : Reply) (own own' : List Entry) (flag : Bool) → own' ≡ (record { who = who; call = call; reply = reply }) ∷ own →
    IsFlagOf who own flag → IsFlagOf who own' (after_section (section_change call) flag)
flag_one (Worker number) call reply own own' flag grown is =
    ap (after_section (section_change call)) is ∙ sym (inside_after number call reply own) ∙ ap (is_inside number) (sym grown)
flag_one Controller call reply own own' flag grown is = tt
flag_one Reclaimer call reply own own' flag grown is = tt

pub flag_moves : {A : Type 0} (answer : Result A JournalFull) (plan : ShardPlan) (who : Caller) (call : Call) (replies : A → Reply) (before after : CallerView) (flag : Bool) →
    IfOk answer (λ a. ViewIsServed plan before after (record { who = who; call = call; reply = replies a })) → OnErr answer (ViewIsRefused plan before after call) →
    IsFlagOf who before.own flag → IsFlagOf who after.own (flag_after answer (section_change call) flag)
flag_moves (Ok a) plan who call replies before after flag served refused is = flag_one who call (replies a) before.own after.own flag served.own is
flag_moves (Err full) plan who call replies before after flag served refused is = subst (λ (own : List Entry). IsFlagOf who own flag) (sym refused.own) is
