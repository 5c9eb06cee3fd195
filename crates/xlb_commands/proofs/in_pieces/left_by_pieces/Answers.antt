use Rattle.std.proofs.Common.{◌≡◌, ◌∙◌, ◌⊎◌, inl, inr, ℕ, List, [], Option, sym}
use Rattle.std.proofs.lemmas.Result.{err_from_is_err_and}
use Rattle.actors.specs.declared.fault.ReplayFault.TheVariants as replays
use Rattle.xlb_commands.specs.declared.fault.Fault.{Fault}
use Rattle.xlb_commands.specs.declared.fault.Fault.TheVariants as faults
use Rattle.xlb_commands.specs.Parts.{records_in}
use Rattle.xlb_commands.specs.Refused.{LacksRoom}
use Rattle.xlb_commands.proofs.TakingLemmas.{script_is}
use Rattle.xlb_commands.proofs.in_pieces.left_by_pieces.Goals as goal

pub left_in_pieces-requires-clause-underway : goal.left_in_pieces-requires-clause-underway
left_in_pieces-requires-clause-underway g c =
    let gone = (rw c.in-Some.is at c.in_ok-altered.ensures.gone) in
    record {
      records = records_in c.args.asked.part gone.numbered.captured;
      sent = gone.have_run.sent;
      ends = gone.have_run.ends;
      underway = gone.have_run.run c.args.asked.updates.now [] [] [] c.requires.underway;
    }

-- nothing was left: memory was refused for the replay's end, or the replay was made
not_left : (unserved numbered ended made : Type 0) (journals : Option (List ℕ)) (fault : Fault) → numbered → (ended → made)
    → ((fault ≡ faults.Replay replays.Memory) ⊎ (ended × LacksRoom journals fault))
    → unserved ⊎ numbered × (fault ≡ faults.Replay replays.Memory) ⊎ made × LacksRoom journals fault
not_left unserved numbered ended made journals fault are so (inl is) = inr (inl (are, is))
not_left unserved numbered ended made journals fault are so (inr both) = inr (inr (so both.0, both.1))

pub returns-in_err-altered-clause-refused : goal.returns-in_err-altered-clause-refused
returns-in_err-altered-clause-refused g c =
    let p = err_from_is_err_and c.from_residual.result c.from_residual.ensures.1 in
    rw (p.1, p.2) (inl c.in_err-altered.ensures.refused)

pub returns-in_err-left-clause-refused : goal.returns-in_err-left-clause-refused
returns-in_err-left-clause-refused g c =
    let gone = (rw c.in-Some.is at c.in_ok-altered.ensures.gone) in
    let p = err_from_is_err_and c.from_residual-in_err-left.result c.from_residual-in_err-left.ensures.1 in
    rw (p.1, p.2)
    (not_left _ _ _ _ _ _ gone.numbered
    (λ ended.
    let captured = gone.numbered.captured in
    let made = ended (records_in c.args.asked.part captured) gone.have_run.sent gone.have_run.ends
    (gone.have_run.run c.args.asked.updates.now [] [] [] c.requires.underway) in
    record {
      captured = captured;
      capture = gone.numbered.capture;
      script_is = script_is c.args.asked.part captured c.args.whole.numbers.now c.args.whole.script.now gone.numbered.numbers_are ∙ sym c.requires.script;
      outcome = made.0;
      made = made.1;
    })
    c.in_err-left.ensures.refused)

pub returns-clause-left : goal.returns-clause-left
returns-clause-left g c =
    let gone = (rw c.in-Some.is at c.in_ok-altered.ensures.gone) in
    let captured = gone.numbered.captured in
    record {
      captured = captured;
      sent = gone.have_run.sent;
      ends = gone.have_run.ends;
      capture = gone.numbered.capture;
      script_is = script_is c.args.asked.part captured c.args.whole.numbers.now c.args.whole.script.now gone.numbered.numbers_are ∙ sym c.requires.script;
      added = gone.have_run.added;
      told = (gone.have_run.told c.args.asked.updates.now [] [] [] c.requires.underway).1;
      made_of = c.in_ok-left.ensures.left (records_in c.args.asked.part captured) gone.have_run.sent gone.have_run.ends
          (gone.have_run.run c.args.asked.updates.now [] [] [] c.requires.underway) gone.have_run.captured;
    }
