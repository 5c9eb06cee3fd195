use Rattle.std.proofs.Common.{◌≡◌, ◌≢◌, ℕ, List, Bool, Some, rules, ap, subst, sym}
use Rattle.std.specs.Borrow.{Bor}
use Rattle.command_line.specs.declared.commands.Settings.{Settings}
use Rattle.command_line.specs.declared.commands.Settings.TheVariants.{Asm, Run, Replay}
use Rattle.xlb_commands.specs.Clashes.{AreApart}
use Rattle.xlb_commands.proofs.clashes.clash_of.Goals as goal

asm_apart : (settings : Settings) (text out : Bor (List ℕ)) (source : Bool) → settings ≡ Asm text out source
    → ((written other : List ℕ) → written ≡ out.now → other ≡ text.now → written ≢ other) → AreApart settings
asm_apart settings text out source is apart =
    subst (λ (it : Settings). AreApart it) (sym is) (λ written other over. apart written other over.0 over.1)

pub returns-in-Asm-clause-none : goal.returns-in-Asm-clause-none
returns-in-Asm-clause-none g c = λ none.
    let is : c.args.settings.now ≡ Asm c.in-Asm.text c.in-Asm.out c.in-Asm.source = search rules in
    asm_apart c.args.settings.now c.in-Asm.text c.in-Asm.out c.in-Asm.source is
    (λ written other first second.
    c.over.ensures.none none written other (ap (λ (it : List ℕ). Some it) (sym first)) (ap (λ (it : List ℕ). Some it) (sym second)))

pub returns-in-Run-clause-none : goal.returns-in-Run-clause-none
returns-in-Run-clause-none g c = λ none.
    let is : c.args.settings.now ≡ Run c.in-Run.files c.in-Run.now c.in-Run.worker c.in-Run.updates = search rules in
    subst (λ (it : Settings). AreApart it) (sym is) (λ written other over. c.over_in_run.ensures.none none written other over)

pub returns-in-Replay-clause-none : goal.returns-in-Replay-clause-none
returns-in-Replay-clause-none g c = λ none.
    let is : c.args.settings.now ≡ Replay c.in-Replay.asked = search rules in
    subst (λ (it : Settings). AreApart it) (sym is) (λ written other over. c.over_in_replay.ensures.none none written other over)
