use Rattle.std.proofs.Common.{arith, ◌≡◌, ◌∙◌, ◌<◌, ℕ, zero, suc, List, [], ◌∷◌, ap, refl, sym, length, take, fold, get_or, add-one}
use Rattle.traffic.specs.Holders.{holder_among}
use Rattle.xlb_commands.specs.RecordReports.{named_in}
use Rattle.xlb_commands.proofs.record_report.backends_in.Goals as goal

-- what is gathered from one member more
fold_next : {A B : Type 0} (f : B → A → B) (b : B) (xs : List A) (index : ℕ) (d : A) → index < length xs
    → fold f b (take (suc index) xs) ≡ f (fold f b (take index xs)) (get_or xs index d)
fold_next f b [] index d inside = absurd (omega arith)
fold_next f b (x ∷ xs) zero d inside = refl
fold_next f b (x ∷ xs) (suc index) d inside = fold_next f (f b x) xs index d (omega arith)

pub commands-preserved : goal.commands-preserved
commands-preserved c = λ address.
    c.in_ok-name_in.ensures (fold named_in [] (take c.commands.command-index c.args.script.now)) c.commands.invariant address
    ∙ ap (λ (backends : List (ℕ × ℕ)). holder_among address backends) (sym (
    ap (λ (n : ℕ). fold named_in [] (take n c.args.script.now)) (add-one c.commands.command-index)
    ∙ fold_next named_in [] c.args.script.now c.commands.command-index _ c.commands-test.true))
