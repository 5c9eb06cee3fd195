-- Commands at other frames, one more at a time.
use Rattle.std.proofs.Common.{◌≡◌, ℕ, zero, suc, ◌+◌, ◌<◌, List, [], ◌∷◌, ◌++◌, length, take, get_or, refl, ap, ◌∙◌, arith}
use Rattle.std.specs.Prelude.{slice_index}
use Rattle.std.specs.List.{AllByRecursion}
use Rattle.control.specs.declared.command.Command.{Command}
use Rattle.control.specs.ScriptText.{CommandFits}
use Rattle.control.specs.Renumbering.{at_frame, at_frames}

one_more : (place : ℕ) (frames : List ℕ) (commands : List Command) (default : Command) → place < length frames → place < length commands
    → at_frames (take (suc place) frames) (take (suc place) commands)
    ≡ at_frames (take place frames) (take place commands) ++ at_frame (slice_index frames place) (get_or commands place default) ∷ []
one_more place [] commands default within within' = absurd (omega (arith, within))
one_more place (frame ∷ frames) [] default within within' = absurd (omega (arith, within'))
one_more zero (frame ∷ frames) (command ∷ commands) default within within' = refl
one_more (suc place) (frame ∷ frames) (command ∷ commands) default within within' =
    ap (λ (made : List Command). at_frame frame command ∷ made)
    (one_more place frames commands default (omega (arith, within)) (omega (arith, within')))

-- one command more
pub at_frames_more : (place : ℕ) (frames : List ℕ) (commands : List Command) (default : Command) → place < length frames
    → place < length commands → at_frames (take (place + 1) frames) (take (place + 1) commands)
    ≡ at_frames (take place frames) (take place commands) ++ at_frame (slice_index frames place) (get_or commands place default) ∷ []
at_frames_more place frames commands default within within' =
    let next : place + 1 ≡ suc place = omega arith in
    ap (λ (n : ℕ). at_frames (take n frames) (take n commands)) next ∙ one_more place frames commands default within within'

pub fit_more : (commands : List Command) (command : Command) → AllByRecursion CommandFits commands → CommandFits command
    → AllByRecursion CommandFits (commands ++ command ∷ [])
fit_more [] command fit one = (one, tt)
fit_more (first ∷ commands) command fit one = (fit.0, fit_more commands command fit.1 one)
