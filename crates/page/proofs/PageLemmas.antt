-- The page of rows from what its parts were made of.
use Rattle.std.proofs.Common.{◌≡◌, ◌∙◌, List, ℕ, ap}
use Rattle.control.specs.declared.command.Command.{Command}
use Rattle.page.specs.Commands.{later_ones}
use Rattle.page.specs.Named.{named_keys}
use Rattle.page.specs.Page.{page_at, page_of_moments}
use Rattle.page.specs.Tallies.{earliest, latest}

pub same_page : (rows : List (List ℕ)) (commands later : List Command) (text named there listed said shares one two three moments : List ℕ)
    (first last : ℕ) → text ≡ page_at named there said rows commands later three first last → later ≡ later_ones commands
    → named ≡ named_keys listed → there ≡ listed → said ≡ shares → first ≡ earliest one
    → last ≡ latest two → one ≡ moments → two ≡ moments → three ≡ moments → text ≡ page_of_moments listed shares rows commands moments
same_page rows commands later text named there listed said shares one two three moments first last a l n b s c d e f g =
    let after : List Command = later_ones commands in
    let names : List ℕ = named_keys listed in
    a
    ∙ (ap (λ (it : List Command). page_at named there said rows commands it three first last) l
    ∙ (ap (λ (it : List ℕ). page_at it there said rows commands after three first last) n
    ∙ (ap (λ (it : List ℕ). page_at names it said rows commands after three first last) b
    ∙ (ap (λ (it : List ℕ). page_at names listed it rows commands after three first last) s
    ∙ (ap (λ (it : List ℕ). page_at names listed shares rows commands after it first last) g
    ∙ (ap (λ (it : ℕ). page_at names listed shares rows commands after moments it last) (c ∙ ap earliest e)
    ∙ ap (λ (it : ℕ). page_at names listed shares rows commands after moments (earliest moments) it) (d ∙ ap latest f)))))))
