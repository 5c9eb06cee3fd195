-- The lines of the shares, one backend after the other.
use Rattle.std.proofs.Common.{◌≡◌, ℕ, suc, ◌+◌, ◌++◌, List, length, refl, sym, ◌∙◌, ap, arith, append_assoc}
use Rattle.maglev.specs.Population.{share_of}
use Rattle.traffic.specs.Shares.{share_at}
use Rattle.traffic.specs.LastShares.{share_line, shares_below}

one_below : (words records : List ℕ) (number : ℕ) →
    shares_below words records (suc number)
    ≡ shares_below words records number ++ share_line (share_of (number + 1) words) (length words) number (share_at records number)
unfolding shares_below
one_below words records number = refl

-- the lines below a number, and that of the number
pub shares_more : (words records : List ℕ) (number share size address : ℕ) (first before after : List ℕ) → before ≡ first ++ shares_below words records number
    → after ≡ before ++ share_line share size number address → share ≡ share_of (number + 1) words → size ≡ length words → address ≡ share_at records number
    → after ≡ first ++ shares_below words records (number + 1)
shares_more words records number share size address first before after known more share_is size_is address_is =
    let on : number + 1 ≡ suc number = omega arith in
    let line : share_line share size number address ≡ share_line (share_of (number + 1) words) (length words) number (share_at records number) =
    ap (λ (n : ℕ). share_line n size number address) share_is
    ∙ (ap (λ (n : ℕ). share_line (share_of (number + 1) words) n number address) size_is
    ∙ ap (λ (n : ℕ). share_line (share_of (number + 1) words) (length words) number n) address_is) in
    more
    ∙ (ap (λ (t : List ℕ). t ++ share_line share size number address) known
    ∙ (append_assoc first (shares_below words records number) (share_line share size number address)
    ∙ ap (λ (t : List ℕ). first ++ t) (ap (λ (t : List ℕ). shares_below words records number ++ t) line
    ∙ (sym (one_below words records number) ∙ ap (shares_below words records) (sym on)))))
