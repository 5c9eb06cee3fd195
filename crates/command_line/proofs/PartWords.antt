-- Words of parts and of losses: a text that writes a number has no slash and no at sign, so a word is K/N, or J@RECORD, in one way.
use Rattle.std.proofs.Common.{◌≡◌, ◌∙◌, ◌++◌, ◌∷◌, ◌==◌, ◌<◌, ◌≤◌, ◌^◌, ℕ, zero, suc, Bool, true, false, List, [], Option, Some, None, arith, ap, drop, get_or, length, refl, subst, sym, true≢false}
use Rattle.std.specs.Prelude.{◌≢◌, MatchOption}
use Rattle.std.specs.Str.Parse.{IsNumeral, digits_value, without_leading_plus}
use Rattle.std.proofs.lemmas.Bool.{eq-eqb, eqb-true}
use Rattle.std.proofs.lemmas.Str.Parse.{digit_at, without_leading_plus_none, without_leading_plus_plus}
use mathlib.Core.Logic.{◌⊎◌, inl, inr, ⊎_elim}
use Rattle.fleet.specs.declared.part.Loss.{Loss}
use Rattle.fleet.specs.declared.part.Part.{Part}
use Rattle.std.proofs.lemmas.Option.{none-some, same_Some}
use Rattle.command_line.specs.Reading.{AsksNoLoss, HasLoss, IsLossAsked, IsLossWord, IsNoLossWord, IsNoPartWord, IsPartAsked, IsPartWord, Writes}

-- no byte of the text is the sign
abbrev pub Lacks : ℕ → List ℕ → Type 0
Lacks sign text = (place : ℕ) → place < length text → get_or text place 0 ≢ sign

-- the sign is no digit, and no plus
abbrev pub IsApart : ℕ → Type 0
IsApart sign = ((sign < 48) ⊎ (57 < sign)) × (43 ≢ sign)

module _ (sign : ℕ) (apart : IsApart sign) where
  digits_lack : (text : List ℕ) → IsNumeral 10 text → Lacks sign text
  digits_lack text digits place within e =
      let digit = digit_at text place digits.1 within in ⊎_elim (λ low. omega (arith, digit, e, low)) (λ high. omega (arith, digit, e, high)) apart.0

  more_lack : (byte : ℕ) (rest : List ℕ) → byte ≢ sign → Lacks sign rest → Lacks sign (byte ∷ rest)
  more_lack byte rest differs lacks zero within = differs
  more_lack byte rest differs lacks (suc place) within = lacks place (omega (arith, within))

  pub number_lacks : (text : List ℕ) (number : ℕ) → Writes text number → Lacks sign text
  number_lacks [] number writes = λ place within. absurd (omega (arith, within))
  number_lacks (byte ∷ rest) number writes = by (byte == 43) refl
    where
      by : (test : Bool) → (byte == 43) ≡ test → Lacks sign (byte ∷ rest)
      by true is =
          let plus : byte ≡ 43 = eqb-true byte 43 is in
          more_lack byte rest (λ e. apart.1 (sym plus ∙ e)) (digits_lack rest (subst (IsNumeral 10) (without_leading_plus_plus (byte ∷ rest) plus) writes.0))
      by false is = digits_lack (byte ∷ rest)
          (subst (IsNumeral 10) (without_leading_plus_none (byte ∷ rest) (λ e. true≢false (sym (eq-eqb byte 43 e) ∙ is))) writes.0)

pub slash_apart : IsApart 47
slash_apart = (inl (omega arith), λ same. omega (arith, same))

pub at_apart : IsApart 64
at_apart = (inr (omega arith), λ same. omega (arith, same))

-- ---- parts

abbrev pub NoNumbers : List ℕ → List ℕ → Type 0
NoNumbers before after = (number of : ℕ) → number < of → of < 2 ^ 32 → Writes before number → ¬ Writes after of

abbrev pub Numbers : List ℕ → List ℕ → Part → Type 0
Numbers before after part = Writes before part.number × Writes after part.of × (part.number < part.of) × (part.of < 2 ^ 32) × (part.lost ≡ None)

-- two texts that write numbers say the part of these
pub numbers_said : (before after : List ℕ) (number of : ℕ) (result : Option Part) → Writes before number → Writes after of
    → MatchOption result (of ≤ number) (λ part. (part.number ≡ number) × (part.of ≡ of) × (number < of) × (of < 2 ^ 32) × (part.lost ≡ None))
    → MatchOption result (NoNumbers before after) (Numbers before after)
numbers_said before after number of None first second none = λ other count lt fits writes writes'.
    let same : number ≡ other = sym first.1 ∙ writes.1 in
    let same' : of ≡ count = sym second.1 ∙ writes'.1 in
    omega (arith, none, lt, same, same')
numbers_said before after number of (Some part) first second is = (
  subst (Writes before) (sym is.0) first,
  subst (Writes after) (sym is.1) second,
  omega (arith, is.0, is.1, is.2),
  omega (arith, is.1, is.3),
  is.4,
)

-- a word that is cut at its slash is that of the part whose numbers its parts write
pub word_said : (word before after : List ℕ) (result : Option Part) → word ≡ before ++ 47 ∷ after
    → ((first second : List ℕ) → word ≡ first ++ 47 ∷ second → Lacks 47 first → (before ≡ first) × (after ≡ second))
    → MatchOption result (NoNumbers before after) (Numbers before after)
    → MatchOption result (IsNoPartWord word) (λ part. IsPartWord word part.number part.of × (part.lost ≡ None))
word_said word before after None cut same none = λ number of is.
    let parts = same is.before is.after is.split (number_lacks 47 slash_apart is.before number is.first) in
    none number of is.within is.fits (subst (λ (text : List ℕ). Writes text number) (sym parts.0) is.first)
    (subst (λ (text : List ℕ). Writes text of) (sym parts.1) is.second)
word_said word before after (Some part) cut same is =
    (record { before = before; after = after; split = cut; first = is.0; second = is.1; within = is.2; fits = is.3 }, is.4)

-- ---- losses

abbrev pub NoLosing : ℕ → List ℕ → List ℕ → Type 0
NoLosing of before after = (part from : ℕ) → part < of → 1 < of → from < 2 ^ 32 → Writes before part → ¬ Writes after from

abbrev pub Losing : ℕ → List ℕ → List ℕ → Loss → Type 0
Losing of before after loss = Writes before loss.part × Writes after loss.from × (loss.part < of) × (1 < of) × (loss.from < 2 ^ 32)

-- two texts that write numbers say the loss of these
pub loss_of : (before after : List ℕ) (part from of : ℕ) (result : Option Loss) → Writes before part → Writes after from
    → MatchOption result ((of ≤ part) ⊎ (of ≤ 1)) (λ loss. (loss.part ≡ part) × (loss.from ≡ from) × (part < of) × (1 < of) × (from < 2 ^ 32))
    → MatchOption result (NoLosing of before after) (Losing of before after)
loss_of before after part from of None first second none = λ other then lt two fits writes writes'.
    let same : part ≡ other = sym first.1 ∙ writes.1 in
    ⊎_elim (λ none. omega (arith, none, lt, same)) (λ none. omega (arith, none, two)) none
loss_of before after part from of (Some loss) first second is = (
  subst (Writes before) (sym is.0) first,
  subst (Writes after) (sym is.1) second,
  omega (arith, is.0, is.2),
  is.3,
  omega (arith, is.1, is.4),
)

-- a word that is cut at its at sign is that of the loss whose numbers its parts write
pub loss_word_said : (word before after : List ℕ) (of : ℕ) (result : Option Loss) → word ≡ before ++ 64 ∷ after
    → ((first second : List ℕ) → word ≡ first ++ 64 ∷ second → Lacks 64 first → (before ≡ first) × (after ≡ second))
    → MatchOption result (NoLosing of before after) (Losing of before after) → MatchOption result (IsNoLossWord word of) (IsLossWord word of)
loss_word_said word before after of None cut same none = λ loss is.
    let parts = same is.before is.after is.split (number_lacks 64 at_apart is.before loss.part is.first) in
    none loss.part loss.from is.within is.others is.fits (subst (λ (text : List ℕ). Writes text loss.part) (sym parts.0) is.first)
    (subst (λ (text : List ℕ). Writes text loss.from) (sym parts.1) is.second)
loss_word_said word before after of (Some loss) cut same is = record {
  before = before;
  after = after;
  split = cut;
  first = is.0;
  second = is.1;
  within = is.2;
  others = is.3;
  fits = is.4;
}

-- ---- what is asked

-- the same part with a loss is asked for by the part's word
pub still_asked : (asked : Option (List ℕ)) (part losing : Part) → losing.number ≡ part.number → losing.of ≡ part.of
    → IsPartAsked asked (Some part) → IsPartAsked asked (Some losing)
still_asked None part losing number of is = absurd (none-some part (sym is))
still_asked (Some word) part losing number of says =
    let same : part ≡ says.said = same_Some part says.said says.part_is in
    record {
      said = losing;
      part_is = refl;
      spelled = subst (λ (n : ℕ). IsPartWord word n losing.of) (ap (λ (p : Part). p.number) (sym same) ∙ sym number)
          (subst (λ (n : ℕ). IsPartWord word says.said.number n) (ap (λ (p : Part). p.of) (sym same) ∙ sym of) says.spelled);
    }

-- and the loss by its own
pub loss_asked : (lost : Option (List ℕ)) (word : List ℕ) (losing : Part) → lost ≡ Some word → HasLoss word losing → IsLossAsked lost (Some losing)
loss_asked lost word losing is has =
    subst (λ (it : Option (List ℕ)). IsLossAsked it (Some losing)) (sym is) (record { losing = losing; part_is = refl; with_loss = has })

-- a word that is that of no loss of the part that is asked for
pub no_loss_asked : (asked lost : Option (List ℕ)) (word : List ℕ) (part : Part) → lost ≡ Some word → IsPartAsked asked (Some part)
    → IsNoLossWord word part.of → AsksNoLoss asked lost word
no_loss_asked None lost word part given is none = absurd (none-some part (sym is))
no_loss_asked (Some part_word) lost word part given says none =
    let same : part ≡ says.said = same_Some part says.said says.part_is in
    record {
      part_word = part_word;
      number = says.said.number;
      of = says.said.of;
      part_given = refl;
      part_spelled = says.spelled;
      given = given;
      none = subst (IsNoLossWord word) (ap (λ (p : Part). p.of) same) none;
    }
