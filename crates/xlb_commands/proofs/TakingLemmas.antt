-- What is taken of a capture, one piece after another.
use Rattle.std.proofs.Common.{◌≡◌, ◌∙◌, ◌+◌, ◌++◌, ◌∷◌, ◌≤◌, ◌==◌, inl, inr, true, ℕ, Bool, cond, List, [], Option, Some, None, ap, append_assoc, append-nil, arith, length, length-append, map, refl, subst, sym}
use Rattle.std.specs.List.{AllByRecursion}
use Rattle.std.proofs.lemmas.Bool.{eqb-true}
use Rattle.std.proofs.lemmas.List.{length-map}
use Rattle.wire.specs.declared.records.Sent.{Sent}
use Rattle.control.specs.declared.command.Command.{Command}
use Rattle.control.specs.Renumbering.{at_frames}
use Rattle.fleet.specs.declared.numbering.Numbering.{Numbering}
use Rattle.fleet.specs.declared.part.Part.{Part}
use Rattle.fleet.specs.Numbers.{AreNumbered}
use Rattle.fleet.specs.Parts.{filter_at, is_in_part, number_in_part}
use Rattle.fleet.proofs.shared.PartLemmas.{number_before, of_pieces, part_of_pieces}
use Rattle.xlb_commands.specs.Parts.{command_frames, records_in, records_next, script_in}
use Rattle.xlb_commands.specs.declared.taking.Taking.{Taking}
use Rattle.xlb_commands.specs.declared.taking.Taking.TheVariants.{All, Of}
use Rattle.xlb_commands.specs.Taking.{AreNumbers, AreRecordsTaken, GoesPast, HasPassed, IsPartway, script_at}

pub none_taken : (part : Option Part) → records_in part [] ≡ []
none_taken None = refl
none_taken (Some part) = refl

-- what is taken of the records of a piece depends on how many come before
pub taken_both : (part : Option Part) (xs ys : List Sent) (count : ℕ) → count ≡ length xs
    → records_in part (xs ++ ys) ≡ records_in part xs ++ records_next part count ys
taken_both None xs ys count counted = refl
taken_both (Some part) xs ys count counted =
    part_of_pieces part.of part.lost part.number xs ys
    ∙ ap (λ (n : ℕ). records_in (Some part) xs ++ records_next (Some part) n ys) (sym counted)

further : (place more past : ℕ) → place + more + past ≡ place + (past + more)
further place more past = omega arith

-- and so of the next records behind so many
next_both : (part : Option Part) (past : ℕ) (xs ys : List Sent)
    → records_next part past (xs ++ ys) ≡ records_next part past xs ++ records_next part (past + length xs) ys
next_both None past xs ys = refl
next_both (Some part) past xs ys =
    of_pieces (λ place. is_in_part part.of part.lost part.number (place + past)) xs ys
    ∙ ap (λ (test : ℕ → Sent → Bool). records_next (Some part) past xs ++ filter_at test ys)
    (λ i place. is_in_part part.of part.lost part.number (further place (length xs) past i))

-- ---- records that are passed, one after another

pub past_none : (taking : Taking) → GoesPast taking taking []
past_none taking = λ part frames past passed. subst (λ (them : List Sent). HasPassed part frames them taking) (sym (append-nil past)) passed

pub past_both : (before between after : Taking) (xs ys : List Sent) → GoesPast before between xs → GoesPast between after ys
    → GoesPast before after (xs ++ ys)
past_both before between after xs ys first second = λ part frames past passed.
    subst (λ (them : List Sent). HasPassed part frames them after) (append_assoc past xs ys) (second part frames (past ++ xs) (first part frames past passed))

pub taken_none : (taking : Taking) → AreRecordsTaken taking [] []
taken_none taking = λ part frames past passed. none_next part (length past)
  where
    none_next : (part : Option Part) (past : ℕ) → [] ≡ records_next part past []
    none_next None past = refl
    none_next (Some part) past = refl

pub taken_of_both : (before between : Taking) (xs ys these those : List Sent) → GoesPast before between xs → AreRecordsTaken before xs these
    → AreRecordsTaken between ys those → AreRecordsTaken before (xs ++ ys) (these ++ those)
taken_of_both before between xs ys these those gone first second = λ part frames past passed.
    let later = second part frames (past ++ xs) (gone part frames past passed) in
    ap (λ (them : List Sent). them ++ those) (first part frames past passed)
    ∙ ap (λ (them : List Sent). records_next part (length past) xs ++ them) (later ∙ ap (λ (n : ℕ). records_next part n ys) (length-append past xs))
    ∙ sym (next_both part (length past) xs ys)

none_before : (n : ℕ) → n ≡ 0 + n
none_before n = omega arith

-- the next record is taken if it is in the part
pub one_taken : (part : Option Part) (frames own : List ℕ) (past : List Sent) (n : Numbering) (taken : Bool) (sent : Sent)
    → taken ≡ is_in_part n.part.of n.part.lost n.part.number n.passed sent → IsPartway part frames past own n
    → cond taken (sent ∷ []) [] ≡ records_next part (length past) (sent ∷ [])
one_taken part frames own past n taken sent is way =
    ap (λ (b : Bool). cond b (sent ∷ []) [])
    (is ∙ ap (λ (k : ℕ). is_in_part n.part.of n.part.lost n.part.number k sent) (way.numbered.passed ∙ none_before (length past)))
    ∙ ap (λ (it : Option Part). records_next it (length past) (sent ∷ [])) (sym way.part_is)

-- ---- the numbers of commands, behind some records of which a part is taken

pub on_the_way : (part : Option Part) (frames own : List ℕ) (past : List Sent) (n : Numbering) → IsPartway part frames past own n → AreNumbered own past n
on_the_way part frames own past n way = subst (λ (them : List ℕ). AreNumbered them past n) (sym way.frames_are) way.numbered

-- behind the last record the numbers that are found are those in the part
pub numbers_found : (part : Option Part) (frames own held items : List ℕ) (past : List Sent) (n : Numbering) → held ≡ own
    → IsPartway part frames past own n
    → (AreNumbered held past n → items ≡ map (number_in_part n.part.of n.part.lost n.part.number past) held)
    → items ≡ map (number_in_part n.part.of n.part.lost n.part.number past) frames
numbers_found part frames own held items past n same way found =
    found (subst (λ (them : List ℕ). AreNumbered them past n) (sym same) (on_the_way part frames own past n way))
    ∙ ap (map (number_in_part n.part.of n.part.lost n.part.number past)) (same ∙ way.frames_are)

pub numbers_are : (part : Option Part) (frames own held items : List ℕ) (past : List Sent) (n : Numbering) → held ≡ own
    → IsPartway part frames past own n
    → (AreNumbered held past n → items ≡ map (number_in_part n.part.of n.part.lost n.part.number past) held)
    → AreNumbers part frames past items
numbers_are part frames own held items past n same way found =
    subst (λ (it : Option Part). AreNumbers it frames past items) (sym way.part_is) (numbers_found part frames own held items past n same way found)

-- ---- the script of the part

-- the commands at their numbers are those of the part
pub script_is : (part : Option Part) (records : List Sent) (numbers : List ℕ) (script : List Command)
    → AreNumbers part (command_frames script) records numbers → script_in part records script ≡ script_at part numbers script
script_is None records numbers script are = refl
script_is (Some part) records numbers script are = ap (λ (them : List ℕ). at_frames them script) (sym are)

-- where all records are taken, no numbers are asked for
pub numbers_of_all : (part : Option Part) (frames numbers : List ℕ) (records : List Sent) → part ≡ None → AreNumbers part frames records numbers
numbers_of_all part frames numbers records none = subst (λ (it : Option Part). AreNumbers it frames records numbers) (sym none) tt

-- and the script is as it is
pub script_of_all : (part : Option Part) (numbers : List ℕ) (script : List Command) → part ≡ None → script ≡ script_at part numbers script
script_of_all part numbers script none = subst (λ (it : Option Part). script ≡ script_at it numbers script) (sym none) refl

-- of a part it has these numbers
pub script_of_one : (part : Option Part) (numbers : List ℕ) (script : List Command) → ((one : Part) × (part ≡ Some one))
    → at_frames numbers script ≡ script_at part numbers script
script_of_one part numbers script some = subst (λ (it : Option Part). at_frames numbers script ≡ script_at it numbers script) (sym some.1) refl
