-- The script of a timed script, line by line.
use Rattle.std.proofs.Common.{◌≡◌, ℕ, ◌+◌, ◌<◌, ◌≤◌, List, [], ◌∷◌, ◌++◌, length, Option, Some, None, refl, sym, ap, subst, ◌∙◌, arith, append_assoc, append-nil, length-append}
use Rattle.std.specs.Prelude.{ℤ}
use Rattle.std.specs.List.{flat_map, AllByRecursion}
use Rattle.std.proofs.Common.{inl}
use Rattle.wire.specs.declared.records.Sent.{Sent}
use Rattle.text_lines.specs.Lines.{Lacks, ended}
use Rattle.control.specs.declared.command.Command.{Command}
use Rattle.control.specs.declared.fault.ControlFault.TheVariants.{BadLine}
use Rattle.control.specs.ScriptText.{CommandFits, NeverFalls, script_text}
use Rattle.timed_scripts.specs.Cutting.{cut_at}
use Rattle.timed_scripts.specs.Moments.{records_before}
use Rattle.timed_scripts.specs.TimedLines.{Meaning, nothing, does, Says, AreSaid, IsFrom, GoesOn, moment_after, last_moment, AllGoOn, AreTimedLinesRead}
use Rattle.timed_scripts.specs.TimedLines.{StopsAt}
use Rattle.timed_scripts.specs.MeantScript.{commands_in, commands_of, late_in, late_lines, IsMeantScript}
use Rattle.timed_scripts.specs.LineReading.{IsLinePut, IsNoNext, ExplainsTimedText}
use Rattle.timed_scripts.proofs.CuttingLemmas.{cut_there, cut_parts, fst_of}
use Rattle.timed_scripts.proofs.NumberLemmas.{before_later}

-- what was made of the lines so far, and what is left
pub record IsMadeSoFar (records : List Sent) (text rest : List ℕ) (number : ℕ) (least : Option ℤ) (made late : List ℕ) : Type 0 where
  pub meanings : List Meaning
  pub read : AreTimedLinesRead records text meanings rest
  pub number_is : number ≡ 1 + length meanings
  pub least_is : least ≡ last_moment None meanings
  pub made_is : made ≡ script_text (commands_of records meanings)
  pub late_is : late ≡ late_lines records 1 meanings

pub none_so_far : (records : List Sent) (text : List ℕ) → IsMadeSoFar records text text 1 None [] []
none_so_far records text = record {
  meanings = [];
  read = record { lines = []; whole = tt; text_is = refl; said = tt; go_on = tt };
  number_is = refl;
  least_is = refl;
  made_is = refl;
  late_is = refl;
}

-- ---- one more line

said_more : (records : List Sent) (lines : List (List ℕ)) (meanings : List Meaning) (line : List ℕ) (meaning : Meaning) → AreSaid records lines meanings → Says records line meaning
    → AreSaid records (lines ++ line ∷ []) (meanings ++ meaning ∷ [])
said_more records [] [] line meaning said one = (one, tt)
said_more records [] (m ∷ meanings) line meaning said one = absurd said
said_more records (l ∷ lines) [] line meaning said one = absurd said
said_more records (l ∷ lines) (m ∷ meanings) line meaning said one = (said.0, said_more records lines meanings line meaning said.1 one)

whole_more : (lines : List (List ℕ)) (line : List ℕ) → AllByRecursion (λ line. Lacks 10 line) lines → Lacks 10 line → AllByRecursion (λ line. Lacks 10 line) (lines ++ line ∷ [])
whole_more [] line whole one = (one, tt)
whole_more (l ∷ lines) line whole one = (whole.0, whole_more lines line whole.1 one)

go_on_more : (records : List Sent) (least : Option ℤ) (meanings : List Meaning) (meaning : Meaning) → AllGoOn records least meanings → GoesOn records (last_moment least meanings) meaning
    → AllGoOn records least (meanings ++ meaning ∷ [])
go_on_more records least [] meaning all one = (one, tt)
go_on_more records least (m ∷ meanings) meaning all one = (all.0, go_on_more records (moment_after least m) meanings meaning all.1 one)

last_more : (least : Option ℤ) (meanings : List Meaning) (meaning : Meaning) → last_moment least (meanings ++ meaning ∷ []) ≡ moment_after (last_moment least meanings) meaning
last_more least [] meaning = refl
last_more least (m ∷ meanings) meaning = last_more (moment_after least m) meanings meaning

length_more : (meanings : List Meaning) (meaning : Meaning) → length (meanings ++ meaning ∷ []) ≡ 1 + length meanings
length_more [] meaning = refl
length_more (m ∷ meanings) meaning = omega (arith, length_more meanings meaning)

text_append : (commands others : List Command) → script_text (commands ++ others) ≡ script_text commands ++ script_text others
text_append [] others = refl
text_append (c ∷ commands) others = rw (text_append commands others) (simp append_assoc refl)

made_more : (records : List Sent) (meanings : List Meaning) (meaning : Meaning)
    → script_text (commands_of records (meanings ++ meaning ∷ [])) ≡ script_text (commands_of records meanings) ++ script_text (commands_in records meaning)
made_more records [] meaning = ap script_text (append-nil (commands_in records meaning))
made_more records (m ∷ meanings) meaning =
    text_append (commands_in records m) (commands_of records (meanings ++ meaning ∷ []))
    ∙ ap (λ (xs : List ℕ). script_text (commands_in records m) ++ xs) (made_more records meanings meaning)
    ∙ sym (append_assoc (script_text (commands_in records m)) (script_text (commands_of records meanings)) (script_text (commands_in records meaning)))
    ∙ ap (λ (xs : List ℕ). xs ++ script_text (commands_in records meaning)) (sym (text_append (commands_in records m) (commands_of records meanings)))

late_more : (records : List Sent) (number : ℕ) (meanings : List Meaning) (meaning : Meaning)
    → late_lines records number (meanings ++ meaning ∷ []) ≡ late_lines records number meanings ++ late_in records (number + length meanings) meaning
late_more records number [] meaning = append-nil (late_in records number meaning) ∙ ap (λ n. late_in records n meaning) (omega arith)
late_more records number (m ∷ meanings) meaning =
    ap (λ (xs : List ℕ). late_in records number m ++ xs) (late_more records (number + 1) meanings meaning)
    ∙ sym (append_assoc (late_in records number m) (late_lines records (number + 1) meanings) (late_in records (number + 1 + length meanings) meaning))
    ∙ ap (λ n. late_lines records number (m ∷ meanings) ++ late_in records n meaning) (omega arith)

lines_more : (lines : List (List ℕ)) (line after : List ℕ) → flat_map ended lines ++ (line ++ 10 ∷ after) ≡ flat_map ended (lines ++ line ∷ []) ++ after
lines_more [] line after = simp append_assoc refl
lines_more (l ∷ lines) line after =
    append_assoc (ended l) (flat_map ended lines) (line ++ 10 ∷ after)
    ∙ ap (λ (xs : List ℕ). ended l ++ xs) (lines_more lines line after)
    ∙ sym (append_assoc (ended l) (flat_map ended (lines ++ line ∷ [])) after)

pub one_more : (records : List Sent) (text rest line after : List ℕ) (number : ℕ) (least next : Option ℤ) (made made' late late' : List ℕ)
    → IsMadeSoFar records text rest number least made late → cut_at 10 rest ≡ Some (line, after) → IsLinePut records number least line next made made' late late'
    → IsMadeSoFar records text after (number + 1) next made' late'
one_more records text rest line after number least next made made' late late' so_far cut put =
    let parts = cut_parts 10 rest line after cut in
    let meanings = so_far.meanings in
    let read = so_far.read in
    record {
      meanings = meanings ++ put.meaning ∷ [];
      read = record {
        lines = read.lines ++ line ∷ [];
        whole = whole_more read.lines line read.whole parts.1;
        text_is = read.text_is ∙ ap (λ (xs : List ℕ). flat_map ended read.lines ++ xs) parts.0 ∙ lines_more read.lines line after;
        said = said_more records read.lines meanings line put.meaning read.said put.says;
        go_on = go_on_more records None meanings put.meaning read.go_on (rw (sym so_far.least_is) put.goes_on);
      };
      number_is = ap (λ n. n + 1) so_far.number_is ∙ omega (arith, length_more meanings put.meaning);
      least_is = put.next_is ∙ ap (λ l. moment_after l put.meaning) so_far.least_is ∙ sym (last_more None meanings put.meaning);
      made_is = put.text_is ∙ ap (λ (xs : List ℕ). xs ++ script_text (commands_in records put.meaning)) so_far.made_is ∙ sym (made_more records meanings put.meaning);
      late_is = put.late_is ∙ ap (λ (xs : List ℕ). xs ++ late_in records number put.meaning) so_far.late_is
          ∙ ap (λ n. late_lines records 1 meanings ++ late_in records n put.meaning) so_far.number_is ∙ sym (late_more records 1 meanings put.meaning);
    }

pub line_length : (rest line after : List ℕ) → rest ≡ line ++ 10 ∷ after → length after < length rest
line_length rest line after is = let long : length rest ≡ length (line ++ 10 ∷ after) = ap length is in omega (arith, long, length-append line (10 ∷ after))

-- ---- where the lines stop

bad : (records : List Sent) (text rest : List ℕ) (number : ℕ) (least : Option ℤ) (made late : List ℕ) → IsMadeSoFar records text rest number least made late → 0 < length rest
    → StopsAt records least rest → ExplainsTimedText records text (BadLine number)
bad records text rest number least made late so_far some stops = inl (
  number,
  refl,
  record {
    meanings = so_far.meanings;
    rest = rest;
    read = so_far.read;
    line_is = so_far.number_is;
    not_ended = some;
    stops = rw so_far.least_is at stops;
  },
)

some_rest : (rest line after : List ℕ) → rest ≡ line ++ 10 ∷ after → 0 < length rest
some_rest rest [] after is = rw is (omega arith)
some_rest rest (x ∷ line) after is = rw is (omega arith)

pub bad_here : (records : List Sent) (text rest line after : List ℕ) (number : ℕ) (least : Option ℤ) (made late : List ℕ) → IsMadeSoFar records text rest number least made late
    → cut_at 10 rest ≡ Some (line, after) → IsNoNext records least line → ExplainsTimedText records text (BadLine number)
bad_here records text rest line after number least made late so_far cut none =
    bad records text rest number least made late so_far (some_rest rest line after (cut_parts 10 rest line after cut).0) stops where
      stops : StopsAt records least rest
      stops other more meaning lacks is says =
          let there : cut_at 10 rest ≡ Some (other, more) = ap (cut_at 10) is ∙ cut_there 10 other more lacks in
          let same : line ≡ other = ap (fst_of []) (sym cut ∙ there) in
          none meaning (rw same says)

pub bad_end : (records : List Sent) (text rest : List ℕ) (number : ℕ) (least : Option ℤ) (made late : List ℕ) → IsMadeSoFar records text rest number least made late
    → cut_at 10 rest ≡ None → 0 < length rest → ExplainsTimedText records text (BadLine number)
bad_end records text rest number least made late so_far none some = bad records text rest number least made late so_far some stops where
  stops : StopsAt records least rest
  stops other more meaning lacks is says =
      let there : cut_at 10 rest ≡ Some (other, more) = ap (cut_at 10) is ∙ cut_there 10 other more lacks in
      let pair : ◌≡◌ {A = Option (List ℕ × List ℕ)} None (Some (other, more)) = sym none ∙ there in
      absurd cc

-- ---- the script

fits_all : (records : List Sent) (least : Option ℤ) (lines : List (List ℕ)) (meanings : List Meaning) → AreSaid records lines meanings → AllGoOn records least meanings
    → AllByRecursion CommandFits (commands_of records meanings)
fits_all records least [] [] said go_on = tt
fits_all records least [] (m ∷ meanings) said go_on = absurd said
fits_all records least (l ∷ lines) [] said go_on = absurd said
fits_all records least (l ∷ lines) (nothing ∷ meanings) said go_on = fits_all records least lines meanings said.1 go_on.1
fits_all records least (l ∷ lines) (does m a ∷ meanings) said go_on = (record { frame = go_on.0.1; action = said.0.fits }, fits_all records (Some m) lines meanings said.1 go_on.1)

abbrev number_from : List Sent → Option ℤ → ℕ
number_from records None = 0
number_from records (Some least) = records_before least records

later_number : (records : List Sent) (least : Option ℤ) (moment : ℤ) → IsFrom least moment → number_from records least ≤ records_before moment records
later_number records None moment from = omega arith
later_number records (Some least) moment from = before_later least moment records from

falls_never : (records : List Sent) (least : Option ℤ) (meanings : List Meaning) → AllGoOn records least meanings → NeverFalls (number_from records least) (commands_of records meanings)
falls_never records least [] go_on = tt
falls_never records least (nothing ∷ meanings) go_on = falls_never records least meanings go_on.1
falls_never records least (does m a ∷ meanings) go_on = (later_number records least m go_on.0.0, falls_never records (Some m) meanings go_on.1)

pub finished : (records : List Sent) (text rest : List ℕ) (number : ℕ) (least : Option ℤ) (made late : List ℕ) → IsMadeSoFar records text rest number least made late → rest ≡ []
    → IsMeantScript records text made late
finished records text rest number least made late so_far empty = record {
  meanings = so_far.meanings;
  read = subst (AreTimedLinesRead records text so_far.meanings) empty so_far.read;
  script = record {
    fit = fits_all records None so_far.read.lines so_far.meanings so_far.read.said so_far.read.go_on;
    never_falls = falls_never records None so_far.meanings so_far.read.go_on;
    spelled = so_far.made_is;
  };
  late_is = so_far.late_is;
}
