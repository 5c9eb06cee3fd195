-- A script is read in one way.
use Rattle.std.proofs.Common.{◌≡◌, ℕ, zero, suc, ◌+◌, ◌<◌, ◌≤◌, true, List, [], ◌∷◌, ◌++◌, length, get_or, refl, sym, ap, ◌∙◌, arith, append_assoc}
use Rattle.std.specs.List.{AllByRecursion}
use Rattle.std.specs.Str.{IsUtf8}
use Rattle.std.proofs.lemmas.List.{append-nil}
use Rattle.std.proofs.lemmas.Grind.{flat_map-append}
use Rattle.std.proofs.lemmas.Bool.Decides.{nat_tests}
use Rattle.std.proofs.lemmas.Str.{IsUtf8-from_ascii, IsUtf8-append, IsUtf8-nil}
use Rattle.std.proofs.lemmas.Str.Ascii.{IsAscii-from_reads}
use Rattle.control.specs.declared.command.Command.{Command}
use Rattle.text_lines.specs.Lines.{Lacks, ended}
use Rattle.text_lines.proofs.shared.LineLemmas.{more_lines, no_empty_line, one_line, same_front}
use Rattle.control.specs.ScriptText.{CommandFits, NeverFalls, IsScriptText, script_line, script_text}
use Rattle.control.specs.ScriptReading.{IsKnownCommand, BeginsWithNoCommand, BeginsWithNoCommandFrom, IsFirstCommand, AreCommandsRead, IsBadAfterCommands}
use Rattle.control.specs.ScriptReading.{last_frame}
use Rattle.text_lines.proofs.shared.ByteLemmas.{all_bytes, within, each_passes, lacks_from}
use Rattle.control.proofs.Bytes.{line_printed}

pub line_lacks_feed : (command : Command) → CommandFits command → Lacks 10 (script_line command)
line_lacks_feed command fits = lacks_from (within 32 128) 10 (script_line command) (line_printed command fits) refl

-- ---- one reading

-- what was read first, and what any script with this text has
pub one_reading : (least : ℕ) (commands others : List Command) (rest : List ℕ) → AllByRecursion IsKnownCommand commands → NeverFalls least others → AllByRecursion CommandFits others
    → BeginsWithNoCommandFrom (last_frame least commands) rest → script_text commands ++ rest ≡ script_text others → (commands ≡ others) × (rest ≡ [])
one_reading least [] [] rest known falls fits stops e = (refl, e)
one_reading least [] (o ∷ others) rest known falls fits stops e =
    absurd (stops o (script_line o) (script_text others) (record { fits = fits.0; spelled = refl }) falls.0 (e ∙ one_line (script_line o) (script_text others)))
one_reading least (c ∷ commands) [] rest known falls fits stops e = absurd (no_empty_line (script_line c) (script_text commands ++ rest) (sym (more_lines (script_line c) (script_text commands) rest) ∙ e))
one_reading least (c ∷ commands) (o ∷ others) rest known falls fits stops e =
    let parts = same_front 10 (script_line c) (script_text commands ++ rest) (script_line o) (script_text others) (line_lacks_feed c known.0.0.fits) (line_lacks_feed o fits.0)
    (sym (more_lines (script_line c) (script_text commands) rest) ∙ e ∙ one_line (script_line o) (script_text others)) in
    let same : o ≡ c = known.0.1 o (record { fits = fits.0; spelled = parts.0 }) in
    let tail = one_reading c.frame commands others rest known.1 (rw same at falls.1) fits.1 stops parts.1 in
    (rw (same, tail.0) refl, tail.1)

pub known_fit : (commands : List Command) → AllByRecursion IsKnownCommand commands → AllByRecursion CommandFits commands
known_fit [] known = tt
known_fit (c ∷ commands) known = (known.0.0.fits, known_fit commands known.1)

pub whole_script : (text rest : List ℕ) (commands : List Command) → AreCommandsRead text commands rest → rest ≡ [] → IsScriptText text commands
whole_script text rest commands read empty = record {
  fit = known_fit commands read.known;
  never_falls = read.never_falls;
  spelled = read.text_is ∙ ap (λ (xs : List ℕ). script_text commands ++ xs) empty ∙ append-nil (script_text commands);
}

pub bad_after : (text rest : List ℕ) (commands : List Command) → AreCommandsRead text commands rest → 0 < length rest → IsBadAfterCommands text (1 + length commands)
bad_after text rest commands read some = record {
  commands = commands;
  rest = rest;
  fit = known_fit commands read.known;
  never_falls = read.never_falls;
  line_is = refl;
  text_is = read.text_is;
  not_ended = some;
  stops = read.stops;
}

pub same_script : (text rest : List ℕ) (commands others : List Command) → AreCommandsRead text commands rest → IsScriptText text others → (commands ≡ others) × (rest ≡ [])
same_script text rest commands others read is = one_reading 0 commands others rest read.known is.never_falls is.fit read.stops (sym read.text_is ∙ is.spelled)

-- ---- one more line

known_more : (commands : List Command) (command : Command) → AllByRecursion IsKnownCommand commands → IsKnownCommand command → AllByRecursion IsKnownCommand (commands ++ command ∷ [])
known_more [] command known one = (one, tt)
known_more (c ∷ commands) command known one = (known.0, known_more commands command known.1 one)

falls_more : (least : ℕ) (commands : List Command) (command : Command) → NeverFalls least commands → last_frame least commands ≤ command.frame → NeverFalls least (commands ++ command ∷ [])
falls_more least [] command falls one = (one, tt)
falls_more least (c ∷ commands) command falls one = (falls.0, falls_more c.frame commands command falls.1 one)

last_more : (least : ℕ) (commands : List Command) (command : Command) → last_frame least (commands ++ command ∷ []) ≡ command.frame
last_more least [] command = refl
last_more least (c ∷ commands) command = last_more c.frame commands command

-- the state of the loop: what was read so far, what is left, and the last frame
pub record AreReadSoFar (text : List ℕ) (commands : List Command) (rest : List ℕ) (least : ℕ) : Type 0 where
  pub known : AllByRecursion IsKnownCommand commands
  pub never_falls : NeverFalls 0 commands
  pub text_is : text ≡ script_text commands ++ rest
  pub last : least ≡ last_frame 0 commands

pub none_so_far : (text : List ℕ) → AreReadSoFar text [] text 0
none_so_far text = record { known = tt; never_falls = tt; text_is = refl; last = refl }

pub read_more : (text rest after : List ℕ) (least : ℕ) (commands : List Command) (command : Command) → AreReadSoFar text commands rest least → IsFirstCommand rest command after → least ≤ command.frame
    → AreReadSoFar text (commands ++ command ∷ []) after command.frame
read_more text rest after least commands command so_far first le = record {
  known = known_more commands command so_far.known first.known;
  never_falls = falls_more 0 commands command so_far.never_falls (rw (← so_far.last) le);
  text_is = so_far.text_is ∙ ap (λ (xs : List ℕ). script_text commands ++ xs) first.text_is ∙ rw (flat_map-append (λ (c : Command). ended (script_line c)) commands (command ∷ [])) (simp (append_assoc, append-nil) refl);
  last = sym (last_more 0 commands command);
}

pub all_read : (text rest : List ℕ) (least : ℕ) (commands : List Command) → AreReadSoFar text commands rest least → BeginsWithNoCommandFrom least rest → AreCommandsRead text commands rest
all_read text rest least commands so_far stops = record {
  known = so_far.known;
  never_falls = so_far.never_falls;
  text_is = so_far.text_is;
  stops = rw so_far.last at stops;
}

pub no_command : (rest : List ℕ) (least : ℕ) → BeginsWithNoCommand rest → BeginsWithNoCommandFrom least rest
no_command rest least stops = λ command line more is le. stops command line more is

-- the command that comes first is of an earlier frame
pub earlier_frame : (rest after : List ℕ) (least : ℕ) (command : Command) → IsFirstCommand rest command after → command.frame < least → BeginsWithNoCommandFrom least rest
earlier_frame rest after least command first lt = λ other line more is le. λ e.
    let lacks : Lacks 10 line = rw is.spelled (line_lacks_feed other is.fits) in
    let parts = same_front 10 (script_line command) after line more (line_lacks_feed command first.known.0.fits) lacks (sym (one_line (script_line command) after) ∙ sym first.text_is ∙ e) in
    let same : other ≡ command = first.known.1 other (record { fits = is.fits; spelled = parts.0 ∙ is.spelled }) in
    let frames : other.frame ≡ command.frame = ap (λ (c : Command). c.frame) same in
    absurd (omega (arith, frames, lt, le))

-- ---- a script is text

line_ascii : (command : Command) → CommandFits command → IsUtf8 (script_line command)
line_ascii command fits =
    IsUtf8-from_ascii (script_line command) (λ i. ascii_at (script_line command) (line_printed command fits) i) where
      below : (b : ℕ) → within 32 128 b ≡ true → b < 128
      below b h = grind (arith, nat_tests)

      ascii_at : (xs : List ℕ) → all_bytes (within 32 128) xs ≡ true → (i : ℕ) → get_or xs i 0 < 128
      ascii_at xs all i = IsAscii-from_reads xs (length xs) (omega arith) (λ k lt. below (get_or xs k 0) (each_passes (within 32 128) xs all k lt)) i

feed_is_text : IsUtf8 (10 ∷ [])
feed_is_text = IsUtf8-from_ascii (10 ∷ []) (IsAscii-from_reads (10 ∷ []) 1 (omega arith) (λ k lt. one k lt)) where
  one : (k : ℕ) → k < 1 → get_or (10 ∷ []) k 0 < 128
  one zero lt = omega arith
  one (suc k) lt = absurd (omega arith)

script_is_text : (commands : List Command) → AllByRecursion CommandFits commands → IsUtf8 (script_text commands)
script_is_text [] fits = IsUtf8-nil
script_is_text (c ∷ commands) fits = IsUtf8-append (ended (script_line c)) (script_text commands) (IsUtf8-append (script_line c) (10 ∷ []) (line_ascii c fits.0) feed_is_text) (script_is_text commands fits.1)

pub is_text : (text : List ℕ) (commands : List Command) → IsScriptText text commands → IsUtf8 text
is_text text commands is = rw is.spelled (script_is_text commands is.fit)
