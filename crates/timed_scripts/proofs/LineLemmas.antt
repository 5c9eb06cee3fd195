-- Lines and their actions are read in one way.
use Rattle.std.proofs.Common.{◌≡◌, ◌≢◌, ℕ, ◌<◌, Bool, true, false, List, [], ◌∷◌, ◌++◌, length, drop, get_or, Option, Some, None, Result, Ok, Err, IfOk, refl, sym, ap, subst, ◌∙◌, arith, append-nil}
use Rattle.std.specs.Prelude.{ℤ}
use Rattle.std.specs.Fmt.{decimal, digits}
use Rattle.std.specs.Option.{MatchOption}
use Rattle.wire.specs.declared.records.Sent.{Sent}
use Rattle.text_lines.specs.Lines.{ended}
use Rattle.text_lines.proofs.shared.LineLemmas.{no_empty_line}
use Rattle.control.specs.declared.command.Action.{Action}
use Rattle.control.specs.declared.command.Command.{Command}
use Rattle.control.specs.declared.fault.ControlFault.{ControlFault}
use Rattle.control.specs.ScriptText.{ActionFits, IsScriptText, script_line, script_text, action_text}
use Rattle.timed_scripts.specs.Cutting.{cut_at, content}
use Rattle.timed_scripts.specs.Actions.{at_once, IsOnly, SpellsAction}
use Rattle.timed_scripts.specs.Moments.{first_moment, moment_said, records_before}
use Rattle.timed_scripts.specs.TimedLines.{Meaning, nothing, does, IsTimedCommand, SaysContent, Says, GoesOn}
use Rattle.timed_scripts.specs.MeantScript.{commands_in}
use Rattle.timed_scripts.specs.LineReading.{MayCome, IsCommandPut, IsLinePut, IsNoNext, command_line}
use Rattle.timed_scripts.proofs.CuttingLemmas.{cut_once}

-- ---- actions

last_cut : (xs ys : List ℕ) → xs ++ 10 ∷ [] ≡ ys ++ 10 ∷ [] → xs ≡ ys
last_cut [] [] e = refl
last_cut [] (y ∷ ys) e = absurd (no_empty_line ys [] (sym (ap (drop 1) e)))
last_cut (x ∷ xs) [] e = absurd (no_empty_line xs [] (ap (drop 1) e))
last_cut (x ∷ xs) (y ∷ ys) e =
    let first : x ≡ y = ap (λ (l : List ℕ). get_or l 0 0) e in
    rw (first, last_cut xs ys (ap (drop 1) e)) refl

text_at_once : (action : Action) → script_text (at_once action ∷ []) ≡ 48 ∷ 32 ∷ (action_text action ++ 10 ∷ [])
unfolding script_line digits
text_at_once action = append-nil (48 ∷ 32 ∷ (action_text action ++ 10 ∷ []))

script_at_once : (line words : List ℕ) (action : Action) → line ≡ 48 ∷ 32 ∷ (words ++ 10 ∷ []) → ActionFits action → words ≡ action_text action → IsScriptText line (at_once action ∷ [])
script_at_once line words action is fits same = record {
  fit = (record { frame = omega arith; action = fits }, tt);
  never_falls = (omega arith, tt);
  spelled = is ∙ ap (λ (ws : List ℕ). 48 ∷ 32 ∷ (ws ++ 10 ∷ [])) same ∙ sym (text_at_once action);
}

pub spelled_action : (line words : List ℕ) (script commands : List Command) (is : Bool) → line ≡ 48 ∷ 32 ∷ (words ++ 10 ∷ []) → IsScriptText line script
    → ((other : List Command) → IsScriptText line other → script ≡ other) → commands ≡ script → IsOnly commands is → SpellsAction words is
spelled_action line words script commands true is read only same one =
    let known : IsScriptText line (at_once one.0 ∷ []) = subst (IsScriptText line) (sym same ∙ one.1) read in
    let spelled : 48 ∷ 32 ∷ (words ++ 10 ∷ []) ≡ 48 ∷ 32 ∷ (action_text one.0 ++ 10 ∷ []) = sym is ∙ known.spelled ∙ text_at_once one.0 in
    (one.0, known.fit.0.action, last_cut words (action_text one.0) (ap (drop 2) spelled))
spelled_action line words script commands false is read only same none = λ action fits e.
    none action (same ∙ only (at_once action ∷ []) (script_at_once line words action is fits e))

pub no_script : (line words : List ℕ) (fault full : ControlFault) → line ≡ 48 ∷ 32 ∷ (words ++ 10 ∷ []) → ((script : List Command) → IsScriptText line script → fault ≡ full) → fault ≢ full
    → SpellsAction words false
no_script line words fault full is accepts apart = λ action fits e. apart (accepts (at_once action ∷ []) (script_at_once line words action is fits e))

-- ---- what a line says

pub uncut : (records : List Sent) (text : List ℕ) → 0 < length text → cut_at 32 text ≡ None → (meaning : Meaning) → ¬ SaysContent records text meaning
uncut records text some none nothing = λ e. let empty : length text ≡ 0 = ap length e in absurd (omega (arith, empty, some))
uncut records text some none (does m a) = λ is. let e : ◌≡◌ {A = Option (List ℕ × List ℕ)} None (Some (is.word, action_text a)) = sym none ∙ is.taken_apart in absurd cc

pub no_moment : (records : List Sent) (text word words : List ℕ) → 0 < length text → cut_at 32 text ≡ Some (word, words) → moment_said (first_moment records) word ≡ None
    → (meaning : Meaning) → ¬ SaysContent records text meaning
no_moment records text word words some cut none nothing = λ e. let empty : length text ≡ 0 = ap length e in absurd (omega (arith, empty, some))
no_moment records text word words some cut none (does m a) = λ is.
    let same = cut_once 32 text word words is.word (action_text a) cut is.taken_apart in
    let e : None ≡ Some m = sym none ∙ ap (moment_said (first_moment records)) same.0 ∙ is.moment_is in
    absurd cc

pub no_action : (records : List Sent) (text word words : List ℕ) → 0 < length text → cut_at 32 text ≡ Some (word, words) → SpellsAction words false
    → (meaning : Meaning) → ¬ SaysContent records text meaning
no_action records text word words some cut none nothing = λ e. let empty : length text ≡ 0 = ap length e in absurd (omega (arith, empty, some))
no_action records text word words some cut none (does m a) = λ is.
    let same = cut_once 32 text word words is.word (action_text a) cut is.taken_apart in
    none a is.fits same.1

pub an_action : (records : List Sent) (text word words : List ℕ) (moment : ℤ) → cut_at 32 text ≡ Some (word, words) → moment_said (first_moment records) word ≡ Some moment
    → SpellsAction words true → (action : Action) × IsTimedCommand records text moment action × (words ≡ action_text action)
an_action records text word words moment cut at spelled = (
  spelled.0,
  record { word = word; taken_apart = cut ∙ ap (λ (ws : List ℕ). Some (word, ws)) spelled.2; moment_is = at; fits = spelled.1 },
  spelled.2,
)

-- ---- what is put of a line

abbrev some_of : ℤ → Option ℤ → ℤ
some_of d None = d
some_of d (Some x) = x

may_come : (records : List Sent) (least : Option ℤ) (line : List ℕ) (moment : ℤ) (action : Action) → IsTimedCommand records (content line) moment action → (meaning : Meaning)
    → Says records line meaning → GoesOn records least meaning → MayCome records least moment
may_come records least line moment action is nothing says goes =
    let e : ◌≡◌ {A = Option (List ℕ × List ℕ)} None (Some (is.word, action_text action)) = ap (cut_at 32) (sym says) ∙ is.taken_apart in
    absurd cc
may_come records least line moment action is (does m a) says goes =
    let word = cut_once 32 (content line) is.word (action_text action) says.word (action_text a) is.taken_apart says.taken_apart in
    let e : Some moment ≡ Some m = sym is.moment_is ∙ ap (moment_said (first_moment records)) word.0 ∙ says.moment_is in
    let same : m ≡ moment = sym (ap (some_of moment) e) in
    subst (MayCome records least) same goes

command_text : (records : List Sent) (moment : ℤ) (action : Action) (words : List ℕ) → words ≡ action_text action
    → command_line records moment words ≡ script_text (commands_in records (does moment action))
unfolding script_line
command_text records moment action words is = rw is (sym (append-nil (ended (decimal (records_before moment records) ++ 32 ∷ action_text action))))

pub does_next : (records : List Sent) (number : ℕ) (least : Option ℤ) (line : List ℕ) (moment : ℤ) (words : List ℕ) (r : Result (Option (Option ℤ)) ControlFault)
    (text text' late late' : List ℕ) → (action : Action) × IsTimedCommand records (content line) moment action × (words ≡ action_text action)
    → IfOk r (λ next. MatchOption next (¬ MayCome records least moment) (λ next. IsCommandPut records number least moment words next text text' late late'))
    → IfOk r (λ next. MatchOption next (IsNoNext records least line) (λ next. IsLinePut records number least line next text text' late late'))
does_next records number least line moment words (Err e) text text' late late' told put = tt
does_next records number least line moment words (Ok None) text text' late late' told put =
    λ meaning says goes. put (may_come records least line moment told.0 told.1 meaning says goes)
does_next records number least line moment words (Ok (Some next)) text text' late late' told put = record {
  meaning = does moment told.0;
  says = told.1;
  goes_on = put.may_come;
  next_is = put.next_is;
  text_is = put.text_is ∙ ap (λ (xs : List ℕ). text ++ xs) (command_text records moment told.0 words told.2);
  late_is = put.late_is;
}
