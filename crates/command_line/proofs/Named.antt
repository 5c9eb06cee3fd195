-- Where the parser finds no fault, the command that it entered is one of the program's own, and not `help`.
use Rattle.std.proofs.Common.{◌≡◌, ◌∙◌, ◌||◌, ◌&&◌, ◌++◌, ℕ, Bool, true, false, not, refl, sym, ap, List, [], ◌∷◌, fold, find, map, Option, Some, None, option_map, codes, cond, true≢false, subst}
use Rattle.std.specs.Prelude.{IsTrue, IsFalse, Decides, is_some}
use Rattle.std.proofs.lemmas.Slice.Eq.{bytes_eq-Decides}
use Rattle.std.specs.Str.{bytes_eq}
use Rattle.clap.specs.Kinds.{Kinds, or_else}
use Rattle.clap.specs.Lexer.{long_of, short_of}
use Rattle.clap.specs.Faults.{fault_of, other_fault, step_fault, turn_fault, walk_fault, word_fault}
use Rattle.clap.specs.Simple.{App, Shape, argument_words, built, entered, label_of, names_of, rows_at, subcommand_of}
use Rattle.clap.specs.Walk.{Held, Names, Outcome, Row, Rule, Step, Text, Waiting, Walk, after_flag, after_step, answers_to, arg_by_id, arg_by_index, arg_by_long, bundle, done, idle, long_met, long_or_other, next, nothing_held, option, plain, plain_word, positional, refused, short_or_plain, subcommand, subcommand_met, subcommand_or_other, to_positional, trailing, value, waits, walk, walk_from, walked, walked_from, word_met}
use Rattle.clap.specs.declared.error.kind.ErrorKind.TheVariants.{DisplayHelp, InvalidSubcommand}
use Rattle.command_line.specs.CommandLine.{program}
use Rattle.command_line.specs.Reading.{IsCommand}

none_of : (a b : Kinds) → or_else a b ≡ [] → (a ≡ []) × (b ≡ [])
none_of [] b none = (refl, none)
none_of (k ∷ ks) b none = absurd cc

-- no stop, or one at another name than `help`
abbrev IsNoHelp : Option (Text × List Text) → Type 0
IsNoHelp None = Unit {0}
IsNoHelp (Some stop) = bytes_eq stop.0 (codes "help") ≡ false

-- the step enters no command
abbrev GoesOn : Step → Type 0
GoesOn (next waiting) = Unit {0}
GoesOn (trailing position) = Unit {0}
GoesOn (subcommand name) = ⊥
GoesOn value = Unit {0}

plain_goes_on : (c : List Rule) (waiting : Waiting) (word : Text) (h : Held) → GoesOn (plain_word c waiting word h).1
plain_goes_on c (option id) word h = tt
plain_goes_on c idle word h = tt
plain_goes_on c positional word h = tt

flag_goes_on : (c : List Rule) (waiting : Waiting) (word : Text) (h : Held) (outcome : Outcome) → GoesOn (after_flag c waiting word h outcome).1
flag_goes_on c waiting word h done = tt
flag_goes_on c waiting word h (waits id) = tt
flag_goes_on c waiting word h plain = plain_goes_on c waiting word h
flag_goes_on c waiting word h refused = plain_goes_on c waiting word h

short_goes_on : (c : List Rule) (waiting : Waiting) (word : Text) (flags : Option Text) (h : Held) → GoesOn (short_or_plain c waiting word flags h).1
short_goes_on c waiting word (Some flags) h = flag_goes_on c waiting word (bundle c flags h).0 (bundle c flags h).1
short_goes_on c waiting word None h = plain_goes_on c waiting word h

long_goes_on : (c : List Rule) (waiting : Waiting) (word : Text) (long : Option (Text × Option Text)) (h : Held) → GoesOn (long_or_other c waiting word long h).1
long_goes_on c waiting word (Some p) h =
    flag_goes_on c waiting word (long_met c (arg_by_long c p.0) p.1 h).0 (long_met c (arg_by_long c p.0) p.1 h).1
long_goes_on c waiting word None h = short_goes_on c waiting word (short_of word) h

positional_stays : (c : List Rule) (a : Option Rule) (word : Text) (w : Walk) (h : Held) → w.stopped ≡ None → (to_positional c a word w h).stopped ≡ None
positional_stays c None word w h none = none
positional_stays c (Some a) word w h none = refl

step_stays : (c : List Rule) (word : Text) (w : Walk) (h : Held) (step : Step) → w.stopped ≡ None → GoesOn step → (after_step c word w h step).stopped ≡ None
step_stays c word w h (next waiting) none goes = none
step_stays c word w h (trailing position) none goes = none
step_stays c word w h (subcommand name) none goes = absurd goes
step_stays c word w h value none goes = positional_stays c (arg_by_index c w.position) word w h none

no_stop : (stop : Option (Text × List Text)) → stop ≡ None → IsNoHelp stop
no_stop None none = tt
no_stop (Some stop) none = absurd cc

-- a word that enters a command enters another than `help`, where it has no fault
module _ (s : Shape) (has_help : s.disable_help_subcommand ≡ false) where
  named_otherwise : (name word : Text) (h : Held) → other_fault s (Some name) word h ≡ [] → bytes_eq name (codes "help") ≡ false
  named_otherwise name word h none = go (bytes_eq name (codes "help")) s.disable_help_subcommand refl has_help none
    where
      go : (is_help disabled : Bool) → bytes_eq name (codes "help") ≡ is_help → disabled ≡ false
          → cond (is_help && not disabled) (DisplayHelp ∷ InvalidSubcommand ∷ []) [] ≡ [] → bytes_eq name (codes "help") ≡ false
      go false disabled is enabled none = is
      go true true is enabled none = absurd (true≢false enabled)
      go true false is enabled none = absurd cc

  word_enters : (found : Option Text) (word : Text) (w : Walk) (waiting : Waiting) (position : ℕ) (h : Held) → w.stopped ≡ None
      → other_fault s found word h ≡ []
      → IsNoHelp (after_step s.rules word w (subcommand_or_other s.rules found waiting position word h).0 (subcommand_or_other s.rules found waiting position word h).1).stopped
  word_enters (Some name) word w waiting position h none fine = named_otherwise name word h fine
  word_enters None word w waiting position h none fine = go (bytes_eq word (45 ∷ 45 ∷ []))
    where
      go : (ends : Bool) → IsNoHelp (after_step s.rules word w
          (cond ends (h, trailing position) (long_or_other s.rules waiting word (long_of word) h)).0
          (cond ends (h, trailing position) (long_or_other s.rules waiting word (long_of word) h)).1).stopped
      go true = no_stop _ none
      go false = no_stop _ (step_stays s.rules word w _ _ none (long_goes_on s.rules waiting word (long_of word) h))

  met_enters : (is_trailing : Bool) (names : Names) (w : Walk) (waiting : Waiting) (position : ℕ) (word : Text) (h : Held) → w.stopped ≡ None
      → word_fault s names is_trailing waiting word h ≡ []
      → IsNoHelp (after_step s.rules word w (word_met s.rules names is_trailing waiting position word h).0 (word_met s.rules names is_trailing waiting position word h).1).stopped
  met_enters true names w waiting position word h none fine = no_stop _ (step_stays s.rules word w h value none tt)
  met_enters false names w waiting position word h none fine = word_enters (subcommand_met names waiting word) word w waiting position h none fine

  turn_enters : (names : Names) (w : Walk) (word : Text) (stop : Option (Text × List Text)) → w.stopped ≡ stop → IsNoHelp stop
      → turn_fault s names w word ≡ [] → IsNoHelp (walked s.rules names w word).stopped
  unfolding walked
  turn_enters names w word (Some stop) is fine none =
      subst (λ (o : Option (Text × List Text)). IsNoHelp (walked_from s.rules names o w word).stopped) (sym is) fine
  turn_enters names w word None is fine none =
      let parts = none_of (word_fault s names w.is_trailing w.waiting word w.held) _ (subst (λ (o : Option (Text × List Text)). unless_stopped o ≡ []) is none) in
      subst (λ (o : Option (Text × List Text)). IsNoHelp (walked_from s.rules names o w word).stopped) (sym is)
      (met_enters w.is_trailing names w w.waiting w.position word w.held is parts.0)
    where
      unless_stopped : Option (Text × List Text) → Kinds
      unless_stopped o = cond (is_some o) [] (or_else (word_fault s names w.is_trailing w.waiting word w.held)
          (step_fault s w.position (word_met s.rules names w.is_trailing w.waiting w.position word w.held).0
          (word_met s.rules names w.is_trailing w.waiting w.position word w.held).1))

  walk_enters : (names : Names) (w : Walk) (words : List Text) → IsNoHelp w.stopped → walk_fault s names w words ≡ []
      → IsNoHelp (fold (walked s.rules names) w words).stopped
  unfolding walk_fault
  walk_enters names w [] fine none = fine
  walk_enters names w (word ∷ rest) fine none =
      let parts = none_of (turn_fault s names w word) (walk_fault s names (walked s.rules names w word) rest) none in
      walk_enters names (walked s.rules names w word) rest (turn_enters names w word w.stopped refl fine parts.0) parts.1

abbrev EachShape : (Shape → Type 0) → List Shape → Type 0
EachShape P [] = Unit {0}
EachShape P (s ∷ rest) = P s × EachShape P rest

abbrev name_in : Option (Text × List Row) → Text
name_in None = []
name_in (Some entry) = entry.0

-- what was found is the first shape, or one behind it
first_or : (P : Text → Type 0) (s : Shape) (rest : List Shape) (word : Text) (words : List Text)
    → (answers_to word (label_of s) ≡ true → P s.name) → (name : Text) (rows : List Row)
    → (option_map (λ (s : Shape). rows_at s words) (find (λ (s : Shape). answers_to word (label_of s)) rest) ≡ Some (name, rows) → P name)
    → (answers : Bool) → answers_to word (label_of s) ≡ answers
    → option_map (λ (s : Shape). rows_at s words) (cond answers (Some s) (find (λ (s : Shape). answers_to word (label_of s)) rest)) ≡ Some (name, rows) → P name
first_or P s rest word words first name rows later true is found = subst P (ap name_in found) (first is)
first_or P s rest word words first name rows later false is found = later found

-- each shape that answers to the word has a name of this kind, so the one that is found has
found_among : (P : Text → Type 0) (shapes : List Shape) (word : Text) (words : List Text)
    → EachShape (λ (s : Shape). answers_to word (label_of s) ≡ true → P s.name) shapes → (name : Text) (rows : List Row)
    → option_map (λ (s : Shape). rows_at s words) (find (λ (s : Shape). answers_to word (label_of s)) shapes) ≡ Some (name, rows) → P name
found_among P [] word words each name rows found = absurd cc
found_among P (s ∷ rest) word words each name rows found =
    first_or P s rest word words each.0 name rows (found_among P rest word words each.1 name rows) (answers_to word (label_of s)) refl found

-- `help` answers to no other word
helps_alone : (word : Text) → bytes_eq word (codes "help") ≡ false → answers_to word (codes "help", []) ≡ true → IsCommand (codes "help")
helps_alone word fine answers = absurd (true≢false (sym same ∙ fine))
  where
    plain_or : (b : Bool) → (b || false) ≡ true → b ≡ true
    plain_or true e = refl
    plain_or false e = e

    is_help : word ≡ codes "help"
    is_help = sym ((bytes_eq-Decides (codes "help") word).0 (plain_or _ answers))

    same : bytes_eq word (codes "help") ≡ true
    same = ap (λ (w : Text). bytes_eq w (codes "help")) is_help

entered_command : (stop : Option (Text × List Text)) → IsNoHelp stop → (name : Text) (rows : List Row)
    → entered (built program) stop ≡ Some (name, rows) → IsCommand name
entered_command None fine name rows found = absurd cc
entered_command (Some stop) fine name rows found =
    found_among IsCommand (built program).subs stop.0 stop.1 (
      (λ _. refl),
      (
        (λ _. refl),
        (
          (λ _. refl),
          (
            (λ _. refl),
            (
              (λ _. refl),
              (
                (λ _. refl),
                (
                  (λ _. refl),
                  (
                    (λ _. refl),
                    (
                      (λ _. refl),
                      (
                        (λ _. refl),
                        (
                          (λ _. refl),
                          ((λ _. refl), ((λ _. refl), (helps_alone stop.0 fine, tt))),
                        ),
                      ),
                    ),
                  ),
                ),
              ),
            ),
          ),
        ),
      ),
    ) name rows found

-- the command that the words name, where the parser finds no fault in them
pub names_command : (words : List Text) (name : Text) (rows : List Row) → fault_of program words ≡ [] → subcommand_of program words ≡ Some (name, rows)
    → IsCommand name
names_command words name rows fine found =
    let parts = none_of (walk_fault (built program).top (names_of (built program)) (walk_from nothing_held) (argument_words program words)) _ fine in
    entered_command _ (walk_enters (built program).top refl (names_of (built program)) (walk_from nothing_held) (argument_words program words) tt parts.0) name rows found
