-- A file of journals is read in one way.
use Rattle.std.proofs.Common.{◌≡◌, ℕ, ◌+◌, ◌<◌, ◌≤◌, List, [], ◌∷◌, ◌++◌, length, refl, sym, ap, subst, ◌∙◌, arith, append_assoc, length-append}
use Rattle.std.specs.Prelude.{◌≢◌, Some, None, Option}
use Rattle.std.specs.List.{AllByRecursion}
use Rattle.std.proofs.lemmas.List.{append-nil}
use Rattle.std.proofs.lemmas.Grind.{flat_map-append}
use Rattle.ebpf_decode.specs.declared.map.MapDef.{MapDef}
use Rattle.semantics.specs.declared.call.Entry.{Entry}
use Rattle.semantics.specs.declared.options.Options.{Options}
use Rattle.semantics.specs.History.{shard_of_call}
use Rattle.text_lines.specs.Lines.{Lacks, ended}
use Rattle.text_lines.proofs.shared.LineLemmas.{lacks_mid, more_lines, no_empty_line, one_line, same_front}
use Rattle.journals.specs.JournalText.{line_of_entry, entries_text, all_entries}
use Rattle.journals.specs.EntryForm.{EntryFits, IsFileEntry}
use Rattle.journals.specs.JournalReading.{IsOfShard, AreListedFrom, IsEntryLine, TellsEntry, IsKnownEntry, BeginsWithNoEntryFrom, ShardsNeverFall, last_shard, AreDivided, AreEntriesRead}
use Rattle.text_lines.proofs.shared.ByteLemmas.{lacks_from}
use Rattle.journals.proofs.Bytes.{printed, line_printed}

-- the first line is no entry's, or there is no whole line
abbrev pub BeginsWithNoEntry : List MapDef → Options → List ℕ → Type 0
BeginsWithNoEntry maps options text =
    (entry : Entry) (line more : List ℕ) → IsEntryLine maps options entry line → text ≢ line ++ 10 ∷ more

-- the first line is this entry's
pub record IsFirstEntry (maps : List MapDef) (options : Options) (text : List ℕ) (entry : Entry) (rest : List ℕ) : Type 0 where
  pub known : IsKnownEntry maps options entry
  pub text_is : text ≡ ended (line_of_entry entry) ++ rest

pub line_lacks_feed : (entry : Entry) → EntryFits entry → Lacks 10 (line_of_entry entry)
line_lacks_feed entry fits = lacks_from printed 10 (line_of_entry entry) (line_printed entry fits) refl

-- ---- one reading

-- what was read first, and what any file with this text has
pub one_reading : (maps : List MapDef) (options : Options) (least : ℕ) (entries others : List Entry) (rest : List ℕ) → AllByRecursion (IsKnownEntry maps options) entries → ShardsNeverFall least others
    → AllByRecursion (IsFileEntry maps options) others → BeginsWithNoEntryFrom maps options (last_shard least entries) rest → entries_text entries ++ rest ≡ entries_text others → (entries ≡ others) × (rest ≡ [])
one_reading maps options least [] [] rest known falls fits stops e = (refl, e)
one_reading maps options least [] (o ∷ others) rest known falls fits stops e =
    absurd (stops o (line_of_entry o) (entries_text others) (record { fits = fits.0; spelled = refl }) falls.0 (e ∙ one_line (line_of_entry o) (entries_text others)))
one_reading maps options least (c ∷ entries) [] rest known falls fits stops e =
    absurd (no_empty_line (line_of_entry c) (entries_text entries ++ rest) (sym (more_lines (line_of_entry c) (entries_text entries) rest) ∙ e))
one_reading maps options least (c ∷ entries) (o ∷ others) rest known falls fits stops e =
    let parts = same_front 10 (line_of_entry c) (entries_text entries ++ rest) (line_of_entry o) (entries_text others) (line_lacks_feed c known.0.0.fits.fits) (line_lacks_feed o fits.0.fits)
    (sym (more_lines (line_of_entry c) (entries_text entries) rest) ∙ e ∙ one_line (line_of_entry o) (entries_text others)) in
    let same : o ≡ c = known.0.1 o (record { fits = fits.0; spelled = parts.0 }) in
    let tail = one_reading maps options (shard_of_call c.call) entries others rest known.1 (rw same at falls.1) fits.1 stops parts.1 in
    (rw (same, tail.0) refl, tail.1)

pub known_fit : (maps : List MapDef) (options : Options) (entries : List Entry) → AllByRecursion (IsKnownEntry maps options) entries → AllByRecursion (IsFileEntry maps options) entries
known_fit maps options [] known = tt
known_fit maps options (c ∷ entries) known = (known.0.0.fits, known_fit maps options entries known.1)

-- ---- one more line

known_more : (maps : List MapDef) (options : Options) (entries : List Entry) (entry : Entry) → AllByRecursion (IsKnownEntry maps options) entries → IsKnownEntry maps options entry
    → AllByRecursion (IsKnownEntry maps options) (entries ++ entry ∷ [])
known_more maps options [] entry known one = (one, tt)
known_more maps options (c ∷ entries) entry known one = (known.0, known_more maps options entries entry known.1 one)

falls_more : (least : ℕ) (entries : List Entry) (entry : Entry) → ShardsNeverFall least entries → last_shard least entries ≤ shard_of_call entry.call → ShardsNeverFall least (entries ++ entry ∷ [])
falls_more least [] entry falls one = (one, tt)
falls_more least (c ∷ entries) entry falls one = (falls.0, falls_more (shard_of_call c.call) entries entry falls.1 one)

last_more : (least : ℕ) (entries : List Entry) (entry : Entry) → last_shard least (entries ++ entry ∷ []) ≡ shard_of_call entry.call
last_more least [] entry = refl
last_more least (c ∷ entries) entry = last_more (shard_of_call c.call) entries entry

-- the state of the loop: what was read so far, and what is left
pub record AreReadSoFar (maps : List MapDef) (options : Options) (text : List ℕ) (done : List (List Entry)) (present : List Entry) (count : ℕ) (rest : List ℕ) : Type 0 where
  pub entries : List Entry
  pub known : AllByRecursion (IsKnownEntry maps options) entries
  pub never_falls : ShardsNeverFall 0 entries
  pub divided : AreDivided entries done present
  pub last : length done ≡ last_shard 0 entries
  pub counted : count ≡ length entries
  pub text_is : text ≡ entries_text entries ++ rest

pub none_so_far : (maps : List MapDef) (options : Options) (text : List ℕ) → AreReadSoFar maps options text [] [] 0 text
none_so_far maps options text = record {
  entries = [];
  known = tt;
  never_falls = tt;
  divided = record { all = refl; listed = tt; next = tt };
  last = refl;
  counted = refl;
  text_is = refl;
}

all_of_more : (number : ℕ) (entries : List Entry) (entry : Entry) → AllByRecursion (IsOfShard number) entries → IsOfShard number entry → AllByRecursion (IsOfShard number) (entries ++ entry ∷ [])
all_of_more number [] entry all one = (one, tt)
all_of_more number (c ∷ entries) entry all one = (all.0, all_of_more number entries entry all.1 one)

-- one more entry, for which the lists were divided up to its shard
pub read_more : (maps : List MapDef) (options : Options) (text rest after : List ℕ) (done done' : List (List Entry)) (present present' : List Entry) (count : ℕ) (entry : Entry)
    → AreReadSoFar maps options text done present count rest → IsFirstEntry maps options rest entry after → length done ≤ shard_of_call entry.call → length done' ≡ shard_of_call entry.call
    → ((entries : List Entry) → AreDivided entries done present → AreDivided entries done' present') → AreReadSoFar maps options text done' (present' ++ entry ∷ []) (count + 1) after
read_more maps options text rest after done done' present present' count entry so_far first le number finish =
    let divided = finish so_far.entries so_far.divided in
    record {
      entries = so_far.entries ++ entry ∷ [];
      known = known_more maps options so_far.entries entry so_far.known first.known;
      never_falls = falls_more 0 so_far.entries entry so_far.never_falls (rw (← so_far.last) le);
      divided = record {
        all = ap (λ (xs : List Entry). xs ++ entry ∷ []) divided.all ∙ append_assoc (all_entries done') present' (entry ∷ []);
        listed = divided.listed;
        next = all_of_more (length done') present' entry divided.next (sym number);
      };
      last = number ∙ sym (last_more 0 so_far.entries entry);
      counted = ap (λ (n : ℕ). n + 1) so_far.counted ∙ sym (length-append so_far.entries (entry ∷ []));
      text_is = so_far.text_is ∙ ap (λ (xs : List ℕ). entries_text so_far.entries ++ xs) first.text_is ∙ rw (flat_map-append (λ (c : Entry). ended (line_of_entry c)) so_far.entries (entry ∷ [])) (simp (append_assoc, append-nil) refl);
    }

pub all_read : (maps : List MapDef) (options : Options) (text rest : List ℕ) (done : List (List Entry)) (present : List Entry) (count : ℕ) → AreReadSoFar maps options text done present count rest
    → BeginsWithNoEntryFrom maps options (length done) rest → AreEntriesRead maps options text done present count rest
all_read maps options text rest done present count so_far stops = record {
  entries = so_far.entries;
  known = so_far.known;
  never_falls = so_far.never_falls;
  divided = so_far.divided;
  last = so_far.last;
  counted = so_far.counted;
  text_is = so_far.text_is;
  stops = rw so_far.last at stops;
}

pub no_entry : (maps : List MapDef) (options : Options) (rest : List ℕ) (least : ℕ) → BeginsWithNoEntry maps options rest → BeginsWithNoEntryFrom maps options least rest
no_entry maps options rest least stops = λ entry line more is le. stops entry line more is

-- the entry that comes first is of an earlier shard
pub earlier_shard : (maps : List MapDef) (options : Options) (rest after : List ℕ) (least : ℕ) (entry : Entry) → IsFirstEntry maps options rest entry after → shard_of_call entry.call < least
    → BeginsWithNoEntryFrom maps options least rest
earlier_shard maps options rest after least entry first lt = λ other line more is le. λ e.
    let lacks : Lacks 10 line = rw is.spelled (line_lacks_feed other is.fits.fits) in
    let parts = same_front 10 (line_of_entry entry) after line more (line_lacks_feed entry first.known.0.fits.fits) lacks (sym (one_line (line_of_entry entry) after) ∙ sym first.text_is ∙ e) in
    let same : other ≡ entry = first.known.1 other (record { fits = is.fits; spelled = parts.0 ∙ is.spelled }) in
    let shards : shard_of_call other.call ≡ shard_of_call entry.call = ap (λ (c : Entry). shard_of_call c.call) same in
    absurd (omega (arith, shards, lt, le))

-- lines are no shorter than they are many
pub entries_long : (entries : List Entry) → length entries ≤ length (entries_text entries)
entries_long [] = omega arith
entries_long (c ∷ entries) =
    let one : length (ended (line_of_entry c) ++ entries_text entries) ≡ length (ended (line_of_entry c)) + length (entries_text entries) = length-append (ended (line_of_entry c)) (entries_text entries) in
    let end : length (ended (line_of_entry c)) ≡ length (line_of_entry c) + 1 = length-append (line_of_entry c) (10 ∷ []) in
    let rest : length entries ≤ length (entries_text entries) = entries_long entries in
    omega (arith, one, end, rest)

pub count_fits : (maps : List MapDef) (options : Options) (text rest : List ℕ) (done : List (List Entry)) (present : List Entry) (count : ℕ) → AreReadSoFar maps options text done present count rest
    → count + length rest ≤ length text
count_fits maps options text rest done present count so_far =
    let long : length text ≡ length (entries_text so_far.entries) + length rest = ap length so_far.text_is ∙ length-append (entries_text so_far.entries) rest in
    let many : length so_far.entries ≤ length (entries_text so_far.entries) = entries_long so_far.entries in
    omega (arith, so_far.counted, long, many)

-- ---- lists of the shards

all_entries_more : (done : List (List Entry)) (present : List Entry) → all_entries (done ++ present ∷ []) ≡ all_entries done ++ present
all_entries_more [] present = append-nil present
all_entries_more (d ∷ done) present = ap (λ (xs : List Entry). d ++ xs) (all_entries_more done present) ∙ sym (append_assoc d (all_entries done) present)

listed_more : (from : ℕ) (done : List (List Entry)) (present : List Entry) → AreListedFrom from done → AllByRecursion (IsOfShard (from + length done)) present → AreListedFrom from (done ++ present ∷ [])
listed_more from [] present listed next = let P : ℕ → Type 0 = λ n. AllByRecursion (IsOfShard n) present in let e : from + 0 ≡ from = omega arith in (subst P e next, tt)
listed_more from (d ∷ done) present listed next =
    let P : ℕ → Type 0 = λ n. AllByRecursion (IsOfShard n) present in
    let e : from + (length done + 1) ≡ from + 1 + length done = omega arith in
    let E : from + length (d ∷ done) ≡ from + 1 + length done = omega arith in
    (listed.0, listed_more (from + 1) done present listed.1 (subst P E next))

-- the present list is done, and the next one is empty
pub divide : (entries : List Entry) (done : List (List Entry)) (present : List Entry) → AreDivided entries done present → AreDivided entries (done ++ present ∷ []) []
divide entries done present so_far = record {
  all = so_far.all ∙ sym (append-nil (all_entries (done ++ present ∷ [])) ∙ all_entries_more done present);
  listed = listed_more 0 done present so_far.listed (let P : ℕ → Type 0 = λ n. AllByRecursion (IsOfShard n) present in let e : length done ≡ 0 + length done = omega arith in subst P e so_far.next);
  next = tt;
}

-- ---- the first line

pub no_feed : (maps : List MapDef) (options : Options) (rest : List ℕ) → Lacks 10 rest → BeginsWithNoEntry maps options rest
no_feed maps options rest lacks = λ entry line more is. λ e. lacks_mid 10 rest line more lacks e

pub not_told : (maps : List MapDef) (options : Options) (rest line after : List ℕ) → rest ≡ line ++ 10 ∷ after → Lacks 10 line → ((entry : Entry) → IsEntryLine maps options entry line → ⊥)
    → BeginsWithNoEntry maps options rest
not_told maps options rest line after is lacks tells = λ entry other more entry_is. λ e.
    let lacks_other : Lacks 10 other = rw entry_is.spelled (line_lacks_feed entry entry_is.fits.fits) in
    let same = same_front 10 line after other more lacks lacks_other (sym is ∙ e) in
    tells entry (record { fits = entry_is.fits; spelled = same.0 ∙ entry_is.spelled })

pub first_told : (maps : List MapDef) (options : Options) (rest line after : List ℕ) (entry : Entry) → rest ≡ line ++ 10 ∷ after → IsEntryLine maps options entry line
    → ((other : Entry) → IsEntryLine maps options other line → other ≡ entry) → IsFirstEntry maps options rest entry after
first_told maps options rest line after entry is entry_is only =
    let P : List ℕ → Type 0 = λ xs. IsEntryLine maps options entry xs × ((other : Entry) → IsEntryLine maps options other xs → other ≡ entry) in
    record {
      known = subst P entry_is.spelled (entry_is, only);
      text_is = is ∙ ap (λ (xs : List ℕ). xs ++ 10 ∷ after) entry_is.spelled ∙ sym (one_line (line_of_entry entry) after);
    }

-- the same, as the code does it
pub divide_to : (entries : List Entry) (done done' : List (List Entry)) (present present' : List Entry) → AreDivided entries done present → done' ≡ done ++ present ∷ [] → present' ≡ []
    → AreDivided entries done' present'
divide_to entries done done' present present' so_far pushed is_fresh = rw (pushed, is_fresh) (divide entries done present so_far)

-- the entry of a line that comes before the rest
pub tells_none : (maps : List MapDef) (options : Options) (line : List ℕ) (found : Option Entry) → found ≡ None → TellsEntry maps options line found → (entry : Entry) → IsEntryLine maps options entry line → ⊥
tells_none maps options line found is tells = rw is at tells

pub tells_some : (maps : List MapDef) (options : Options) (line : List ℕ) (found : Option Entry) (entry : Entry) → found ≡ Some entry → TellsEntry maps options line found
    → IsEntryLine maps options entry line × ((other : Entry) → IsEntryLine maps options other line → other ≡ entry)
tells_some maps options line found entry is tells = rw is at tells
