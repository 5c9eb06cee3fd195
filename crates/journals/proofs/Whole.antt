-- What is read is the whole file, and nothing else is.
use Rattle.std.proofs.Common.{◌≡◌, ◌⊎◌, ℕ, zero, suc, ◌+◌, ◌*◌, ◌/◌, ◌<◌, ◌≤◌, true, List, [], ◌∷◌, ◌++◌, length, drop, get_or, refl, sym, ap, ◌∙◌, arith, length-append}
use Rattle.std.proofs.Common.{inl, inr}
use Rattle.std.specs.Prelude.{Some, slice_get}
use Rattle.std.specs.Str.{IsUtf8}
use Rattle.std.specs.List.{AllByRecursion}
use Rattle.std.proofs.lemmas.List.{append-nil}
use Rattle.std.proofs.lemmas.Bool.Decides.{nat_tests}
use Rattle.std.proofs.lemmas.Str.{IsUtf8-from_ascii, IsUtf8-append, IsUtf8-nil}
use Rattle.std.proofs.lemmas.Str.Ascii.{IsAscii-from_reads}
use Rattle.ebpf_decode.specs.declared.map.MapDef.{MapDef}
use Rattle.semantics.specs.declared.call.Entry.{Entry}
use Rattle.semantics.specs.declared.options.Options.{Options}
use Rattle.semantics.specs.ShardPlan.{AreOptions}
use Rattle.semantics.specs.History.{shard_of_call}
use Rattle.journals.specs.JournalsView.{JournalsView, AreJournals}
use Rattle.text_lines.specs.Lines.{ended}
use Rattle.text_lines.proofs.shared.LineLemmas.{one_line, same_front}
use Rattle.journals.specs.JournalText.{line_of_entry, header_text, entries_text, all_entries}
use Rattle.journals.specs.EntryForm.{IsFileEntry}
use Rattle.journals.specs.JournalReading.{IsOfShard, AreListedFrom, IsJournalsFile, BeginsWithNoHeader, IsHeadedBy, AreDivided, AreEntriesRead, ShardsNeverFall, last_shard, IsBadAfterEntries, IsNoFile}
use Rattle.text_lines.proofs.shared.ByteLemmas.{all_bytes, each_passes}
use Rattle.journals.proofs.Bytes.{printed, line_printed}
use Rattle.journals.proofs.Lines.{one_reading, known_fit, entries_long}
use Rattle.journals.proofs.Headers.{header_lacks_feed, header_printed_of}

-- ---- lists of shards

all_falls : (least n : ℕ) (xs ys : List Entry) → least ≤ n → AllByRecursion (IsOfShard n) xs → ((m : ℕ) → m ≤ n → ShardsNeverFall m ys) → ShardsNeverFall least (xs ++ ys)
all_falls least n [] ys le all more = more least le
all_falls least n (x ∷ xs) ys le all more = (omega (arith, le, all.0), all_falls (shard_of_call x.call) n xs ys (omega (arith, all.0)) all.1 more)

pub listed_falls : (number : ℕ) (shards : List (List Entry)) → AreListedFrom number shards → (m : ℕ) → m ≤ number → ShardsNeverFall m (all_entries shards)
listed_falls number [] listed m le = tt
listed_falls number (entries ∷ shards) listed m le = all_falls m number entries (all_entries shards) le listed.0 (λ k kle. listed_falls (number + 1) shards listed.1 k (omega (arith, kle)))

abbrev IsNotOf : ℕ → Entry → Type 0
IsNotOf n entry = IsOfShard n entry → ⊥

none_append : (n m : ℕ) (xs ys : List Entry) → n < m → AllByRecursion (IsOfShard m) xs → AllByRecursion (IsNotOf n) ys → AllByRecursion (IsNotOf n) (xs ++ ys)
none_append n m [] ys lt all none = none
none_append n m (x ∷ xs) ys lt all none = (λ is. omega (arith, is, all.0, lt), none_append n m xs ys lt all.1 none)

none_of : (n m : ℕ) (shards : List (List Entry)) → n < m → AreListedFrom m shards → AllByRecursion (IsNotOf n) (all_entries shards)
none_of n m [] lt listed = tt
none_of n m (entries ∷ shards) lt listed = none_append n m entries (all_entries shards) lt listed.0 (none_of n (m + 1) shards (omega (arith, lt)) listed.1)

first_same : {A : Type 0} (x y : A) (xs ys : List A) → x ∷ xs ≡ y ∷ ys → x ≡ y
first_same x y xs ys e = ap (λ (zs : List _). get_or zs 0 x) e

same_parts : (n : ℕ) (xs ys us vs : List Entry) → AllByRecursion (IsOfShard n) xs → AllByRecursion (IsOfShard n) ys → AllByRecursion (IsNotOf n) us → AllByRecursion (IsNotOf n) vs
    → xs ++ us ≡ ys ++ vs → (xs ≡ ys) × (us ≡ vs)
same_parts n [] [] us vs a b c d e = (refl, e)
same_parts n [] (y ∷ ys) us vs a b c d e = let none : AllByRecursion (IsNotOf n) (y ∷ (ys ++ vs)) = rw e at c in absurd (none.0 b.0)
same_parts n (x ∷ xs) [] us vs a b c d e = let none : AllByRecursion (IsNotOf n) (x ∷ (xs ++ us)) = rw (← e) at d in absurd (none.0 a.0)
same_parts n (x ∷ xs) (y ∷ ys) us vs a b c d e =
    let first : x ≡ y = first_same x y (xs ++ us) (ys ++ vs) e in
    let others = same_parts n xs ys us vs a.1 b.1 c d (ap (drop 1) e) in
    (rw (first, others.0) refl, others.1)

pub same_lists : (number : ℕ) (xs ys : List (List Entry)) → length xs ≡ length ys → AreListedFrom number xs → AreListedFrom number ys → all_entries xs ≡ all_entries ys → xs ≡ ys
same_lists number [] [] long a b e = refl
same_lists number [] (y ∷ ys) long a b e = absurd (omega (arith, long))
same_lists number (x ∷ xs) [] long a b e = absurd (omega (arith, long))
same_lists number (x ∷ xs) (y ∷ ys) long a b e =
    let parts = same_parts number x y (all_entries xs) (all_entries ys) a.0 b.0 (none_of number (number + 1) xs (omega arith) a.1) (none_of number (number + 1) ys (omega arith) b.1) e in
    let others = same_lists (number + 1) xs ys (omega (arith, long)) a.1 b.1 parts.1 in
    rw (parts.0, others) refl

-- ---- shards of the maps

some_within : {A : Type 0} (xs : List A) (i : ℕ) (x : A) → slice_get xs i ≡ Some x → i < length xs
some_within [] i x is = absurd cc
some_within (y ∷ xs) zero x is = omega arith
some_within (y ∷ xs) (suc i) x is = let within : i < length xs = some_within xs i x is in omega (arith, within)

pub shard_within : (maps : List MapDef) (options : Options) (entry : Entry) → AreOptions maps options → IsFileEntry maps options entry → shard_of_call entry.call < length maps * options.shards
shard_within maps options entry fits file = by options.shards refl fits.power_of_two where
  place : shard_of_call entry.call / options.shards < length maps
  place = some_within maps (shard_of_call entry.call / options.shards) file.on.definition file.on.known

  by : (s : ℕ) → options.shards ≡ s → (options.shards ≡ 1) ⊎ (options.shards ≡ 2) ⊎ (options.shards ≡ 4) ⊎ (options.shards ≡ 8) → shard_of_call entry.call < length maps * options.shards
  by s is (inl e) = let p = rw e at place in rw e (omega (arith, p))
  by s is (inr (inl e)) = let p = rw e at place in rw e (omega (arith, p))
  by s is (inr (inr (inl e))) = let p = rw e at place in rw e (omega (arith, p))
  by s is (inr (inr (inr e))) = let p = rw e at place in rw e (omega (arith, p))

last_within : (maps : List MapDef) (options : Options) (least count : ℕ) (entries : List Entry) → AreOptions maps options → AllByRecursion (IsFileEntry maps options) entries → least ≤ length maps * options.shards
    → last_shard least entries ≤ length maps * options.shards
last_within maps options least count [] fits file le = le
last_within maps options least count (entry ∷ entries) fits file le =
    let lt = shard_within maps options entry fits file.0 in
    last_within maps options (shard_of_call entry.call) count entries fits file.1 (omega (arith, lt))

pub done_within : (maps : List MapDef) (options : Options) (text rest : List ℕ) (done : List (List Entry)) (present : List Entry) (count : ℕ) → AreOptions maps options → AreEntriesRead maps options text done present count rest
    → length done ≤ length maps * options.shards
done_within maps options text rest done present count fits read = rw read.last (last_within maps options 0 0 read.entries fits (known_fit maps options read.entries read.known) (omega arith))

all_later : {A : Type 0} (P : A → Type 0) (xs ys : List A) → AllByRecursion P (xs ++ ys) → AllByRecursion P ys
all_later P [] ys all = all
all_later P (x ∷ xs) ys all = all_later P xs ys all.1

pub none_left : (maps : List MapDef) (options : Options) (entries : List Entry) (shards : List (List Entry)) (final : List Entry) → AreOptions maps options → AllByRecursion (IsFileEntry maps options) entries
    → AreDivided entries shards final → length shards ≡ length maps * options.shards → final ≡ []
none_left maps options entries shards [] fits file divided count = refl
none_left maps options entries shards (entry ∷ final) fits file divided count =
    let later : AllByRecursion (IsFileEntry maps options) (entry ∷ final) = all_later (IsFileEntry maps options) (all_entries shards) (entry ∷ final) (rw divided.all at file) in
    let lt = shard_within maps options entry fits later.0 in
    absurd (omega (arith, lt, divided.next.0, count))

-- ---- the whole file

pub file_read : (maps : List MapDef) (text rest after : List ℕ) (options : Options) (done : List (List Entry)) (present : List Entry) (count : ℕ) (journals : JournalsView) → IsHeadedBy maps text options rest
    → AreEntriesRead maps options rest done present count after → after ≡ [] → journals.maps ≡ maps → journals.options ≡ options → AreJournals maps options (length journals.shards)
    → ((entries : List Entry) → AreDivided entries done present → (final : List Entry) × AreDivided entries journals.shards final) → IsJournalsFile maps text journals
file_read maps text rest after options done present count journals headed read empty maps_are options_are are_journals finish =
    let file = known_fit maps options read.entries read.known in
    let finished = finish read.entries read.divided in
    let none : finished.0 ≡ [] = none_left maps options read.entries journals.shards finished.0 headed.fits.fit file finished.1 are_journals.one_each in
    let all : read.entries ≡ all_entries journals.shards = finished.1.all ∙ ap (λ (xs : List Entry). all_entries journals.shards ++ xs) none ∙ append-nil (all_entries journals.shards) in
    let rest_is : rest ≡ entries_text (all_entries journals.shards) =
    read.text_is ∙ ap (λ (xs : List ℕ). entries_text read.entries ++ xs) empty ∙ append-nil (entries_text read.entries) ∙ ap entries_text all in
    let spelled : text ≡ ended (header_text options) ++ entries_text (all_entries journals.shards) = headed.text_is ∙ ap (λ (xs : List ℕ). ended (header_text options) ++ xs) rest_is in
    record {
      of_maps = maps_are;
      journals_are = rw options_are are_journals;
      rows = rw options_are headed.fits.rows;
      fit = rw options_are (rw all at file);
      listed = finished.1.listed;
      spelled = rw options_are spelled;
    }

-- another file with the same bytes has the same options and entries
pub same_file : (maps : List MapDef) (text rest after : List ℕ) (options : Options) (done : List (List Entry)) (present : List Entry) (count : ℕ) (others : JournalsView) → IsHeadedBy maps text options rest
    → (read : AreEntriesRead maps options rest done present count after) → IsJournalsFile maps text others → (others.options ≡ options) × (all_entries others.shards ≡ read.entries) × (after ≡ [])
same_file maps text rest after options done present count others headed read file =
    let parts = same_front 10 (header_text options) rest (header_text others.options) (entries_text (all_entries others.shards)) (header_lacks_feed maps options headed.fits.fit) (header_lacks_feed maps others.options file.journals_are.options_fit)
    (sym (one_line (header_text options) rest) ∙ sym headed.text_is ∙ file.spelled ∙ one_line (header_text others.options) (entries_text (all_entries others.shards))) in
    let same : others.options ≡ options = headed.only others.options (record { fits = record { fit = file.journals_are.options_fit; rows = file.rows }; spelled = parts.0 }) in
    let fit : AllByRecursion (IsFileEntry maps options) (all_entries others.shards) = rw same at file.fit in
    let falls : ShardsNeverFall 0 (all_entries others.shards) = listed_falls 0 others.shards file.listed 0 (omega arith) in
    let one = one_reading maps options 0 read.entries (all_entries others.shards) after read.known falls fit read.stops (sym read.text_is ∙ parts.1) in
    (same, sym one.0, one.1)

abbrev view : List MapDef → Options → List (List Entry) → JournalsView
view maps options shards = record { maps = maps; options = options; shards = shards }

view_same : (m n : List MapDef) (o p : Options) (s t : List (List Entry)) → m ≡ n → o ≡ p → s ≡ t → view m o s ≡ view n p t
view_same m n o p s t x y z = rw (x, y, z) refl

pub same_journals : (maps : List MapDef) (text : List ℕ) (journals others : JournalsView) (options : Options) (entries : List Entry) → IsJournalsFile maps text journals → IsJournalsFile maps text others
    → journals.options ≡ options → others.options ≡ options → all_entries journals.shards ≡ entries → all_entries others.shards ≡ entries → journals ≡ others
same_journals maps text journals others options entries file other a b c d =
    let long : length journals.shards ≡ length others.shards = file.journals_are.one_each ∙ ap (λ (o : Options). length maps * o.shards) (a ∙ sym b) ∙ sym other.journals_are.one_each in
    let lists : journals.shards ≡ others.shards = same_lists 0 journals.shards others.shards long file.listed other.listed (c ∙ sym d) in
    let maps_same : journals.maps ≡ others.maps = file.of_maps ∙ sym other.of_maps in
    let options_same : journals.options ≡ others.options = a ∙ sym b in
    view_same journals.maps others.maps journals.options others.options journals.shards others.shards maps_same options_same lists

-- ---- bad lines

pub no_header_no_file : (maps : List MapDef) (text : List ℕ) → BeginsWithNoHeader maps text → IsNoFile maps text
no_header_no_file maps text stops = λ journals file.
    stops journals.options (header_text journals.options) (entries_text (all_entries journals.shards)) (record { fits = record { fit = file.journals_are.options_fit; rows = file.rows }; spelled = refl })
    (file.spelled ∙ one_line (header_text journals.options) (entries_text (all_entries journals.shards)))

pub bad_after : (maps : List MapDef) (text rest after : List ℕ) (options : Options) (done : List (List Entry)) (present : List Entry) (count : ℕ) → IsHeadedBy maps text options rest
    → AreEntriesRead maps options rest done present count after → 0 < length after → IsBadAfterEntries maps text (2 + count) × IsNoFile maps text
bad_after maps text rest after options done present count headed read some = (
  record {
    options = options;
    entries = read.entries;
    rest = after;
    header = headed.fits;
    fit = known_fit maps options read.entries read.known;
    never_falls = read.never_falls;
    line_is = ap (λ (n : ℕ). 2 + n) read.counted;
    text_is = headed.text_is ∙ ap (λ (xs : List ℕ). ended (header_text options) ++ xs) read.text_is;
    not_ended = some;
    stops = read.stops;
  },
  λ journals file. let empty = (same_file maps text rest after options done present count journals headed read file).2 in let none : length after ≡ 0 = ap length empty in omega (arith, some, none),
)

-- ---- a file is text

printed_text : (xs : List ℕ) → all_bytes printed xs ≡ true → IsUtf8 xs
printed_text xs all = IsUtf8-from_ascii xs (λ i. IsAscii-from_reads xs (length xs) (omega arith) (λ k lt. below (get_or xs k 0) (each_passes printed xs all k lt)) i) where
  below : (b : ℕ) → printed b ≡ true → b < 128
  below b h = grind (arith, nat_tests)

feed_is_text : IsUtf8 (10 ∷ [])
feed_is_text = IsUtf8-from_ascii (10 ∷ []) (IsAscii-from_reads (10 ∷ []) 1 (omega arith) (λ k lt. one k lt)) where
  one : (k : ℕ) → k < 1 → get_or (10 ∷ []) k 0 < 128
  one zero lt = omega arith
  one (suc k) lt = absurd (omega arith)

ended_is_text : (line : List ℕ) → all_bytes printed line ≡ true → IsUtf8 (ended line)
ended_is_text line all = IsUtf8-append line (10 ∷ []) (printed_text line all) feed_is_text

entries_are_text : (maps : List MapDef) (options : Options) (entries : List Entry) → AllByRecursion (IsFileEntry maps options) entries → IsUtf8 (entries_text entries)
entries_are_text maps options [] fits = IsUtf8-nil
entries_are_text maps options (c ∷ entries) fits = IsUtf8-append (ended (line_of_entry c)) (entries_text entries) (ended_is_text (line_of_entry c) (line_printed c fits.0.fits)) (entries_are_text maps options entries fits.1)

pub is_text : (maps : List MapDef) (text : List ℕ) (journals : JournalsView) → IsJournalsFile maps text journals → IsUtf8 text
is_text maps text journals file =
    rw file.spelled
    (IsUtf8-append (ended (header_text journals.options)) (entries_text (all_entries journals.shards)) (ended_is_text (header_text journals.options) (header_printed_of maps journals.options file.journals_are.options_fit))
    (entries_are_text maps journals.options (all_entries journals.shards) file.fit))

-- each line is a byte at least
pub lines_within : (maps : List MapDef) (text rest after : List ℕ) (options : Options) (done : List (List Entry)) (present : List Entry) (count : ℕ) → IsHeadedBy maps text options rest
    → AreEntriesRead maps options rest done present count after → 1 + count ≤ length text
lines_within maps text rest after options done present count headed read =
    let long : length text ≡ length (ended (header_text options)) + length rest = ap length headed.text_is ∙ length-append (ended (header_text options)) rest in
    let line : length (ended (header_text options)) ≡ length (header_text options) + 1 = length-append (header_text options) (10 ∷ []) in
    let later : length rest ≡ length (entries_text read.entries) + length after = ap length read.text_is ∙ length-append (entries_text read.entries) after in
    let many : length read.entries ≤ length (entries_text read.entries) = entries_long read.entries in
    omega (arith, read.counted, long, line, later, many)

-- the entries of the file that was read
pub read_entries : (maps : List MapDef) (text rest after : List ℕ) (options : Options) (done : List (List Entry)) (present : List Entry) (count : ℕ) (journals others : JournalsView) → IsHeadedBy maps text options rest
    → AreEntriesRead maps options rest done present count after → IsJournalsFile maps text journals → IsJournalsFile maps text others → journals ≡ others
read_entries maps text rest after options done present count journals others headed read file other =
    let a = same_file maps text rest after options done present count journals headed read file in
    let b = same_file maps text rest after options done present count others headed read other in
    same_journals maps text journals others options read.entries file other a.0 b.0 a.1 b.1
