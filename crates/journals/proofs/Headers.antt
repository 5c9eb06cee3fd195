-- The first line is read in one way, and files are whole.
use Rattle.std.proofs.Common.{◌≡◌, ℕ, zero, suc, ◌+◌, ◌<◌, ◌^◌, true, List, [], ◌∷◌, ◌++◌, length, take, get_or, refl, sym, ap, subst, ◌∙◌, arith, append_assoc}
use Rattle.std.specs.Prelude.{Some, slice_get, codes}
use Rattle.std.specs.Fmt.{decimal}
use Rattle.std.proofs.lemmas.List.{append-nil}
use Rattle.std.proofs.lemmas.Grind.{flat_map-append}
use Rattle.ebpf_decode.specs.declared.map.MapDef.{MapDef}
use Rattle.semantics.specs.declared.call.Entry.{Entry}
use Rattle.semantics.specs.declared.options.Options.{Options}
use Rattle.semantics.specs.ShardPlan.{AreOptions, AreServedOptions}
use Rattle.semantics.proofs.shared.PlanLemmas.{few_parts}
use Rattle.text_lines.specs.Lines.{Lacks, ended}
use Rattle.text_lines.proofs.shared.LineLemmas.{lacks_mid, one_line, same_front}
use Rattle.journals.specs.JournalText.{line_of_entry, header_text, entries_text, all_entries}
use Rattle.journals.specs.JournalReading.{BeginsWithNoHeader, IsHeadedBy}
use Rattle.text_lines.proofs.shared.ByteLemmas.{all_bytes, all_append, lacks_from}
use Rattle.journals.proofs.Bytes.{printed, decimal_within, spaced, print_word}

-- ---- the header

header_printed : (options : Options) → options.workers < 2 ^ 64 → options.shards < 2 ^ 64 → options.journal < 2 ^ 64 → all_bytes printed (header_text options) ≡ true
unfolding header_text
header_printed options workers shards journal =
    all_append printed (codes "XLBJ 1 ") (decimal options.workers ++ 32 ∷ (decimal options.shards ++ 32 ∷ decimal options.journal)) refl
    (spaced (decimal options.workers) (decimal options.shards ++ 32 ∷ decimal options.journal) (decimal_within options.workers workers)
    (spaced (decimal options.shards) (decimal options.journal) (decimal_within options.shards shards) (print_word (decimal options.journal) (decimal_within options.journal journal))))

pub header_printed_of : (maps : List MapDef) (options : Options) → AreOptions maps options → all_bytes printed (header_text options) ≡ true
header_printed_of maps options fits =
    let few = few_parts maps options fits in
    header_printed options (omega (arith, fits.at_most_eight)) (omega (arith, few)) (omega (arith, fits.greatest_journal))

pub header_lacks_feed : (maps : List MapDef) (options : Options) → AreOptions maps options → Lacks 10 (header_text options)
header_lacks_feed maps options fits = lacks_from printed 10 (header_text options) (header_printed_of maps options fits) refl

-- what the reader of the line makes of any header
abbrev pub ReadsHeader : List ℕ → Options → Type 0
ReadsHeader line result = (options : Options) → options.workers < 2 ^ 32 → options.shards < 2 ^ 32 → options.journal < 2 ^ 32 → line ≡ header_text options → result ≡ options

pub header_found : (maps : List MapDef) (line : List ℕ) (result other : Options) → ReadsHeader line result → AreOptions maps other → line ≡ header_text other → result ≡ other
header_found maps line result other reads fits is =
    let few = few_parts maps other fits in
    reads other (omega (arith, fits.at_most_eight)) (omega (arith, few)) (omega (arith, fits.greatest_journal)) is

pub no_header_line : (maps : List MapDef) (text : List ℕ) → Lacks 10 text → BeginsWithNoHeader maps text
no_header_line maps text lacks = λ options line more is. λ e. lacks_mid 10 text line more lacks e

pub headed : (maps : List MapDef) (text line rest again : List ℕ) (options : Options) → text ≡ line ++ 10 ∷ rest → again ≡ header_text options → again ≡ line → AreServedOptions maps options
    → ReadsHeader line options → IsHeadedBy maps text options rest
headed maps text line rest again options is printed_is same fits reads =
    let line_is : line ≡ header_text options = sym same ∙ printed_is in
    record {
      fits = fits;
      text_is = is ∙ ap (λ (xs : List ℕ). xs ++ 10 ∷ rest) line_is ∙ sym (one_line (header_text options) rest);
      only = λ other other_is. sym (header_found maps line options other reads other_is.fits.fit (line_is ∙ other_is.spelled));
    }

-- a line that is none: no options have it that these maps can have
pub not_headed : (maps : List MapDef) (text line rest again : List ℕ) (result : Options) → text ≡ line ++ 10 ∷ rest → Lacks 10 line → again ≡ header_text result → ReadsHeader line result
    → (again ≡ line → AreServedOptions maps result → ⊥) → BeginsWithNoHeader maps text
not_headed maps text line rest again result is lacks printed_is reads fails = λ options other more other_is. λ e.
    let lacks_other : Lacks 10 other = rw other_is.spelled (header_lacks_feed maps options other_is.fits.fit) in
    let parts = same_front 10 line rest other more lacks lacks_other (sym is ∙ e) in
    let same : result ≡ options = header_found maps line result options reads other_is.fits.fit (parts.0 ∙ other_is.spelled) in
    let P : Options → Type 0 = λ o. AreServedOptions maps o in
    fails (printed_is ∙ ap header_text same ∙ sym other_is.spelled ∙ sym parts.0) (subst P (sym same) other_is.fits)

-- ---- what is written

pub entries_text-append : (xs ys : List Entry) → entries_text (xs ++ ys) ≡ entries_text xs ++ entries_text ys
entries_text-append xs ys = flat_map-append (λ (c : Entry). ended (line_of_entry c)) xs ys

entries_step : (xs : List Entry) (i : ℕ) (entry : Entry) → slice_get xs i ≡ Some entry → entries_text (take (suc i) xs) ≡ entries_text (take i xs) ++ ended (line_of_entry entry)
entries_step [] i entry is = absurd cc
entries_step (x ∷ xs) zero entry is =
    let same : x ≡ entry = cc in
    append-nil (ended (line_of_entry x)) ∙ ap (λ (e : Entry). ended (line_of_entry e)) same
entries_step (x ∷ xs) (suc i) entry is =
    ap (λ (ys : List ℕ). ended (line_of_entry x) ++ ys) (entries_step xs i entry is) ∙ sym (append_assoc (ended (line_of_entry x)) (entries_text (take i xs)) (ended (line_of_entry entry)))

pub entries_more : (xs : List Entry) (i : ℕ) (entry : Entry) → slice_get xs i ≡ Some entry → entries_text (take (i + 1) xs) ≡ entries_text (take i xs) ++ ended (line_of_entry entry)
entries_more xs i entry is = let e : i + 1 ≡ suc i = omega arith in ap (λ (n : ℕ). entries_text (take n xs)) e ∙ entries_step xs i entry is

-- one more line, as the code writes it
pub entry_written : (old now lined new : List ℕ) (xs : List Entry) (i : ℕ) (entry : Entry) → slice_get xs i ≡ Some entry → now ≡ old ++ entries_text (take i xs) → lined ≡ now ++ line_of_entry entry → new ≡ lined ++ 10 ∷ []
    → new ≡ old ++ entries_text (take (i + 1) xs)
entry_written old now lined new xs i entry is so_far line feed =
    feed ∙ ap (λ (ys : List ℕ). ys ++ 10 ∷ []) (line ∙ ap (λ (ys : List ℕ). ys ++ line_of_entry entry) so_far) ∙ append_assoc (old ++ entries_text (take i xs)) (line_of_entry entry) (10 ∷ [])
    ∙ append_assoc old (entries_text (take i xs)) (ended (line_of_entry entry)) ∙ ap (λ (ys : List ℕ). old ++ ys) (sym (entries_more xs i entry is))

shards_step : (shards : List (List Entry)) (i : ℕ) → i < length shards → entries_text (all_entries (take (suc i) shards)) ≡ entries_text (all_entries (take i shards)) ++ entries_text (get_or shards i [])
shards_step [] i lt = absurd (omega arith)
shards_step (s ∷ shards) zero lt = ap entries_text (append-nil s)
shards_step (s ∷ shards) (suc i) lt =
    entries_text-append s (all_entries (take (suc i) shards)) ∙ ap (λ (ys : List ℕ). entries_text s ++ ys) (shards_step shards i (omega arith))
    ∙ sym (append_assoc (entries_text s) (entries_text (all_entries (take i shards))) (entries_text (get_or shards i [])))
    ∙ ap (λ (ys : List ℕ). ys ++ entries_text (get_or shards i [])) (sym (entries_text-append s (all_entries (take i shards))))

-- the entries of one more shard
pub shard_written : (old now new : List ℕ) (shards : List (List Entry)) (i : ℕ) (entries : List Entry) → i < length shards → entries ≡ get_or shards i [] → now ≡ old ++ entries_text (all_entries (take i shards))
    → new ≡ now ++ entries_text entries → new ≡ old ++ entries_text (all_entries (take (i + 1) shards))
shard_written old now new shards i entries lt is so_far more =
    let e : suc i ≡ i + 1 = omega arith in
    more ∙ ap (λ (ys : List ℕ). ys ++ entries_text entries) so_far ∙ append_assoc old (entries_text (all_entries (take i shards))) (entries_text entries)
    ∙ ap (λ (ys : List Entry). old ++ (entries_text (all_entries (take i shards)) ++ entries_text ys)) is ∙ ap (λ (ys : List ℕ). old ++ ys) (sym (shards_step shards i lt))
    ∙ ap (λ (n : ℕ). old ++ entries_text (all_entries (take n shards))) e
