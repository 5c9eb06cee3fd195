-- Which bytes are in the words of a line.
use Rattle.std.proofs.Common.{◌≡◌, ℕ, zero, suc, ◌+◌, ◌<◌, ◌^◌, ◌/◌, ◌%◌, Bool, true, List, [], ◌∷◌, ◌++◌, get_or, refl, arith}
use Rattle.std.specs.Prelude.{ℤ, pos, negsuc, FitsSigned, codes}
use Rattle.std.specs.Int.{w32}
use Rattle.std.specs.Fmt.{decimal, signed_decimal}
use Rattle.std.proofs.lemmas.Fmt.{decimal_by_steps}
use Rattle.std.proofs.lemmas.Bool.Decides.{nat_tests}
use Rattle.hex.specs.Hex.{encode_with, encode_lower, lower_digits, IsBytes}
use Rattle.semantics.specs.declared.call.Caller.{Caller}
use Rattle.semantics.specs.declared.call.Caller.TheVariants.{Worker, Controller, Reclaimer}
use Rattle.semantics.specs.declared.call.Call.{Call}
use Rattle.semantics.specs.declared.call.Call.TheVariants as calls
use Rattle.semantics.specs.declared.call.Reply.{Reply}
use Rattle.semantics.specs.declared.call.Reply.TheVariants.{Entered, Left, Cell, Null, Word, Done, Answer, Freed}
use Rattle.semantics.specs.declared.call.Entry.{Entry}
use Rattle.semantics.specs.History.{shard_of_call}
use Rattle.text_lines.proofs.shared.ByteLemmas.{all_bytes, within, both, joined, all_append, all_more}
use Rattle.journals.specs.declared.verb.Verb.{Verb}
use Rattle.journals.specs.declared.verb.Verb.TheVariants.{Enter, Leave, Lookup, Load, Store, Atomic, Update, Delete, Reclaim}
use Rattle.journals.specs.JournalText.{who_text, verb_text, verb_of_call, reply_text, told_text, line_of_entry}
use Rattle.journals.specs.EntryForm.{CallerFits, CallFits, ReplyFits, EntryFits, IsFinding, IsWord, IsAnswerReply, IsFreed, IsEntered, IsLeftReply, IsDoneReply}

-- ---- words: bytes above the space

abbrev pub word : ℕ → Bool
word = within 33 128

digit_within : (m : ℕ) → m < 10 → all_bytes word ((48 + m) ∷ []) ≡ true
digit_within m lt = grind (arith, nat_tests)

pub decimal_within : (n : ℕ) → n < 2 ^ 64 → all_bytes word (decimal n) ≡ true
decimal_within n small =
    decimal_by_steps (λ m ds. all_bytes word ds ≡ true) (λ m lt. digit_within m lt)
    (λ m ds le a. all_append word ds ((48 + m % 10) ∷ []) a (digit_within (m % 10) (omega arith))) n small

signed_within : (z : ℤ) → FitsSigned w32 z → all_bytes word (signed_decimal z) ≡ true
signed_within (pos n) fits = decimal_within n (omega (arith, fits))
signed_within (negsuc n) fits = all_more word 45 (decimal (suc n)) refl (decimal_within (suc n) (omega (arith, fits)))

hex_digit_within : (d : ℕ) → d < 16 → word (get_or lower_digits d 0) ≡ true
hex_digit_within zero lt = refl
hex_digit_within (suc zero) lt = refl
hex_digit_within (suc (suc zero)) lt = refl
hex_digit_within (suc (suc (suc zero))) lt = refl
hex_digit_within (suc (suc (suc (suc zero)))) lt = refl
hex_digit_within (suc (suc (suc (suc (suc zero))))) lt = refl
hex_digit_within (suc (suc (suc (suc (suc (suc zero)))))) lt = refl
hex_digit_within (suc (suc (suc (suc (suc (suc (suc zero))))))) lt = refl
hex_digit_within (suc (suc (suc (suc (suc (suc (suc (suc zero)))))))) lt = refl
hex_digit_within (suc (suc (suc (suc (suc (suc (suc (suc (suc zero))))))))) lt = refl
hex_digit_within (suc (suc (suc (suc (suc (suc (suc (suc (suc (suc zero)))))))))) lt = refl
hex_digit_within (suc (suc (suc (suc (suc (suc (suc (suc (suc (suc (suc zero))))))))))) lt = refl
hex_digit_within (suc (suc (suc (suc (suc (suc (suc (suc (suc (suc (suc (suc zero)))))))))))) lt = refl
hex_digit_within (suc (suc (suc (suc (suc (suc (suc (suc (suc (suc (suc (suc (suc zero))))))))))))) lt = refl
hex_digit_within (suc (suc (suc (suc (suc (suc (suc (suc (suc (suc (suc (suc (suc (suc zero)))))))))))))) lt = refl
hex_digit_within (suc (suc (suc (suc (suc (suc (suc (suc (suc (suc (suc (suc (suc (suc (suc zero))))))))))))))) lt = refl
hex_digit_within (suc (suc (suc (suc (suc (suc (suc (suc (suc (suc (suc (suc (suc (suc (suc (suc d)))))))))))))))) lt = absurd (omega arith)

pub hex_within : (bytes : List ℕ) → IsBytes bytes → all_bytes word (encode_lower bytes) ≡ true
unfolding encode_with
hex_within [] fits = refl
hex_within (b ∷ bytes) fits =
    let small : b < 256 = fits 0 in
    all_more word (get_or lower_digits (b / 16) 0) (get_or lower_digits (b % 16) 0 ∷ encode_lower bytes) (hex_digit_within (b / 16) (omega arith))
    (all_more word (get_or lower_digits (b % 16) 0) (encode_lower bytes) (hex_digit_within (b % 16) (omega arith)) (hex_within bytes (λ i. fits (suc i))))

pub who_within : (who : Caller) → CallerFits who → all_bytes word (who_text who) ≡ true
who_within (Worker number) fits = all_more word 119 (decimal number) refl (decimal_within number (omega (arith, fits)))
who_within Controller fits = refl
who_within Reclaimer fits = refl

pub verb_within : (verb : Verb) → all_bytes word (verb_text verb) ≡ true
verb_within Enter = refl
verb_within Leave = refl
verb_within Lookup = refl
verb_within Load = refl
verb_within Store = refl
verb_within Atomic = refl
verb_within Update = refl
verb_within Delete = refl
verb_within Reclaim = refl

-- ---- lines: printable bytes and spaces

abbrev pub printed : ℕ → Bool
printed = within 32 128

wider : (b : ℕ) → word b ≡ true → printed b ≡ true
wider b a = grind (arith, nat_tests)

pub print_word : (xs : List ℕ) → all_bytes word xs ≡ true → all_bytes printed xs ≡ true
print_word [] a = refl
print_word (x ∷ xs) a =
    let s = both (word x) (all_bytes word xs) a in
    joined (printed x) (all_bytes printed xs) (wider x s.0) (print_word xs s.1)

-- a word, a space and the rest
pub spaced : (xs ys : List ℕ) → all_bytes word xs ≡ true → all_bytes printed ys ≡ true → all_bytes printed (xs ++ 32 ∷ ys) ≡ true
spaced xs ys a b = all_append printed xs (32 ∷ ys) (print_word xs a) (all_more printed 32 ys refl b)

number_before : (n : ℕ) (ys : List ℕ) → n < 2 ^ 64 → all_bytes printed ys ≡ true → all_bytes printed (decimal n ++ 32 ∷ ys) ≡ true
number_before n ys lt b = spaced (decimal n) ys (decimal_within n lt) b

hex_before : (bytes ys : List ℕ) → IsBytes bytes → all_bytes printed ys ≡ true → all_bytes printed (encode_lower bytes ++ 32 ∷ ys) ≡ true
hex_before bytes ys fits b = spaced (encode_lower bytes) ys (hex_within bytes fits) b

after_word : (xs ys : List ℕ) → all_bytes printed xs ≡ true → all_bytes word ys ≡ true → all_bytes printed (xs ++ ys) ≡ true
after_word xs ys a b = all_append printed xs ys a (print_word ys b)

finding_printed : (shard : ℕ) (reply : Reply) → IsFinding shard reply → all_bytes printed (reply_text reply) ≡ true
finding_printed shard (Cell cell) fits = after_word (codes "cell ") (decimal cell.id) refl (decimal_within cell.id fits.1)
finding_printed shard Null fits = refl
finding_printed shard Entered fits = refl
finding_printed shard Left fits = refl
finding_printed shard Done fits = refl
finding_printed shard (Word value) fits = absurd fits
finding_printed shard (Answer code) fits = absurd fits
finding_printed shard (Freed count) fits = absurd fits

word_printed : (reply : Reply) → IsWord reply → all_bytes printed (reply_text reply) ≡ true
word_printed (Word value) fits = after_word (codes "word ") (decimal value) refl (decimal_within value fits)
word_printed (Cell cell) fits = absurd fits
word_printed Null fits = refl
word_printed Entered fits = refl
word_printed Left fits = refl
word_printed Done fits = refl
word_printed (Answer code) fits = absurd fits
word_printed (Freed count) fits = absurd fits

answer_printed : (reply : Reply) → IsAnswerReply reply → all_bytes printed (reply_text reply) ≡ true
answer_printed (Answer code) fits = after_word (codes "answer ") (signed_decimal code) refl (signed_within code fits)
answer_printed (Cell cell) fits = absurd fits
answer_printed Null fits = refl
answer_printed Entered fits = refl
answer_printed Left fits = refl
answer_printed Done fits = refl
answer_printed (Word value) fits = absurd fits
answer_printed (Freed count) fits = absurd fits

freed_printed : (reply : Reply) → IsFreed reply → all_bytes printed (reply_text reply) ≡ true
freed_printed (Freed count) fits = after_word (codes "freed ") (decimal count) refl (decimal_within count fits)
freed_printed (Cell cell) fits = absurd fits
freed_printed Null fits = refl
freed_printed Entered fits = refl
freed_printed Left fits = refl
freed_printed Done fits = refl
freed_printed (Word value) fits = absurd fits
freed_printed (Answer code) fits = absurd fits

entered_printed : (reply : Reply) → IsEntered reply → all_bytes printed (reply_text reply) ≡ true
entered_printed Entered fits = refl
entered_printed Left fits = absurd fits
entered_printed (Cell cell) fits = absurd fits
entered_printed Null fits = absurd fits
entered_printed (Word value) fits = absurd fits
entered_printed Done fits = absurd fits
entered_printed (Answer code) fits = absurd fits
entered_printed (Freed count) fits = absurd fits

left_printed : (reply : Reply) → IsLeftReply reply → all_bytes printed (reply_text reply) ≡ true
left_printed Left fits = refl
left_printed Entered fits = absurd fits
left_printed (Cell cell) fits = absurd fits
left_printed Null fits = absurd fits
left_printed (Word value) fits = absurd fits
left_printed Done fits = absurd fits
left_printed (Answer code) fits = absurd fits
left_printed (Freed count) fits = absurd fits

done_printed : (reply : Reply) → IsDoneReply reply → all_bytes printed (reply_text reply) ≡ true
done_printed Done fits = refl
done_printed Entered fits = absurd fits
done_printed Left fits = absurd fits
done_printed (Cell cell) fits = absurd fits
done_printed Null fits = absurd fits
done_printed (Word value) fits = absurd fits
done_printed (Answer code) fits = absurd fits
done_printed (Freed count) fits = absurd fits

told_printed : (call : Call) (reply : Reply) → CallFits call → ReplyFits call reply → all_bytes printed (told_text call (reply_text reply)) ≡ true
unfolding told_text CallFits ReplyFits
told_printed (calls.Enter shard) reply fits replies = entered_printed reply replies
told_printed (calls.Leave shard) reply fits replies = left_printed reply replies
told_printed (calls.Lookup shard key) reply fits replies = hex_before key (reply_text reply) fits.1.1 (finding_printed shard reply replies)
told_printed (calls.Load cell offset size) reply fits replies =
    number_before cell.id (decimal offset ++ 32 ∷ (decimal size ++ 32 ∷ reply_text reply)) fits.0.1
    (number_before offset (decimal size ++ 32 ∷ reply_text reply) fits.1 (number_before size (reply_text reply) fits.2 (word_printed reply replies)))
told_printed (calls.Store cell offset size value) reply fits replies =
    number_before cell.id (decimal offset ++ 32 ∷ (decimal size ++ 32 ∷ (decimal value ++ 32 ∷ reply_text reply))) fits.0.1
    (number_before offset (decimal size ++ 32 ∷ (decimal value ++ 32 ∷ reply_text reply)) fits.1
    (number_before size (decimal value ++ 32 ∷ reply_text reply) fits.2 (number_before value (reply_text reply) fits.3 (done_printed reply replies))))
told_printed (calls.Atomic cell offset size op value expected) reply fits replies =
    number_before cell.id (decimal offset ++ 32 ∷ (decimal size ++ 32 ∷ (decimal op ++ 32 ∷ (decimal value ++ 32 ∷ (decimal expected ++ 32 ∷ reply_text reply))))) fits.0.1
    (number_before offset (decimal size ++ 32 ∷ (decimal op ++ 32 ∷ (decimal value ++ 32 ∷ (decimal expected ++ 32 ∷ reply_text reply)))) fits.1
    (number_before size (decimal op ++ 32 ∷ (decimal value ++ 32 ∷ (decimal expected ++ 32 ∷ reply_text reply))) fits.2
    (number_before op (decimal value ++ 32 ∷ (decimal expected ++ 32 ∷ reply_text reply)) fits.3
    (number_before value (decimal expected ++ 32 ∷ reply_text reply) fits.4 (number_before expected (reply_text reply) fits.5 (word_printed reply replies))))))
told_printed (calls.Update shard key value flags) reply fits replies =
    hex_before key (encode_lower value ++ 32 ∷ (decimal flags ++ 32 ∷ reply_text reply)) fits.1.1
    (hex_before value (decimal flags ++ 32 ∷ reply_text reply) fits.2.1 (number_before flags (reply_text reply) fits.3 (answer_printed reply replies)))
told_printed (calls.Delete shard key) reply fits replies = hex_before key (reply_text reply) fits.1.1 (answer_printed reply replies)
told_printed (calls.Reclaim shard) reply fits replies = freed_printed reply replies

pub shard_small : (call : Call) → CallFits call → shard_of_call call < 2 ^ 32
unfolding CallFits
shard_small (calls.Enter shard) fits = fits
shard_small (calls.Leave shard) fits = fits
shard_small (calls.Lookup shard key) fits = fits.0
shard_small (calls.Load cell offset size) fits = fits.0.0
shard_small (calls.Store cell offset size value) fits = fits.0.0
shard_small (calls.Atomic cell offset size op value expected) fits = fits.0.0
shard_small (calls.Update shard key value flags) fits = fits.0
shard_small (calls.Delete shard key) fits = fits.0
shard_small (calls.Reclaim shard) fits = fits

pub line_printed : (entry : Entry) → EntryFits entry → all_bytes printed (line_of_entry entry) ≡ true
unfolding line_of_entry
line_printed entry fits =
    let small = shard_small entry.call fits.call in
    let told = told_printed entry.call entry.reply fits.call fits.reply in
    number_before (shard_of_call entry.call) (who_text entry.who ++ 32 ∷ (verb_text (verb_of_call entry.call) ++ 32 ∷ told_text entry.call (reply_text entry.reply))) (omega (arith, small))
    (spaced (who_text entry.who) (verb_text (verb_of_call entry.call) ++ 32 ∷ told_text entry.call (reply_text entry.reply)) (who_within entry.who fits.who)
    (spaced (verb_text (verb_of_call entry.call)) (told_text entry.call (reply_text entry.reply)) (verb_within (verb_of_call entry.call)) told))
