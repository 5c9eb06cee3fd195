-- Words are read back.
use Rattle.std.proofs.Common.{◌≡◌, ℕ, zero, suc, ◌+◌, ◌*◌, ◌<◌, ◌^◌, ◌/◌, List, [], ◌∷◌, length, drop, get_or, Result, Ok, Err, refl, sym, ap, ◌∙◌, arith}
use Rattle.std.specs.Prelude.{◌≢◌, ℤ, pos, negsuc, FitsSigned, codes}
use Rattle.std.specs.Int.{w32}
use Rattle.std.specs.Fmt.{decimal, signed_decimal}
use Rattle.std.specs.Str.Parse.{ParsesSigned}
use Rattle.std.proofs.lemmas.Fmt.{parse-signed_decimal, decimal_digit}
use Rattle.std.specs.Prelude.{MatchResult}
use Rattle.std.proofs.lemmas.Int.{to_z-of_z}
use mir.Val.{to_z, of_z}
use Rattle.hex.specs.declared.error.FromHexError.{FromHexError}
use Rattle.hex.specs.Hex.{encode_lower, lower_digits, decode_sized, IsBytes}
use Rattle.hex.proofs.HexLemmas.{decode_sized-encode_lower, length-encode_with}
use Rattle.semantics.specs.declared.call.Caller.{Caller}
use Rattle.semantics.specs.declared.call.Caller.TheVariants.{Worker, Controller, Reclaimer}
use Rattle.semantics.specs.declared.call.Call.{Call}
use Rattle.semantics.specs.declared.call.Call.TheVariants as calls
use Rattle.semantics.specs.declared.call.Reply.{Reply}
use Rattle.semantics.specs.declared.call.Reply.TheVariants.{Entered, Left, Cell, Null, Word, Done, Answer, Freed}
use Rattle.semantics.specs.declared.call.Entry.{Entry}
use Rattle.semantics.specs.History.{shard_of_call, entry_of}
use Rattle.journals.specs.declared.verb.Verb.{Verb}
use Rattle.journals.specs.JournalText.{who_text, verb_text, verb_of_call, reply_text, told_text}
use Rattle.journals.specs.EntryForm.{CallerFits, CallFits, ReplyFits, EntryFits, IsEntered, IsLeftReply, IsDoneReply}
use Rattle.journals.specs.ToldReading.{Reads}
use Rattle.text_lines.specs.Lines.{Lacks}
use Rattle.text_lines.proofs.shared.ByteLemmas.{lacks_from}
use Rattle.journals.proofs.Bytes.{word, decimal_within, hex_within, who_within, verb_within}

pub signed_read : {E : Type 0} (z : ℤ) (bs : List ℕ) (r : Result ℤ E) → FitsSigned w32 z → bs ≡ signed_decimal z → ParsesSigned w32 10 bs r → r ≡ Ok z
signed_read (pos n) bs r fits is h = parse-signed_decimal w32 (pos n) bs r fits (omega arith) is h
signed_read (negsuc n) bs r fits is h = parse-signed_decimal w32 (negsuc n) bs r fits (omega arith) is h

-- ---- no word has a space

pub number_lacks : (n : ℕ) → n < 2 ^ 64 → Lacks 32 (decimal n)
number_lacks n lt = lacks_from word 32 (decimal n) (decimal_within n lt) refl

pub hex_lacks : (bytes : List ℕ) → IsBytes bytes → Lacks 32 (encode_lower bytes)
hex_lacks bytes fits = lacks_from word 32 (encode_lower bytes) (hex_within bytes fits) refl

pub who_lacks : (who : Caller) → CallerFits who → Lacks 32 (who_text who)
who_lacks who fits = lacks_from word 32 (who_text who) (who_within who fits) refl

pub verb_lacks : (verb : Verb) → Lacks 32 (verb_text verb)
verb_lacks verb = lacks_from word 32 (verb_text verb) (verb_within verb) refl

-- ---- who called

-- the text of a worker's number is its digit
worker_text : (n : ℕ) → n < 8 → who_text (Worker n) ≡ 119 ∷ (48 + n) ∷ []
worker_text n lt = ap (λ (xs : List ℕ). 119 ∷ xs) (decimal_digit n (omega arith))

-- the digit behind the letter, which is the worker's
pub worker_is : (n : ℕ) (text : List ℕ) (who : Caller) → text ≡ 119 ∷ (48 + n) ∷ [] → CallerFits who → text ≡ who_text who → Worker n ≡ who
worker_is n text (Worker m) is fits same =
    let e : (48 + n) ∷ [] ≡ (48 + m) ∷ [] = ap (drop 1) (sym is ∙ same ∙ worker_text m fits) in
    let d : 48 + n ≡ 48 + m = ap (λ (xs : List ℕ). get_or xs 0 0) e in
    let g : n ≡ m = omega (arith, d) in
    ap Worker g
worker_is n text Controller is fits same = let e : length (119 ∷ (48 + n) ∷ []) ≡ 1 = ap length (sym is ∙ same) in absurd (omega (arith, e))
worker_is n text Reclaimer is fits same = let e : length (119 ∷ (48 + n) ∷ []) ≡ 1 = ap length (sym is ∙ same) in absurd (omega (arith, e))

-- none of the others is left
pub last_worker : (text : List ℕ) (who : Caller) → CallerFits who → text ≡ who_text who → text ≢ codes "c" → text ≢ codes "r" → text ≢ codes "w0" → text ≢ codes "w1" → text ≢ codes "w2"
    → text ≢ codes "w3" → text ≢ codes "w4" → text ≢ codes "w5" → text ≢ codes "w6" → Worker 7 ≡ who
last_worker text Controller fits same c r a b d e f g h = absurd (c same)
last_worker text Reclaimer fits same c r a b d e f g h = absurd (r same)
last_worker text (Worker zero) fits same c r a b d e f g h = absurd (a (same ∙ worker_text 0 fits))
last_worker text (Worker (suc zero)) fits same c r a b d e f g h = absurd (b (same ∙ worker_text 1 fits))
last_worker text (Worker (suc (suc zero))) fits same c r a b d e f g h = absurd (d (same ∙ worker_text 2 fits))
last_worker text (Worker (suc (suc (suc zero)))) fits same c r a b d e f g h = absurd (e (same ∙ worker_text 3 fits))
last_worker text (Worker (suc (suc (suc (suc zero))))) fits same c r a b d e f g h = absurd (f (same ∙ worker_text 4 fits))
last_worker text (Worker (suc (suc (suc (suc (suc zero)))))) fits same c r a b d e f g h = absurd (g (same ∙ worker_text 5 fits))
last_worker text (Worker (suc (suc (suc (suc (suc (suc zero))))))) fits same c r a b d e f g h = absurd (h (same ∙ worker_text 6 fits))
last_worker text (Worker (suc (suc (suc (suc (suc (suc (suc zero)))))))) fits same c r a b d e f g h = refl
last_worker text (Worker (suc (suc (suc (suc (suc (suc (suc (suc n))))))))) fits same c r a b d e f g h = absurd (omega (arith, fits))

-- ---- an entry by its verb

entered_is : (who : Caller) (call : Call) (reply : Reply) → IsEntered reply → entry_of who call Entered ≡ entry_of who call reply
entered_is who call Entered is = refl
entered_is who call Left is = absurd is
entered_is who call (Cell cell) is = absurd is
entered_is who call Null is = absurd is
entered_is who call (Word value) is = absurd is
entered_is who call Done is = absurd is
entered_is who call (Answer code) is = absurd is
entered_is who call (Freed count) is = absurd is

left_is : (who : Caller) (call : Call) (reply : Reply) → IsLeftReply reply → entry_of who call Left ≡ entry_of who call reply
left_is who call Left is = refl
left_is who call Entered is = absurd is
left_is who call (Cell cell) is = absurd is
left_is who call Null is = absurd is
left_is who call (Word value) is = absurd is
left_is who call Done is = absurd is
left_is who call (Answer code) is = absurd is
left_is who call (Freed count) is = absurd is

done_is : (reply : Reply) → IsDoneReply reply → reply ≡ Done
done_is Done is = refl
done_is Entered is = absurd is
done_is Left is = absurd is
done_is (Cell cell) is = absurd is
done_is Null is = absurd is
done_is (Word value) is = absurd is
done_is (Answer code) is = absurd is
done_is (Freed count) is = absurd is

-- what is read by the verb, where the text is that of a fitting call and reply, is their entry
pub reads_call : (who : Caller) (call : Call) (reply : Reply) (text : List ℕ) (result : Entry) → CallFits call → ReplyFits call reply
    → Reads (verb_of_call call) who (shard_of_call call) text result → text ≡ told_text call (reply_text reply) → result ≡ entry_of who call reply
unfolding Reads CallFits ReplyFits
reads_call who (calls.Enter shard) reply text result fits replies reads is = reads ∙ entered_is who (calls.Enter shard) reply replies
reads_call who (calls.Leave shard) reply text result fits replies reads is = reads ∙ left_is who (calls.Leave shard) reply replies
reads_call who (calls.Lookup shard key) reply text result fits replies reads is = reads key reply fits.1 replies is
reads_call who (calls.Load cell offset size) reply text result fits replies reads is = reads cell.id offset size reply fits.0.1 fits.1 fits.2 replies is
reads_call who (calls.Store cell offset size value) reply text result fits replies reads is =
    let done = done_is reply replies in
    let told : text ≡ told_text (calls.Store cell offset size value) (reply_text Done) = is ∙ ap (λ (r : Reply). told_text (calls.Store cell offset size value) (reply_text r)) done in
    reads cell.id offset size value fits.0.1 fits.1 fits.2 fits.3 told ∙ ap (λ (r : Reply). entry_of who (calls.Store cell offset size value) r) (sym done)
reads_call who (calls.Atomic cell offset size op value expected) reply text result fits replies reads is =
    reads cell.id offset size op value expected reply fits.0.1 fits.1 fits.2 fits.3 fits.4 fits.5 replies is
reads_call who (calls.Update shard key value flags) reply text result fits replies reads is = reads key value flags reply fits.1 fits.2 fits.3 replies is
reads_call who (calls.Delete shard key) reply text result fits replies reads is = reads key reply fits.1 replies is
reads_call who (calls.Reclaim shard) reply text result fits replies reads is = reads reply replies is

-- the same of an entry, whose parts were read one by one
pub reads_entry : (entry : Entry) (verb : Verb) (who : Caller) (shard : ℕ) (text : List ℕ) (result : Entry) → EntryFits entry → verb ≡ verb_of_call entry.call → who ≡ entry.who
    → shard ≡ shard_of_call entry.call → Reads verb who shard text result → text ≡ told_text entry.call (reply_text entry.reply) → result ≡ entry
reads_entry entry verb who shard text result fits verb_is who_is shard_is reads is =
    reads_call entry.who entry.call entry.reply text result fits.call fits.reply (rw (← verb_is, ← who_is, ← shard_is) reads) is

-- ---- numbers and bytes

pub back_to : (value n : ℤ) → FitsSigned w32 n → value ≡ n → to_z w32 (of_z w32 value) ≡ n
back_to value n fits is = rw is (to_z-of_z w32 n fits)

pub decoded : (text old bytes : List ℕ) (r : Result Unit FromHexError) (new : List ℕ) → length bytes ≡ length old → IsBytes bytes → text ≡ encode_lower bytes
    → MatchResult (decode_sized text (length old)) (λ made. (r ≡ Ok tt) × (new ≡ made)) (λ e. r ≡ Err e) → new ≡ bytes
decoded text old bytes r new long fits is h =
    let same : decode_sized text (length old) ≡ Ok bytes = rw (is, ← long) (decode_sized-encode_lower bytes (length bytes) refl fits) in
    (rw same at h).1

-- every byte has two digits
pub half_length : (text bytes : List ℕ) → text ≡ encode_lower bytes → length text / 2 ≡ length bytes
half_length text bytes is =
    let long : length text ≡ 2 * length bytes = ap length is ∙ length-encode_with lower_digits bytes in
    omega (arith, long)
