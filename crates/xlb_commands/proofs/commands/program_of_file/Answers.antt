use Rattle.std.proofs.Common.{◌≡◌, ◌∙◌, ℕ, List, Bool, Err, IfErr, IfOk, Ok, Result, true, false, ap, sym, subst, take}
use Rattle.std.proofs.lemmas.Result.{err_from_is_err_and}
use Rattle.folders.specs.Fronts.{IsFrontOf}
use Rattle.folders.specs.declared.folder.Front.{Front}
use Rattle.source_form.specs.SourceImage.{IsSource}
use Rattle.source_form.specs.SourceBeginning.{begins_as_source}
use Rattle.xlb_commands.specs.Files.{an_image, a_source}
use Rattle.xlb_commands.specs.Refused.{IsNoSource, no_judged_bytes, no_judged_image, no_judged_source, kept_of_image}
use Rattle.xlb_commands.proofs.LongImages.{full_front}
use Rattle.xlb_commands.proofs.Refusals.{unserved_since, failed_since}
use Rattle.xlb_commands.proofs.commands.program_of_file.Goals as goal

-- how the front begins, the file does
begins_alike : (bytes shown : List ℕ) (front : Front) (is : Bool) (so : Bool) → IsFrontOf bytes kept_of_image front → shown ≡ front.bytes.items → is ≡ begins_as_source shown
    → is ≡ so → begins_as_source (take kept_of_image bytes) ≡ so
begins_alike bytes shown front is so is_front same begins so_is = ap begins_as_source (sym is_front.kept) ∙ (ap begins_as_source (sym same) ∙ (sym begins ∙ so_is))

pub returns-in_err-front-clause-refused : goal.returns-in_err-front-clause-refused
returns-in_err-front-clause-refused g c =
    let p = err_from_is_err_and c.from_residual.result c.from_residual.ensures.1 in
    rw (p.1, p.2) (no_judged_bytes c.in_err-front.ensures.refused)

-- what is returned for one reason is for another
ok_weaker : {A E : Type 0} {P Q : A → Type 0} (r : Result A E) → ((x : A) → P x → Q x) → IfOk r P → IfOk r Q
ok_weaker (Ok x) more h = more x h
ok_weaker (Err e) more h = tt

err_weaker : {A E : Type 0} {P Q : E → Type 0} (r : Result A E) → ((e : E) → P e → Q e) → IfErr r P → IfErr r Q
err_weaker (Ok x) more h = tt
err_weaker (Err e) more h = more e h

pub image_without_source-requires : goal.image_without_source-requires
image_without_source-requires g c = λ cut.
    let front = c.in_ok-front.ensures.front in
    full_front front.bytes kept_of_image c.in_ok-front.front front.is_front cut

pub returns-then-not-begins_as_source-clause-file : goal.returns-then-not-begins_as_source-clause-file
returns-then-not-begins_as_source-clause-file g c =
    let front = c.in_ok-front.ensures.front in
    ok_weaker c.image_without_source.result
    (λ program found. an_image (record { bytes = front.bytes; read = front.held; encoding = found front.bytes front.is_front }))
    c.image_without_source.ensures.found

pub returns-then-not-begins_as_source-clause-refused : goal.returns-then-not-begins_as_source-clause-refused
returns-then-not-begins_as_source-clause-refused g c =
    let front = c.in_ok-front.ensures.front in
    let begins = begins_alike front.bytes _ c.in_ok-front.front _ false front.is_front c.deref.ensures.value c.begins_as_source.ensures c.if-not-begins_as_source.true in
    err_weaker c.image_without_source.result
    (λ refusal why. no_judged_image front.bytes front.held begins (why front.bytes front.is_front))
    c.image_without_source.ensures.refused

pub source_bytes-requires-clause-front : goal.source_bytes-requires-clause-front
source_bytes-requires-clause-front g c =
    let front = c.in_ok-front.ensures.front in
    record { bytes = front.bytes; held = (c.in_ok-front.ensures.kept c.args.name.now front.bytes).0 front.held; is_front = front.is_front }

pub returns-in_err-bytes-clause-refused : goal.returns-in_err-bytes-clause-refused
returns-in_err-bytes-clause-refused g c =
    let p = err_from_is_err_and c.from_residual-in_err-bytes.result c.from_residual-in_err-bytes.ensures.1 in
    rw (p.1, p.2) (no_judged_bytes (unserved_since _ _ _ (failed_since _ _ _ c.in_ok-front.ensures.steady) c.in_err-bytes.ensures.refused))

pub returns-in-Ok-clause-file : goal.returns-in-Ok-clause-file
returns-in-Ok-clause-file g c =
    let read = (c.in_ok-front.ensures.kept c.args.name.now c.in_ok-bytes.bytes.items).1 c.in_ok-bytes.ensures.bytes in
    a_source c.in_ok-bytes.bytes.items read
    (subst (λ (text : List ℕ). IsSource text c.in-Ok.image) c.deref-2.ensures.value c.in-Ok.ensures.found)

pub returns-in-Err-clause-refused : goal.returns-in-Err-clause-refused
returns-in-Err-clause-refused g c =
    let front = c.in_ok-front.ensures.front in
    let begins = begins_alike front.bytes _ c.in_ok-front.front _ true front.is_front c.deref.ensures.value c.begins_as_source.ensures c.if-not-begins_as_source.false in
    let read = (c.in_ok-front.ensures.kept c.args.name.now c.in_ok-bytes.bytes.items).1 c.in_ok-bytes.ensures.bytes in
    no_judged_source c.in_ok-bytes.bytes.items (record { bytes = front.bytes; read = front.held; begins = begins }) read
    (subst (λ (text : List ℕ). IsNoSource text c.in-Err.refusal.fault) c.deref-2.ensures.value c.in-Err.ensures.refused)
