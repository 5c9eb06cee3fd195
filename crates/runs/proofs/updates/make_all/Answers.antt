use Rattle.std.proofs.Common.{rules, ◌≡◌, ◌<◌, length, pos, ℕ, ℤ, List, sym, ap, ◌∙◌, subst, arith, to_z, of_z, w32}
use Rattle.std.specs.Prelude.{All, FitsSigned, IsTrue, slice_get}
use Rattle.std.specs.Coded.{Coded-set, coded_bool}
use Rattle.std.proofs.Math.Logic.{∥∥₁_elim}
use Rattle.std.proofs.lemmas.Int.{to_z-of_z}
use Rattle.ebpf_decode.specs.declared.map.MapDef.{MapDef}
use Rattle.shard_port.specs.PortView.{AreShardsOf}
use Rattle.runs.specs.Updates.{served_by, shard_of_update, may_update, IsUpdateMade}
use Rattle.runs.proofs.UpdateLemmas.{fits_at, may_make, ready_for, updated_more, still_serve, is_next}
use Rattle.runs.proofs.updates.make_all.Goals as goal

pub make-requires : goal.make-requires
make-requires c =
    let maps = c.args.image.now.maps in
    let options = c.args.options.now in
    let update = c.index-updates-place.result in
    let within : c.updates.place < length c.args.updates.now = (let below = c.updates-test.true in omega (arith, below)) in
    let at : c.shard_of-number.result ≡ shard_of_update (served_by maps options) update =
    c.shard_of-number.ensures ∙ ap (λ (ms : List MapDef). shard_of_update (served_by ms options) update) c.maps_of-maps.ensures.maps in
    let bytes : All (λ byte. byte < 256) update.key = subst (λ (xs : List ℕ). All (λ byte. byte < 256) xs) c.as_slice.ensures.bytes c.bytes_have_8_bits.ensures in
    let value_bytes : All (λ byte. byte < 256) update.value =
    subst (λ (xs : List ℕ). All (λ byte. byte < 256) xs) c.as_slice-in-updates.ensures.bytes c.bytes_have_8_bits-in-updates.ensures in
    subst (λ (number : ℕ). IsTrue (may_update (slice_get c.updates.shards number) update)) (sym at)
    (∥∥₁_elim c.updates.invariant.serve (Coded-set coded_bool _ _)
    (λ (are : AreShardsOf maps options c.updates.shards).
    may_make maps options c.updates.shards update
    (ready_for maps options c.updates.shards c.maps_of-maps.ensures.few c.maps_of-maps.ensures.sizes c.requires.options are)
    (fits_at maps c.args.updates.now c.updates.place update within c.index-updates-place.is c.requires.fit) bytes value_bytes))

pub returns-then-answer-ne0-clause-refused : goal.returns-then-answer-ne0-clause-refused
returns-then-answer-ne0-clause-refused c =
    let maps = c.args.image.now.maps in
    let options = c.args.options.now in
    let update = c.index-updates-place.result in
    let within : c.updates.place < length c.args.updates.now = (let below = c.updates-test.true in omega (arith, below)) in
    let at : c.shard_of-number.result ≡ shard_of_update (served_by maps options) update =
    c.shard_of-number.ensures ∙ ap (λ (ms : List MapDef). shard_of_update (served_by ms options) update) c.maps_of-maps.ensures.maps in
    let made = c.in-Ok.ensures.made in
    let fits : FitsSigned w32 c.in-Ok.answer = search rules in
    let same : to_z w32 (of_z w32 c.in-Ok.answer) ≡ c.in-Ok.answer = to_z-of_z w32 c.in-Ok.answer fits in
    record {
      update = update;
      before = made.one;
      next = is_next maps options c.args.updates.now c.updates.place update c.updates.shards c.shard_of-number.result made.one
          c.updates.invariant.updated within (sym c.index-updates-place.is) at made.known;
      answered = same ∙ made.answered;
      no_success = λ zero. c.if-answer-ne0.true (ap (of_z w32) (sym same ∙ zero));
    }

pub returns-in-Err-clause-refused : goal.returns-in-Err-clause-refused
returns-in-Err-clause-refused c =
    let maps = c.args.image.now.maps in
    let options = c.args.options.now in
    let update = c.index-updates-place.result in
    let within : c.updates.place < length c.args.updates.now = (let below = c.updates-test.true in omega (arith, below)) in
    let at : c.shard_of-number.result ≡ shard_of_update (served_by maps options) update =
    c.shard_of-number.ensures ∙ ap (λ (ms : List MapDef). shard_of_update (served_by ms options) update) c.maps_of-maps.ensures.maps in
    let is_full = c.in-Err.ensures.full in
    record {
      update = update;
      before = is_full.one;
      next = is_next maps options c.args.updates.now c.updates.place update c.updates.shards c.shard_of-number.result is_full.one
          c.updates.invariant.updated within (sym c.index-updates-place.is) at is_full.known;
      full = is_full.full;
    }

pub updates-preserved : goal.updates-preserved
updates-preserved c =
    let maps = c.args.image.now.maps in
    let options = c.args.options.now in
    let update = c.index-updates-place.result in
    let within : c.updates.place < length c.args.updates.now = (let below = c.updates-test.true in omega (arith, below)) in
    let at : c.shard_of-number.result ≡ shard_of_update (served_by maps options) update =
    c.shard_of-number.ensures ∙ ap (λ (ms : List MapDef). shard_of_update (served_by ms options) update) c.maps_of-maps.ensures.maps in
    let fits : FitsSigned w32 c.in-Ok.answer = search rules in
    let zero : c.in-Ok.answer ≡ pos 0 = sym (to_z-of_z w32 c.in-Ok.answer fits) ∙ ap (to_z w32) c.if-answer-ne0.false in
    let made : IsUpdateMade c.updates.shards c.shard_of-number.result update (pos 0) c.make.new.shards =
    subst (λ (answer : ℤ). IsUpdateMade c.updates.shards c.shard_of-number.result update answer c.make.new.shards) zero c.in-Ok.ensures.made in
    let value_bytes : All (λ byte. byte < 256) update.value =
    subst (λ (xs : List ℕ). All (λ byte. byte < 256) xs) c.as_slice-in-updates.ensures.bytes c.bytes_have_8_bits-in-updates.ensures in
    record {
      updated = updated_more maps options c.args.updates.now c.updates.place update c.updates.shards c.make.new.shards c.shard_of-number.result
          c.updates.invariant.updated within (sym c.index-updates-place.is) at made;
      serve = still_serve c.calls_keep_serving.ensures maps options update c.updates.shards c.make.new.shards c.shard_of-number.result
          c.updates.invariant.serve value_bytes made;
    }
