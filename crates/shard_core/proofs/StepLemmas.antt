-- What one step leaves of a shard.
use Rattle.std.proofs.Common.{◌≡◌, ℕ, ◌*◌, ◌<◌, ◌≤◌, ◌^◌, true, false, not, nat_lt, List, [], ◌∷◌, ◌++◌, length, reverse, map, filter, take, drop, Some, None, arith, refl, sym, ◌∙◌, ap, subst}
use Rattle.std.specs.Prelude.{IsTrue, IsFalse, is_some, slice_set, if◌then◌else◌}
use Rattle.std.specs.List.{AllByRecursion}
use Rattle.std.proofs.lemmas.Bool.{le-ltb}
use Rattle.std.proofs.lemmas.List.{reverse-append}
use Rattle.std.proofs.lemmas.List.Sums.{length-filter, count_by-le-length}
use Rattle.std.proofs.lemmas.Bool.Decides.{nat_tests}
use Rattle.semantics.specs.declared.call.Caller.{Caller}
use Rattle.semantics.specs.declared.call.Caller.TheVariants.{Worker, Controller, Reclaimer}
use Rattle.semantics.specs.declared.call.Call.{Call}
use Rattle.semantics.specs.declared.call.Call.TheVariants.{Enter, Leave}
use Rattle.semantics.specs.declared.call.Reply.{Reply}
use Rattle.semantics.specs.declared.call.Reply.TheVariants.{Entered, Left}
use Rattle.semantics.specs.declared.call.Entry.{Entry}
use Rattle.semantics.specs.declared.plan.ShardPlan.{ShardPlan}
use Rattle.semantics.specs.declared.plan.RetiredCell.{RetiredCell}
use Rattle.wire.specs.FrameView.{overwritten_at}
use Rattle.isa.specs.declared.operation.AtomicOp.{AtomicOp}
use Rattle.isa.specs.Atomic.{atomic_result}
use Rattle.isa.specs.InstructionCodes.{atomic_op_of}
use Rattle.semantics.specs.LittleEndian.{number_of_bytes, bytes_of_number}
use Rattle.semantics.specs.SequentialShard.{SequentialShard, cell_bytes, number_in_cell, with_number_in_cell, changed_by, reply_of, shard_after_call, shard_after, is_kept}
use Rattle.semantics.specs.Cells.{worker_of}
use Rattle.semantics.specs.Reclamation.{is_inside, is_reclaimable}
use Rattle.semantics.specs.History.{is_outside_worker, is_inside_worker, meets, journal_is_full, IsLegalHistory}
use Rattle.semantics.proofs.shared.ConditionLemmas.{first_true}
use Rattle.semantics.proofs.shared.HoldingLemmas.{each_weaker}
use Rattle.journal.specs.Journaled.{Journaled, journal_with_entry}
use Rattle.map_cells.specs.CellTable.{CellTable, cell_of_id, bytes_of_cell, cell_number_at, with_number}
use Rattle.map_cells.specs.CellTable as T
use Rattle.shard_core.specs.declared.keys.KeyTable.{KeyTable}
use Rattle.shard_core.specs.Sections.{ReaderEpochs, retires, epoch_at, readers_of}
use Rattle.shard_core.specs.ShardFields.{waiting, IsContents, IsShard}
use Rattle.shard_core.proofs.FlagLemmas.{KeepsSections}
use Rattle.shard_core.proofs.StateLemmas.{apart_after}
use Rattle.shard_core.proofs.RoomLemmas.{legal_has_room}
use Rattle.shard_core.proofs.EpochLemmas.{epoch_before, epochs_are_few, with_retirement, readers_kept, readers_begun, readers_ended}
use Rattle.shard_core.proofs.KeyLemmas.{IsNoUse, keys_on}
use Rattle.shard_core.proofs.ContentLemmas.{kept_bytes, contents_on, contents_written}

newest_first : (journal : List Entry) (entry : Entry) → entry ∷ reverse journal ≡ reverse (journal ++ entry ∷ [])
newest_first journal entry = sym (reverse-append journal (entry ∷ []))

-- ---- the epochs of retired cells, once there is an entry more

same_stamps : (epochs later : ℕ → ℕ) (gone : List RetiredCell) → AllByRecursion (λ (one : RetiredCell). later one.since ≡ epochs one.since) gone → map (waiting epochs) gone ≡ map (waiting later) gone
same_stamps epochs later [] each = refl
same_stamps epochs later (one ∷ others) each = rw (each.0) (rw (same_stamps epochs later others each.1) refl)

contents_later : (plan : ShardPlan) (entry : Entry) (older : List Entry) (cells : CellTable) (keys : KeyTable) → IsContents plan (epoch_at plan older) (entry ∷ older) (shard_after plan (entry ∷ older)) cells keys
    → IsContents plan (epoch_at plan (entry ∷ older)) (entry ∷ older) (shard_after plan (entry ∷ older)) cells keys
contents_later plan entry older cells keys contents = record {
  sized = contents.sized;
  counted = contents.counted;
  mirrored = contents.mirrored;
  retired = contents.retired ∙ ap reverse (same_stamps (epoch_at plan older) (epoch_at plan (entry ∷ older)) (shard_after plan (entry ∷ older)).retired
      (each_weaker (λ (gone : RetiredCell). gone.since < length (entry ∷ older)) (λ (gone : RetiredCell). epoch_at plan (entry ∷ older) gone.since ≡ epoch_at plan older gone.since)
      (λ gone before. epoch_before plan entry older gone.since (omega (arith, before))) (shard_after plan (entry ∷ older)).retired (apart_after plan (entry ∷ older)).since));
  id_room = contents.id_room;
  balance = contents.balance;
  fits = contents.fits;
  has = contents.has;
}

-- a call that retires nothing
pub nothing_retired : (plan : ShardPlan) (history : List Entry) (call : Call) (readers : ReaderEpochs) → readers ≡ readers_of plan history
    → length (shard_after_call plan history (shard_after plan history) call).retired ≤ length (shard_after plan history).retired → readers ≡ with_retirement (retires plan history call) (readers_of plan history)
nothing_retired plan history call readers are fewer =
    are ∙ rw (le-ltb (length (shard_after plan history).retired) (length (shard_after_call plan history (shard_after plan history) call).retired) fewer) refl

pub fewer_retired : (history : List Entry) (gone : List RetiredCell) → length (filter (λ (one : RetiredCell). not (is_reclaimable history one)) gone) ≤ length gone
fewer_retired history gone =
    let same = length-filter (λ (one : RetiredCell). not (is_reclaimable history one)) gone in
    let most = count_by-le-length (λ (one : RetiredCell). not (is_reclaimable history one)) gone in
    omega (arith, same, most)

-- each retirement is an entry of the journal, so stamps never run out
pub few_stamps : (plan : ShardPlan) (journal : Journaled) (cells : CellTable) (keys : KeyTable) (readers : ReaderEpochs) → IsShard plan journal cells keys readers → readers.present < 2 ^ 62
few_stamps plan journal cells keys readers shard =
    let few = epochs_are_few plan (reverse journal.entries) (length (reverse journal.entries)) in
    let room = legal_has_room plan (reverse journal.entries) shard.plan_is.at_most_eight shard.legal in
    let most = shard.plan_is.greatest_reserve in
    let same : readers.present ≡ epoch_at plan (reverse journal.entries) (length (reverse journal.entries)) = ap (λ (are : ReaderEpochs). are.present) shard.readers_are in
    omega (arith, few, room, most, same)

-- ---- who enters and who leaves

pub outside_below : (plan : ShardPlan) (history : List Entry) (who : Caller) (worker : ℕ) → plan.workers ≤ 8 → IsTrue (is_outside_worker plan history who) → Some worker ≡ worker_of who → worker < 8
outside_below plan history Controller worker few met is = cc
outside_below plan history Reclaimer worker few met is = cc
outside_below plan history (Worker number) worker few met is =
    let same : worker ≡ number = cc in
    let known : IsTrue (nat_lt number plan.workers) = first_true (nat_lt number plan.workers) (if is_inside number history then false else true) met in
    grind (arith, nat_tests)

pub inside_below : (plan : ShardPlan) (history : List Entry) (who : Caller) (worker : ℕ) → plan.workers ≤ 8 → IsTrue (is_inside_worker plan history who) → Some worker ≡ worker_of who → worker < 8
inside_below plan history Controller worker few met is = cc
inside_below plan history Reclaimer worker few met is = cc
inside_below plan history (Worker number) worker few met is =
    let same : worker ≡ number = cc in
    let known : IsTrue (nat_lt number plan.workers) = first_true (nat_lt number plan.workers) (is_inside number history) met in
    grind (arith, nat_tests)

pub entered_readers : (plan : ShardPlan) (history : List Entry) (who : Caller) (worker shard : ℕ) (readers : ReaderEpochs) → Some worker ≡ worker_of who → worker < 8 → readers ≡ readers_of plan history →
    record readers { epochs = slice_set readers.epochs worker (Some readers.present) } ≡ readers_of plan (record { who = who; call = Enter shard; reply = Entered } ∷ history)
entered_readers plan history Controller worker shard readers is below are = cc
entered_readers plan history Reclaimer worker shard readers is below are = cc
entered_readers plan history (Worker number) worker shard readers is below are =
    let same : worker ≡ number = cc in
    rw are (sym (readers_begun plan worker shard Entered history below) ∙ ap (λ n. readers_of plan (record { who = Worker n; call = Enter shard; reply = Entered } ∷ history)) same)

pub left_readers : (plan : ShardPlan) (history : List Entry) (who : Caller) (worker shard : ℕ) (readers : ReaderEpochs) → Some worker ≡ worker_of who → worker < 8 → readers ≡ readers_of plan history →
    record readers { epochs = slice_set readers.epochs worker None } ≡ readers_of plan (record { who = who; call = Leave shard; reply = Left } ∷ history)
left_readers plan history Controller worker shard readers is below are = cc
left_readers plan history Reclaimer worker shard readers is below are = cc
left_readers plan history (Worker number) worker shard readers is below are =
    let same : worker ≡ number = cc in
    rw are (sym (readers_ended plan worker shard Left history below) ∙ ap (λ n. readers_of plan (record { who = Worker n; call = Leave shard; reply = Left } ∷ history)) same)

-- ---- steps

-- a step of a call that neither begins nor ends a section
pub record IsStep (plan : ShardPlan) (history : List Entry) (who : Caller) (call : Call) (reply : Reply) (cells_after : CellTable) (keys_after : KeyTable) (readers_after : ReaderEpochs) : Type 0 where
  pub met : IsTrue (meets plan history who call)
  pub has_room : IsFalse (journal_is_full plan history call)
  pub replied : reply ≡ reply_of plan history (shard_after plan history) call
  pub contents : IsContents plan (epoch_at plan history) (record { who = who; call = call; reply = reply } ∷ history) (shard_after_call plan history (shard_after plan history) call) cells_after keys_after
  pub readers : readers_after ≡ with_retirement (retires plan history call) (readers_of plan history)
  pub keeps : KeepsSections call

pub step_taken : (plan : ShardPlan) (journal : Journaled) (cells cells_after : CellTable) (keys keys_after : KeyTable) (readers readers_after : ReaderEpochs)
    (who : Caller) (call : Call) (reply : Reply) (entry : Entry) → IsShard plan journal cells keys readers
    → IsStep plan (reverse journal.entries) who call reply cells_after keys_after readers_after → entry ≡ record { who = who; call = call; reply = reply }
    → IsShard plan (journal_with_entry journal entry) cells_after keys_after readers_after
step_taken plan journal cells cells_after keys keys_after readers readers_after who call reply entry shard step same =
    let history : List Entry = reverse journal.entries in
    let made : Entry = record { who = who; call = call; reply = reply } in
    let turned : made ∷ history ≡ reverse (journal.entries ++ made ∷ []) = newest_first journal.entries made in
    let legal : IsLegalHistory plan (made ∷ history) = (record { step = record { met = step.met; replied = step.replied }; room = step.has_room }, shard.legal) in
    rw same (record {
      plan_is = shard.plan_is;
      journal_is = record { number = shard.journal_is.number; reserve = shard.journal_is.reserve; key_size = shard.journal_is.key_size; value_size = shard.journal_is.value_size };
      legal = subst (IsLegalHistory plan) turned legal;
      readers_are = step.readers ∙ sym (readers_kept plan who call reply history step.keeps) ∙ ap (readers_of plan) turned;
      contents = subst (λ newest. IsContents plan (epoch_at plan newest) newest (shard_after plan newest) cells_after keys_after) turned (contents_later plan made history cells_after keys_after step.contents);
    })

-- a step that begins or ends a section: the epochs of those inside are others
pub section_taken : (plan : ShardPlan) (journal : Journaled) (cells : CellTable) (keys : KeyTable) (readers readers_after : ReaderEpochs)
    (who : Caller) (call : Call) (reply : Reply) (entry : Entry) → IsShard plan journal cells keys readers
    → IsTrue (meets plan (reverse journal.entries) who call) → IsFalse (journal_is_full plan (reverse journal.entries) call)
    → reply ≡ reply_of plan (reverse journal.entries) (shard_after plan (reverse journal.entries)) call
    → ((cells_after : SequentialShard) → cells_after ≡ shard_after_call plan (reverse journal.entries) (shard_after plan (reverse journal.entries)) call → cells_after ≡ shard_after plan (reverse journal.entries))
    → IsNoUse (record { who = who; call = call; reply = reply })
    → readers_after ≡ readers_of plan (record { who = who; call = call; reply = reply } ∷ reverse journal.entries)
    → entry ≡ record { who = who; call = call; reply = reply }
    → IsShard plan (journal_with_entry journal entry) cells keys readers_after
section_taken plan journal cells keys readers readers_after who call reply entry shard met has_room replied stays none readers_are same =
    let history : List Entry = reverse journal.entries in
    let made : Entry = record { who = who; call = call; reply = reply } in
    let turned : made ∷ history ≡ reverse (journal.entries ++ made ∷ []) = newest_first journal.entries made in
    let legal : IsLegalHistory plan (made ∷ history) = (record { step = record { met = met; replied = replied }; room = has_room }, shard.legal) in
    let before : IsContents plan (epoch_at plan history) (made ∷ history) (shard_after plan history) cells keys = contents_on plan made history (shard_after plan history) cells keys none shard.contents in
    let contents : IsContents plan (epoch_at plan history) (made ∷ history) (shard_after plan (made ∷ history)) cells keys =
    subst (λ state. IsContents plan (epoch_at plan history) (made ∷ history) state cells keys) (sym (stays (shard_after plan (made ∷ history)) refl)) before in
    rw same (record {
      plan_is = shard.plan_is;
      journal_is = record { number = shard.journal_is.number; reserve = shard.journal_is.reserve; key_size = shard.journal_is.key_size; value_size = shard.journal_is.value_size };
      legal = subst (IsLegalHistory plan) turned legal;
      readers_are = readers_are ∙ ap (readers_of plan) turned;
      contents = subst (λ newest. IsContents plan (epoch_at plan newest) newest (shard_after plan newest) cells keys) turned (contents_later plan made history cells keys contents);
    })

-- ---- kept cells

pub table_keeps : (plan : ShardPlan) {epochs : ℕ → ℕ} (history : List Entry) (state : SequentialShard) (cells : CellTable) (keys : KeyTable) (cell : ℕ) → IsContents plan epochs history state cells keys → IsTrue (is_kept plan state cell) → IsTrue (T.is_kept_id cells cell)
table_keeps plan history state cells keys cell contents kept = ap is_some (kept_bytes plan history state cells keys cell contents kept)

pub kept_number : (plan : ShardPlan) {epochs : ℕ → ℕ} (history : List Entry) (state : SequentialShard) (cells : CellTable) (keys : KeyTable) (cell offset size : ℕ) → IsContents plan epochs history state cells keys → IsTrue (is_kept plan state cell)
    → cell_number_at cells cell offset size ≡ number_in_cell state cell offset size
kept_number plan history state cells keys cell offset size contents kept =
    ap (λ found. number_of_bytes (take size (drop offset (bytes_of_cell found)))) (kept_bytes plan history state cells keys cell contents kept)

-- a number is written
pub contents_stored : (plan : ShardPlan) {epochs : ℕ → ℕ} (entry : Entry) (history : List Entry) (state : SequentialShard) (cells : CellTable) (keys : KeyTable) (cell offset size value : ℕ) → IsNoUse entry → IsTrue (is_kept plan state cell)
    → IsContents plan epochs history state cells keys → IsContents plan epochs (entry ∷ history) (with_number_in_cell state cell offset size value) (with_number cells cell offset size value) keys
contents_stored plan entry history state cells keys cell offset size value none kept contents =
    let same : bytes_of_cell (cell_of_id cells cell) ≡ cell_bytes state cell = ap bytes_of_cell (kept_bytes plan history state cells keys cell contents kept) in
    rw same (contents_written plan history (entry ∷ history) state cells keys keys cell (overwritten_at offset (bytes_of_number size value) (cell_bytes state cell)) kept contents
    contents.fits (keys_on keys entry history state.present none contents.has))

-- and changed by an atomic operation
pub contents_changed : (plan : ShardPlan) {epochs : ℕ → ℕ} (entry : Entry) (history : List Entry) (state : SequentialShard) (cells : CellTable) (keys : KeyTable) (cell offset size op value expected : ℕ) (operation : AtomicOp) → IsNoUse entry → IsTrue (is_kept plan state cell)
    → atomic_op_of op ≡ Some operation → IsContents plan epochs history state cells keys
    → IsContents plan epochs (entry ∷ history) (with_number_in_cell state cell offset size (changed_by (atomic_op_of op) size (number_in_cell state cell offset size) value expected))
    (with_number cells cell offset size (atomic_result (8 * size) operation (cell_number_at cells cell offset size) value expected)) keys
contents_changed plan entry history state cells keys cell offset size op value expected operation none kept known contents =
    rw (known, kept_number plan history state cells keys cell offset size contents kept)
    (contents_stored plan entry history state cells keys cell offset size (atomic_result (8 * size) operation (number_in_cell state cell offset size) value expected) none kept contents)
