use Rattle.std.proofs.Common.{ℕ, ◌+◌, ◌^◌, ◌≤◌, ◌∙◌, List, [], ap, arith, inr, length, length-drop, refl, sym, subst, rules}
use Rattle.folders.specs.Pieces.{IsOpened}
use Rattle.wire.specs.CaptureFormat.{BeginsWithHeader, IsHeaderFault}
use Rattle.capture_readings.specs.Readings.{alters}
use Rattle.folders.specs.Filling.{IsFilled}
use Rattle.folders.specs.PieceReading.{HasRoom, IsReadTo, ReaderView, read_behind}
use Rattle.folders.proofs.shared.ReadingLemmas.{behind_room, opened_read, opened_refused}
use Rattle.folders.proofs.capture_reader.CaptureReader.open.Goals as goal

pub returns-in-Err-check_capture_header-clause-fault : goal.returns-in-Err-check_capture_header-clause-fault
returns-in-Err-check_capture_header-clause-fault g c =
    let left = g.D.Folder.is_left in
    let P : List ℕ → Type 0 = λ xs. IsFilled (left c.open.new.self) (left c.fill.new.folder) xs c.fill.new.self in
    let Q : List ℕ → Type 0 = λ xs. IsHeaderFault xs c.in-Err-check_capture_header.fault in
    let opened : IsOpened (g.D.Folder.holds c.args.folder.now c.args.name.now) (left c.open.new.self) = search rules in
    inr (inr (opened_refused _ _ _ _ _ opened (subst P c.in-Ok.ensures c.in-Ok-fill.ensures.filled) c.in-Ok-fill.ensures.enough (subst Q c.unread.ensures c.in-Err-check_capture_header.ensures.fault)))

pub returns-in-Ok-behind_header-clause-opened : goal.returns-in-Ok-behind_header-clause-opened
returns-in-Ok-behind_header-clause-opened g c =
    let left = g.D.Folder.is_left in
    let holds = g.D.Folder.holds c.args.folder.now c.args.name.now in
    let P : List ℕ → Type 0 = λ xs. IsFilled (left c.open.new.self) (left c.fill.new.folder) xs c.fill.new.self in
    let Q : List ℕ → Type 0 = λ xs. BeginsWithHeader xs in
    let R : List ℕ → Type 0 = λ xs. IsReadTo c.args.reading holds (left c.fill.new.folder) [] (read_behind (alters c.args.reading) c.args.reading xs) in
    let S : ReaderView → Type 0 = λ reader. IsReadTo c.args.reading holds (left c.fill.new.folder) [] reader in
    let opened : IsOpened holds (left c.open.new.self) = search rules in
    subst S (sym c.in-Ok-behind_header.ensures) (subst R (sym c.skip.ensures)
    (opened_read (alters c.args.reading) c.args.reading _ _ _ _ refl opened (subst P c.in-Ok.ensures c.in-Ok-fill.ensures.filled)
    (subst Q c.unread.ensures c.in-Ok-check_capture_header.ensures.header)))

pub returns-in-Ok-behind_header-clause-room : goal.returns-in-Ok-behind_header-clause-room
returns-in-Ok-behind_header-clause-room g c =
    let most = g.D.Folder.most_left c.fill.new.folder in
    let none = ap length c.in-Ok.ensures in
    let fewer = c.in-Ok-fill.ensures.fewer in
    let past = ap length c.skip.ensures ∙ length-drop 24 c.fill.new.self in
    let bounded = c.open.ensures.bounded in
    let few : length c.skip.new.self + most ≤ 2 ^ 40 = omega (arith, none, fewer, past, bounded) in
    subst (λ (reader : ReaderView). HasRoom most reader) (sym c.in-Ok-behind_header.ensures)
    (behind_room (alters c.args.reading) c.args.reading c.skip.new.self most few)

pub returns-in-Ok-behind_header-clause-kept : goal.returns-in-Ok-behind_header-clause-kept
returns-in-Ok-behind_header-clause-kept g c = λ other held. (
  (λ had. (c.fill.ensures.kept other held).0 ((c.open.ensures.kept other held).0 had)),
  (λ has. (c.open.ensures.kept other held).1 ((c.fill.ensures.kept other held).1 has)),
)

pub returns-in-Ok-behind_header-clause-begun_kept : goal.returns-in-Ok-behind_header-clause-begun_kept
returns-in-Ok-behind_header-clause-begun_kept g c = λ other held. (
  (λ had. (c.fill.ensures.begun_kept other held).0 ((c.open.ensures.begun_kept other held).0 had)),
  (λ has. (c.open.ensures.begun_kept other held).1 ((c.fill.ensures.begun_kept other held).1 has)),
)

pub returns-in-Err-behind_header-clause-kept : goal.returns-in-Err-behind_header-clause-kept
returns-in-Err-behind_header-clause-kept g c = λ other held. (
  (λ had. (c.fill.ensures.kept other held).0 ((c.open.ensures.kept other held).0 had)),
  (λ has. (c.open.ensures.kept other held).1 ((c.fill.ensures.kept other held).1 has)),
)

pub returns-in-Err-behind_header-clause-begun_kept : goal.returns-in-Err-behind_header-clause-begun_kept
returns-in-Err-behind_header-clause-begun_kept g c = λ other held. (
  (λ had. (c.fill.ensures.begun_kept other held).0 ((c.open.ensures.begun_kept other held).0 had)),
  (λ has. (c.open.ensures.begun_kept other held).1 ((c.fill.ensures.begun_kept other held).1 has)),
)
