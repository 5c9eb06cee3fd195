use Rattle.std.proofs.Common.{◌≡◌, ◌∙◌, ◌<◌, ◌≤◌, ◌↔◌, ℕ, List, Result, Err, IsTrue, refl, ap, sym, subst, rules, arith, length}
use Rattle.wire.specs.declared.frame_buffer.FrameFault.{FrameFault}
use Rattle.wire.specs.declared.frame_buffer.FrameFault.TheVariants.{FrameTooLong, ShortFrame, Memory}
use Rattle.xlb_commands.specs.declared.fault.Fault.{Fault}
use Rattle.xlb_commands.specs.declared.fault.Fault.TheVariants.{Frame}
use Rattle.xlb_commands.specs.Files.{FileBytes}
use Rattle.wire.specs.FrameView.{FrameView}
use Rattle.xlb_commands.specs.Refused.{IsFrameRefusal, too_long, too_short, no_frame_memory}
use Rattle.xlb_commands.proofs.LongImages.{longer_than}
use Rattle.xlb_commands.proofs.commands.frame_of.Goals as goal

pub returns-in-Ok-clause-read : goal.returns-in-Ok-clause-read
returns-in-Ok-clause-read g c =
    let front = c.in_ok-front.ensures.front in
    let is : IsTrue c.is_whole.result = search rules in
    let whole = c.is_whole.ensures.all is front.bytes _ front.is_front in
    let frame = ap (λ (frame : FrameView). frame.bytes) c.in-Ok.ensures.frame in
    subst (λ (bytes : List ℕ). g.D.Folder.holds c.args.folder.now c.args.name.now bytes) (whole ∙ (sym c.deref-2.ensures.value ∙ sym frame)) front.held

pub returns-then-not-is_whole-clause-refused : goal.returns-then-not-is_whole-clause-refused
returns-then-not-is_whole-clause-refused g c =
    let front = c.in_ok-front.ensures.front in
    let cut = sym c.is_whole.ensures.counted ∙ c.if-not-is_whole.true in
    too_long front.bytes front.held (omega (arith, longer_than front.bytes 2049 c.in_ok-front.front front.is_front cut)) c.refused_frame.ensures

abbrev result_of : (A : Type 0) → FrameFault → Result A FrameFault
result_of A why = Err why

same_fault : {A : Type 0} (why other : FrameFault) → result_of A why ≡ result_of A other → why ≡ other
same_fault why other e = cc

-- the fault of bytes that are no frame, or of memory
refused_frame_is : (files : FileBytes) (failed : Type 0) (name bytes shown : List ℕ) (why : FrameFault) (fault : Fault) → files name bytes → shown ≡ bytes
    → (why ≡ FrameTooLong ↔ (2048 < length shown)) → (why ≡ ShortFrame ↔ (length shown < 14)) → fault ≡ Frame why → IsFrameRefusal files failed name fault
refused_frame_is files failed name bytes shown FrameTooLong fault read same long short is =
    too_long bytes read (subst (λ (all : List ℕ). 2048 < length all) same (long.0 refl)) is
refused_frame_is files failed name bytes shown ShortFrame fault read same long short is =
    too_short bytes read (subst (λ (all : List ℕ). length all < 14) same (short.0 refl)) is
refused_frame_is files failed name bytes shown Memory fault read same long short is =
    let few : ¬ (2048 < length shown) = λ more. absurd (no_long (long.1 more)) in
    let many : ¬ (length shown < 14) = λ fewer. absurd (no_short (short.1 fewer)) in
    let size : (14 ≤ length shown) × (length shown ≤ 2048) = (omega (arith, many), omega (arith, few)) in
    let sized = subst (λ (all : List ℕ). (14 ≤ length all) × (length all ≤ 2048)) same size in
    no_frame_memory bytes read sized.0 sized.1 is where
      no_long : Memory ≡ FrameTooLong → ⊥
      no_long e = absurd cc

      no_short : Memory ≡ ShortFrame → ⊥
      no_short e = absurd cc

pub returns-clause-refused : goal.returns-clause-refused
returns-clause-refused g c =
    let front = c.in_ok-front.ensures.front in
    let is : IsTrue c.is_whole.result = search rules in
    let whole = c.is_whole.ensures.all is front.bytes _ front.is_front in
    let same = c.deref-2.ensures.value ∙ sym whole in
    refused_frame_is _ _ _ front.bytes _ c.in-Err.fault _ front.held same
    ((λ e. c.in-Err.ensures.too_long.0 (ap (λ (why : FrameFault). Err why) e)), (λ more. same_fault _ _ (c.in-Err.ensures.too_long.1 more)))
    ((λ e. c.in-Err.ensures.short.0 (ap (λ (why : FrameFault). Err why) e)), (λ fewer. same_fault _ _ (c.in-Err.ensures.short.1 fewer)))
    c.refused_frame-in-Err.ensures
