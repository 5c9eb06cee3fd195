use Rattle.std.proofs.Common.{◌≡◌, ◌∙◌, List, ap, subst, sym}
use Rattle.std.proofs.lemmas.Result.{err_from_is_err_and}
use Rattle.ebpf_decode.specs.ImageContents.{Contents}
use Rattle.ebpf_decode.specs.declared.insn.Insn.{Insn}
use Rattle.ebpf_decode.specs.declared.map.MapDef.{MapDef}
use Rattle.ebpf_decode.specs.declared.version.Version.{Version}
use Rattle.semantics.specs.Safety.{IsSafeImage}
use Rattle.xlb_commands.specs.Refused.{not_made, shipped_rejected}
use Rattle.xlb_commands.proofs.shipping.shipped_program.Goals as goal

pub returns-in_err-image-clause-refused : goal.returns-in_err-image-clause-refused
returns-in_err-image-clause-refused c =
    let p = err_from_is_err_and c.from_residual.result c.from_residual.ensures.1 in
    rw (p.1, p.2) (not_made c.in_err-image.ensures.refused)

pub returns-in-Err-clause-refused : goal.returns-in-Err-clause-refused
returns-in-Err-clause-refused c =
    shipped_rejected c.in_ok-image.image c.in-Err.reject c.in_ok-image.ensures.image c.in-Err.ensures.rejected c.from.ensures

-- what has the parts of an image is that image
same_image : (version : Version) (maps : List MapDef) (code : List Insn) (image shipped : Contents) → version ≡ image.version →
    maps ≡ image.maps → code ≡ image.code → image ≡ shipped → record { version = version; maps = maps; code = code } ≡ shipped
same_image version maps code image shipped same_version same_maps same_code is =
    ap (λ (it : Version). made_of it maps code) same_version
    ∙ ap (λ (it : List MapDef). made_of image.version it code) same_maps
    ∙ ap (λ (it : List Insn). made_of image.version image.maps it) same_code
    ∙ is
  where
    made_of : Version → List MapDef → List Insn → Contents
    made_of one two three = record { version = one; maps = two; code = three }

safe_parts : (maps other_maps : List MapDef) (code other_code : List Insn) → maps ≡ other_maps → code ≡ other_code →
    IsSafeImage other_maps other_code → IsSafeImage maps code
safe_parts maps other_maps code other_code same_maps same_code safe =
    subst (λ (it : List MapDef). IsSafeImage it code) (sym same_maps)
    (subst (λ (it : List Insn). IsSafeImage other_maps it) (sym same_code) safe)

pub returns-in-Ok-clause-image : goal.returns-in-Ok-clause-image
returns-in-Ok-clause-image c =
    same_image c.in-Ok.verified.version c.in-Ok.verified.maps c.in-Ok.verified.code c.in_ok-image.image _ c.in-Ok.ensures.version
    c.in-Ok.ensures.accepted.0 c.in-Ok.ensures.accepted.1 c.in_ok-image.ensures.image

pub returns-in-Ok-clause-safe : goal.returns-in-Ok-clause-safe
returns-in-Ok-clause-safe c =
    safe_parts c.in-Ok.verified.maps c.in_ok-image.image.maps c.in-Ok.verified.code c.in_ok-image.image.code c.in-Ok.ensures.accepted.0
    c.in-Ok.ensures.accepted.1 c.in-Ok.ensures.safe

pub returns-in-Ok-clause-size : goal.returns-in-Ok-clause-size
returns-in-Ok-clause-size c = c.in_ok-image.ensures.size
