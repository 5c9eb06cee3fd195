use Rattle.std.proofs.Common.{subst}
use Rattle.std.proofs.lemmas.Result.{IfErr-weaker, on_ok_weaker}
use Rattle.ebpf_decode.specs.ImageContents.{Contents}
use Rattle.xlb_commands.specs.Files.{IsImageFile}
use Rattle.xlb_commands.specs.Refused.{no_shipped_file}
use Rattle.xlb_commands.proofs.shipping.write_shipped.Goals as goal

pub returns-clause-done : goal.returns-clause-done
returns-clause-done g c =
    on_ok_weaker c.write_image.result
    (λ written. record {
      sizes = c.in_ok-image.ensures.size;
      written = subst (λ (image : Contents). IsImageFile (g.D.Folder.holds c.write_image.new.folder) c.args.out.now image) c.in_ok-image.ensures.image written;
    })
    c.write_image.ensures.written

pub returns-clause-refused : goal.returns-clause-refused
returns-clause-refused g c =
    IfErr-weaker c.write_image.result _ _ (λ refusal unwritten. no_shipped_file c.in_ok-image.ensures.size unwritten)
    c.write_image.ensures.refused
