use Rattle.std.proofs.Common.{◌++◌, refl}
use Rattle.std.specs.Fmt.{decimal}
use Rattle.disasm.specs.AssemblyText.{map_line_of, kind_name, after_space}
use Rattle.disasm.proofs.shared.Texts.{kind_lacks, decimal_lacks}
use Rattle.disasm.proofs.map_line.map_read.Goals as goal

pub returns : goal.returns
unfolding map_line_of
returns c = λ m is.
    let numbers = c.after.ensures (kind_name m.kind ++ (after_space m.key_size ++ (after_space m.value_size ++ after_space m.max_entries))) is.spelled in
    let a = c.cut.ensures.both (kind_name m.kind) (decimal m.key_size ++ (after_space m.value_size ++ after_space m.max_entries)) numbers (kind_lacks m.kind) in
    let b = c.cut-2.ensures.both (decimal m.key_size) (decimal m.value_size ++ after_space m.max_entries) a.1 (decimal_lacks m.key_size is.fits.key_size) in
    let d = c.cut-3.ensures.both (decimal m.value_size) (decimal m.max_entries) b.1 (decimal_lacks m.value_size is.fits.value_size) in
    rw (c.kind_of.ensures m.kind a.0, c.count_of.ensures m.key_size is.fits.key_size b.0, c.count_of-2.ensures m.value_size is.fits.value_size d.0, c.count_of-3.ensures m.max_entries is.fits.max_entries d.1) refl
