use Rattle.std.proofs.lemmas.Result.{err_from_is_err_and}
use Rattle.xlb_commands.specs.Refused.{no_table, no_table_lines, no_table_script}
use Rattle.xlb_commands.proofs.tables.table_file.Goals as goal

pub returns-in_err-sized-clause-refused : goal.returns-in_err-sized-clause-refused
returns-in_err-sized-clause-refused g c =
    let p = err_from_is_err_and c.from_residual.result c.from_residual.ensures.1 in
    rw (p.1, p.2) (no_table c.in_err-sized.ensures.refused.0 c.in_err-sized.ensures.refused.1)

pub returns-in_err-script-clause-refused : goal.returns-in_err-script-clause-refused
returns-in_err-script-clause-refused g c =
    let p = err_from_is_err_and c.from_residual-in_err-script.result c.from_residual-in_err-script.ensures.1 in
    rw (p.1, p.2) (no_table_script c.in_ok-sized.ensures.size c.in_err-script.ensures.refused)

pub returns-in_err-report-clause-refused : goal.returns-in_err-report-clause-refused
returns-in_err-report-clause-refused g c =
    let p = err_from_is_err_and c.from_residual-in_err-report.result c.from_residual-in_err-report.ensures.1 in
    rw p.1 (no_table_lines c.in_ok-script.script c.in_ok-sized.ensures.size c.in_ok-script.ensures.script p.2)

pub returns-clause-done : goal.returns-clause-done
returns-clause-done g c = record {
  size = c.in_ok-sized.ensures.size;
  script = c.in_ok-script.script;
  read = c.in_ok-script.ensures.script;
  tables = c.in_ok-report.ensures;
}
