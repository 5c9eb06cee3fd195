use Rattle.std.proofs.Common.{◌≡◌, ◌+◌, ℕ, arith}
use Rattle.std.specs.Prelude.{Result, Ok, Err}
use Rattle.std.specs.Result.{OnOk, OnErr}
use Rattle.xlb_commands.proofs.serving.print.Goals as goal

-- what holds where nothing failed, if a failure is counted
where_none_failed : {T F P : Type 0} (r : Result T F) (old new : ℕ) → OnOk r P → OnErr r (new ≡ old + 1) → new ≡ old → P
where_none_failed (Ok x) old new done counted same = done
where_none_failed (Err e) old new done counted same = absurd (omega arith)

pub returns : goal.returns
returns g c = where_none_failed c.write_all.result _ _ c.write_all.ensures.written c.write_all.ensures.counted
