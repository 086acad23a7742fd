use Rattle.std.proofs.Common.{rules}
use Rattle.std.proofs.lemmas.Result.{err_from_is_err_and}
use Rattle.module_memory.proofs.rack.Rack.of_image.Goals as goal

pub of_bytes-requires : goal.of_bytes-requires
of_bytes-requires c = search rules

pub returns-in_err-check_image : goal.returns-in_err-check_image
returns-in_err-check_image c =
    let p = err_from_is_err_and c.from_residual.result c.from_residual.ensures.1 in rw (p.1, p.2) c.in_err-check_image.ensures.fault

pub returns-in-Err : goal.returns-in-Err
returns-in-Err c = search rules
