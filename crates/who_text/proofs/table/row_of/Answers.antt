use Rattle.std.proofs.Common.{subst, string_bytes}
use Rattle.who_text.specs.Table.{IsRowBy}
use Rattle.verdict_text.proofs.Results.{ok_also}
use Rattle.who_text.proofs.table.row_of.Goals as goal

pub returns : goal.returns
returns c =
    ok_also c.row_by.result
    (λ text h.
    subst (λ read. IsRowBy c.args.format c.args.width read c.args.requests.now (string_bytes c.args.entity.now.name) (string_bytes text)) c.read.ensures.is
    (subst (λ name. IsRowBy c.args.format c.args.width c.read.result.now c.args.requests.now name (string_bytes text)) c.as_str.ensures.value h))
    c.row_by.ensures
