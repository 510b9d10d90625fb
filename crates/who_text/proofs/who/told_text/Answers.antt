use Rattle.std.proofs.Common.{string_bytes}
use Rattle.verdict_text.proofs.Results.{ok_also}
use Rattle.who_text.proofs.who.told_text.Goals as goal

pub returns : goal.returns
returns c = ok_also c.entities_by.result (λ text h. (string_bytes c.in_ok-pieces.pieces, c.in_ok-pieces.ensures, h)) c.entities_by.ensures
