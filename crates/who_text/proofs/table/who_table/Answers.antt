use Rattle.std.proofs.Common.{◌≡◌, ℕ, List, length, string_bytes, subst}
use Rattle.verdict_text.proofs.Results.{ok_also}
use Rattle.who_text.specs.Table.{IsRow, table_by}
use Rattle.who_text.specs.Who.{AreInOrder}
use Rattle.who_text.proofs.table.who_table.Goals as goal

pub returns : goal.returns
returns c =
    ok_also c.table_by.result
    (λ text h.
    subst (λ width. (rows : List ℕ) × AreInOrder (IsRow c.args.format width c.args.requests.now) c.args.entities.now rows × (string_bytes text ≡ table_by c.args.format width (length c.args.requests.now) rows)) c.in_ok-width.ensures
    (string_bytes c.in_ok-rows.rows, c.in_ok-rows.ensures, h))
    c.table_by.ensures
