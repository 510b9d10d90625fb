use Rattle.std.proofs.Common.{string_bytes}
use Rattle.share_text.proofs.Untagged.{of_texts}
use Rattle.share_text.proofs.retags.retag_rights.Goals as goal

pub returns : goal.returns
returns c =
    of_texts c.args.format c.args.ones.now.grants c.args.others.now.grants c.ticket_in.result.now.grants c.ticket_in-2.result.now.grants (string_bytes c.in_ok-told.told.text) _ c.in_ok-told.told.fails
    c.ticket_in.ensures c.ticket_in-2.ensures c.in_ok-told.ensures c.in_ok-list_by.ensures
