use Rattle.std.proofs.Common.{option_copied, refl, string_bytes}
use Rattle.share_text.proofs.Untagged.{after_marked, ok_both}
use Rattle.share_text.proofs.retags.retag_after.Goals as goal

pub returns : goal.returns
returns c =
    ok_both c.marked.result
    (λ printed text fails.
    after_marked (option_copied c.args.pools) c.args.format _ c.args.one.now.ticket.now.grants c.args.other.now.ticket.now.grants c.args.one.now.name.now c.args.other.now.name.now _ _
    (string_bytes c.in_ok-told.told.text) (string_bytes printed.text) c.in_ok-told.told.fails printed.fails refl refl refl c.in_ok-ones.ensures c.in_ok-others.ensures c.in_ok-told.ensures text fails)
    c.marked.ensures.text c.marked.ensures.fails
