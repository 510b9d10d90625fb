use Rattle.std.proofs.Common.{rules, ◌≡◌, ◌∙◌, ◌++◌, [], ◌∷◌, ap, sym, List}
use Rattle.peer_core.specs.Types.{Copy, Offer, Peering}
use Rattle.peer_core.specs.Copy.{try_choice}
use Rattle.peer_core.proofs.Whole.{whole, Awaited, awaited, hears, choice_role, forgotten}
use Rattle.peer_core.proofs.state.State.on_offer.Goals as goal

pub returns-in-Ok-clause-ok : goal.returns-in-Ok-clause-ok
returns-in-Ok-clause-ok c =
    let self : Copy = c.args.self.now in
    let w : Awaited self.role self c.args.interval c.args.offer.number = awaited self.role self c.args.interval c.args.offer.number (search rules) in
    let all : List Offer = w.informed ++ c.args.offer ∷ [] in
    let heard_is : c.hear.new.self ≡ record self { role = Peering all } = c.in_ok-hear.ensures.ok w.informed w.is in
    let same : try_choice c.hear.new.self all ≡ try_choice self all = ap (λ d. try_choice d all) heard_is ∙ choice_role self (Peering all) all in
    let role_is : c.hear.new.self.role ≡ Peering all = ap (λ d. d.role) heard_is in
    hears self c.args.interval c.args.offer w
    ∙ whole (try_choice self all) c.try_choice.new.self c.new-sent.result c.in-Ok.sent (ap (λ v. v.copy) (sym same) ∙ c.in-Ok.ensures.copy all role_is) c.new-sent.ensures (c.in-Ok.ensures.sent all role_is ∙ ap (λ v. c.new-sent.result ++ v.sent) same)

pub returns-in-Err-clause-err : goal.returns-in-Err-clause-err
returns-in-Err-clause-err c =
    let self : Copy = c.args.self.now in
    let w : Awaited self.role self c.args.interval c.args.offer.number = awaited self.role self c.args.interval c.args.offer.number (search rules) in
    let heard_is : c.hear.new.self ≡ record self { role = Peering (w.informed ++ c.args.offer ∷ []) } = c.in_ok-hear.ensures.ok w.informed w.is in
    let now_is : c.try_choice.new.self ≡ record self { role = Peering (w.informed ++ c.args.offer ∷ []) } = c.in-Err.ensures.err ∙ heard_is in
    c.unhear.ensures w.informed c.args.offer (ap (λ d. d.role) now_is) ∙ forgotten self c.try_choice.new.self w.informed c.args.offer w.is now_is
