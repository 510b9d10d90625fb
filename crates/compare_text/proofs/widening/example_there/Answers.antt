use Rattle.std.proofs.Common.{◌≡◌, ap}
use Rattle.compare_text.proofs.Addressed.{denied_there}
use Rattle.compare_text.proofs.widening.example_there.Goals as goal

pub returns-in-Some : goal.returns-in-Some
returns-in-Some c =
    let path : c.entry.inside.path.now ≡ c.args.entry.now.path = ap (λ e. e.path) c.entry.view_is in
    let grant : c.entry.inside.grant.now ≡ c.args.entry.now.grant = ap (λ e. e.grant) c.entry.view_is in
    denied_there c.args.registry _ _ c.entry.inside.path.now c.args.entry.now.path c.entry.inside.grant.now c.args.entry.now.grant c.in_ok-shown.shown (ap (λ t. t.grants) (c.in-Some.ensures c.args.address.now)) path grant c.in_ok-shown.ensures

pub returns : goal.returns
returns c =
    let path : c.entry.inside.path.now ≡ c.args.entry.now.path = ap (λ e. e.path) c.entry.view_is in
    let grant : c.entry.inside.grant.now ≡ c.args.entry.now.grant = ap (λ e. e.grant) c.entry.view_is in
    denied_there c.args.registry _ _ c.entry.inside.path.now c.args.entry.now.path c.entry.inside.grant.now c.args.entry.now.grant c.in_ok-found.found (ap (λ t. t.grants) c.in_ok-ticket.ensures) path grant c.in_ok-found.ensures
