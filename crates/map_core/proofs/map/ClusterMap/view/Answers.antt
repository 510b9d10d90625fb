use Rattle.std.proofs.Common.{◌≡◌, sym, ◌∙◌, ap, arith, take, ◌-◌}
use Rattle.map_core.proofs.Current.{viewed, epoch_in, found_now, found_then, limits_now, limits_found, limits_found_then}
use Rattle.map_core.proofs.map.ClusterMap.view.Goals as goal

pub returns-then-epoch-len-2 : goal.returns-then-epoch-len-2
returns-then-epoch-len-2 c =
    let inside = c.self.inside in
    let v = viewed c.args.self.now c.args.pool.now c.args.epoch _ c.view_now.result
    (sym c.is_word.ensures ∙ c.if-not-is_word.false)
    (epoch_in c.args.self.now inside.daemons c.len.result c.args.epoch inside.commands.items c.self.view_is (omega (arith, c.len.ensures, inside.commands.ok.0)) c.if-epoch-eq0.false c.if-epoch-len.false)
    (found_now c.args.self.now inside.daemons c.len-2.result c.args.epoch inside.commands.items inside.pools.items c.as_slice.result.now c.args.pool.now c.self.view_is c.self.invariant.pools c.as_slice.ensures.value (omega (arith, c.len-2.ensures, inside.commands.ok.0)) c.if-epoch-len-2.true)
    (limits_found c.as_slice.result.now c.args.pool.now (limits_now inside.daemons inside.commands.items inside.pools.items c.as_slice.result.now c.self.invariant.accepted c.self.invariant.pools c.as_slice.ensures.value))
    c.view_now.ensures.view c.view_now.ensures.refused in
    record { view = v.view; refused = v.refused; limits = v.limits }

pub returns : goal.returns
returns c =
    let inside = c.self.inside in
    let seen = take (c.args.epoch - 1) c.as_slice-2.result.now in
    let same : seen ≡ take (c.args.epoch - 1) inside.commands.items = ap (take (c.args.epoch - 1)) c.as_slice-2.ensures.value in
    let v = viewed c.args.self.now c.args.pool.now c.args.epoch _ c.view_then.result
    (sym c.is_word.ensures ∙ c.if-not-is_word.false)
    (epoch_in c.args.self.now inside.daemons c.len.result c.args.epoch inside.commands.items c.self.view_is (omega (arith, c.len.ensures, inside.commands.ok.0)) c.if-epoch-eq0.false c.if-epoch-len.false)
    (found_then c.args.self.now inside.daemons c.args.epoch inside.commands.items seen c.args.pool.now c.self.view_is same)
    (limits_found_then c.args.self.now inside.daemons c.args.epoch inside.commands.items seen c.args.pool.now c.self.invariant.accepted c.self.view_is same)
    c.view_then.ensures.view c.view_then.ensures.refused in
    record { view = v.view; refused = v.refused; limits = v.limits }
