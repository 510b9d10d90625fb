use Rattle.std.proofs.Common.{arith}
use Rattle.map_core.proofs.Current.{refusal_is}
use Rattle.map_core.proofs.map.ClusterMap.refusal.Goals as goal

pub returns : goal.returns
returns c =
    let inside = c.self.inside in
    refusal_is c.args.self.now inside.daemons c.len.result inside.commands.items inside.pools.items c.as_slice-pools.result.now inside.up c.args.command.now c.refusal.result
    c.self.view_is c.self.invariant.pools c.self.invariant.up (omega (arith, c.len.ensures, inside.commands.ok.0)) c.as_slice-pools.ensures.value c.refusal.ensures
