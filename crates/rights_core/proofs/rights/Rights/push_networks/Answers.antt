use Rattle.std.proofs.Common.{◌≡◌, rules, arith}
use Rattle.rights_core.specs.Rights.{with_networks}
use Rattle.rights_core.proofs.Given.{has_at_end, network_more}
use Rattle.rights_core.proofs.rights.Rights.push_networks.Goals as goal

pub loop-network-preserved : goal.loop-network-preserved
loop-network-preserved c =
    let before = c.loop-network.invariant in
    let now = c.in_ok-push_network.ensures in
    record {
      has = network_more c.as_slice-networks.result.now c.loop-network.network-index _ c.loop-network.list.items c.push_network.new.list.items c.loop-network-test.true (search rules) now.keeps now.has before.has;
      keeps = λ n given. now.keeps n (before.keeps n given);
    }

pub returns-clause-has : goal.returns-clause-has
returns-clause-has c =
    let view : c.args.self.now.grants ≡ with_networks c.self.inside.ticket.grants c.self.inside.networks.items = cc in
    let same : c.as_slice-networks.result.now ≡ c.self.inside.networks.items = cc in
    has_at_end c.loop-network.list.items _ c.self.inside.ticket.grants c.as_slice-networks.result.now c.self.inside.networks.items c.loop-network.network-index view same (omega arith) c.loop-network.invariant.has
