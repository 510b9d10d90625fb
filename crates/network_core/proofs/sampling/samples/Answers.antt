use Rattle.std.proofs.Common.{◌≡◌, take, arith, rules}
use Rattle.std.proofs.lemmas.List.{take_all}
use Rattle.network_core.proofs.Standing.{stands_in, edges_more}
use Rattle.network_core.proofs.sampling.samples.Goals as goal

pub loop-network-preserved : goal.loop-network-preserved
loop-network-preserved c =
    let before = c.loop-network.invariant in
    let now = c.in_ok-push_edges.ensures in
    record {
      addresses = now.addresses before.addresses;
      four = now.keeps _ before.four;
      six = now.keeps _ before.six;
      edges = edges_more c.args.networks.now c.loop-network.network-index _ c.loop-network.samples.items c.push_edges.new.samples.items c.loop-network-test.true (search rules) now.keeps now.has before.edges;
      few = omega arith;
    }

pub returns-clause-samples : goal.returns-clause-samples
returns-clause-samples c =
    let known = c.loop-network.invariant in
    let now = c.in_ok-kept.ensures in
    let all : take c.loop-network.network-index c.args.networks.now ≡ c.args.networks.now = take_all c.loop-network.network-index c.args.networks.now (omega arith) in
    stands_in c.args.networks.now c.loop-network.samples.items _ now.keeps now.addresses known.addresses known.four known.six (rw all at known.edges)

pub returns-clause-some : goal.returns-clause-some
returns-clause-some c =
    let first = c.in_ok-kept.ensures.keeps _ c.loop-network.invariant.four in
    omega (arith, first.1)
