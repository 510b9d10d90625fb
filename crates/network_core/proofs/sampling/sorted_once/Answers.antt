use Rattle.std.proofs.Common.{◌≡◌, take, arith, rules}
use Rattle.std.proofs.lemmas.List.{take_all}
use Rattle.std.proofs.lemmas.List.Elements.{All-get_or, All-contains}
use Rattle.std.proofs.lemmas.List.Sorted.{All-permutation, Contains-permutation}
use Rattle.std.specs.List.{Contains}
use Rattle.std.specs.List.Sorted.{IsPermutation}
use Rattle.network_core.specs.Address.{IsAddress}
use Rattle.network_core.proofs.Standing.{contained_more}
use Rattle.network_core.proofs.sampling.sorted_once.Goals as goal

pub loop-sample-preserved : goal.loop-sample-preserved
loop-sample-preserved c =
    let known = c.loop-sample.invariant in
    let now = c.in_ok-push_once.ensures in
    record {
      has = contained_more c.as_slice-sorted.result.now c.loop-sample.sample-index _ c.loop-sample.kept.items c.push_once.new.kept.items c.loop-sample-test.true (search rules) now.keeps now.has known.has;
      addresses = λ all. now.addresses (All-get_or IsAddress c.as_slice-sorted.result.now c.loop-sample.sample-index _ c.loop-sample-test.true all) (known.addresses all);
      few = omega arith;
    }

pub returns : goal.returns
returns c =
    let known = c.loop-sample.invariant in
    let all : take c.loop-sample.sample-index c.as_slice-sorted.result.now ≡ c.as_slice-sorted.result.now = take_all c.loop-sample.sample-index c.as_slice-sorted.result.now (omega arith) in
    let moved : IsPermutation c.args.samples.items c.as_slice-sorted.result.now = rw c.as_slice-sorted.ensures.value c.sort_unstable.ensures.permutation in
    record {
      keeps = λ a h. All-contains (Contains c.loop-sample.kept.items) c.as_slice-sorted.result.now a (rw all at known.has) (Contains-permutation c.args.samples.items c.as_slice-sorted.result.now a moved h);
      addresses = λ h. known.addresses (All-permutation IsAddress c.args.samples.items c.as_slice-sorted.result.now moved h);
      few = omega arith;
    }
