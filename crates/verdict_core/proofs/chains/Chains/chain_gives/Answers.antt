use Rattle.cap_grants.specs.declared.grant.AllowGrant.{AllowGrant}
use Rattle.std.proofs.Common.{ℕ, List, ◌≡◌, ap, sym, ◌∙◌, get_or, Some, option_copied, arith}
use Rattle.std.specs.List.{slice_get}
use Rattle.std.proofs.lemmas.List.{get_or_read}
use Rattle.verdict_core.specs.Kinds.{chains_of}
use Rattle.verdict_core.specs.Chains.{gives}
use Rattle.verdict_core.proofs.Walks.{none_first, none_next, got, length-chains_of}
use Rattle.std.proofs.lemmas.Grind.{common_steps}
use Rattle.verdict_core.proofs.chains.Chains.chain_gives.Goals as goal

pub loop-place-init : goal.loop-place-init
loop-place-init g c =
    let chained = c.requires.chained in
    let kinds = c.args.self.now.kinds.items in
    let grants = c.args.grants.now in
    let start : c.from-place.result ≡ get_or c.args.self.now.first.items c.args.chain 0 =
    c.from-place.ensures ∙ get_or_read c.args.self.now.first.items _ _ (omega (arith, chained.heads, c.requires.chain)) c.index.ensures 0 in
    record {
      none = none_first kinds grants c.args.self.now.first.items c.args.self.now.next.items c.args.chain c.from-place.result c.args.target.now c.args.needs.now (option_copied c.args.call) c.requires.chain chained start;
      same = λ h. ap (λ i. get_or (chains_of kinds grants) i 0) start ∙ chained.first_in c.args.chain c.requires.chain (omega (arith, start, length-chains_of kinds grants, h));
    }

pub loop-place-preserved : goal.loop-place-preserved
loop-place-preserved g c =
    let chained = c.requires.chained in
    let kinds = c.args.self.now.kinds.items in
    let grants = c.args.grants.now in
    let k = c.loop-place.place in
    let inside = c.loop-place-test.true in
    let lengths = length-chains_of kinds grants in
    let at : slice_get grants k ≡ Some c.index-grants-place.result = got grants k c.index-grants-place.result inside c.index-grants-place.is in
    let same = c.loop-place.invariant.same inside in
    let later : c.from-place-in-loop-place.result ≡ get_or c.args.self.now.next.items k 0 =
    c.from-place-in-loop-place.ensures ∙ get_or_read c.args.self.now.next.items _ _ (omega (arith, chained.places, lengths, inside)) c.index-in-loop-place.ensures 0 in
    record {
      none = none_next kinds grants c.args.self.now.first.items c.args.self.now.next.items c.args.chain k c.from-place-in-loop-place.result c.index-grants-place.result c.args.target.now c.args.needs.now (option_copied c.args.call)
          chained at same (ap (λ (e : List ℕ × AllowGrant). gives e.1 c.args.target.now c.args.needs.now (option_copied c.args.call)) c.index-grants-place.is ∙ sym c.gives.ensures ∙ c.if-gives.false) later c.loop-place.invariant.none;
      same = λ h. ap (λ i. get_or (chains_of kinds grants) i 0) later ∙ chained.next_in k (omega arith) (omega (arith, lengths, inside)) (omega (arith, later, lengths, h)) ∙ same;
    }

pub returns-then-gives-clause-some : goal.returns-then-gives-clause-some
returns-then-gives-clause-some g c = grind (arith, common_steps)

pub index-requires-in-loop-place : goal.index-requires-in-loop-place
index-requires-in-loop-place g c = grind (arith, common_steps)

pub loop-place-smaller : goal.loop-place-smaller
loop-place-smaller g c = grind (arith, common_steps)
