use Rattle.std.proofs.Common.{◌≡◌, ◌-◌, ◌∙◌, ◌++◌, take, ap, arith}
use Rattle.std.proofs.lemmas.List.{take_all}
use Rattle.entry_core.specs.Fitting.{part_of}
use Rattle.peer_core.specs.Fittings.{becomes}
use Rattle.peer_core.proofs.Fittings.{part_from}
use Rattle.std.proofs.lemmas.Grind.{common_steps}
use Rattle.peer_core.proofs.fitting.Fitting.part.Goals as goal

pub returns : goal.returns
unfolding becomes
returns c =
    let all : c.loop-request.part ≡ c.truncate.new.self ++ c.rest_from-request-items.result.now =
    c.loop-request.invariant ∙ ap (λ l. c.truncate.new.self ++ l) (take_all c.loop-request.request-index c.rest_from-request-items.result.now (omega arith)) in
    let first : c.truncate.new.self ≡ take (c.args.self.now.kept - c.args.from) (part_of c.args.self.now.log.now c.args.from) =
    c.truncate.ensures ∙ (λ i. take (c.saturating_sub.ensures i) (c.in_ok-part.ensures i)) in
    all ∙ (λ i. first i ++ c.rest_from-request-items.ensures i) ∙ part_from c.args.self.now.log.now c.args.self.now.rest.now c.args.self.now.kept c.args.self.now.within c.args.from

pub loop-request-preserved : goal.loop-request-preserved
loop-request-preserved c = grind (arith, common_steps)
