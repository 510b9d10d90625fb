use Rattle.std.proofs.Common.{◌≡◌, [], ◌∷◌, ◌++◌, ◌∙◌, List, map, sym, subst}
use Rattle.std.proofs.lemmas.Iterator.Adapters.{YieldsList-from_vec}
use Rattle.std.proofs.lemmas.Iterator.Consumers.{YieldsList-end}
use Rattle.std.proofs.lemmas.List.{map-append, map-id}
use Rattle.cluster.specs.declared.cluster.Seats.{Seats}
use Rattle.cluster.specs.declared.pass.Pass.{Pass}
use Rattle.cluster.specs.Passes.{Gathers}
use Rattle.cluster.specs.Asks.{seats_of}
use Rattle.cluster.proofs.Gathering.{gathers_more}
use Rattle.cluster.proofs.closing.gather.Goals as goal

pub loop-pass-preserved : goal.loop-pass-preserved
loop-pass-preserved c =
    let before = c.loop-pass.yielded in
    let pass = c.in-Some.pass in
    let more : map seats_of (before ++ pass ∷ []) ≡ map seats_of before ++ pass.seats ∷ [] = map-append seats_of before (pass ∷ []) in record {
      seats = c.absorb.ensures.seats;
      heard = subst (λ (l : List Seats). Gathers c.args.all l c.absorb.new.seats) (sym more)
          (gathers_more c.args.all (map seats_of before) c.loop-pass.all pass.seats c.absorb.new.seats c.loop-pass.invariant.heard c.absorb.ensures.taken);
    }

pub returns-clause-heard : goal.returns-clause-heard
returns-clause-heard c =
    let begun = c.into_iter-pass-iterator.ensures.into_iter_gives in
    let road = YieldsList-from_vec {s = c.into_iter-pass-iterator.result} _ begun.0 (begun.1 ∙ c.args.passes.ok.0) in
    let came = YieldsList-end road c.loop-pass.yielded _ c.loop-pass.yielded_by _ c.next.new.self c.in-None.is c.next.ensures.steps in
    subst (λ (passes : List Pass). Gathers c.args.all (map seats_of passes) c.loop-pass.all) (sym (map-id c.loop-pass.yielded) ∙ came.0) c.loop-pass.invariant.heard
