use Rattle.compare_core.proofs.Results.{ok_also}
use Rattle.rules_core.proofs.NearSteps.{enough_all, never_enough}
use Rattle.rules_core.proofs.checking.places_for.Goals as goal

pub returns-in-Never : goal.returns-in-Never
returns-in-Never c =
    ok_also c.near.result (λ places h. never_enough c.args.rule.now c.in-Each.demand c.in-Each.who c.in-Each.region c.args.entities.now places.items c.in-Each.is c.in-Never.is h) c.near.ensures

pub returns-in-Always : goal.returns-in-Always
returns-in-Always c = ok_also c.all.result (λ places h pools. enough_all pools c.args.rule.now c.args.entities.now places.items h.0 h.1) c.all.ensures

pub returns-in-Apart : goal.returns-in-Apart
returns-in-Apart c = ok_also c.all-in-Apart.result (λ places h pools. enough_all pools c.args.rule.now c.args.entities.now places.items h.0 h.1) c.all-in-Apart.ensures
