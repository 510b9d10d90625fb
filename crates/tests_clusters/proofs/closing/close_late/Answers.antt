use Rattle.std.proofs.Common.{sym, subst, All}
use Rattle.cluster.specs.declared.cluster.Cluster.{Cluster}
use Rattle.cluster.specs.Asks.{IsPassOf}
use Rattle.tests_clusters.proofs.closing.close_late.Goals as goal

pub put_pass-requires-clause-rest : goal.put_pass-requires-clause-rest
put_pass-requires-clause-rest g c =
    let back = c.in-Err-MissingPass-default-default-default in
    subst (λ v. All (IsPassOf back.cluster) v.items) (sym back.ensures.back.2) (subst (λ (x : Cluster). All (IsPassOf x) c.take_pass.new.passes.items) (sym back.ensures.back.0) c.take_pass.ensures.rest)
