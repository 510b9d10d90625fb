use Rattle.cluster.specs.Passes.{firsts_of}
use Rattle.cluster.proofs.ClusterPlaces.{groups_of_start, inside_count}
use Rattle.cluster.proofs.cluster.Cluster.work.Goals as goal

pub work_at-requires-clause-place : goal.work_at-requires-clause-place
work_at-requires-clause-place g c = inside_count c.args.self.now c.args.group.now c.in-Ok.place (c.in-Ok.ensures.place (firsts_of c.args.self.now) (groups_of_start c.args.self.now c.requires.begun))

pub returns-in-Ok-clause-worked : goal.returns-in-Ok-clause-worked
returns-in-Ok-clause-worked g c = λ none. record {
  place = c.in-Ok.place;
  at = c.in-Ok.ensures.place (firsts_of c.args.self.now) (groups_of_start c.args.self.now c.requires.begun);
  works = c.work_at.ensures.worked;
}
