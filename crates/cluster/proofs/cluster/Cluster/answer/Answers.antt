use Rattle.cluster.specs.Passes.{firsts_of}
use Rattle.cluster.proofs.ClusterPlaces.{groups_of_start, inside_count}
use Rattle.cluster.proofs.cluster.Cluster.answer.Goals as goal

pub answer_at-requires-clause-place : goal.answer_at-requires-clause-place
answer_at-requires-clause-place g c = inside_count c.args.self.now c.args.submitted.now.group c.in-Ok.place (c.in-Ok.ensures.place (firsts_of c.args.self.now) (groups_of_start c.args.self.now c.requires.begun))

pub returns-in-Ok-clause-looked : goal.returns-in-Ok-clause-looked
returns-in-Ok-clause-looked g c = λ none. record {
  place = c.in-Ok.place;
  at = c.in-Ok.ensures.place (firsts_of c.args.self.now) (groups_of_start c.args.self.now c.requires.begun);
  looks = c.answer_at.ensures.looked;
}
