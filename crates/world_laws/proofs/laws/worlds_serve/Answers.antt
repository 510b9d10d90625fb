use Rattle.world_laws.proofs.ServingLaws.{worlds_begin, worlds_serve, parts_serve}
use Rattle.world_laws.proofs.laws.worlds_serve.Goals as goal

pub returns : goal.returns
returns c = record { begins = worlds_begin; serve = worlds_serve; parts = parts_serve }
