use Rattle.group_model.proofs.Standing.{suffixes_refine}
use Rattle.group_model.proofs.SuffixSettling.{refuse_alike, settle_alike}
use Rattle.group_model.proofs.refinement.suffixes_refine_whole_logs.Goals as goal

pub returns : goal.returns
returns c = record { stands = suffixes_refine; refuses = refuse_alike; settles = settle_alike }
