use Rattle.ceph_text.proofs.Lists.{one_list}
use Rattle.ceph_text.proofs.reading.reads_one_list.Goals as goal

pub returns : goal.returns
returns c = one_list
