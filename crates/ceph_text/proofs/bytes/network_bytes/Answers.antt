use Rattle.ceph_text.proofs.Runs.{behind_network}
use Rattle.ceph_text.proofs.bytes.network_bytes.Goals as goal

pub split_at-requires : goal.split_at-requires
split_at-requires c = behind_network c.args.text.now c.as_bytes.result.now c.network_len-len.result c.utf8.text c.as_bytes.ensures.value c.network_len-len.ensures
