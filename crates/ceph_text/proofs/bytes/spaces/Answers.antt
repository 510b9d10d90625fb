use Rattle.ceph_text.proofs.Runs.{behind_spaces}
use Rattle.ceph_text.proofs.bytes.spaces.Goals as goal

pub split_at-requires : goal.split_at-requires
split_at-requires c = behind_spaces c.args.text.now c.as_bytes.result.now c.spaces_len.result c.utf8.text c.as_bytes.ensures.value c.spaces_len.ensures
