use Rattle.ceph_text.proofs.Runs.{behind_inside}
use Rattle.ceph_text.proofs.bytes.inside.Goals as goal

pub split_at-requires : goal.split_at-requires
split_at-requires c = behind_inside c.args.quote c.args.text.now c.as_bytes.result.now c.inside_len.result c.requires c.as_bytes.ensures.value c.inside_len.ensures
