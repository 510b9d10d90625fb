use Rattle.ceph_text.proofs.Runs.{behind_blanks}
use Rattle.ceph_text.proofs.bytes.blanks.Goals as goal

pub split_at-requires : goal.split_at-requires
split_at-requires c = behind_blanks c.args.text.now c.as_bytes.result.now c.blanks_len.result c.utf8.text c.as_bytes.ensures.value c.blanks_len.ensures
