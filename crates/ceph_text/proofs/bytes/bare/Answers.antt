use Rattle.ceph_text.proofs.Runs.{behind_word}
use Rattle.ceph_text.proofs.bytes.bare.Goals as goal

pub split_at-requires : goal.split_at-requires
split_at-requires c = behind_word c.args.text.now c.as_bytes.result.now c.word_len-len.result c.utf8.text c.as_bytes.ensures.value c.word_len-len.ensures
