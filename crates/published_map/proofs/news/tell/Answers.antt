use Rattle.published_map.proofs.Grows.{admits}
use Rattle.published_map.proofs.news.tell.Goals as goal

pub reader-requires : goal.reader-requires
reader-requires c = admits
