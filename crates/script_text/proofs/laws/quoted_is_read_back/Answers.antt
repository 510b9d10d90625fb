use Rattle.script_text.proofs.ReadBack.{quoted_is_read_back as law}
use Rattle.script_text.proofs.laws.quoted_is_read_back.Goals as goal

pub returns : goal.returns
returns c = law
