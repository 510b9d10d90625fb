use Rattle.std.proofs.Common.{rules}
use Rattle.auth_db.proofs.osd_texts.check_osd.Goals as goal

pub returns-after-expand_text-clause-good : goal.returns-after-expand_text-clause-good
returns-after-expand_text-clause-good c = search rules

pub returns-after-expand_text-clause-told : goal.returns-after-expand_text-clause-told
returns-after-expand_text-clause-told c = search rules
