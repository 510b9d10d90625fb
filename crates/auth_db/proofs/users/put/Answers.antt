use Rattle.std.proofs.Common.{◌∙◌, ap}
use Rattle.std.specs.Ordering.{nat_cmp}
use Rattle.std.specs.Cmp.Lexicographic.{slice_cmp}
use Rattle.auth_db.specs.Entries.{users_of}
use Rattle.auth_db.specs.Users.{with_user}
use Rattle.auth_db.proofs.Commute.{users_of-insert_entry, length-put}
use Rattle.auth_db.proofs.users.put.Goals as goal

pub returns-clause-ok : goal.returns-clause-ok
returns-clause-ok c =
    ap users_of c.in_ok-insert.ensures.entries ∙ users_of-insert_entry (slice_cmp nat_cmp) c.args.users.now.entries c.in_ok-name.name c.args.caps
    ∙ ap (λ n. with_user (users_of c.args.users.now.entries) n c.args.caps) c.in_ok-name.ensures.ok

pub returns-clause-len : goal.returns-clause-len
returns-clause-len c =
    length-put c.args.users.now.entries c.insert.new.self.entries c.in_ok-name.name c.args.name.now c.in_ok-insert.field-0 c.in_ok-name.ensures.ok c.in_ok-insert.ensures.old c.in_ok-insert.ensures.len
