use Rattle.std.proofs.Common.{◌≡◌, None, arith}
use Rattle.auth_db.specs.Entries.{users_of}
use Rattle.auth_db.specs.Refusals.{caps_refusal}
use Rattle.auth_db.proofs.Judging.{known_name, changed_user}
use Rattle.auth_db.proofs.Kept.{kept_set}
use Rattle.std.proofs.lemmas.Grind.{moves}
use Rattle.auth_db.proofs.db.AuthDb.caps.Goals as goal

pub invariant_of-self-2 : goal.invariant_of-self-2
invariant_of-self-2 c =
    let users = users_of c.self.inside.users.entries in
    let accepted : caps_refusal users c.args.name.now c.args.caps ≡ None = cc c.in_default.ensures in
    kept_set c.self.inside.table users (users_of c.put.new.users.entries) c.args.name.now c.args.caps c.self.invariant (changed_user users c.args.name.now c.args.caps accepted).0 (c.in_default-check_osd.ensures.good, (changed_user users c.args.name.now c.args.caps accepted).1) c.in_ok-put.ensures.ok c.in_ok-put.ensures.len
    (known_name users c.args.name.now c.args.caps accepted)

pub returns-in-Err-clause-refused : goal.returns-in-Err-clause-refused
returns-in-Err-clause-refused c = grind (arith, moves)
