use Rattle.std.proofs.Common.{◌++◌, [], ◌∷◌, ap, ◌∙◌}
use Rattle.grant_core.specs.Table.{table_of}
use Rattle.grant_core.proofs.Pushed.{pushed_entries, table_of-push, IsSized-push}
use Rattle.grant_core.proofs.table.push_profile.Goals as goal

pub returns-clause-ok : goal.returns-clause-ok
returns-clause-ok c =
    ap table_of (c.in_ok-insert.ensures.entries ∙ pushed_entries c.args.profiles.now c.args.name.now c.in_ok-name.name c.args.profile c.in_ok-name.ensures.ok c.requires.fresh)
    ∙ table_of-push c.args.profiles.now.entries c.in_ok-name.name c.args.profile
    ∙ ap (λ n. table_of c.args.profiles.now.entries ++ (n, c.args.profile.body) ∷ []) c.in_ok-name.ensures.ok

pub returns-clause-sized : goal.returns-clause-sized
returns-clause-sized c =
    rw (c.in_ok-insert.ensures.entries ∙ pushed_entries c.args.profiles.now c.args.name.now c.in_ok-name.name c.args.profile c.in_ok-name.ensures.ok c.requires.fresh)
    (IsSized-push c.args.profiles.now.entries (c.in_ok-name.name, c.args.profile) c.requires.sized c.requires.room c.requires.size c.requires.small)
