use Rattle.std.proofs.Common.{◌≡◌, ◌∙◌, ap, map, take, arith}
use Rattle.std.proofs.lemmas.List.{length-map, take_all}
use Rattle.grant_core.specs.Flat.{flat, filled}
use Rattle.grant_core.specs.Table.{table_of}
use Rattle.grant_core.proofs.Fillings.{nowhere, same_list}
use Rattle.grant_core.proofs.Paths.{below_nothing}
use Rattle.grant_core.proofs.expansion.grow_list.Goals as goal

pub returns : goal.returns
returns c =
    let whole : take c.len.result (table_of c.args.profiles.now.entries) ≡ table_of c.args.profiles.now.entries =
    take_all c.len.result (table_of c.args.profiles.now.entries) (rw length-map (omega arith)) in
    rw c.new-above.ensures.items at (rw c.new-grants.ensures.items at c.in_ok-grow.ensures.grants) ∙ below_nothing _
    ∙ ap (λ t. flat t (map (filled (nowhere c.from_string.result)) c.args.list.now)) whole ∙ ap (flat (table_of c.args.profiles.now.entries)) (same_list c.from_string.result c.args.list.now)
