use Rattle.std.proofs.Common.{List, [], ◌∷◌, ◌++◌, Bool, true, false, cond, sym, subst}
use Rattle.std.specs.Prelude.{All}
use Rattle.std.specs.Result.{is_ok}
use Rattle.std.proofs.lemmas.List.Elements.{All-push}
use Rattle.cluster.specs.declared.pass.Pass.{Pass}
use Rattle.cluster.specs.Asks.{IsPassOf}
use Rattle.tests_clusters.proofs.begun.put_pass.Goals as goal

put : (P : Pass → Type 0) (fits : Bool) (passes : List Pass) (pass : Pass) → All P passes → P pass → All P (cond fits (passes ++ (pass ∷ [])) passes)
put P true passes pass all own = All-push P passes pass all own
put _ false _ _ all _ = all

pub returns : goal.returns
returns c =
    let P : Pass → Type 0 = IsPassOf c.args.cluster.now in
    subst (All P) (sym c.push.ensures.items) (put P (is_ok c.push.result) c.args.passes.now.items c.args.pass c.requires.rest c.requires.pass)
