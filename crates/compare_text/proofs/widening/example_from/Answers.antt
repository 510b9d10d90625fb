use Rattle.std.proofs.Common.{◌≡◌, ◌∷◌, [], take, arith}
use Rattle.std.proofs.lemmas.List.{take_all}
use Rattle.std.proofs.lemmas.List.Elements.{All-more, Contains-get_or}
use Rattle.rights_core.specs.Rights.{grants_at}
use Rattle.compare_core.specs.Widening.{WidensBy}
use Rattle.compare_text.proofs.Addressed.{example_decided, silence_decided}
use Rattle.compare_text.proofs.widening.example_from.Goals as goal

pub returns-in-Some : goal.returns-in-Some
returns-in-Some c =
    let shown = rw c.in-Some.is at c.in_ok-example.ensures in
    example_decided c.args.registry c.args.addressed c.args.old.now.grants c.args.entry.now c.args.samples.now _ c.given-from.result c.in-Some.example c.requires
    (Contains-get_or c.args.samples.now c.loop-address.address-index _ (omega arith)) c.given-from.ensures shown.0 shown.1

pub loop-address-preserved : goal.loop-address-preserved
loop-address-preserved c =
    All-more (λ a. ¬ WidensBy c.args.registry (grants_at c.args.old.now.grants a) (grants_at (c.args.entry.now ∷ []) a)) c.args.samples.now c.loop-address.address-index _ (omega arith) c.loop-address.invariant
    (rw c.in_default.is at c.in_ok-example.ensures)

pub returns : goal.returns
returns c =
    let all : take c.loop-address.address-index c.args.samples.now ≡ c.args.samples.now = take_all c.loop-address.address-index c.args.samples.now (omega arith) in
    silence_decided c.args.registry c.args.addressed c.args.old.now.grants c.args.entry.now c.args.samples.now c.requires (rw all at c.loop-address.invariant)
