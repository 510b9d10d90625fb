use Rattle.std.proofs.Common.{arith, ◌∙◌, ap, subst}
use Rattle.world_front.specs.Event.{Map, OfMap}
use Rattle.world_front.specs.ControlPlane.{ControlPlane, front_step}
use Rattle.world_front.proofs.FrontSteps.{map_step, map_kept}
use Rattle.std.specs.Option.{option_map}
use Rattle.map_core.specs.Map.{map_of, epoch_of}
use Rattle.map_core.specs.Refusal.{refusal}
use Rattle.map_core.specs.declared.fault.MapFault.TheVariants.{OutOfMemory}
use Rattle.world_front.specs.Refusing.{RefusedOrMemory}
use Rattle.world_front.proofs.Refused.{map_exit, first_or_memory}
use Rattle.std.proofs.lemmas.Grind.{common_steps}
use Rattle.world_front.proofs.front.ControlPlane.change_map.Goals as goal

pub returns-in_err-epoch-clause-refused : goal.returns-in_err-epoch-clause-refused
returns-in_err-epoch-clause-refused c =
    let why = refusal (map_of c.self.inside.map) (epoch_of c.self.inside.map) c.args.command in
    subst (λ (f : ControlPlane). RefusedOrMemory (option_map OfMap (refusal (map_of f.history) (epoch_of f.history) c.args.command)) c.from_residual.result) c.self.view_is
    (map_exit c.from_residual.result why c.in_err-epoch.field-0.0 c.from_residual.ensures.1 (first_or_memory why OutOfMemory c.in_err-epoch.field-0.0 c.in_err-epoch.ensures.refused))

pub invariant_of-self-2 : goal.invariant_of-self-2
invariant_of-self-2 c =
    let inside : ControlPlane = record { database = c.self.inside.users; history = c.self.inside.map; sessions = c.self.inside.sessions; submissions = c.self.inside.submissions; lists = c.self.inside.lists } in
    map_kept inside c.args.command _ c.self.invariant (map_step inside c.args.command c.apply.new.self c.in_ok-epoch.ensures.accepted)

pub returns-clause-steps : goal.returns-clause-steps
returns-clause-steps c =
    let inside : ControlPlane = record { database = c.self.inside.users; history = c.self.inside.map; sessions = c.self.inside.sessions; submissions = c.self.inside.submissions; lists = c.self.inside.lists } in
    map_step inside c.args.command c.apply.new.self c.in_ok-epoch.ensures.accepted ∙ ap (λ f. front_step f (Map c.args.command)) c.self.view_is

pub returns-clause-tells : goal.returns-clause-tells
returns-clause-tells c = grind (arith, common_steps)
