use Rattle.std.proofs.Common.{◌≡◌, ◌∙◌, ◌++◌, Option, None, Some, List, inr, refl, append-nil, sym, ap, subst}
use Rattle.std.specs.Prelude.{OnOk, true, false}
use Rattle.std.specs.Option.{option_map, option_or}
use Rattle.map_core.specs.Map.{map_of, epoch_of}
use Rattle.map_core.specs.Limits.{IsAccepted}
use Rattle.map_core.specs.Refusal.{refusal}
use Rattle.group_model.specs.Group.{Group}
use Rattle.world_events.specs.declared.fault.WorldFault.{WorldFault as Fault}
use Rattle.world_events.specs.declared.event.Event.TheVariants.{Map}
use Rattle.world_events.specs.declared.fault.WorldFault.TheVariants.{Map as OfMap, Group as OfGroup}
use Rattle.world_front.specs.Refusing.{RefusedOrMemory}
use Rattle.world_core.specs.World.{parts_of, parts_refusal, created_by}
use Rattle.world_core.specs.Moves.{stepped, moves_groups, move_of, all_moved, first_refusal}
use Rattle.world_core.proofs.Stepped.{stepped_moved, refusals_moved, none_created}
use Rattle.world_core.proofs.AfterMoves.{after_move, after_growth}
use Rattle.world_core.proofs.moves.apply_map.Goals as goal

none_of : {X : Type 0} (o : Option X) → ((x : X) → o ≡ Some x → ⊥) → o ≡ None
none_of None h = refl
none_of (Some x) h = absurd (h x refl)

pub returns-in-Some-clause-refused : goal.returns-in-Some-clause-refused
returns-in-Some-clause-refused c =
    inr (ap (λ o. option_or (option_map OfMap o) (option_map OfGroup (parts_refusal c.args.groups.now.items (parts_of c.args.front.now (Map c.args.command)))))
    (ap (λ h. refusal (map_of h) (epoch_of h) c.args.command) (sym c.map-2.ensures) ∙ sym c.in-Some.ensures))

pub returns-then-moves_groups-clause-groups : goal.returns-then-moves_groups-clause-groups
returns-then-moves_groups-clause-groups c =
    let f = c.args.front.now in
    let moves : moves_groups c.args.command ≡ true = sym c.moves_groups.ensures ∙ c.if-moves_groups.true in
    let accepted : IsAccepted f.history = subst IsAccepted c.map.ensures c.epoch-epoch.ensures.accepted in
    let is : all_moved (move_of (map_of f.history) c.args.command) c.args.groups.now.items ≡ stepped (parts_of f (Map c.args.command)) c.args.groups.now.items ++ created_by f (Map c.args.command) =
    sym (stepped_moved f c.args.command c.args.groups.now.items accepted c.requires.places moves)
    ∙ sym (append-nil (stepped (parts_of f (Map c.args.command)) c.args.groups.now.items))
    ∙ ap (λ l. stepped (parts_of f (Map c.args.command)) c.args.groups.now.items ++ l) (sym (none_created f c.args.command moves)) in
    subst (λ (l : List Group). OnOk c.move_all.result (c.move_all.new.groups.items ≡ l)) is c.move_all.ensures.groups

pub returns-then-moves_groups-clause-kept : goal.returns-then-moves_groups-clause-kept
returns-then-moves_groups-clause-kept c =
    let moves : moves_groups c.args.command ≡ true = sym c.moves_groups.ensures ∙ c.if-moves_groups.true in
    after_move c.move_all.result c.args.front.now c.move_all.new.front c.args.command c.args.groups.now.items c.move_all.new.groups.items c.requires moves c.move_all.ensures.front c.move_all.ensures.groups c.move_all.ensures.unchanged c.move_all.ensures.refused

pub returns-then-moves_groups-clause-refused : goal.returns-then-moves_groups-clause-refused
returns-then-moves_groups-clause-refused c =
    let f = c.args.front.now in
    let moves : moves_groups c.args.command ≡ true = sym c.moves_groups.ensures ∙ c.if-moves_groups.true in
    let accepted : IsAccepted f.history = subst IsAccepted c.map.ensures c.epoch-epoch.ensures.accepted in
    let free : refusal (map_of f.history) (epoch_of f.history) c.args.command ≡ None =
    ap (λ h. refusal (map_of h) (epoch_of h) c.args.command) (sym c.map-2.ensures) ∙ sym c.refusal.ensures ∙ none_of c.refusal.result c.in_default.not-Some in
    let is : option_map OfGroup (first_refusal (move_of (map_of f.history) c.args.command) c.args.groups.now.items)
    ≡ option_or (option_map OfMap (refusal (map_of f.history) (epoch_of f.history) c.args.command)) (option_map OfGroup (parts_refusal c.args.groups.now.items (parts_of f (Map c.args.command)))) =
    ap (option_map OfGroup) (sym (refusals_moved f c.args.command c.args.groups.now.items accepted c.requires.places moves))
    ∙ ap (λ o. option_or (option_map OfMap o) (option_map OfGroup (parts_refusal c.args.groups.now.items (parts_of f (Map c.args.command))))) (sym free) in
    subst (λ (o : Option Fault). RefusedOrMemory o c.move_all.result) is c.move_all.ensures.refused

pub returns-else-moves_groups-clause-kept : goal.returns-else-moves_groups-clause-kept
returns-else-moves_groups-clause-kept c =
    let f = c.args.front.now in
    let still : moves_groups c.args.command ≡ false = sym c.moves_groups.ensures ∙ c.if-moves_groups.false in
    let free : refusal (map_of f.history) (epoch_of f.history) c.args.command ≡ None =
    ap (λ h. refusal (map_of h) (epoch_of h) c.args.command) (sym c.map-2.ensures) ∙ sym c.refusal.ensures ∙ none_of c.refusal.result c.in_default.not-Some in
    after_growth c.change_pools.result f c.change_pools.new.front c.args.command c.args.groups.now.items c.change_pools.new.groups.items c.requires free still c.change_pools.ensures.front c.change_pools.ensures.groups c.change_pools.ensures.unchanged
