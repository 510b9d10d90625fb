use Rattle.std.proofs.Common.{◌∙◌, inr, reverse, sym, ap}
use Rattle.std.specs.Option.{option_map}
use Rattle.map_core.specs.Map.{map_of}
use Rattle.world_events.specs.declared.fault.WorldFault.TheVariants.{Group as OfGroup}
use Rattle.world_core.specs.Moves.{move_of, all_moved, first_refusal}
use Rattle.world_core.proofs.AllMoved.{all_committed, all_given_up}
use Rattle.world_core.proofs.moves.move_all.Goals as goal

pub returns-then-any_full-clause-refused : goal.returns-then-any_full-clause-refused
returns-then-any_full-clause-refused c =
    inr (ap (λ h. option_map OfGroup (first_refusal (move_of (map_of h) c.args.command) c.args.groups.now.items)) (sym c.map.ensures)
    ∙ ap (λ l. option_map OfGroup (first_refusal (move_of (map_of c.map.result.now) c.args.command) l)) (sym c.as_slice.ensures.value)
    ∙ ap (option_map OfGroup) c.if-any_full.ensures)

pub returns-in-Ok-clause-groups : goal.returns-in-Ok-clause-groups
returns-in-Ok-clause-groups c =
    c.commit_all.ensures
    ∙ all_committed (move_of (map_of c.map-2.result.now) c.args.command) c.prepare_all.new.groups.items c.args.groups.now.items (reverse c.in_ok-prepared.prepared.items) c.in_ok-prepared.ensures.taken c.in_ok-prepared.ensures.ready
    ∙ ap (λ h. all_moved (move_of (map_of h) c.args.command) c.args.groups.now.items) c.map-2.ensures

pub returns-in-Ok-clause-refused : goal.returns-in-Ok-clause-refused
returns-in-Ok-clause-refused c =
    ap (λ h. option_map OfGroup (first_refusal (move_of (map_of h) c.args.command) c.args.groups.now.items)) (sym c.map.ensures)
    ∙ ap (λ l. option_map OfGroup (first_refusal (move_of (map_of c.map.result.now) c.args.command) l)) (sym c.as_slice.ensures.value)
    ∙ ap (option_map OfGroup) c.if-any_full.ensures

pub any_full-requires-clause-present : goal.any_full-requires-clause-present
any_full-requires-clause-present c = rw (c.map.ensures, c.as_slice.ensures.value) c.requires.present

pub returns-in-Err-clause-unchanged : goal.returns-in-Err-clause-unchanged
returns-in-Err-clause-unchanged c = (
  c.in-Err.ensures.unchanged,
  c.give_up_all.ensures
      ∙ all_given_up (move_of (map_of c.map-2.result.now) c.args.command) c.prepare_all.new.groups.items c.args.groups.now.items (reverse c.in_ok-prepared.prepared.items) c.in_ok-prepared.ensures.taken c.in_ok-prepared.ensures.ready,
)
