-- Each group of a world is the fold of its own part of the events.
use Rattle.std.proofs.Common.{◌≡◌, ◌∙◌, List, [], ◌∷◌, ◌++◌, Bool, true, false, cond, if◌then◌else◌, Option, Some, None, map, refl, sym, ap, subst}
use Rattle.std.proofs.lemmas.List.Sums.{fold-append}
use Rattle.std.specs.Prelude.{fold}
use Rattle.std.specs.List.{filter}
use Rattle.std.specs.Option.{option_map}
use Rattle.store_core.specs.declared.sealed.GroupId.{GroupId}
use Rattle.group_model.specs.Group.{Group, run, group_step}
use Rattle.world_events.specs.declared.event.Event.{Event}
use Rattle.world_front.specs.Groups.{is_same_group}
use Rattle.world_front.specs.ControlPlane.{front_step}
use Rattle.world_core.specs.World.{World, Part, group_at, act, acted, parts_of, created_by, world_step, first_world, world_after}
use Rattle.world_core.specs.Standing.{HasNumbers}
use Rattle.world_core.specs.Holds.{events_in, group_step_alone, group_from, Holds, WorldHolds, HoldsOn}
use Rattle.world_front.proofs.Merge.{same_group}
use Rattle.world_core.proofs.Standing.{step_is}
use Rattle.world_core.proofs.Acting.{group_at_self, group_at_other}
use Rattle.world_core.proofs.Worlds.{decided_is_one_list}

runs_on : (o : Option Group) → option_map (λ g. g) o ≡ o
runs_on None = refl
runs_on (Some g) = refl

acted_at : (id : GroupId) (ps : List Part) (w : World) → group_at id (acted w ps).groups ≡ option_map (run (events_in id ps)) (group_at id w.groups)
acted_at id [] w = sym (runs_on (group_at id w.groups))
acted_at id (p ∷ ps) w = acted_at id ps (act w p) ∙ go (is_same_group id p.id) refl
  where
    keeps : (g : Group) → (group_step g p.event).group ≡ g.group
    keeps g = step_is g.group p.event g refl

    joined : (o : Option Group) → option_map (run (events_in id ps)) (option_map (λ g. group_step g p.event) o) ≡ option_map (run (p.event ∷ events_in id ps)) o
    joined None = refl
    joined (Some g) = refl

    go : (b : Bool) → is_same_group id p.id ≡ b → option_map (run (events_in id ps)) (group_at id (act w p).groups) ≡ option_map (run (map (λ q. q.event) (cond b (p ∷ filter (λ q. is_same_group id q.id) ps) (filter (λ q. is_same_group id q.id) ps)))) (group_at id w.groups)
    go true is =
        let there : id ≡ p.id = same_group id p.id is in
        ap (option_map (run (events_in id ps)))
        (ap (λ i. group_at i (act w p).groups) there ∙ group_at_self p.id (λ g. group_step g p.event) keeps w.groups ∙ ap (λ i. option_map (λ g. group_step g p.event) (group_at i w.groups)) (sym there))
        ∙ joined (group_at id w.groups)
    go false is = ap (option_map (run (events_in id ps))) (group_at_other p.id id (λ g. group_step g p.event) keeps is w.groups)

or_later : Option Group → Option Group → Option Group
or_later None o = o
or_later (Some g) o = Some g

appended_at : (id : GroupId) (gs news : List Group) → group_at id (gs ++ news) ≡ or_later (group_at id gs) (group_at id news)
unfolding or_later
appended_at id [] news = refl
appended_at id (g ∷ gs) news = go (is_same_group id g.group) (appended_at id gs news)
  where
    go : (b : Bool) → group_at id (gs ++ news) ≡ or_later (group_at id gs) (group_at id news) → (if b then Some g else group_at id (gs ++ news)) ≡ or_later (if b then Some g else group_at id gs) (group_at id news)
    go true rest = refl
    go false rest = rest

alone : (id : GroupId) (w : World) (e : Event) (o : Option Group) → or_later (option_map (run (events_in id (parts_of w.front e))) o) (group_at id (created_by w.front e)) ≡ group_step_alone w.front id e o
unfolding or_later
alone id w e None = refl
alone id w e (Some g) = refl

pub step_at : (id : GroupId) (w : World) (e : Event) → group_at id (world_step w e).groups ≡ group_step_alone w.front id e (group_at id w.groups)
step_at id w e =
    appended_at id (acted w (parts_of w.front e)).groups (created_by w.front e)
    ∙ ap (λ o. or_later o (group_at id (created_by w.front e))) (acted_at id (parts_of w.front e) w)
    ∙ alone id w e (group_at id w.groups)

groups_from : (id : GroupId) (es : List Event) (w : World) → group_at id (fold world_step w es).groups ≡ group_from w.front id (group_at id w.groups) es
groups_from id [] w = refl
groups_from id (e ∷ es) w = groups_from id es (world_step w e) ∙ ap (λ o. group_from (front_step w.front e) id o es) (step_at id w e)

front_from : (es : List Event) (w : World) → (fold world_step w es).front ≡ fold front_step w.front es
front_from [] w = refl
front_from (e ∷ es) w = front_from es (world_step w e)

pub world_holds : WorldHolds
world_holds table daemons events room = record {
  made = refl;
  front = front_from events (first_world table daemons);
  groups = λ id. groups_from id events (first_world table daemons);
  decided = decided_is_one_list table daemons events room;
}

pub holds_on : HoldsOn
holds_on table daemons events e w h room =
    let next : world_after table daemons (events ++ e ∷ []) ≡ world_step w e =
    fold-append world_step (first_world table daemons) events (e ∷ []) ∙ ap (λ v. world_step v e) (sym h.made) in
    let P : World → Type 0 = λ v. Holds table daemons (events ++ e ∷ []) v in
    let Q : World → Type 0 = λ v. HasNumbers v in
    subst P next (world_holds table daemons (events ++ e ∷ []) (subst Q (sym next) room))
