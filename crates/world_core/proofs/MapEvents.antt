-- What a command on the map is to the world.
use Rattle.std.proofs.Common.{◌≡◌, ◌∙◌, List, ◌++◌, Result, Ok, Err, sym, ap, subst}
use Rattle.std.specs.Prelude.{OnOk, OnErr, IfOk}
use Rattle.std.specs.Option.{option_map, option_or}
use Rattle.map_core.specs.Map.{map_of}
use Rattle.map_core.specs.declared.command.MapCommand.{MapCommand}
use Rattle.group_model_whole.specs.Each.{Each}
use Rattle.group_model.specs.Group.{Group}
use Rattle.world_events.specs.declared.event.Event.TheVariants.{Map}
use Rattle.world_events.specs.declared.event.Told.{Told}
use Rattle.world_events.specs.declared.fault.WorldFault.{WorldFault as Fault}
use Rattle.world_events.specs.declared.fault.WorldFault.TheVariants.{Group as OfGroup}
use Rattle.world_front.specs.ControlPlane.{ControlPlane, front_step, front_refusal, told_of}
use Rattle.world_core.specs.World.{World, Part, acted, created_by, parts_of, parts_refusal}
use Rattle.world_core.specs.Moves.{stepped}
use Rattle.world_front.specs.Refusing.{RefusedOrMemory}
use Rattle.world_core.specs.declared.audit.Run.{Run}
use Rattle.world_core.specs.Inside.{world_of}
use Rattle.world_core.specs.Sound.{FitsAt, IsKept}
use Rattle.world_core.specs.Applying.{Applies}
use Rattle.world_core.proofs.Messages.{true_not_false, kept_on}
use Rattle.world_core.proofs.RunPlaces.{Longer, fit_on, told_on}
use Rattle.world_core.proofs.Silent.{acted_audit, acted_groups, longer_with, map_silent, stepped_audits}

-- what front and groups did of a command
pub record MapDid (f : ControlPlane) (gs : List Group) (c : MapCommand) (r : Result Told Fault) (f' : ControlPlane) (gs' : List Group) : Type 0 where
  pub front : OnOk r (f' ≡ front_step f (Map c))
  pub groups : OnOk r (gs' ≡ stepped (parts_of f (Map c)) gs ++ created_by f (Map c))
  pub tells : IfOk r (λ told. told ≡ told_of f (Map c))
  pub refused : RefusedOrMemory (option_or (front_refusal f (Map c)) (option_map OfGroup (parts_refusal gs (parts_of f (Map c))))) r
  pub unchanged : OnErr r ((f' ≡ f) × (gs' ≡ gs))

pub record Mapped (f : ControlPlane) (gs : List Group) (runs : List Run) (c : MapCommand) (r : Result Told Fault) (f' : ControlPlane) (gs' : List Group) : Type 0 where
  pub applies : Applies (world_of f gs runs) (Map c) r (world_of f' gs' runs)
  pub fit : Each (FitsAt gs') runs

pub mapped : (f f' : ControlPlane) (gs gs' : List Group) (runs : List Run) (c : MapCommand) (r : Result Told Fault) → Each (FitsAt gs) runs → MapDid f gs c r f' gs' → Mapped f gs runs c r f' gs'
mapped f f' gs gs' runs c (Ok told) fit d =
    let w : World = world_of f gs runs in
    let parts : List Part = parts_of f (Map c) in
    let after : List Group = stepped parts gs ++ created_by f (Map c) in
    let silent = map_silent (map_of f.history) c in
    let longer : Longer gs after = longer_with gs (stepped parts gs) (created_by f (Map c)) (stepped_audits parts gs silent) in
    record {
      applies = record {
        steps = λ _.
            ap (λ v. world_of v gs' runs) d.front
            ∙ ap (λ l. world_of (front_step f (Map c)) l runs) d.groups
            ∙ ap (λ l. record { front = front_step f (Map c); groups = after; audit = l }) (told_on gs after runs longer fit ∙ sym (acted_audit parts w silent))
            ∙ ap (λ l. record { front = front_step f (Map c); groups = l ++ created_by f (Map c); audit = (acted w parts).audit }) (sym (acted_groups parts w));
        tells = d.tells;
        refused = d.refused;
        unchanged = λ k. absurd (true_not_false k);
      };
      fit = subst (λ l. Each (FitsAt l) runs) (sym d.groups) (fit_on gs after runs longer fit);
    }
mapped f f' gs gs' runs c (Err fault) fit d = record {
  applies = record {
    steps = λ k. absurd (true_not_false (sym k));
    tells = tt;
    refused = d.refused;
    unchanged = λ _. ap (λ v. world_of v gs' runs) d.unchanged.0 ∙ ap (λ l. world_of f l runs) d.unchanged.1;
  };
  fit = subst (λ l. Each (FitsAt l) runs) (sym d.unchanged.1) fit;
}

pub mapped_kept : (f f' : ControlPlane) (gs gs' : List Group) (runs : List Run) (c : MapCommand) (r : Result Told Fault) → IsKept f gs runs → MapDid f gs c r f' gs' → IsKept f' gs' runs
mapped_kept f f' gs gs' runs c r h d = let m = mapped f f' gs gs' runs c r h.fit d in kept_on f f' gs gs' runs runs (Map c) r h m.applies m.fit
