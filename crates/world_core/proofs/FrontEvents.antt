-- What an event that no group has a part in is to the world.
use Rattle.std.proofs.Common.{◌≡◌, ◌∙◌, inl, inr, List, [], ◌++◌, false, Result, Ok, Err, sym, ap, append-nil}
use Rattle.std.specs.Prelude.{OnOk, OnErr, IfOk}
use Rattle.std.specs.Option.{option_map, option_or}
use Rattle.group_model.specs.Group.{Group}
use Rattle.world_events.specs.declared.event.Event.{Event}
use Rattle.world_events.specs.declared.event.Told.{Told}
use Rattle.world_events.specs.declared.fault.WorldFault.{WorldFault as Fault}
use Rattle.world_events.specs.declared.fault.WorldFault.TheVariants.{Group as OfGroup}
use Rattle.world_front.specs.ControlPlane.{ControlPlane, front_step, front_refusal, told_of}
use Rattle.world_core.specs.World.{World, Part, acted, is_drop, created_by, parts_of, parts_refusal, refusal_of, world_step}
use Rattle.world_front.specs.Refusing.{RefusedOrMemory}
use Rattle.world_core.specs.declared.audit.Run.{Run}
use Rattle.world_core.specs.Inside.{world_of}
use Rattle.world_core.specs.Sound.{IsKept}
use Rattle.world_core.specs.Applying.{Applies}
use Rattle.world_core.proofs.Messages.{true_not_false, or_none, kept_on}

-- an event that no group hears
pub record IsQuiet (f : ControlPlane) (e : Event) : Type 0 where
  pub parts : parts_of f e ≡ []
  pub creates : created_by f e ≡ []
  pub stays : (fault : Fault) → is_drop e fault ≡ false

quiet_step : (f : ControlPlane) (gs : List Group) (runs : List Run) (e : Event) → IsQuiet f e → world_step (world_of f gs runs) e ≡ world_of (front_step f e) gs runs
quiet_step f gs runs e q =
    let w : World = world_of f gs runs in
    let F : List Part → List Group → World = λ ps cs. record { front = front_step f e; groups = (acted w ps).groups ++ cs; audit = (acted w ps).audit } in
    ap (λ ps. F ps (created_by f e)) q.parts ∙ ap (F []) q.creates ∙ ap (λ l. record (world_of (front_step f e) gs runs) { groups = l }) (append-nil gs)

quiet_refusal : (w : World) (e : Event) → IsQuiet w.front e → refusal_of w e ≡ front_refusal w.front e
quiet_refusal w e q = ap (λ ps. option_or (front_refusal w.front e) (option_map OfGroup (parts_refusal w.groups ps))) q.parts ∙ or_none (front_refusal w.front e)

-- what the front did of such an event
pub record FrontDid (f : ControlPlane) (e : Event) (r : Result Told Fault) (f' : ControlPlane) : Type 0 where
  pub steps : OnOk r (f' ≡ front_step f e)
  pub tells : IfOk r (λ told. told ≡ told_of f e)
  pub refused : RefusedOrMemory (front_refusal f e) r
  pub unchanged : OnErr r (f' ≡ f)

pub quiet : (f f' : ControlPlane) (gs : List Group) (runs : List Run) (e : Event) (r : Result Told Fault) → IsQuiet f e → FrontDid f e r f' → Applies (world_of f gs runs) e r (world_of f' gs runs)
quiet f f' gs runs e (Ok told) q d = record {
  steps = λ _. ap (λ v. world_of v gs runs) d.steps ∙ sym (quiet_step f gs runs e q);
  tells = d.tells;
  refused = quiet_refusal (world_of f gs runs) e q ∙ d.refused;
  unchanged = λ k. absurd (true_not_false k);
}
quiet f f' gs runs e (Err fault) q d = record {
  steps = λ k. absurd (true_not_false (sym k ∙ q.stays fault));
  tells = tt;
  refused = go d.refused;
  unchanged = λ _. ap (λ v. world_of v gs runs) d.unchanged;
}
  where
    go : RefusedOrMemory {T = Told} (front_refusal f e) (Err fault) → RefusedOrMemory {T = Told} (refusal_of (world_of f gs runs) e) (Err fault)
    go (inl k) = inl k
    go (inr k) = inr (quiet_refusal (world_of f gs runs) e q ∙ k)

pub quiet_kept : (f f' : ControlPlane) (gs : List Group) (runs : List Run) (e : Event) (r : Result Told Fault) → IsKept f gs runs → IsQuiet f e → FrontDid f e r f' → IsKept f' gs runs
quiet_kept f f' gs runs e r h q d = kept_on f f' gs gs runs runs e r h (quiet f f' gs runs e r q d) h.fit
