use Rattle.std.proofs.Common.{◌≡◌, ◌++◌, [], ◌∷◌, ap, sym, ◌∙◌, arith, length, length-append, ◌+◌, ◌<◌, None, refl}
use Rattle.map_core.specs.Map.{after, initial, map_after, pools_after, up_after}
use Rattle.map_core.specs.Refusal.{refusal}
use Rattle.map_core.proofs.Acceptance.{room, accepted_push}
use Rattle.map_core.proofs.Current.{refusal_is, memory_alone, fault_alone, after_push, current}
use Rattle.map_core.proofs.map.ClusterMap.apply.Goals as goal

pub returns-in-Some-clause-refused : goal.returns-in-Some-clause-refused
returns-in-Some-clause-refused c =
    let inside = c.self.inside in
    fault_alone _ _ _ (sym (refusal_is c.args.self.now inside.daemons c.len.result inside.commands.items inside.pools.items c.as_slice-pools.result.now inside.up c.args.command c.refusal.result
    c.self.view_is c.self.invariant.pools c.self.invariant.up (omega (arith, c.len.ensures, inside.commands.ok.0)) c.as_slice-pools.ensures.value c.refusal.ensures) ∙ c.in-Some.is)

pub returns-in_err-reserve-clause-refused : goal.returns-in_err-reserve-clause-refused
returns-in_err-reserve-clause-refused c =
    let inside = c.self.inside in
    memory_alone _ _ c.from_residual.result (sym (refusal_is c.args.self.now inside.daemons c.len.result inside.commands.items inside.pools.items c.as_slice-pools.result.now inside.up c.args.command c.refusal.result
    c.self.view_is c.self.invariant.pools c.self.invariant.up (omega (arith, c.len.ensures, inside.commands.ok.0)) c.as_slice-pools.ensures.value c.refusal.ensures) ∙ c.in_default.is) c.from_residual.ensures.1

pub returns-in_err-change_pools-clause-refused : goal.returns-in_err-change_pools-clause-refused
returns-in_err-change_pools-clause-refused c =
    let inside = c.self.inside in
    memory_alone _ _ c.from_residual-in_err-change_pools.result (sym (refusal_is c.args.self.now inside.daemons c.len.result inside.commands.items inside.pools.items c.as_slice-pools.result.now inside.up c.args.command c.refusal.result
    c.self.view_is c.self.invariant.pools c.self.invariant.up (omega (arith, c.len.ensures, inside.commands.ok.0)) c.as_slice-pools.ensures.value c.refusal.ensures) ∙ c.in_default.is) c.from_residual-in_err-change_pools.ensures.1

pub invariant_of-self-2 : goal.invariant_of-self-2
invariant_of-self-2 c =
    let inside = c.self.inside in
    let command = c.args.command in
    let commands = inside.commands.items in
    let items : c.push.new.self.items ≡ commands ++ command ∷ [] = c.in-Ok.ensures.items ∙ ap (λ l. l ++ command ∷ []) c.in_ok-reserve.ensures.items in
    let at : c.len.result ≡ length commands = omega (arith, c.len.ensures, inside.commands.ok.0) in
    let allowed : refusal (map_after inside.daemons commands) (c.len.result + 1) command ≡ None =
    ap (λ s. refusal s (c.len.result + 1) command) (sym (current _ inside.daemons commands c.as_slice-pools.result.now inside.up refl (c.as_slice-pools.ensures.value ∙ c.self.invariant.pools) c.self.invariant.up))
    ∙ sym c.refusal.ensures ∙ c.in_default.is in
    let now : map_after inside.daemons c.push.new.self.items ≡ after (map_after inside.daemons commands) command =
    ap (map_after inside.daemons) items ∙ after_push inside.daemons commands command in
    record {
      some = c.self.invariant.some;
      few = c.self.invariant.few;
      pools = c.in_ok-change_pools.ensures.ok ∙ ap (pools_after command) c.self.invariant.pools ∙ ap (λ s. s.pools) (sym now);
      up = c.change_up.ensures ∙ ap (up_after command) c.self.invariant.up ∙ ap (λ s. s.up) (sym now);
      room = (let small : c.len.result + 1 < 65535 = room (map_after inside.daemons commands) (c.len.result + 1) command allowed in rw items (omega (arith, small, at, length-append commands (command ∷ []))));
      accepted = rw items (accepted_push (initial inside.daemons) 1 (c.len.result + 1) commands command c.self.invariant.accepted (omega (arith, at)) allowed);
    }

pub returns-clause-refused : goal.returns-clause-refused
returns-clause-refused c =
    let inside = c.self.inside in
    sym (refusal_is c.args.self.now inside.daemons c.len.result inside.commands.items inside.pools.items c.as_slice-pools.result.now inside.up c.args.command c.refusal.result
    c.self.view_is c.self.invariant.pools c.self.invariant.up (omega (arith, c.len.ensures, inside.commands.ok.0)) c.as_slice-pools.ensures.value c.refusal.ensures) ∙ c.in_default.is
