use Rattle.std.proofs.Common.{rules, ap, sym, ◌∙◌}
use Rattle.world_events.specs.declared.event.Event.TheVariants as event
use Rattle.world_events.proofs.event.Event.copy.Goals as goal

pub returns-in_ok-copy-in-Auth : goal.returns-in_ok-copy-in-Auth
returns-in_ok-copy-in-Auth c = ap (λ x. event.Auth x) c.in_ok-copy-in-Auth.ensures ∙ sym c.in-Auth.is

pub returns-in_ok-copy-in-Map : goal.returns-in_ok-copy-in-Map
returns-in_ok-copy-in-Map c = ap (λ x. event.Map x) c.in_ok-copy-in-Map.ensures ∙ sym c.in-Map.is

pub returns-in_ok-copy-in-Open : goal.returns-in_ok-copy-in-Open
returns-in_ok-copy-in-Open c = ap (λ x. event.Open x c.in-Open.until) c.in_ok-copy-in-Open.ensures ∙ sym c.in-Open.is

pub returns-in-Renew : goal.returns-in-Renew
returns-in-Renew c = sym c.in-Renew.is

pub returns-in-Close : goal.returns-in-Close
returns-in-Close c = sym c.in-Close.is

pub returns-in_ok-copy-in-Submit-3 : goal.returns-in_ok-copy-in-Submit-3
returns-in_ok-copy-in-Submit-3 c = (λ i. event.Submit (c.in_ok-copy-in-Submit.ensures i) (c.in_ok-copy-in-Submit-2.ensures i) (c.in_ok-copy-in-Submit-3.ensures i)) ∙ sym c.in-Submit.is

pub returns-in_ok-copy-in-List : goal.returns-in_ok-copy-in-List
returns-in_ok-copy-in-List c = ap (λ x. event.List x) c.in_ok-copy-in-List.ensures ∙ sym c.in-List.is

pub returns-in_ok-copy-in-Deliver : goal.returns-in_ok-copy-in-Deliver
returns-in_ok-copy-in-Deliver c = ap (λ x. event.Deliver x c.in-Deliver.place) c.in_ok-copy-in-Deliver.ensures ∙ sym c.in-Deliver.is

pub returns-in_ok-copy-in-Lose : goal.returns-in_ok-copy-in-Lose
returns-in_ok-copy-in-Lose c = ap (λ x. event.Lose x c.in-Lose.place) c.in_ok-copy-in-Lose.ensures ∙ sym c.in-Lose.is

pub returns-in_ok-copy-in-Repeat : goal.returns-in_ok-copy-in-Repeat
returns-in_ok-copy-in-Repeat c = ap (λ x. event.Repeat x c.in-Repeat.place) c.in_ok-copy-in-Repeat.ensures ∙ sym c.in-Repeat.is

pub returns-in_ok-copy-in-Kick : goal.returns-in_ok-copy-in-Kick
returns-in_ok-copy-in-Kick c = ap (λ x. event.Kick x) c.in_ok-copy-in-Kick.ensures ∙ sym c.in-Kick.is
