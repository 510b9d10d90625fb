use Rattle.std.proofs.Common.{◌≡◌, ◌∙◌, ◌+◌, ◌<◌, ◌%◌, Some, option_copied, sym, ap, subst}
use Rattle.world_core.specs.Answers.{answer_at}
use Rattle.world_core.specs.Calls.{answer_refusal}
use Rattle.world_core.proofs.Answering.{answered_follows, if_some, unanswered}
use Rattle.world_core.proofs.world.World.reply_to.Goals as goal

pub returns-in-Ok-clause-low : goal.returns-in-Ok-clause-low
returns-in-Ok-clause-low c =
    if_some c.in-Ok.reply (c.args.id % 4294967296 + 1 < 4294967296) (λ x e.
    answered_follows c.self.inside.front c.self.inside.groups.items c.self.inside.runs.items c.args.id x.now c.self.invariant
    (subst (λ w. Some x.now ≡ answer_at w c.args.id) (sym c.self.view_is) (sym (ap option_copied e) ∙ c.in-Ok.ensures.answer)))

pub returns-in-Err-clause-reply : goal.returns-in-Err-clause-reply
returns-in-Err-clause-reply c =
    rw (← c.self.view_is) (unanswered c.self.inside.front c.self.inside.groups.items c.self.inside.runs.items c.args.id c.in-Err.field-0
    (subst (λ w. answer_refusal w c.args.id ≡ Some c.in-Err.field-0) (sym c.self.view_is) c.in-Err.ensures.refused))
