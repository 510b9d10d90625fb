use Rattle.std.proofs.Common.{◌∙◌, ◌+◌, sym, ap, subst}
use Rattle.script_text.specs.Inside.{count_of, IsCount, one_more}
use Rattle.script_text.proofs.Numerals.{adds}
use Rattle.script_text.proofs.counts.Count.add_one.Goals as goal

pub invariant_of-self-2 : goal.invariant_of-self-2
invariant_of-self-2 c = subst IsCount (sym (c.raise.ensures ∙ ap one_more c.in_ok-make_room.ensures.room)) (adds c.self.inside.digits.items c.self.invariant).1

pub returns-clause-added : goal.returns-clause-added
returns-clause-added c =
    ap count_of (c.raise.ensures ∙ ap one_more c.in_ok-make_room.ensures.room) ∙ (adds c.self.inside.digits.items c.self.invariant).0
    ∙ ap (λ n. n + 1) c.self.view_is
