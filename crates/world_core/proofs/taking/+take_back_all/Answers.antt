use Rattle.std.proofs.Common.{◌∙◌, sym}
use Rattle.world_core.proofs.Takings.{all_given_back, first_taken, none_given_back, rest_less, rest_taken}
use Rattle.world_core.proofs.taking.+take_back_all.Goals as goal

pub returns : goal.returns
returns t c = λ before requests h.
    all_given_back before c.args.groups.now.items c.take_back_all.new.groups.items c.take_back_at.new.groups.items c.args.places.now requests (sym c.is_empty.ensures ∙ c.if-is_empty.false) h c.take_back_all.ensures c.take_back_at.ensures

pub returns-then-is_empty : goal.returns-then-is_empty
returns-then-is_empty t c = λ before requests h. none_given_back before c.args.groups.now.items c.args.places.now requests (sym c.is_empty.ensures ∙ c.if-is_empty.true) h

pub take_back_all-requires : goal.take_back_all-requires
take_back_all-requires t c =
    let some = sym c.is_empty.ensures ∙ c.if-is_empty.false in
    (rest_less c.args.places.now t some c.decreases, rest_taken c.requires.0 c.args.groups.now.items c.args.places.now c.requires.1.0 some c.requires.1.1)

pub take_back_at-requires : goal.take_back_at-requires
take_back_at-requires t c =
    first_taken c.requires.0 c.args.groups.now.items c.take_back_all.new.groups.items c.args.places.now c.requires.1.0 (sym c.is_empty.ensures ∙ c.if-is_empty.false) c.requires.1.1 c.take_back_all.ensures
