use Rattle.std.proofs.Common.{◌∙◌, Some, sym, ap, refl, subst, IsSome}
use Rattle.std.specs.Arc.{arc_value}
use Rattle.std.specs.Option.{option_map}
use Rattle.std.specs.FinMap.{get, insert}
use Rattle.store_core.specs.Objects.{objects_of}
use Rattle.store_core.proofs.Stores.{after_insert, get-objects_of}
use Rattle.store_core.proofs.objects.Objects.put.Goals as goal

pub returns-in-Some-clause-ok : goal.returns-in-Some-clause-ok
returns-in-Some-clause-ok c =
    let left = c.replace.new.dest in
    let written = c.get_mut.follows.holds left in
    let updates = written.3 (subst IsSome c.in-Some.ensures.value refl) in
    after_insert c.self.inside.map.entries (c.get_mut.follows.lender left).entries c.args.name.now left updates.0
    ∙ ap (λ s. insert s c.args.name.now (arc_value left)) c.self.view_is
    ∙ ap (λ a. insert c.args.self.now c.args.name.now (arc_value a)) c.replace.ensures.after

pub returns-in-Some-clause-before : goal.returns-in-Some-clause-before
returns-in-Some-clause-before c =
    ap (option_map arc_value) (ap (λ a. Some a) c.replace.ensures.value ∙ c.in-Some.ensures.value)
    ∙ sym (get-objects_of c.self.inside.map.entries c.args.name.now) ∙ ap (λ s. get s c.args.name.now) c.self.view_is

pub returns-clause-ok : goal.returns-clause-ok
returns-clause-ok c =
    after_insert c.get_mut.follows.lender-at-none.entries c.insert.new.self.entries c.in_ok-clone.field-0 c.args.object c.in_ok-insert.ensures.updates.0
    ∙ ap (λ m. insert (objects_of m.entries) c.in_ok-clone.field-0 (arc_value c.args.object)) c.get_mut.follows.holds-at-none
    ∙ ap (λ s. insert s c.in_ok-clone.field-0 (arc_value c.args.object)) c.self.view_is
    ∙ ap (λ n. insert c.args.self.now n (arc_value c.args.object)) c.in_ok-clone.ensures.cases

pub returns-clause-before : goal.returns-clause-before
returns-clause-before c =
    ap (option_map arc_value) c.in_default.ensures.value
    ∙ sym (get-objects_of c.self.inside.map.entries c.args.name.now) ∙ ap (λ s. get s c.args.name.now) c.self.view_is
