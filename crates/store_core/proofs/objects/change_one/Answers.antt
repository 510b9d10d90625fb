use Rattle.std.proofs.Common.{◌≡◌, ◌∙◌, Result, Ok, Err, true, sym, ap}
use Rattle.std.specs.Result.{OnOk, is_ok}
use Rattle.store_core.specs.Objects.{changed, change_of, objects_of}
use Rattle.store_core.specs.declared.decided.ObjectChange.TheVariants.{Became}
use Rattle.store_core.proofs.Stores.{after_insert, after_remove}
use Rattle.store_core.proofs.objects.change_one.Goals as goal

on_ok : {T E P : Type 0} (r : Result T E) → is_ok r ≡ true → OnOk r P → P
on_ok (Ok x) h p = p
on_ok (Err e) h p = absurd (cc)

pub returns-in-Became-None-clause-store : goal.returns-in-Became-None-clause-store
returns-in-Became-None-clause-store c =
    let es = c.args.map.now.entries in
    let name = c.args.change.name in
    let none = c.in-Became-None in
    after_remove es c.remove.new.self.entries name c.remove.ensures.updates.0 ∙ ap (λ l. changed (objects_of es) name (change_of l)) (sym (none.is ∙ ap (λ o. Became o) none.field-0-is))

pub returns-in-Became-Some-clause-store : goal.returns-in-Became-Some-clause-store
returns-in-Became-Some-clause-store c =
    let es = c.args.map.now.entries in
    let name = c.args.change.name in
    let some = c.in-Became-Some in
    let put = on_ok c.insert.result (c.insert.ensures.succeeds c.requires) c.insert.ensures.updates in
    after_insert es c.insert.new.self.entries name some.object put.0 ∙ ap (λ l. changed (objects_of es) name (change_of l)) (sym (some.is ∙ ap (λ o. Became o) some.field-0-is))
