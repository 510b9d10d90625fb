use Rattle.std.proofs.Common.{rules, ◌≡◌, ◌∙◌, ◌++◌, ◌∷◌, [], ◌==◌, cond, Some, false, length, sym, ap, subst}
use Rattle.std.specs.Map.{lookup}
use Rattle.store_core.specs.Objects.{changed, change_of}
use Rattle.entry_core.specs.Log.{decision, ids, is_in}
use Rattle.entry_core.proofs.Pushing.{after_push}
use Rattle.entry_core.proofs.log.Log.push.Goals as goal

pub invariant_of-self-2 : goal.invariant_of-self-2
invariant_of-self-2 c =
    let parts = c.into_parts-entry in
    let entry = parts.result.0 in
    after_push c.self.inside.entries.items c.self.inside.index.entries c.self.inside.objects c.self.inside.back entry parts.result.1 c.args.decided c.self.invariant parts.ensures
    (subst (λ l. c.args.decided ≡ decision l c.args.decided.entry.sealed) (sym c.self.view_is) c.requires.here)
    (subst (λ l. is_in (ids l) c.args.decided.entry.sealed.id ≡ false) (sym c.self.view_is) c.requires.new)
    _ _ _ c.in_ok-back.back (c.append.ensures.entries ∙ ap (λ l. l ++ entry ∷ []) c.reserve.ensures.items)
    (λ id. c.append.ensures.index id ∙ ap (λ l. cond (entry.sealed.id == id) (Some (length l)) (lookup (λ n. id == n) c.reserve-2.new.self.entries)) c.reserve.ensures.items ∙ ap (cond (entry.sealed.id == id) (Some (length c.self.inside.entries.items))) (c.reserve-2.ensures.entries.2 id))
    (c.in_ok-back.ensures.ok ∙ ap (λ n. changed c.self.inside.objects n (change_of parts.result.1)) c.name.ensures)
    (ap (λ n. changed c.change.new.self n (change_of c.in_ok-back.back)) (sym c.name.ensures) ∙ c.in_ok-back.ensures.back)

pub invariant_of-self-in_err-reserve-2 : goal.invariant_of-self-in_err-reserve-2
invariant_of-self-in_err-reserve-2 c = search rules
