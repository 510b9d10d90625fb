use Rattle.std.proofs.Common.{◌≡◌, ℕ, ap, sym, subst, ◌∙◌, length, None, Some, option_copied}
use Rattle.request_types.specs.Target.{Target}
use Rattle.verdict_core.specs.Hash.{hash}
use Rattle.verdict_core.specs.Kinds.{front_hash}
use Rattle.verdict_core.specs.Chains.{NoneBefore}
use Rattle.verdict_core.proofs.Walks.{IsNamed, none_of_short, none_of_tags, none_of_unasked, none_of_named, by_nothing, by_pool, by_class}
use Rattle.verdict_core.proofs.chains.Chains.kind_gives.Goals as goal
use Rattle.verdict_core.proofs.chains.Chains.kind_gives.Goals.{in-Nothing-default, in-ThePool-default, in-TheClass-Some}

pub returns-in_default-clause-none : goal.returns-in_default-clause-none
returns-in_default-clause-none g c failed =
    let none : front_hash c.args.target.now.object c.args.kind.front ≡ None =
    sym (c.in_default.ensures ∙ ap (λ (p : Target). front_hash p.object c.args.kind.front) c.target.view_is) in
    none_of_short c.args.kind c.args.self.now.kinds.items c.args.grants.now c.args.target.now c.args.needs.now (option_copied c.args.call) c.requires.named none

pub returns-in-TheTag-default-clause-none : goal.returns-in-TheTag-default-clause-none
returns-in-TheTag-default-clause-none g c failed =
    let has : front_hash c.args.target.now.object c.args.kind.front ≡ Some c.in-Some.front =
    sym (c.in-Some.ensures ∙ ap (λ (p : Target). front_hash p.object c.args.kind.front) c.target.view_is) in
    none_of_tags c.args.kind c.args.self.now.kinds.items c.args.grants.now c.args.target.now c.args.needs.now (option_copied c.args.call) c.in-Some.front c.requires.named c.in-TheTag-default.is-0 has (c.tags_give.ensures.none failed)

pub returns-in-TheClass-None-clause-none : goal.returns-in-TheClass-None-clause-none
returns-in-TheClass-None-clause-none g c failed =
    none_of_unasked c.args.kind c.args.self.now.kinds.items c.args.grants.now c.args.target.now c.args.needs.now (option_copied c.args.call) c.requires.named c.in-TheClass-None.is-0 (ap option_copied c.in-TheClass-None.is-1)

pub returns-clause-none : goal.returns-clause-none
returns-clause-none g c failed =
    let kind = c.args.kind in
    let target = c.args.target.now in
    let call = option_copied c.args.call in
    let has : front_hash target.object kind.front ≡ Some c.in-Some.front =
    sym (c.in-Some.ensures ∙ ap (λ (p : Target). front_hash p.object kind.front) c.target.view_is) in
    let only : (number : ℕ) → IsNamed kind.named target call number → number ≡ c.match-kind.named = λ number h.
    elim c.match-kind.branch [
      | in-Nothing-default w ↦ by_nothing kind.named target call number w.in-Nothing-default.is-0 h ∙ sym w.named-is
      | in-ThePool-default w ↦ by_pool kind.named target call number w.in-ThePool-default.is-0 h
          ∙ sym (w.named-is ∙ w.hash-named.ensures ∙ ap (λ (p : Target). hash p.pool) c.target.view_is)
      | in-TheClass-Some w ↦ by_class kind.named target call w.in-TheClass-Some.call.now number w.in-TheClass-Some.is-0 (ap option_copied w.in-TheClass-Some.is-1) h
          ∙ sym (w.named-is ∙ w.hash-named-in-TheClass-Some.ensures ∙ ap hash (w.as_bytes.ensures.value ∙ w.as_str.ensures))
    ] in
    none_of_named kind c.args.self.now.kinds.items c.args.grants.now target c.args.needs.now call c.match-kind.named c.in-Some.front c.requires.named has only
    (subst (λ k. NoneBefore c.args.self.now.kinds.items (length c.args.grants.now) c.args.grants.now k target c.args.needs.now call) c.folded.ensures.value (c.chain_gives.ensures.none failed))
