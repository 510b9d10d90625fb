use Rattle.std.proofs.Common.{nat_eq, subst, sym}
use Rattle.std.specs.List.{All, Contains}
use Rattle.std.specs.List.Sorted.{IsStrictlyIncreasing}
use Rattle.std.proofs.lemmas.List.Elements.{All-contains_itself}
use Rattle.std.proofs.lemmas.List.Filters.{All-dedup, dedup_is}
use Rattle.std.proofs.lemmas.List.Kept.{Contains-dedup_nat}
use Rattle.std.proofs.lemmas.List.Sorted.{All-permutation, Contains-permutation}
use Rattle.std.proofs.lemmas.Map.Keys.{IsStrictlyIncreasing-dedup}
use Rattle.rules_core.proofs.entities.put_in_order.Goals as goal

pub returns-clause-rising : goal.returns-clause-rising
returns-clause-rising c =
    subst IsStrictlyIncreasing (sym (dedup_is nat_eq c.sort_unstable.new.self.items c.dedup.new.self.items c.dedup.ensures.filtered))
    (IsStrictlyIncreasing-dedup c.sort_unstable.new.self.items c.sort_unstable.ensures.sorted)

pub returns-clause-kept : goal.returns-clause-kept
returns-clause-kept c = λ place has.
    subst (λ l. Contains l place) (sym (dedup_is nat_eq c.sort_unstable.new.self.items c.dedup.new.self.items c.dedup.ensures.filtered))
    (Contains-dedup_nat c.sort_unstable.new.self.items place (Contains-permutation _ _ place c.sort_unstable.ensures.permutation has))

pub returns-clause-among : goal.returns-clause-among
returns-clause-among c =
    subst (All (Contains c.args.places.now.items)) (sym (dedup_is nat_eq c.sort_unstable.new.self.items c.dedup.new.self.items c.dedup.ensures.filtered))
    (All-dedup nat_eq (Contains c.args.places.now.items) c.sort_unstable.new.self.items
    (All-permutation (Contains c.args.places.now.items) _ _ c.sort_unstable.ensures.permutation (All-contains_itself c.args.places.now.items)))
