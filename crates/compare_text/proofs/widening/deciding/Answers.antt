use Rattle.std.proofs.Common.{◌≡◌, ◌++◌, [], ◌∷◌, false, ap, ◌∙◌, arith}
use Rattle.network_core.specs.declared.address.Address.TheVariants.{V4}
use Rattle.compare_text.proofs.Addressed.{one_decides}
use Rattle.compare_text.proofs.widening.deciding.Goals as goal

pub returns-then-not-addressed : goal.returns-then-not-addressed
returns-then-not-addressed c =
    let bare : c.args.addressed ≡ false = grind arith in
    one_decides c.args.addressed c.args.old.now.grants c.args.new.now.grants c.push.new.self.items c.requires bare (c.in_ok-push.ensures.items ∙ ap (λ l. l ++ V4 0 ∷ []) c.new-one.ensures.items)
