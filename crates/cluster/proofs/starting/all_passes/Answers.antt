use Rattle.std.proofs.Common.{◌≡◌, [], ◌∷◌, ◌++◌, arith, sym, ap, ◌∙◌, subst}
use Rattle.std.specs.Prelude.{All}
use Rattle.std.proofs.lemmas.List.{length_push}
use Rattle.std.proofs.lemmas.List.Elements.{All-push}
use Rattle.cluster.specs.declared.pass.Pass.{Pass}
use Rattle.cluster.specs.Passes.{HaveDrawnNone}
use Rattle.cluster.specs.Asks.{IsPassOf, seats_of, sessions_of}
use Rattle.cluster.proofs.starting.all_passes.Goals as goal

pub loop-own-preserved : goal.loop-own-preserved
loop-own-preserved c =
    let inv = c.loop-own.invariant in
    let made = c.in_ok-pass_with.field-0 in
    let P : Pass → Type 0 = IsPassOf c.args.cluster.now in
    let Idle : Pass → Type 0 = λ pass. sessions_of pass ≡ [] in
    let Ready : Pass → Type 0 = λ pass. HaveDrawnNone (seats_of pass) in
    let given = c.in_ok-pass_with.ensures.pass in
    let items : c.push_reserved.new.self.items ≡ c.loop-own.passes.items ++ made ∷ [] = c.push_reserved.ensures.items ∙ ap (λ l. l ++ made ∷ []) c.reserve.ensures.items in
    let longer = length_push c.loop-own.yielded c.in-Some.own in
    let pushed = c.push_reserved.ensures.len in
    let same = c.reserve.ensures.len in
    let before = inv.count in record {
      monitor = record { own = c.pass_with.ensures.monitor.0; whole = c.pass_with.ensures.monitor.1; map_is = c.pass_with.ensures.follows.0; follows = c.pass_with.ensures.follows.1; numbers = subst HaveDrawnNone (sym c.pass_with.ensures.monitor.2) inv.monitor.numbers };
      count = omega arith;
      passes = record {
        own = subst (All P) (sym items) (All-push P c.loop-own.passes.items made inv.passes.own given.0);
        idle = subst (All Idle) (sym items) (All-push Idle c.loop-own.passes.items made inv.passes.idle given.2);
        numbers = subst (All Ready) (sym items) (All-push Ready c.loop-own.passes.items made inv.passes.numbers given.1);
      };
    }
