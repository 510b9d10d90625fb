use Rattle.std.proofs.Common.{rules, ◌≡◌, ℕ, suc, ◌+◌, ◌-◌, ◌*◌, ◌/◌, ◌<◌, vec_len, ap, ◌∙◌, arith, refl}
use Rattle.turn_lock.specs.Seats.{IsFresh}
use Rattle.turn_lock.specs.Turns.{last_word}
use Rattle.turn_lock.proofs.Shares.{one_part_more, all_after}
use Rattle.std.proofs.lemmas.Grind.{common_steps}
use Rattle.turn_lock.proofs.lock.TurnLock.new.Goals as goal

pub loop-preserved : goal.loop-preserved
loop-preserved g c =
    let i = c.loop.invariant in
    let count = i.count in
    let table = c.in-Ok-new.turnstile.table.shared.table_id in
    let part : ℕ = last_word / c.args.seats in
    let few : suc (vec_len c.loop.all) < c.args.seats = let more = c.loop-test.true in omega arith in
    let longer : vec_len c.push_reserved.new.self ≡ suc (vec_len c.loop.all) = search rules in
    record {
      count = search rules;
      room = search rules;
      even = refl;
      table = search rules;
      rests = search rules;
      new = search rules;
      draws = search rules;
      left = ap (λ k. c.loop.draws - part + k * part) longer ∙ (one_part_more last_word c.args.seats (vec_len c.loop.all) c.loop.draws few i.left).1;
      cut = all_after (λ s. IsFresh table s × (s.share ≡ part)) c.loop.all.items c.push_reserved.new.self.items _ c.push_reserved.ensures.items i.cut
          ((search rules, search rules, search rules, search rules, search rules), search rules);
    }

pub returns-after-loop-clause-seats : goal.returns-after-loop-clause-seats
returns-after-loop-clause-seats g c =
    let table = c.in-Ok-new.turnstile.table.shared.table_id in (
      search rules,
      all_after (IsFresh table) c.loop.all.items c.push_reserved-in-Ok-new.new.self.items _ c.push_reserved-in-Ok-new.ensures.items
          (λ k d h. (c.loop.invariant.cut k d h).0) (search rules, search rules, search rules, search rules, search rules),
    )

pub split-other-requires-clause-ready : goal.split-other-requires-clause-ready
split-other-requires-clause-ready g c = grind (arith, common_steps)

pub overflow_sub-draws : goal.overflow_sub-draws
overflow_sub-draws g c = grind (arith, common_steps)

pub loop-init : goal.loop-init
loop-init g c = search rules
