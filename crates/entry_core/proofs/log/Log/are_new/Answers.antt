use Rattle.std.proofs.Common.{rules, ◌≡◌, ◌∙◌, ◌||◌, ◌==◌, cond, Bool, true, false, take, nat_eq, sym, ap, refl, arith}
use Rattle.std.specs.HashSet.{contains}
use Rattle.entry_core.specs.Log.{ids, is_in}
use Rattle.entry_core.proofs.Fitting.{not_true, not_false, see_more, seen_twice}
use Rattle.std.proofs.lemmas.Grind.{common_steps}
use Rattle.entry_core.proofs.log.Log.are_new.Goals as goal

left_or : (a b : Bool) → a ≡ true → (a || b) ≡ true
left_or true b h = refl
left_or false b h = absurd (cc)

right_or : (a b : Bool) → b ≡ true → (a || b) ≡ true
right_or true b h = refl
right_or false b h = h

pub returns-then-is_before : goal.returns-then-is_before
returns-then-is_before c =
    let front = ids (take c.args.kept c.args.self.now) in
    let part = c.args.part.now in
    let s = c.sealed-item.result in
    let stands : is_in front s.id ≡ true = ap (is_in front) (sym c.id-id.ensures) ∙ sym c.is_before.ensures ∙ c.if-is_before.true in
    sym (seen_twice front part (contains nat_eq c.loop-sealed.seen) c.loop-sealed.sealed-index s (omega arith) c.sealed-item.is c.loop-sealed.invariant (left_or (is_in front s.id) (contains nat_eq c.loop-sealed.seen s.id) stands))

pub returns-then-not-branch : goal.returns-then-not-branch
returns-then-not-branch c =
    let front = ids (take c.args.kept c.args.self.now) in
    let part = c.args.part.now in
    let s = c.sealed-item.result in
    let has = contains nat_eq c.loop-sealed.seen in
    let known : c.in_ok-insert.field-0 ≡ false = first_of (assumption, search (rules, not_true)) in
    let twice : has c.id-id.result ≡ true = not_false (has c.id-id.result) (sym c.in_ok-insert.ensures.added ∙ known) in
    sym (seen_twice front part has c.loop-sealed.sealed-index s (omega arith) c.sealed-item.is c.loop-sealed.invariant (right_or (is_in front s.id) (has s.id) (ap has (sym c.id-id.ensures) ∙ twice)))

pub loop-sealed-preserved : goal.loop-sealed-preserved
loop-sealed-preserved c =
    let front = ids (take c.args.kept c.args.self.now) in
    let s = c.sealed-item.result in
    let has = contains nat_eq c.loop-sealed.seen in
    let added : c.in_ok-insert.field-0 ≡ true = first_of (assumption, search (rules, not_false)) in
    let once = not_true (has c.id-id.result) (sym c.in_ok-insert.ensures.added ∙ added) in
    see_more front c.args.part.now has (contains nat_eq c.insert.new.self) c.loop-sealed.sealed-index s (omega arith) c.sealed-item.is c.loop-sealed.invariant
    (ap (is_in front) (sym c.id-id.ensures) ∙ sym c.is_before.ensures ∙ c.if-is_before.false) (ap has (sym c.id-id.ensures) ∙ once)
    (λ q. c.in_ok-insert.ensures.updates.0 q ∙ ap (λ n. cond (n == q) true (has q)) c.id-id.ensures)

pub returns : goal.returns
returns c = grind (arith, common_steps)
