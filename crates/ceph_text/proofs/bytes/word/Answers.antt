use Rattle.std.proofs.Common.{◌≡◌, true, false, sym, ap, ◌∙◌, eqb, Some, List, ℕ, refl}
use Rattle.std.specs.List.{starts_with}
use Rattle.std.proofs.lemmas.Str.Pattern.{starts_text}
use Rattle.ceph_text.proofs.bytes.word.Goals as goal

pub returns-then-starts_with : goal.returns-then-starts_with
returns-then-starts_with c =
    let e : starts_with eqb c.args.text.now c.args.bytes.now ≡ true = sym (starts_text _ _ _ c.starts_with.ensures.cases) ∙ c.if-starts_with.true in
    rw e (ap (λ (r : List ℕ). Some (tt, r)) (sym c.split_at.ensures.back))

pub returns-else-starts_with : goal.returns-else-starts_with
returns-else-starts_with c =
    let e : starts_with eqb c.args.text.now c.args.bytes.now ≡ false = sym (starts_text _ _ _ c.starts_with.ensures.cases) ∙ c.if-starts_with.false in
    rw e refl
