use Rattle.std.proofs.Common.{◌≡◌, string_bytes, subst}
use Rattle.compare_text.specs.Pairs.{ArePairsTold}
use Rattle.compare_text.proofs.PairsTold.{answer_of_pairs}
use Rattle.compare_text.proofs.compare_auth.compare_entities.Goals as goal

pub returns : goal.returns
returns c =
    let same : c.deref.result.now ≡ c.in_ok-pairs.pairs.items = cc in
    answer_of_pairs c.args.reader.now c.args.how c.args.old.now c.args.new.now _ _ _ c.in_ok-pairs.ensures
    (subst (λ pairs. ArePairsTold c.args.how pairs (string_bytes c.in_ok-printed.printed.text) c.in_ok-printed.printed.fails) same c.in_ok-printed.ensures)
