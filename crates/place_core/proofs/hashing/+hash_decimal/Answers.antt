use Rattle.std.proofs.Common.{◌∷◌, [], ◌/◌, ◌+◌, ◌%◌, ap, sym, ◌∙◌, arith, fold}
use Rattle.std.specs.Fmt.{decimal}
use Rattle.std.proofs.lemmas.Fmt.{decimal_digit, decimal_step}
use Rattle.std.proofs.lemmas.List.Sums.{fold-append}
use Rattle.place_core.specs.Placement.{fnv_step}
use Rattle.place_core.proofs.hashing.+hash_decimal.Goals as goal

pub returns-then-number-lt10 : goal.returns-then-number-lt10
returns-then-number-lt10 t c = c.hash_on.ensures ∙ ap (fold fnv_step c.args.start) (sym (decimal_digit c.args.number (omega arith)))

pub returns : goal.returns
returns t c =
    c.hash_on-2.ensures ∙ ap (λ h. fold fnv_step h ((48 + c.args.number % 10) ∷ [])) c.hash_decimal-front.ensures
    ∙ sym (fold-append fnv_step c.args.start (decimal (c.args.number / 10)) ((48 + c.args.number % 10) ∷ []))
    ∙ ap (fold fnv_step c.args.start) (sym (decimal_step c.args.number (omega arith) (omega arith)))
