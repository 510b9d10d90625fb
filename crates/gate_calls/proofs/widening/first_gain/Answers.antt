use Rattle.std.proofs.Common.{◌≡◌, ◌∙◌, rules}
use Rattle.gate_calls.proofs.Gains.{no_gain, a_gain}
use Rattle.gate_calls.proofs.widening.first_gain.Goals as goal

pub returns-in-empty : goal.returns-in-empty
returns-in-empty c =
    let old : c.as_rights.result.now ≡ c.args.old.now.rights = c.as_rights.ensures ∙ c.in_ok-old.ensures in
    let new : c.as_rights-2.result.now ≡ c.args.new.now.rights = c.as_rights-2.ensures ∙ c.in_ok-new.ensures in
    no_gain c.as_rights.result.now c.as_rights-2.result.now c.args.old.now.rights c.args.new.now.rights c.in_ok-examples.examples.items c.as_slice.result.now
    old new c.as_slice.ensures.value c.in-empty.len_below c.in_ok-examples.ensures

pub returns : goal.returns
returns c =
    let old : c.as_rights.result.now ≡ c.args.old.now.rights = c.as_rights.ensures ∙ c.in_ok-old.ensures in
    let new : c.as_rights-2.result.now ≡ c.args.new.now.rights = c.as_rights-2.ensures ∙ c.in_ok-new.ensures in (
      c.example-item.result,
      a_gain c.as_rights.result.now c.as_rights-2.result.now c.args.old.now.rights c.args.new.now.rights c.in_ok-examples.examples.items c.as_slice.result.now c.example-item.result
          old new c.as_slice.ensures.value c.in-len1-up.len_at_least (search rules) c.in_ok-examples.ensures,
      c.in_ok-printed-in-len1-up.ensures,
    )
