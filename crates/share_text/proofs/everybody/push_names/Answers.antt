use Rattle.std.proofs.Common.{rules, ◌∙◌, string_bytes}
use Rattle.share_text.proofs.Reaching.{listed_more}
use Rattle.share_text.proofs.everybody.push_names.Goals as goal

pub loop-name-preserved : goal.loop-name-preserved
loop-name-preserved c = (
  search rules,
  listed_more (λ name. name.now) c.loop-name.words.now c.args.names.now (string_bytes c.loop-name.text) (string_bytes c.push_str.new.self) (string_bytes c.push_name.new.text) c.loop-name.name-index
      _ c.loop-name-test.true c.in_ok-push_str.ensures.bytes c.in_ok-push_name.ensures
      ∙ c.loop-name.invariant.1,
)
