use Rattle.std.proofs.Common.{◌≡◌, ◌++◌, codes, string_bytes, ap, ◌∙◌}
use Rattle.std.proofs.lemmas.Result.{on_ok_weaker}
use Rattle.verdict_text.specs.RulesMember.{rules_word}
use Rattle.rules_text.proofs.Joining.{ended, three}
use Rattle.rules_text.proofs.junit.push_suite.Goals as goal

pub returns : goal.returns
returns c =
    on_ok_weaker c.push_str-3.result
    (λ (h : string_bytes c.push_str-3.new.self ≡ string_bytes c.push_str-2.new.self ++ c.rules_word.result.now).
    three (string_bytes c.args.text.now) (string_bytes c.push_str.new.self) (string_bytes c.push_str-2.new.self) (string_bytes c.push_str-3.new.self)
    (codes "<?xml version=\"1.0\" encoding=\"UTF-8\"?>\n<testsuites>\n") (codes "<testsuite name=\"osdgate check --rules ") (rules_word c.args.by)
    c.in_ok-push_str.ensures.bytes c.in_ok-push_str-2.ensures.bytes (h ∙ ap (λ word. string_bytes c.push_str-2.new.self ++ word) c.rules_word.ensures))
    (ended c.push_str-3.result (string_bytes c.push_str-3.new.self) (string_bytes c.push_str-2.new.self ++ c.rules_word.result.now) (string_bytes c.push_str-2.new.self) c.push_str-3.ensures.bytes)
