use Rattle.std.proofs.Common.{◌≡◌, ◌++◌, codes, string_bytes, ap, ◌∙◌}
use Rattle.std.specs.Fmt.{decimal}
use Rattle.std.proofs.lemmas.Result.{on_ok_weaker}
use Rattle.rules_text.specs.Junit.{escaped}
use Rattle.rules_text.proofs.Joining.{ended, five}
use Rattle.rules_text.proofs.junit.push_case_head.Goals as goal

pub returns : goal.returns
returns c =
    on_ok_weaker c.push_str-3.result
    (λ (h : string_bytes c.push_str-3.new.self ≡ string_bytes c.push_escaped.new.text ++ codes "\">\n").
    five (string_bytes c.args.text.now) (string_bytes c.push_str.new.self) (string_bytes c.write.new.self) (string_bytes c.push_str-2.new.self) (string_bytes c.push_escaped.new.text)
    (string_bytes c.push_str-3.new.self) (codes "<testcase classname=\"rules\" name=\"") (decimal c.args.line.now.line) (codes " ") (escaped c.args.line.now.text) (codes "\">\n")
    c.in_ok-push_str.ensures.bytes c.in_ok-write.ensures.bytes c.in_ok-push_str-2.ensures.bytes
    (c.in_ok-push_escaped.ensures ∙ ap (λ text. string_bytes c.push_str-2.new.self ++ escaped text) c.as_str.ensures) h)
    (ended c.push_str-3.result (string_bytes c.push_str-3.new.self) (string_bytes c.push_escaped.new.text ++ codes "\">\n") (string_bytes c.push_escaped.new.text) c.push_str-3.ensures.bytes)
