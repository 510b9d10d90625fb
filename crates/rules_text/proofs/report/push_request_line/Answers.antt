use Rattle.std.proofs.Common.{◌≡◌, ◌++◌, codes, string_bytes}
use Rattle.std.proofs.lemmas.Result.{on_ok_weaker}
use Rattle.grant_core.specs.Text.{printed_path}
use Rattle.compare_text.specs.Request.{addressed_words}
use Rattle.verdict_text.specs.ShownName.{shown_name}
use Rattle.rules_text.proofs.Joining.{ended, seven}
use Rattle.rules_text.proofs.report.push_request_line.Goals as goal

pub returns : goal.returns
returns c =
    on_ok_weaker c.push_str-4.result
    (λ (h : string_bytes c.push_str-4.new.self ≡ string_bytes c.push_addressed.new.text ++ codes "\n").
    seven (string_bytes c.args.text.now) (string_bytes c.push_str.new.self) (string_bytes c.push_name.new.text) (string_bytes c.push_str-2.new.self) (string_bytes c.write.new.self)
    (string_bytes c.push_str-3.new.self) (string_bytes c.push_addressed.new.text) (string_bytes c.push_str-4.new.self)
    (codes "  ") (shown_name c.args.name.now) c.args.words.now (printed_path c.args.found.now.example.path) (codes ": ") (addressed_words c.args.found.now) (codes "\n")
    c.in_ok-push_str.ensures.bytes c.in_ok-push_name.ensures c.in_ok-push_str-2.ensures.bytes c.in_ok-write.ensures.bytes c.in_ok-push_str-3.ensures.bytes c.in_ok-push_addressed.ensures h)
    (ended c.push_str-4.result (string_bytes c.push_str-4.new.self) (string_bytes c.push_addressed.new.text ++ codes "\n") (string_bytes c.push_addressed.new.text) c.push_str-4.ensures.bytes)
