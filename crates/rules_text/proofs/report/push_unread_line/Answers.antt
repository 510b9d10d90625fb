use Rattle.std.proofs.Common.{◌≡◌, ◌++◌, codes, string_bytes, ap, ◌∙◌}
use Rattle.std.proofs.lemmas.Result.{on_ok_weaker}
use Rattle.verdict_text.specs.ShownName.{shown_name}
use Rattle.rules_text.specs.Report.{fault_of, name_at}
use Rattle.rules_text.proofs.Joining.{ended, five}
use Rattle.rules_text.proofs.report.push_unread_line.Goals as goal

pub returns : goal.returns
returns c =
    on_ok_weaker c.push_str-3.result
    (λ (h : string_bytes c.push_str-3.new.self ≡ string_bytes c.push_fault_of.new.text ++ codes "\n").
    five (string_bytes c.args.text.now) (string_bytes c.push_str.new.self) (string_bytes c.push_name.new.text) (string_bytes c.push_str-2.new.self) (string_bytes c.push_fault_of.new.text)
    (string_bytes c.push_str-3.new.self) (codes "  ") (shown_name (name_at c.args.entities.now c.args.place)) (codes " is not checked: ") (fault_of c.args.entities.now c.args.place) (codes "\n")
    c.in_ok-push_str.ensures.bytes (c.in_ok-push_name.ensures ∙ ap (λ n. string_bytes c.push_str.new.self ++ shown_name n) c.name_at.ensures) c.in_ok-push_str-2.ensures.bytes
    c.in_ok-push_fault_of.ensures h)
    (ended c.push_str-3.result (string_bytes c.push_str-3.new.self) (string_bytes c.push_fault_of.new.text ++ codes "\n") (string_bytes c.push_fault_of.new.text) c.push_str-3.ensures.bytes)
