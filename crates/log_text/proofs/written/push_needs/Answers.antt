use Rattle.std.proofs.Common.{◌≡◌, List, ◌++◌, codes, string_bytes, ap, ◌∙◌}
use Rattle.request_types.specs.declared.request.ClassCall.{ClassCall}
use Rattle.std.proofs.lemmas.Result.{on_ok_weaker}
use Rattle.log_text.specs.Decision.{classes_text, marked}
use Rattle.log_text.proofs.Joining.{three}
use Rattle.log_text.proofs.written.push_needs.Goals as goal

pub returns : goal.returns
returns c =
    on_ok_weaker c.push_classes.result
    (λ (h : string_bytes c.push_classes.new.text ≡ string_bytes c.push_marked-2.new.text ++ classes_text c.as_slice.result.now). three (string_bytes c.args.text.now) (string_bytes c.push_marked.new.text) (string_bytes c.push_marked-2.new.text) (string_bytes c.push_classes.new.text) (marked (codes " need_read_cap=") c.args.needs.now.reads) (marked (codes " need_write_cap=") c.args.needs.now.writes) (classes_text c.args.needs.now.calls) c.in_ok-push_marked.ensures c.in_ok-push_marked-2.ensures (h ∙ ap (λ (calls : List ClassCall). string_bytes c.push_marked-2.new.text ++ classes_text calls) c.as_slice.ensures))
    c.push_classes.ensures
