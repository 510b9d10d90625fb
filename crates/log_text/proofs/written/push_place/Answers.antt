use Rattle.std.proofs.Common.{◌≡◌, List, ◌++◌, string_bytes, ap, ◌∙◌}
use Rattle.common_types.specs.declared.tags.AppTags.{AppTags}
use Rattle.std.proofs.lemmas.Result.{on_ok_weaker}
use Rattle.log_text.specs.Decision.{names_text, number_text, tagged_text}
use Rattle.log_text.proofs.Joining.{three}
use Rattle.log_text.proofs.written.push_place.Goals as goal

pub returns : goal.returns
returns c =
    on_ok_weaker c.push_tagged.result
    (λ (h : string_bytes c.push_tagged.new.text ≡ string_bytes c.push_names.new.text ++ tagged_text c.as_slice.result.now). three (string_bytes c.args.text.now) (string_bytes c.push_number.new.text) (string_bytes c.push_names.new.text) (string_bytes c.push_tagged.new.text) (number_text c.args.number.now) (names_text c.args.target.now) (tagged_text c.args.target.now.tags) c.in_ok-push_number.ensures c.in_ok-push_names.ensures (h ∙ ap (λ (tags : List AppTags). string_bytes c.push_names.new.text ++ tagged_text tags) (c.as_slice.ensures ∙ ap (λ e. e.tags) c.target.view_is)))
    c.push_tagged.ensures
