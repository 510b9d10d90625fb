use Rattle.std.proofs.Common.{◌≡◌, cond, Some, ◌∙◌}
use Rattle.std.specs.Prelude.{string_bytes}
use Rattle.std.specs.HashMap.{get_by_text}
use Rattle.std.specs.Str.{bytes_eq}
use Rattle.std.proofs.lemmas.Map.Text.{hash_map_updates_text}
use Rattle.log_core.proofs.pairing.put.Goals as goal

pub returns : goal.returns
returns c = λ q.
    let text_is : string_bytes c.in_ok-text.text ≡ c.args.key.now = c.in_ok-text.ensures.ok ∙ c.as_str.ensures in
    let copy_is : c.in_ok-copy.field-0 ≡ c.args.value.now = c.in_ok-copy.ensures in
    hash_map_updates_text (string_bytes c.in_ok-text.text) c.args.map.now c.insert.new.self (Some c.in_ok-copy.field-0) c.in_ok-insert.ensures.updates q
    ∙ (λ i. cond (bytes_eq (text_is i) q) (Some (copy_is i)) (get_by_text c.args.map.now q))
