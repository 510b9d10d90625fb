use Rattle.std.proofs.Common.{◌≡◌, ◌∙◌, ◌++◌, OnOk, None, Some, sym, ap, subst, string_bytes}
use Rattle.script_printing.specs.Text.{located_text}
use Rattle.world_script.proofs.QuestionLines.{located_by}
use Rattle.world_script.proofs.questions.locate.Goals as goal

pub returns-in-None : goal.returns-in-None
returns-in-None c =
    subst (λ text. OnOk c.push_located.result (string_bytes c.push_located.new.text ≡ string_bytes c.args.text.now ++ text))
    (located_by c.args.world.now.front c.args.pool.now c.args.namespace.now c.args.object.now c.map-map.result.now c.epoch.result c.in-Ok.view c.group_of-group.result c.as_str.result.now c.as_str-2.result.now None
    c.map-map.ensures c.epoch.ensures.value c.in-Ok.ensures.refused (sym c.are_names.ensures ∙ c.if-not-are_names.false) c.in-Ok.ensures.view c.group_of-group.ensures c.as_str.ensures c.as_str-2.ensures c.in-None.ensures.members)
    c.push_located.ensures

pub returns : goal.returns
returns c =
    subst (λ text. OnOk c.push_located-in-Some.result (string_bytes c.push_located-in-Some.new.text ≡ string_bytes c.args.text.now ++ text))
    (ap (located_text c.group_of-group.result) c.as_slice.ensures.value
    ∙ located_by c.args.world.now.front c.args.pool.now c.args.namespace.now c.args.object.now c.map-map.result.now c.epoch.result c.in-Ok.view c.group_of-group.result c.as_str.result.now c.as_str-2.result.now (Some c.in-Some.members)
    c.map-map.ensures c.epoch.ensures.value c.in-Ok.ensures.refused (sym c.are_names.ensures ∙ c.if-not-are_names.false) c.in-Ok.ensures.view c.group_of-group.ensures c.as_str.ensures c.as_str-2.ensures c.in-Some.ensures.members)
    c.push_located-in-Some.ensures
