use Rattle.std.proofs.Common.{◌∙◌, ap}
use Rattle.store_core.specs.ListedTexts.{with_text, texts_of}
use Rattle.store_core.proofs.TextSets.{texts_add}
use Rattle.store_core.proofs.texts.Texts.add.Goals as goal

pub returns : goal.returns
returns c =
    texts_add c.self.inside.texts.keys c.insert.new.self.keys c.in_ok-text.text c.in_ok-insert.ensures.keys
    ∙ ap (with_text (texts_of c.self.inside.texts.keys)) (c.in_ok-text.ensures.ok ∙ c.as_str.ensures) ∙ ap (λ t. with_text t c.args.name.now) c.self.view_is
