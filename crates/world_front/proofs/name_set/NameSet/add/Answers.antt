use Rattle.std.proofs.Common.{◌∙◌, ap, string_bytes}
use Rattle.std.specs.BTreeSet.{insert_key}
use Rattle.store_core.specs.Store.{bytes_cmp}
use Rattle.world_front.proofs.NamesInTree.{text_added}
use Rattle.world_front.proofs.name_set.NameSet.add.Goals as goal

pub returns : goal.returns
returns c =
    text_added c.self.inside.texts.keys c.insert.new.self.keys c.in_ok-text.text c.in_ok-insert.ensures.keys
    ∙ ap (λ l. insert_key bytes_cmp l (string_bytes c.in_ok-text.text)) c.self.view_is ∙ ap (insert_key bytes_cmp c.args.self.now) (c.in_ok-text.ensures.ok ∙ c.as_str.ensures)
