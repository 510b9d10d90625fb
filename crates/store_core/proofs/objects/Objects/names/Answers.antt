use Rattle.std.proofs.Common.{◌≡◌, ◌∙◌, sym, ap}
use Rattle.std.proofs.lemmas.Result.{IfOk-weaker}
use Rattle.std.specs.FinMap.{empty}
use Rattle.std.specs.Map.{keys_of}
use Rattle.store_core.specs.Deciding.{is_listed, names_in}
use Rattle.store_core.specs.ListedTexts.{collected}
use Rattle.store_core.proofs.Listing.{collected_names}
use Rattle.store_core.proofs.objects.Objects.names.Goals as goal

pub returns : goal.returns
returns c =
    let s = c.args.sealed.now in
    let all : c.loop-name.texts ≡ collected (is_listed s) empty (keys_of c.self.inside.map.entries) =
    ap (collected (is_listed s) c.loop-name.texts) (sym c.in-None.ensures.steps.0) ∙ c.loop-name.invariant
    ∙ ap (collected (is_listed s) empty) (c.into_iter-name-iterator.ensures.into_iter_gives ∙ c.keys-name-items.ensures.rest) in
    IfOk-weaker c.names.result _ _
    (λ names h. h ∙ collected_names s c.self.inside.map.entries c.loop-name.texts all ∙ ap (λ store. names_in store s) c.self.view_is) c.names.ensures
