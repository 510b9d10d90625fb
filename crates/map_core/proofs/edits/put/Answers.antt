use Rattle.std.proofs.Common.{List, ℕ, ◌++◌, ◌∷◌, [], sym, ◌∙◌, ap, set, position}
use Rattle.map_core.specs.Map.{is_key}
use Rattle.map_core.proofs.FirstPlaces.{put_pair_at, put_pair_none}
use Rattle.map_core.proofs.edits.put.Goals as goal

pub returns-in-Some-clause-ok : goal.returns-in-Some-clause-ok
returns-in-Some-clause-ok c =
    ap (λ (v : List ℕ). set c.args.pairs.now.items c.in-Some.place (c.index_mut-pair.result.now.0, v)) c.in_ok-value.ensures
    ∙ put_pair_at c.args.key.now c.args.value.now c.args.pairs.now.items c.in-Some.place c.index_mut-pair.result.now
    (ap (position (is_key c.args.key.now)) (sym c.deref.ensures.value) ∙ sym c.key_place.ensures ∙ c.in-Some.is) c.index_mut-pair.ensures.value

pub returns-in_ok-push-in-None-clause-ok : goal.returns-in_ok-push-in-None-clause-ok
returns-in_ok-push-in-None-clause-ok c =
    c.in_ok-push-in-None.ensures.items
    ∙ ap (λ (v : List ℕ). c.args.pairs.now.items ++ (c.in_ok-copy-in-None.field-0, v) ∷ []) c.in_ok-value.ensures
    ∙ ap (λ (k : List ℕ). c.args.pairs.now.items ++ (k, c.args.value.now) ∷ []) c.in_ok-copy-in-None.ensures
    ∙ put_pair_none c.args.key.now c.args.value.now c.args.pairs.now.items
    (ap (position (is_key c.args.key.now)) (sym c.deref.ensures.value) ∙ sym c.key_place.ensures ∙ c.in-None.is)
