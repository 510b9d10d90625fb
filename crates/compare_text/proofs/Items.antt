-- The items of a document, one after another.
use Rattle.std.proofs.Common.{◌≡◌, ℕ, ◌+◌, ◌<◌, List, [], ◌∷◌, ◌++◌, map, get_or, take, length, sym, ap, ◌∙◌}
use Rattle.std.proofs.lemmas.Grind.{take_at_read}
use Rattle.std.proofs.lemmas.List.{map-append}
use Rattle.serde_json.specs.Data.{Data}
use Rattle.serde_json.specs.View.{view}
use Rattle.serde_json.specs.declared.value.Value.{Value}

-- one more item
pub next_item : {X : Type 0} (document : X → Data) (xs : List X) (i : ℕ) (x : X) (old new : List Value) (value : Value) → i < length xs → x ≡ get_or xs i x
    → map view old ≡ map document (take i xs) → new ≡ old ++ value ∷ [] → view value ≡ document x → map view new ≡ map document (take (i + 1) xs)
next_item document xs i x old new value within at so_far same is =
    ap (map view) same
    ∙ (map-append view old (value ∷ [])
    ∙ (ap (λ items. items ++ view value ∷ []) so_far
    ∙ (ap (λ d. map document (take i xs) ++ d ∷ []) is
    ∙ (sym (map-append document (take i xs) (x ∷ []))
    ∙ ap (map document) (ap (λ e. take i xs ++ e ∷ []) at ∙ sym ((take_at_read xs i x within).1))))))
