-- Lists of documents without floats.
use Rattle.std.proofs.Common.{◌≡◌, List, [], ◌∷◌, ◌++◌, Bool, true, false, ◌||◌, ap}
use Rattle.serde_json.specs.View.{items_view, view}
use Rattle.serde_json.specs.Written.{has_float, items_have_float}
use Rattle.serde_json.specs.declared.value.Value.{Value}

both : (a b c : Bool) → (a || b) ≡ false → (b ≡ false → c ≡ false) → (a || c) ≡ false
both true b c is then = is
both false b c is then = then is

pub pushed : (values : List Value) (value : Value) → items_have_float (items_view values) ≡ false → has_float (view value) ≡ false → items_have_float (items_view (values ++ value ∷ [])) ≡ false
pushed [] value all one = ap (λ b. b || false) one
pushed (v ∷ vs) value all one =
    both (has_float (view v)) (items_have_float (items_view vs)) (items_have_float (items_view (vs ++ value ∷ []))) all (λ none. pushed vs value none one)
