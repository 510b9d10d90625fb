-- The calls of a vector, one operation after another.
use Rattle.std.proofs.Common.{◌≡◌, ℕ, ◌+◌, ◌<◌, List, [], ◌∷◌, ◌++◌, Option, None, Some, length, get_or, take, refl, sym, ap, ◌∙◌}
use Rattle.std.specs.Option.{option_to_list}
use Rattle.std.specs.List.{filter_map, cons_option}
use Rattle.std.proofs.lemmas.Grind.{take_at_read}
use Rattle.std.proofs.lemmas.List.Elements.{filter_map-append}
use Rattle.request_types.specs.declared.request.ClassCall.{ClassCall}
use Rattle.object_core.specs.declared.op.Op.{Op}
use Rattle.object_core.specs.Needs.{call_of}

one : (o : Option ClassCall) → cons_option o [] ≡ option_to_list o
one None = refl
one (Some x) = refl

calls-more : (ops : List Op) (i : ℕ) (d : Op) → i < length ops → filter_map call_of (take (i + 1) ops) ≡ filter_map call_of (take i ops) ++ option_to_list (call_of (get_or ops i d))
calls-more ops i d h =
    ap (filter_map call_of) ((take_at_read ops i d h).1) ∙ filter_map-append call_of (take i ops) (get_or ops i d ∷ []) ∙ ap (λ l. filter_map call_of (take i ops) ++ l) (one (call_of (get_or ops i d)))

-- one more operation
pub calls_of_step : (ops : List Op) (i : ℕ) (op : Op) (calls new : List ClassCall) → i < length ops → op ≡ get_or ops i op → calls ≡ filter_map call_of (take i ops)
    → new ≡ calls ++ option_to_list (call_of op) → new ≡ filter_map call_of (take (i + 1) ops)
calls_of_step ops i op calls new h at so_far pushed =
    pushed ∙ (λ k. so_far k ++ option_to_list (call_of (at k))) ∙ sym (calls-more ops i op h)
