-- Statement: contracts of public calls use it.
-- The result of a list of names, from the answers of its pieces.
use Rattle.std.specs.Prelude.{ℕ, List, ◌∷◌, Option, None, Some, Result, Ok, Err, fold, map, unwrap_or, []}
use Rattle.std.specs.List.{flat_map, find, range_with_len}
use Rattle.std.specs.Option.{option_map}
use Rattle.std.specs.Ordering.{nat_cmp}
use Rattle.std.specs.Cmp.Lexicographic.{slice_cmp}
use Rattle.std.specs.BTreeSet.{insert_key}
use Rattle.entry_core.specs.Laws.{is_denied}
use Rattle.store_core.specs.declared.reply.Reply.{Reply}
use Rattle.store_core.specs.declared.reply.Reply.TheVariants.{Names}
use Rattle.world_events.specs.declared.fault.WorldFault.{WorldFault as Fault}
use Rattle.world_events.specs.declared.fault.WorldFault.TheVariants.{NoRequest}
use Rattle.world_front.specs.declared.session.ListRange.{ListRange}
use Rattle.world_front.specs.ControlPlane.{list_at}
use Rattle.world_front.specs.Joining.{names_in}
use Rattle.world_core.specs.World.{World}
use Rattle.world_core.specs.Answers.{answer_at}

-- names in the order of their bytes
abbrev pub sorted : List (List ℕ) → List (List ℕ)
sorted names = fold (insert_key (slice_cmp nat_cmp)) [] names

abbrev pub consed : {A : Type 0} → Option A → Option (List A) → Option (List A)
consed None rest = None
consed (Some x) None = None
consed (Some x) (Some xs) = Some (x ∷ xs)

-- all values, or none while one is missing
abbrev pub all_of : {A : Type 0} → List (Option A) → Option (List A)
all_of [] = Some []
all_of (o ∷ os) = consed o (all_of os)

-- the first denial, or all names
abbrev pub joined : List Reply → Reply
joined replies = unwrap_or (find is_denied replies) (Names (sorted (flat_map names_in replies)))

-- the numbers of the pieces
abbrev pub piece_ids : ListRange → List ℕ
piece_ids p = range_with_len p.first p.count

-- nothing until each piece has its answer
abbrev pub listing_of : (ℕ → Option Reply) → ListRange → Option Reply
listing_of answer p = option_map joined (all_of (map answer (piece_ids p)))

abbrev pub listing_at : World → ℕ → Result (Option Reply) Fault
listing_at w first = listing_found (list_at w.front first)
  where
    listing_found : Option ListRange → Result (Option Reply) Fault
    listing_found None = Err NoRequest
    listing_found (Some p) = Ok (listing_of (answer_at w) p)
