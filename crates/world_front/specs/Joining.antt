-- Statement: contracts of public calls use it.
-- How the answers of a list's pieces are joined, one after another.
use Rattle.std.specs.Prelude.{ℕ, List, [], None, Some, if◌then◌else◌, fold, unwrap_or}
use Rattle.std.specs.List.{flat_map, find}
use Rattle.std.specs.Option.{option_or}
use Rattle.std.specs.Ordering.{nat_cmp}
use Rattle.std.specs.Cmp.Lexicographic.{slice_cmp}
use Rattle.std.specs.BTreeSet.{insert_key}
use Rattle.entry_core.specs.Laws.{is_denied}
use Rattle.store_core.specs.declared.reply.Reply.{Reply}
use Rattle.store_core.specs.declared.reply.Reply.TheVariants.{Denied, Done, Failed, Names}
use Rattle.world_front.specs.declared.joined.Joined.{Joined}

abbrev pub names_in : Reply → List (List ℕ)
names_in (Names names) = names
names_in (Denied report) = []
names_in (Done outputs) = []
names_in (Failed place number) = []

-- the names with these, in the order of their bytes
abbrev pub with_names : List (List ℕ) → List (List ℕ) → List (List ℕ)
with_names names more = fold (insert_key (slice_cmp nat_cmp)) names more

-- with one more answer
abbrev pub with_reply : Joined → Reply → Joined
with_reply joined reply = record { denial = option_or joined.denial (if is_denied reply then Some reply else None); names = with_names joined.names (names_in reply) }

-- the first denial, or all names
abbrev pub reply_of : Joined → Reply
reply_of joined = unwrap_or joined.denial (Names joined.names)

-- what further answers make of it
abbrev pub joined_with : Joined → List Reply → Reply
joined_with joined replies = unwrap_or (option_or joined.denial (find is_denied replies)) (Names (with_names joined.names (flat_map names_in replies)))
