-- Statement: contracts of public calls use it.
-- What a copy decides on a request, by the entries before it; and the logs that such decisions make.
use Rattle.std.specs.Prelude.{ℕ, ◌≡◌, Bool, false, ◌==◌, ◌||◌, List, [], ◌∷◌, ◌++◌, refl, Option, Some, None, if◌then◌else◌}
use Rattle.std.specs.Option.{option_map}
use Rattle.store_core.specs.Request.{Sealed}
use Rattle.store_core.specs.Deciding.{store_of, decision_on}
pub use Rattle.store_core.specs.Deciding.{Decision}
use Rattle.store_core.specs.declared.reply.Reply.{Reply}
use Rattle.store_core.specs.declared.entry.Entry.{Entry}

-- what becomes of a request at the end of this log: its own store decides
abbrev pub decision : List Entry → Sealed → Decision
decision log s = decision_on (store_of log) s

-- the entry that a request becomes at the end of this log
abbrev pub decide : List Entry → Sealed → Entry
decide log s = (decision log s).entry

-- an entry keeps the request that was decided
pub decide-sealed : (log : List Entry) (s : Sealed) → (decide log s).sealed ≡ s
decide-sealed log s = refl

abbrev pub ids : List Entry → List ℕ
ids [] = []
ids (e ∷ es) = e.sealed.id ∷ ids es

abbrev pub is_in : List ℕ → ℕ → Bool
is_in [] x = false
is_in (y ∷ ys) x = (y == x) || is_in ys x

-- the entry of a request's number, if there is one
abbrev pub find : List Entry → ℕ → Option Entry
find [] id = None
find (e ∷ es) id = if e.sealed.id == id then Some e else find es id

-- the reply to the request of a number, if there is one
abbrev pub reply_in : List Entry → ℕ → Option Reply
reply_in log id = option_map (λ e. e.reply) (find log id)

-- these entries can stand after those: numbers are new, and each is decided on what stands before it
abbrev pub LegalFrom : List Entry → List Entry → Type 0
LegalFrom before [] = Unit {0}
LegalFrom before (e ∷ es) = (is_in (ids before) e.sealed.id ≡ false) × (e ≡ decide before e.sealed) × LegalFrom (before ++ e ∷ []) es

abbrev pub Legal : List Entry → Type 0
Legal log = LegalFrom [] log
