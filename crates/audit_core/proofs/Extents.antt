-- What the tickets at sample addresses reach is what rights reach.
use Rattle.std.proofs.Common.{◌≡◌, ◌<◌, ◌≤◌, ◌+◌, ℕ, zero, suc, List, [], ◌∷◌, ◌++◌, length, get_or, take, map, Bool, true, false, not, ◌&&◌, if◌then◌else◌, Some, slice_get, refl, sym, ap, ◌∙◌, subst, inl, inr, arith}
use Rattle.std.specs.List.{list_any, list_all, All, Contains}
use Rattle.std.proofs.lemmas.Bool.{false≢true}
use Rattle.std.proofs.lemmas.Grind.{take_at_read}
use Rattle.std.proofs.lemmas.List.{take_all}
use Rattle.std.proofs.lemmas.List.Elements.{All-head, All-contains}
use Rattle.std.proofs.lemmas.List.Folds.{list_all-map}
use Rattle.std.proofs.lemmas.Option.{slice_get_within, slice_get_read}
use Rattle.network_core.specs.declared.address.Address.{Address}
use Rattle.network_core.specs.Address.{IsAddress}
use Rattle.request_types.specs.Target.{Target}
use Rattle.request_types.specs.declared.request.Needs.{Needs}
use Rattle.verdict_core.specs.Ticket.{Ticket}
use Rattle.verdict_core.specs.Verdict.{grants_allow, is_allowed, is_expired}
use Rattle.rights_core.specs.Rights.{Rights, ticket_at}
use Rattle.rights_core.specs.Samples.{DecideFor}
use Rattle.rights_core.specs.Verdicts.{allowed_at}
use Rattle.compare_core.proofs.Bools.{both_left, both_right, both, true_or_false, some_pass, some_fail, any_at, all_at}
use Rattle.share_core.specs.declared.pools.Pool.{Pool}
use Rattle.audit_core.specs.Reached.{IsInPool, IsOf, SomeIsAllowed, EveryIsAllowed, IsExtent, IsCell, AreCells}
use Rattle.audit_core.specs.Giving.{some_reaches, grants_reach_every, ticket_some, ticket_every, extent, cell}
use Rattle.audit_core.specs.declared.cell.Cell.{Cell}
use Rattle.audit_core.specs.declared.cell.Extent.{Extent}
use Rattle.audit_core.specs.declared.cell.Extent.TheVariants.{Nothing, Part, Whole}
use Rattle.audit_core.specs.declared.cell.Letter.{Letter}
use Rattle.audit_core.specs.declared.cell.Letter.TheVariants as letters
use Rattle.audit_core.proofs.Given.{some_given, so_given}
use Rattle.audit_core.proofs.Whole.{every_given, so_every, some_asked}

any_map : {X Y : Type 0} (p : Y → Bool) (f : X → Y) (xs : List X) → list_any p (map f xs) ≡ list_any (λ x. p (f x)) xs
any_map p f [] = refl
any_map p f (x ∷ xs) = rw (any_map p f xs) refl

-- an element is in its list
is_in : {X : Type 0} (xs : List X) (i : ℕ) (x : X) → slice_get xs i ≡ Some x → Contains xs x
is_in [] i x at = absurd (cc)
is_in (y ∷ ys) zero x at = (0, omega arith, some_same at)
  where
    some_same : {X : Type 0} {a b : X} → Some a ≡ Some b → a ≡ b
    some_same e = cc
is_in (y ∷ ys) (suc i) x at = let (k, within, is) = is_in ys i x at in (suc k, omega arith, is)

-- and has a place there
place_of : {X : Type 0} (xs : List X) (x : X) (k : ℕ) → k < length xs → get_or xs k x ≡ x → slice_get xs k ≡ Some x
place_of xs x k within is = slice_get_read xs (length xs) k x refl within (sym is)

abbrev SomeAt : Ticket → ℕ → Pool → Letter → Type 0
SomeAt ticket tick pool letter = (target : Target) × (needs : Needs) × IsInPool pool target × IsOf letter target needs × (is_allowed ticket target needs tick ≡ true)

abbrev EveryAt : Ticket → ℕ → Pool → Letter → Type 0
EveryAt ticket tick pool letter = (target : Target) (needs : Needs) → IsInPool pool target → IsOf letter target needs → is_allowed ticket target needs tick ≡ true

some_at : (ticket : Ticket) (tick : ℕ) (pool : Pool) (letter : Letter) → ticket_some tick letter pool ticket ≡ true → SomeAt ticket tick pool letter
some_at ticket tick pool letter h =
    let found = some_given letter pool ticket.grants (both_right (not (is_expired ticket.until tick)) _ h) in
    (found.target, found.needs, found.inside, found.is, both _ _ (both_left (not (is_expired ticket.until tick)) _ h) found.allowed)

at_some : (ticket : Ticket) (tick : ℕ) (pool : Pool) (letter : Letter) → SomeAt ticket tick pool letter → ticket_some tick letter pool ticket ≡ true
at_some ticket tick pool letter (target, needs, inside, is, allowed) =
    both _ _ (both_left (not (is_expired ticket.until tick)) _ allowed)
    (so_given letter pool ticket.grants target needs inside is (both_right (not (is_expired ticket.until tick)) _ allowed))

every_at : (ticket : Ticket) (tick : ℕ) (pool : Pool) (letter : Letter) → ticket_every tick letter pool ticket ≡ true → EveryAt ticket tick pool letter
every_at ticket tick pool letter h = λ target needs inside is.
    both _ _ (both_left (not (is_expired ticket.until tick)) _ h)
    (every_given letter pool ticket.grants (both_right (not (is_expired ticket.until tick)) _ h) target needs inside is)

at_every : (ticket : Ticket) (tick : ℕ) (pool : Pool) (letter : Letter) → EveryAt ticket tick pool letter → ticket_every tick letter pool ticket ≡ true
at_every ticket tick pool letter every =
    let asked = some_asked pool letter in
    both _ _ (both_left (not (is_expired ticket.until tick)) _ (every asked.target asked.needs asked.inside asked.is))
    (so_every letter pool ticket.grants (λ target needs inside is. both_right (not (is_expired ticket.until tick)) _ (every target needs inside is)))

-- tickets of samples, for all addresses

-- the ticket at an address is that of a sample
sampled : (rights : Rights) (samples : List Address) → DecideFor (rights ∷ []) samples → (a : Address) → IsAddress a
    → (k : ℕ) × (sample : Address) × (slice_get samples k ≡ Some sample) × (ticket_at rights sample ≡ ticket_at rights a)
sampled rights samples decide a is_address =
    let (sample, (k, within, is), same) = decide.stand a is_address in
    (k, sample, place_of samples sample k within is, All-head (λ rights. ticket_at rights sample ≡ ticket_at rights a) rights [] same)

sample_is : (rights : Rights) (samples : List Address) → DecideFor (rights ∷ []) samples → (i : ℕ) (a : Address) → slice_get samples i ≡ Some a → IsAddress a
sample_is rights samples decide i a at = All-contains IsAddress samples a decide.are_addresses (is_in samples i a at)

abbrev tickets_of : Rights → List Address → List Ticket
tickets_of rights samples = map (ticket_at rights) samples

some_here : (rights : Rights) (samples : List Address) (tick : ℕ) (pool : Pool) (letter : Letter) → DecideFor (rights ∷ []) samples
    → list_any (ticket_some tick letter pool) (tickets_of rights samples) ≡ true → SomeIsAllowed rights tick pool letter
some_here rights samples tick pool letter decide h =
    let found = some_pass (λ a. ticket_some tick letter pool (ticket_at rights a)) samples (sym (any_map (ticket_some tick letter pool) (ticket_at rights) samples) ∙ h) in
    let a : Address = found.1.0 in
    let (target, needs, inside, is, allowed) = some_at (ticket_at rights a) tick pool letter found.1.1.1 in
    (target, needs, a, inside, is, sample_is rights samples decide found.0 a found.1.1.0, allowed)

here_some : (rights : Rights) (samples : List Address) (tick : ℕ) (pool : Pool) (letter : Letter) → DecideFor (rights ∷ []) samples
    → SomeIsAllowed rights tick pool letter → list_any (ticket_some tick letter pool) (tickets_of rights samples) ≡ true
here_some rights samples tick pool letter decide (target, needs, a, inside, is, is_address, allowed) =
    let (k, sample, at, same) = sampled rights samples decide a is_address in
    let there : is_allowed (ticket_at rights sample) target needs tick ≡ true = subst (λ t. is_allowed t target needs tick ≡ true) (sym same) allowed in
    any_map (ticket_some tick letter pool) (ticket_at rights) samples
    ∙ any_at (λ a. ticket_some tick letter pool (ticket_at rights a)) samples k sample at (at_some (ticket_at rights sample) tick pool letter (target, needs, inside, is, there))

every_here : (rights : Rights) (samples : List Address) (tick : ℕ) (pool : Pool) (letter : Letter) → DecideFor (rights ∷ []) samples
    → list_all (ticket_every tick letter pool) (tickets_of rights samples) ≡ true → EveryIsAllowed rights tick pool letter
every_here rights samples tick pool letter decide h = λ target needs a inside is is_address.
    let (k, sample, at, same) = sampled rights samples decide a is_address in
    let all : list_all (λ a. ticket_every tick letter pool (ticket_at rights a)) samples ≡ true = sym (list_all-map (ticket_every tick letter pool) (ticket_at rights) samples) ∙ h in
    let here = every_at (ticket_at rights sample) tick pool letter (all_at (λ a. ticket_every tick letter pool (ticket_at rights a)) samples k sample all at) target needs inside is in
    subst (λ t. is_allowed t target needs tick ≡ true) same here

not_every : (rights : Rights) (samples : List Address) (tick : ℕ) (pool : Pool) (letter : Letter) → DecideFor (rights ∷ []) samples
    → list_all (ticket_every tick letter pool) (tickets_of rights samples) ≡ false → ¬ EveryIsAllowed rights tick pool letter
not_every rights samples tick pool letter decide h every =
    let found = some_fail (λ a. ticket_every tick letter pool (ticket_at rights a)) samples (sym (list_all-map (ticket_every tick letter pool) (ticket_at rights) samples) ∙ h) in
    let a : Address = found.1.0 in
    let is_address = sample_is rights samples decide found.0 a found.1.1.0 in
    let passes = at_every (ticket_at rights a) tick pool letter (λ target needs inside is. every target needs a inside is is_address) in
    false≢true (sym found.1.1.1 ∙ passes)

-- there is a sample, and so an allowed request where all are
some_of_every : (rights : Rights) (samples : List Address) (tick : ℕ) (pool : Pool) (letter : Letter) → DecideFor (rights ∷ []) samples → 0 < length samples
    → EveryIsAllowed rights tick pool letter → SomeIsAllowed rights tick pool letter
some_of_every rights [] tick pool letter decide some every = absurd (omega arith)
some_of_every rights (a ∷ samples) tick pool letter decide some every =
    let asked = some_asked pool letter in
    let is_address = sample_is rights (a ∷ samples) decide 0 a refl in
    (asked.target, asked.needs, a, asked.inside, asked.is, is_address, every asked.target asked.needs a asked.inside asked.is is_address)

pub extent_is : (rights : Rights) (samples : List Address) (tick : ℕ) (pool : Pool) (letter : Letter) → DecideFor (rights ∷ []) samples → 0 < length samples
    → IsExtent rights tick pool letter (extent tick letter pool (tickets_of rights samples))
extent_is rights samples tick pool letter decide some = go (list_all (ticket_every tick letter pool) tickets) (list_any (ticket_some tick letter pool) tickets) refl refl
  where
    tickets : List Ticket
    tickets = tickets_of rights samples

    go : (every any : Bool) → list_all (ticket_every tick letter pool) (tickets_of rights samples) ≡ every → list_any (ticket_some tick letter pool) (tickets_of rights samples) ≡ any
        → IsExtent rights tick pool letter (if every then Whole else (if any then Part else Nothing))
    go true any e f = let all = every_here rights samples tick pool letter decide e in (some_of_every rights samples tick pool letter decide some all, all)
    go false true e f = (some_here rights samples tick pool letter decide f, not_every rights samples tick pool letter decide e)
    go false false e f = λ h. false≢true (sym f ∙ here_some rights samples tick pool letter decide h)

pub cell_is : (rights : Rights) (samples : List Address) (tick : ℕ) (pool : Pool) → DecideFor (rights ∷ []) samples → 0 < length samples
    → IsCell rights tick pool (cell tick pool (tickets_of rights samples))
cell_is rights samples tick pool decide some = record {
  read = extent_is rights samples tick pool letters.Read decide some;
  write = extent_is rights samples tick pool letters.Write decide some;
  list = extent_is rights samples tick pool letters.Listing decide some;
  call = extent_is rights samples tick pool letters.Call decide some;
  any = extent_is rights samples tick pool letters.Any decide some;
}

one_more : (rights : Rights) (tick : ℕ) (pools : List Pool) (pool : Pool) (cells : List Cell) (here : Cell) → AreCells rights tick pools cells → IsCell rights tick pool here
    → AreCells rights tick (pools ++ pool ∷ []) (cells ++ here ∷ [])
one_more rights tick [] pool cells here so_far is = rw so_far (is, refl)
one_more rights tick (p ∷ ps) pool [] here so_far is = absurd so_far
one_more rights tick (p ∷ ps) pool (c ∷ cs) here so_far is = (so_far.0, one_more rights tick ps pool cs here so_far.1 is)

pub next_cell : (rights : Rights) (tick : ℕ) (pools : List Pool) (i : ℕ) (pool : Pool) (samples : List Address) (tickets : List Ticket) (old new : List Cell) (here : Cell)
    → i < length pools → pool ≡ get_or pools i pool → AreCells rights tick (take i pools) old → DecideFor (rights ∷ []) samples → 0 < length samples
    → tickets ≡ map (ticket_at rights) samples → here ≡ cell tick pool tickets → new ≡ old ++ here ∷ [] → AreCells rights tick (take (i + 1) pools) new
next_cell rights tick pools i pool samples tickets old new here within at so_far decide some made is same =
    let of_tickets : IsCell rights tick pool (cell tick pool tickets) = subst (λ (t : List Ticket). IsCell rights tick pool (cell tick pool t)) (sym made) (cell_is rights samples tick pool decide some) in
    let here_is : IsCell rights tick pool here = subst (IsCell rights tick pool) (sym is) of_tickets in
    let more : AreCells rights tick (take i pools ++ pool ∷ []) (old ++ here ∷ []) = one_more rights tick (take i pools) pool old here so_far here_is in
    let longer : AreCells rights tick (take (i + 1) pools) (old ++ here ∷ []) =
    subst (λ some. AreCells rights tick some (old ++ here ∷ [])) (ap (λ p. take i pools ++ p ∷ []) at ∙ sym ((take_at_read pools i pool within).1)) more in
    subst (AreCells rights tick (take (i + 1) pools)) (sym same) longer

pub whole_cells : (rights : Rights) (tick : ℕ) (pools : List Pool) (i : ℕ) (cells : List Cell) → length pools ≤ i → AreCells rights tick (take i pools) cells → AreCells rights tick pools cells
whole_cells rights tick pools i cells past so_far = subst (λ front. AreCells rights tick front cells) (take_all i pools past) so_far
