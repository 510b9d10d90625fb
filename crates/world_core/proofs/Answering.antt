-- What a request that was submitted is answered.
use Rattle.std.proofs.Common.{◌≡◌, ◌∙◌, ℕ, ◌+◌, ◌*◌, ◌/◌, ◌%◌, ◌<◌, ◌≤◌, ◌==◌, ◌||◌, List, ◌∷◌, Bool, true, false, Option, None, Some, if◌then◌else◌, is_some, length, refl, sym, ap, subst, arith, []}
use Rattle.std.specs.Prelude.{IfSome}
use Rattle.std.proofs.lemmas.Nat.{mod-mul-add}
use Rattle.std.proofs.Math.Nat.{mod-add-div'}
use Rattle.map_core.specs.State.{History}
use Rattle.map_core.specs.Map.{map_of}
use Rattle.store_core.specs.Request.{Sealed}
use Rattle.entry_core.specs.Locality.{group_for}
use Rattle.store_core.specs.declared.reply.Reply.{Reply}
use Rattle.group_model.specs.Group.{Group, submitted, is_submitted, answer_of}
use Rattle.world_events.specs.declared.fault.WorldFault.{WorldFault as Fault}
use Rattle.world_events.specs.declared.fault.WorldFault.TheVariants.{NoRequest}
use Rattle.world_front.specs.ControlPlane.{ControlPlane}
use Rattle.world_core.specs.World.{group_at}
use Rattle.world_core.specs.Moves.{AreGroupsOf, IsAt}
use Rattle.world_front.specs.Groups.{place_in}
use Rattle.world_core.specs.Answers.{answer_to, answer_in, answer_at}
use Rattle.world_core.specs.Calls.{answer_refusal}
use Rattle.world_core.specs.Sound.{IsKept, IsSealedFor}
use Rattle.world_front.specs.Stands.{next_at, IsGiven}
use Rattle.world_core.specs.Inside.{world_of}
use Rattle.world_core.specs.declared.audit.Run.{Run}
use Rattle.world_core.proofs.Limits.{few_submissions}
use Rattle.world_core.proofs.PlaceIn.{stands}
use Rattle.world_front.proofs.Pools.{found_in}
use Rattle.world_core.proofs.Standing.{found_each}
use Rattle.world_front.proofs.Bytes.{number_same}

pub asked_for : (rs : List Sealed) (id : ℕ) → is_submitted rs id ≡ is_some (submitted rs id)
asked_for [] id = refl
asked_for (r ∷ rs) id = go (r.id == id) (asked_for rs id)
  where
    go : (b : Bool) → is_submitted rs id ≡ is_some (submitted rs id) → (b || is_submitted rs id) ≡ is_some (if b then Some r else submitted rs id)
    go true rest = refl
    go false rest = rest

-- the number of a submission that is found
pub found_number : (rs : List Sealed) (id : ℕ) (s : Sealed) → submitted rs id ≡ Some s → s.id ≡ id
found_number [] id s h = absurd (cc)
found_number (r ∷ rs) id s h = go (r.id == id) refl h (λ k. found_number rs id s k)
  where
    go : (b : Bool) → (r.id == id) ≡ b → (if b then Some r else submitted rs id) ≡ Some s → (submitted rs id ≡ Some s → s.id ≡ id) → s.id ≡ id
    go true e k rest = let same : r ≡ s = cc in ap (λ t. t.id) (sym same) ∙ number_same r.id id e
    go false e k rest = rest k

-- the group of a request whose pool the map has
pub place_of_request : (history : History) (s : Sealed) → IsSealedFor history s → (groups : List Group) → AreGroupsOf history groups
    → IsAt groups (group_for s) (place_in (map_of history).pools (group_for s))
place_of_request history s h groups are =
    let p = h.well.pool in
    let below : s.group < p.is.pool.pg_num = subst (λ n. s.group < n) (sym p.is.groups) h.below in
    stands (group_for s) (map_of history).pools p.is.pool (found_in history s.view.pool s.view.pg_num p) below groups are.places

-- a request that was submitted is of a group that is there
pub submitted_for : (f : ControlPlane) (gs : List Group) (runs : List Run) (id : ℕ) (s : Sealed) (history : History) → IsKept f gs runs → history ≡ f.history
    → Some s ≡ submitted f.submissions id → IsSealedFor history s
submitted_for f gs runs id s history h same is =
    subst (λ k. IsSealedFor k s) (sym same) (found_each (IsSealedFor f.history) f.submissions id s h.sound.kept.front.sealed (sym is))

-- what its group was answered
pub answered_by : (f : ControlPlane) (gs : List Group) (runs : List Run) (id : ℕ) (s : Sealed) (g : Group) (reply : Option Reply) → Some s ≡ submitted f.submissions id → group_at (group_for s) gs ≡ Some g
    → reply ≡ answer_of g.answers id → reply ≡ answer_at (world_of f gs runs) id
answered_by f gs runs id s g reply is there told = told ∙ sym (ap (answer_to gs id) (sym is) ∙ ap (λ o. answer_in o id) there)

pub unrefused : (f : ControlPlane) (gs : List Group) (runs : List Run) (id : ℕ) (s : Sealed) → Some s ≡ submitted f.submissions id → answer_refusal (world_of f gs runs) id ≡ None
unrefused f gs runs id s is = ap (λ b. if b then None else Some NoRequest) (asked_for f.submissions id ∙ ap is_some (sym is))

pub refused : (f : ControlPlane) (gs : List Group) (runs : List Run) (id : ℕ) → None ≡ submitted f.submissions id → answer_refusal (world_of f gs runs) id ≡ Some NoRequest
refused f gs runs id is = ap (λ b. if b then None else Some NoRequest) (asked_for f.submissions id ∙ ap is_some (sym is))

-- no answer where nothing was submitted
pub unanswered : (f : ControlPlane) (gs : List Group) (runs : List Run) (id : ℕ) (fault : Fault) → answer_refusal (world_of f gs runs) id ≡ Some fault → None ≡ answer_at (world_of f gs runs) id
unanswered f gs runs id fault is = go (submitted f.submissions id) refl
  where
    go : (o : Option Sealed) → submitted f.submissions id ≡ o → None ≡ answer_to gs id o
    go None e = refl
    go (Some s) e = absurd (let none : None ≡ Some fault = sym (unrefused f gs runs id s (sym e)) ∙ is in cc)

-- ---- numbers

low_number : (id session number most : ℕ) → id ≡ session * 4294967296 + number → number < most → most ≤ 33554433 → id % 4294967296 + 1 < 4294967296
low_number id session number most is past few =
    let low : number < 4294967296 = omega arith in
    let same : id % 4294967296 ≡ number = ap (λ n. n % 4294967296) is ∙ mod-mul-add session 4294967296 number low in
    omega arith

-- a request that was submitted has a number that another can follow
pub follows : (f : ControlPlane) (gs : List Group) (runs : List Run) (id : ℕ) (s : Sealed) → IsKept f gs runs → submitted f.submissions id ≡ Some s → id % 4294967296 + 1 < 4294967296
follows f gs runs id s h is =
    let given : IsGiven f.sessions s.id = found_each (λ r. IsGiven f.sessions r.id) f.submissions id s h.sound.stands.front.given is in
    let most : next_at f.sessions given.session ≤ length f.submissions + 1 = h.sound.stands.front.most given.session in
    let few : length f.submissions ≤ 33554432 = few_submissions f h.sound.kept.front in
    low_number id given.session given.number (next_at f.sessions given.session) (sym (found_number f.submissions id s is) ∙ given.is) given.past (omega arith)

-- and so has one that was answered
pub answered_follows : (f : ControlPlane) (gs : List Group) (runs : List Run) (id : ℕ) (r : Reply) → IsKept f gs runs → Some r ≡ answer_at (world_of f gs runs) id → id % 4294967296 + 1 < 4294967296
answered_follows f gs runs id r h is = go (submitted f.submissions id) refl is
  where
    go : (o : Option Sealed) → submitted f.submissions id ≡ o → Some r ≡ answer_to gs id o → id % 4294967296 + 1 < 4294967296
    go None e k = absurd (cc)
    go (Some s) e k = follows f gs runs id s h e

pub if_some : {X : Type 0} (o : Option X) (P : Type 0) → ((x : X) → o ≡ Some x → P) → IfSome o (λ _. P)
if_some None P f = tt
if_some (Some x) P f = f x refl

-- the next number of a session
pub low_next : (first place id : ℕ) → first % 4294967296 + place < 4294967296 → id ≡ first + place → id % 4294967296 + 1 < 4294967296 → first % 4294967296 + (place + 1) < 4294967296
low_next first place id low is next =
    let whole : first % 4294967296 + first / 4294967296 * 4294967296 ≡ first = mod-add-div' first 4294967296 in
    let parts : id ≡ first / 4294967296 * 4294967296 + (first % 4294967296 + place) = add_parts id first place (first % 4294967296) (first / 4294967296 * 4294967296) is whole in
    let same : id % 4294967296 ≡ first % 4294967296 + place =
    ap (λ n. n % 4294967296) parts ∙ mod-mul-add (first / 4294967296) 4294967296 (first % 4294967296 + place) low in
    one_more_low (first % 4294967296) place (id % 4294967296) same next
  where
    add_parts : (id first place rest whole : ℕ) → id ≡ first + place → rest + whole ≡ first → id ≡ whole + (rest + place)
    add_parts id first place rest whole a b = omega arith

    one_more_low : (rest place number : ℕ) → number ≡ rest + place → number + 1 < 4294967296 → rest + (place + 1) < 4294967296
    one_more_low rest place number a b = omega arith
