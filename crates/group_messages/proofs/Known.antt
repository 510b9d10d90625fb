-- What a queue knows of the ids that wait.
use Prim.Native.Nat.{zero, suc}
use Rattle.std.proofs.Common.{ℕ, ◌≡◌, ◌==◌, ◌||◌, Bool, true, false, List, [], ◌∷◌, ◌++◌, drop, cond, refl, ap, subst, ◌∙◌, nat_eq}
use Rattle.std.specs.List.{list_any}
use Rattle.std.specs.HashSet.{HashSet, contains}
use Rattle.store_core.specs.Request.{Sealed}
use Rattle.group_messages.specs.Waiting.{KnowsWaiting}

abbrev waits : List Sealed → ℕ → Bool
waits requests id = list_any (λ w. w.id == id) requests

-- the set has one id more
abbrev pub Updates : {S : Type 0} → HashSet ℕ S → HashSet ℕ S → ℕ → Type 0
Updates seen more id = (q : ℕ) → contains nat_eq more q ≡ cond (nat_eq id q) true (contains nat_eq seen q)

known : {S : Type 0} (seen more : HashSet ℕ S) (id q : ℕ) (same : Bool) → nat_eq id q ≡ same → Updates seen more id → (same ≡ false → contains nat_eq seen q ≡ true) → contains nat_eq more q ≡ true
known seen more id q true is updates old = updates q ∙ ap (λ b. cond b true (contains nat_eq seen q)) is
known seen more id q false is updates old = updates q ∙ ap (λ b. cond b true (contains nat_eq seen q)) is ∙ old refl

either : (b x y : Bool) → (x ≡ true → y ≡ true) → (b || x) ≡ true → (b || y) ≡ true
either true x y then h = refl
either false x y then h = then h

behind : (requests : List Sealed) (r : Sealed) (q : ℕ) → nat_eq r.id q ≡ false → waits (requests ++ r ∷ []) q ≡ true → waits requests q ≡ true
behind [] r q other h = subst (λ b. (b || false) ≡ true) other h
behind (w ∷ ws) r q other h = either (w.id == q) _ _ (behind ws r q other) h

before : (requests : List Sealed) (r : Sealed) (q : ℕ) → nat_eq r.id q ≡ false → waits (r ∷ requests) q ≡ true → waits requests q ≡ true
before requests r q other h = subst (λ b. (b || waits requests q) ≡ true) other h

dropped : (n : ℕ) (requests : List Sealed) (q : ℕ) → waits (drop n requests) q ≡ true → waits requests q ≡ true
dropped zero requests q h = h
dropped (suc n) [] q h = h
dropped (suc n) (w ∷ ws) q h = either (w.id == q) true _ (λ _. dropped n ws q h) (go (w.id == q)) where
  go : (b : Bool) → (b || true) ≡ true
  go true = refl
  go false = refl

-- a request more at the end, or at the front, or none more
pub knows_behind : {S : Type 0} (requests : List Sealed) (r : Sealed) (seen more : HashSet ℕ S) → KnowsWaiting requests seen → Updates seen more r.id → KnowsWaiting (requests ++ r ∷ []) more
knows_behind requests r seen more knows updates = record { at = λ q h. known seen more r.id q (nat_eq r.id q) refl updates (λ other. knows.at q (behind requests r q other h)) }

pub knows_before : {S : Type 0} (requests : List Sealed) (r : Sealed) (seen more : HashSet ℕ S) → KnowsWaiting requests seen → Updates seen more r.id → KnowsWaiting (r ∷ requests) more
knows_before requests r seen more knows updates = record { at = λ q h. known seen more r.id q (nat_eq r.id q) refl updates (λ other. knows.at q (before requests r q other h)) }

pub knows_still : {S : Type 0} (requests : List Sealed) (id : ℕ) (seen more : HashSet ℕ S) → KnowsWaiting requests seen → Updates seen more id → KnowsWaiting requests more
knows_still requests id seen more knows updates = record { at = λ q h. known seen more id q (nat_eq id q) refl updates (λ other. knows.at q h) }

pub knows_dropped : {S : Type 0} (n : ℕ) (requests : List Sealed) (seen : HashSet ℕ S) → KnowsWaiting requests seen → KnowsWaiting (drop n requests) seen
knows_dropped n requests seen knows = record { at = λ q h. knows.at q (dropped n requests q h) }

unknown : (waiting there : Bool) → (waiting ≡ true → there ≡ true) → there ≡ false → false ≡ waiting
unknown true there then none = absurd (cc (then refl, none))
unknown false there then none = refl

-- what it does not know does not wait
pub waits_not : {S : Type 0} (requests : List Sealed) (seen : HashSet ℕ S) (id : ℕ) → KnowsWaiting requests seen → contains nat_eq seen id ≡ false → false ≡ list_any (λ w. w.id == id) requests
waits_not requests seen id knows none = unknown (waits requests id) _ (knows.at id) none
