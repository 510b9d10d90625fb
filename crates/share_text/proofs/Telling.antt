-- What is reported of tenants, one after another.
use Rattle.std.proofs.Common.{◌≡◌, ℕ, ◌+◌, ◌<◌, ◌≤◌, zero, suc, List, [], ◌∷◌, ◌++◌, Bool, true, false, ◌||◌, get_or, drop, length, map, refl, sym, ap, subst, ◌∙◌, inl, inr, append_assoc, arith}
use Rattle.std.proofs.lemmas.List.{drop_all, drop_more, length-map}
use Rattle.share_text.specs.declared.holder.Holder.{Holder}
use Rattle.share_text.specs.Tenants.{AreTenants, InTurn, IsTenant, IsUnjudged}
use Rattle.share_text.specs.declared.tenants.Tenant.{Tenant}

append_nil : {X : Type 0} (xs : List X) → xs ++ [] ≡ xs
append_nil [] = refl
append_nil (x ∷ xs) = ap (λ rest. x ∷ rest) (append_nil xs)

or_false : (a : Bool) → (a || false) ≡ a
or_false true = refl
or_false false = refl

or_assoc : (a b c : Bool) → ((a || b) || c) ≡ (a || (b || c))
or_assoc true b c = refl
or_assoc false b c = refl

at_place : {X : Type 0} (xs : List X) (i : ℕ) (x : X) → i < length xs → x ≡ get_or xs i x → drop i xs ≡ x ∷ drop (i + 1) xs
at_place xs i x inside at = drop_more xs i x inside ∙ ap (λ y. y ∷ drop (i + 1) xs) (sym at)

-- the tenants so far, and those of the rest, are those of all
abbrev pub SoFar : List Holder → ℕ → List Tenant → Type 0
SoFar entities i before = (rest : List Tenant) → AreTenants (drop i entities) rest → AreTenants entities (before ++ rest)

pub one_tenant : (entities : List Holder) (i : ℕ) (entity : Holder) (before after : List Tenant) (tenant : Tenant) → i < length entities → entity ≡ get_or entities i entity
    → IsTenant entity tenant → after ≡ before ++ tenant ∷ [] → SoFar entities i before → SoFar entities (i + 1) after
one_tenant entities i entity before after tenant inside at is same so_far rest told =
    subst (AreTenants entities) (sym (ap (λ l. l ++ rest) same ∙ append_assoc before (tenant ∷ []) rest))
    (so_far (tenant ∷ rest) (subst (λ l. AreTenants l (tenant ∷ rest)) (sym (at_place entities i entity inside at)) (inl (tenant, rest, is, told, refl))))

pub one_left_out : (entities : List Holder) (i : ℕ) (entity : Holder) (before : List Tenant) → i < length entities → entity ≡ get_or entities i entity
    → IsUnjudged entity → SoFar entities i before → SoFar entities (i + 1) before
one_left_out entities i entity before inside at is so_far rest told =
    so_far rest (subst (λ l. AreTenants l rest) (sym (at_place entities i entity inside at)) (inr (is, told)))

pub all_tenants : (entities : List Holder) (i : ℕ) (tenants : List Tenant) → length entities ≤ i → SoFar entities i tenants → AreTenants entities tenants
all_tenants entities i tenants past so_far =
    subst (AreTenants entities) (append_nil tenants) (so_far [] (subst (λ l. AreTenants l []) (sym (drop_all i entities past)) refl))

-- what is reported so far, followed by what is reported of the rest, is what is reported of all
abbrev pub ToldSoFar : (Tenant → List Tenant → List ℕ → Bool → Type 0) → List Tenant → ℕ → List ℕ → Bool → Type 0
ToldSoFar IsTold all i text fails = (rest : List ℕ) (later : Bool) → InTurn IsTold (drop i all) rest later → InTurn IsTold all (text ++ rest) (fails || later)

pub one_told : (IsTold : Tenant → List Tenant → List ℕ → Bool → Type 0) (all : List Tenant) (i : ℕ) (one : Tenant) (old new front : List ℕ) (fails ends first : Bool)
    → i < length all → one ≡ get_or all i one → IsTold one (drop (i + 1) all) front first → new ≡ old ++ front → ends ≡ (fails || first)
    → ToldSoFar IsTold all i old fails → ToldSoFar IsTold all (i + 1) new ends
one_told IsTold all i one old new front fails ends first inside at is text same so_far rest later told =
    let here : InTurn IsTold (drop i all) (front ++ rest) (first || later) =
    subst (λ l. InTurn IsTold l (front ++ rest) (first || later)) (sym (at_place all i one inside at)) (front, rest, first, later, is, told, refl, refl) in
    subst (λ t. InTurn IsTold all t (ends || later)) (sym (ap (λ t. t ++ rest) text ∙ append_assoc old front rest))
    (subst (λ f. InTurn IsTold all (old ++ (front ++ rest)) f) (sym (ap (λ f. f || later) same ∙ or_assoc fails first later)) (so_far (front ++ rest) (first || later) here))

pub all_told : (IsTold : Tenant → List Tenant → List ℕ → Bool → Type 0) (all : List Tenant) (i : ℕ) (text : List ℕ) (fails : Bool) → length all ≤ i
    → ToldSoFar IsTold all i text fails → InTurn IsTold all text fails
all_told IsTold all i text fails past so_far =
    subst (λ t. InTurn IsTold all t fails) (append_nil text)
    (subst (λ f. InTurn IsTold all (text ++ []) f) (or_false fails)
    (so_far [] false (subst (λ l. InTurn IsTold l [] false) (sym (drop_all i all past)) (refl, refl))))

-- an element of a list, seen through a function
pub seen_at : {X Y : Type 0} (f : X → Y) (xs : List X) (i : ℕ) (x : X) → i < length xs → x ≡ get_or xs i x → f x ≡ get_or (map f xs) i (f x)
seen_at f [] i x inside at = absurd (omega (arith, inside))
seen_at f (y ∷ ys) zero x inside at = ap f at
seen_at f (y ∷ ys) (suc i) x inside at =
    let within : i < length ys = omega (arith, inside) in
    seen_at f ys i x within at

-- the entities of a list of more than entities, seen so far
pub seen_tenant : {X : Type 0} (f : X → Holder) (all : List X) (i : ℕ) (one : X) (before after : List Tenant) (tenant : Tenant) → i < length all → one ≡ get_or all i one
    → IsTenant (f one) tenant → after ≡ before ++ tenant ∷ [] → SoFar (map f all) i before → SoFar (map f all) (i + 1) after
seen_tenant f all i one before after tenant inside at is same so_far =
    one_tenant (map f all) i (f one) before after tenant (subst (λ n. i < n) (sym (length-map all f)) inside) (seen_at f all i one inside at) is same so_far

pub seen_left_out : {X : Type 0} (f : X → Holder) (all : List X) (i : ℕ) (one : X) (before : List Tenant) → i < length all → one ≡ get_or all i one
    → IsUnjudged (f one) → SoFar (map f all) i before → SoFar (map f all) (i + 1) before
seen_left_out f all i one before inside at is so_far =
    one_left_out (map f all) i (f one) before (subst (λ n. i < n) (sym (length-map all f)) inside) (seen_at f all i one inside at) is so_far

pub seen_all : {X : Type 0} (f : X → Holder) (all : List X) (i : ℕ) (tenants : List Tenant) → length all ≤ i → SoFar (map f all) i tenants → AreTenants (map f all) tenants
seen_all f all i tenants past so_far = all_tenants (map f all) i tenants (subst (λ n. n ≤ i) (sym (length-map all f)) past) so_far
