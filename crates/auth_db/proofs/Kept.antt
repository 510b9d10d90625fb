-- What each change keeps of the users.
use Rattle.std.proofs.Common.{◌≡◌, ℕ, ◌+◌, ◌<◌, ◌≤◌, List, [], true, false, cond, Option, Some, length, sym, ap, ◌∙◌, subst, arith}
use Rattle.std.specs.List.{All}
use Rattle.std.specs.Ordering.{nat_cmp}
use Rattle.std.specs.Cmp.Lexicographic.{slice_cmp}
use Rattle.std.specs.Map.{keys_of, values_of}
use Rattle.std.specs.Option.{IfSome}
use Rattle.std.proofs.lemmas.List.Elements.{All-nil}
use Rattle.std.proofs.lemmas.Map.Views.{All-keys-insert_entry, All-values-insert_entry, All-map-remove_entry, IfSome-lookup_from_All}
use Rattle.grant_core.specs.Flat.{Table}
use Rattle.auth_db.specs.declared.caps.Caps.{Caps}
use Rattle.auth_db.specs.Names.{is_user_name}
use Rattle.auth_db.specs.Users.{Users, IsStored, IsKept, is_name, user_at, has_user, with_user, without_user}

-- a user's name
abbrev IsNamed : List ℕ → Type 0
IsNamed name = is_user_name name ≡ true

pub kept_none : (table : Table) → IsKept table []
kept_none table = record { few = omega arith; named = All-nil IsNamed; stored = All-nil (IsStored table) }

named_with : (users news : Users) (name : List ℕ) (caps : Caps) → All IsNamed (keys_of users) → IsNamed name → news ≡ with_user users name caps → All IsNamed (keys_of news)
named_with users news name caps named new is = subst (λ us. All IsNamed (keys_of us)) (sym is) (All-keys-insert_entry (slice_cmp nat_cmp) name caps IsNamed users named new)

stored_with : (table : Table) (users news : Users) (name : List ℕ) (caps : Caps) → All (IsStored table) (values_of users) → IsStored table caps → news ≡ with_user users name caps → All (IsStored table) (values_of news)
stored_with table users news name caps stored new is =
    subst (λ us. All (IsStored table) (values_of us)) (sym is) (All-values-insert_entry (slice_cmp nat_cmp) name caps (IsStored table) users stored new)

-- a user who was not there, where there is room
pub kept_new : (table : Table) (users news : Users) (name : List ℕ) (caps : Caps) → IsKept table users → IsNamed name → IsStored table caps → news ≡ with_user users name caps
    → length news ≡ length users + cond (has_user users name) 0 1 → has_user users name ≡ false → length users < 1024 → IsKept table news
kept_new table users news name caps kept named stored is len fresh room =
    let l : length news ≡ length users + 1 = len ∙ ap (λ b. length users + cond b 0 1) fresh in
    record { few = omega arith; named = named_with users news name caps kept.named named is; stored = stored_with table users news name caps kept.stored stored is }

-- a user who was there
pub kept_set : (table : Table) (users news : Users) (name : List ℕ) (caps : Caps) → IsKept table users → IsNamed name → IsStored table caps → news ≡ with_user users name caps
    → length news ≡ length users + cond (has_user users name) 0 1 → has_user users name ≡ true → IsKept table news
kept_set table users news name caps kept named stored is len there =
    let l : length news ≡ length users + 0 = len ∙ ap (λ b. length users + cond b 0 1) there in
    let few : length users ≤ 1024 = kept.few in
    record { few = omega arith; named = named_with users news name caps kept.named named is; stored = stored_with table users news name caps kept.stored stored is }

pub kept_without : (table : Table) (users news : Users) (name : List ℕ) → IsKept table users → news ≡ without_user users name → length news ≤ length users → IsKept table news
kept_without table users news name kept is len =
    let few : length users ≤ 1024 = kept.few in
    record {
      few = omega arith;
      named = subst (λ us. All IsNamed (keys_of us)) (sym is) (All-map-remove_entry (is_name name) (λ e. e.0) IsNamed users kept.named);
      stored = subst (λ us. All (IsStored table) (values_of us)) (sym is) (All-map-remove_entry (is_name name) (λ e. e.1) (IsStored table) users kept.stored);
    }

pub kept_same : (table : Table) (users news : Users) → IsKept table users → news ≡ users → IsKept table news
kept_same table users news kept is = subst (IsKept table) (sym is) kept

some_stored : (table : Table) (found : Option Caps) (caps : Caps) → found ≡ Some caps → IfSome found (IsStored table) → IsStored table caps
some_stored table found caps is h = rw is at h

-- the texts of a user who is found may be stored
pub stored_at : (table : Table) (users : Users) (name : List ℕ) (caps : Caps) → IsKept table users → user_at users name ≡ Some caps → IsStored table caps
stored_at table users name caps kept is = some_stored table (user_at users name) caps is (IfSome-lookup_from_All (IsStored table) (is_name name) users kept.stored)
