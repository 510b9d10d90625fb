-- The answers of a list's pieces, put together one after another.
use Prim.Native.Nat.{suc}
use Rattle.std.proofs.Common.{◌≡◌, ◌∙◌, ℕ, ◌+◌, ◌-◌, ◌<◌, List, [], ◌∷◌, ◌++◌, Bool, true, false, cond, if◌then◌else◌, Option, Some, None, String, string_bytes, map, unwrap_or, refl, sym, ap, arith, append-nil}
use Rattle.std.specs.List.{flat_map, find, range_with_len}
use Rattle.std.specs.Option.{option_map, option_or}
use Rattle.std.specs.BTreeSet.{insert_key}
use Rattle.std.specs.Ordering.{match_ordering}
use Rattle.std.specs.declared.alloc.Global.{Global}
use Rattle.std.specs.declared.cmp.Ordering.{Ordering}
use Rattle.std.specs.declared.cmp.Ordering.TheVariants.{Less, Equal, Greater}
use Rattle.std.proofs.lemmas.List.Sums.{fold-append}
use Rattle.entry_core.specs.Laws.{is_denied}
use Rattle.store_core.specs.Store.{bytes_cmp}
use Rattle.store_core.specs.declared.reply.Reply.{Reply}
use Rattle.store_core.specs.declared.reply.Reply.TheVariants.{Names}
use Rattle.world_front.specs.declared.session.ListRange.{ListRange}
use Rattle.world_core.specs.Listing.{consed, all_of, joined, listing_of}
use Rattle.world_front.specs.Joining.{names_in}
use Rattle.world_front.specs.Joining.{with_names, with_reply, reply_of, joined_with}
use Rattle.world_front.specs.declared.joined.Joined.{Joined}

-- ---- answers

with_next : (j : Joined) (r : Reply) (rs : List Reply) → joined_with (with_reply j r) rs ≡ joined_with j (r ∷ rs)
with_next j r rs =
    ap (λ o. unwrap_or o (Names (with_names (with_names j.names (names_in r)) (flat_map names_in rs)))) (first_one j.denial (is_denied r))
    ∙ ap (λ l. unwrap_or (option_or j.denial (find is_denied (r ∷ rs))) (Names l)) (sym (fold-append (insert_key bytes_cmp) j.names (names_in r) (flat_map names_in rs)))
  where
    first_one : (d : Option Reply) (b : Bool) → option_or (option_or d (if b then Some r else None)) (find is_denied rs) ≡ option_or d (cond b (Some r) (find is_denied rs))
    first_one (Some x) b = refl
    first_one None true = refl
    first_one None false = refl

with_none : (j : Joined) → joined_with j [] ≡ reply_of j
with_none j = ap (λ o. unwrap_or o (Names j.names)) (same j.denial)
  where
    same : (d : Option Reply) → option_or d None ≡ d
    same None = refl
    same (Some x) = refl

-- ---- pieces

-- what is left of a list from a piece on
abbrev pub rest_of : (ℕ → Option Reply) → ListRange → ℕ → Option (List Reply)
rest_of answer p place = all_of (map answer (range_with_len (p.first + place) (p.count - place)))

rest_is : (answer : ℕ → Option Reply) (p : ListRange) (place : ℕ) → place < p.count → rest_of answer p place ≡ consed (answer (p.first + place)) (rest_of answer p (place + 1))
rest_is answer p place less =
    let more : p.count - place ≡ suc (p.count - (place + 1)) = omega arith in
    let next : p.first + place + 1 ≡ p.first + (place + 1) = omega arith in
    ap (λ n. all_of (map answer (range_with_len (p.first + place) n))) more ∙ ap (λ k. consed (answer (p.first + place)) (all_of (map answer (range_with_len k (p.count - (place + 1)))))) next

pub begins : (answer : ℕ → Option Reply) (p : ListRange) → option_map (joined_with (record { denial = None; names = [] })) (rest_of answer p 0) ≡ listing_of answer p
begins answer p =
    let from : p.first + 0 ≡ p.first = omega arith in
    let all : p.count - 0 ≡ p.count = omega arith in
    ap (λ k. option_map joined (all_of (map answer (range_with_len k (p.count - 0))))) from ∙ ap (λ n. option_map joined (all_of (map answer (range_with_len p.first n)))) all

pub one_more : (answer : ℕ → Option Reply) (p : ListRange) (place : ℕ) (j : Joined) (r : Reply) → place < p.count → Some r ≡ answer (p.first + place)
    → option_map (joined_with (with_reply j r)) (rest_of answer p (place + 1)) ≡ option_map (joined_with j) (rest_of answer p place)
one_more answer p place j r less is = sym (ap (option_map (joined_with j)) (rest_is answer p place less ∙ ap (λ o. consed o (rest_of answer p (place + 1))) (sym is)) ∙ go (rest_of answer p (place + 1)))
  where
    go : (o : Option (List Reply)) → option_map (joined_with j) (consed (Some r) o) ≡ option_map (joined_with (with_reply j r)) o
    go None = refl
    go (Some rs) = ap Some (sym (with_next j r rs))

pub one_open : (answer : ℕ → Option Reply) (p : ListRange) (place : ℕ) (j : Joined) → place < p.count → None ≡ answer (p.first + place)
    → None ≡ option_map (joined_with j) (rest_of answer p place)
one_open answer p place j less is = sym (ap (option_map (joined_with j)) (rest_is answer p place less ∙ ap (λ o. consed o (rest_of answer p (place + 1))) (sym is)))

pub ends : (answer : ℕ → Option Reply) (p : ListRange) (place : ℕ) (j : Joined) → place ≡ p.count → Some (reply_of j) ≡ option_map (joined_with j) (rest_of answer p place)
ends answer p place j is =
    let none : p.count - place ≡ 0 = omega arith in
    sym (ap (λ n. option_map (joined_with j) (all_of (map answer (range_with_len (p.first + place) n)))) none ∙ ap Some (with_none j))
