-- Each possible target with names that a map takes is one of some map: the commands that make it.
use Rattle.std.proofs.Common.{◌≡◌, ◌≢◌, ℕ, zero, suc, ◌+◌, ◌-◌, ◌*◌, ◌<◌, ◌≤◌, List, [], ◌∷◌, ◌++◌, Bool, true, false, not, ◌||◌, ◌&&◌, cond, length, take, fold, find, map, is_some, All, nat_le, Option, Some, None, refl, sym, ap, ◌∙◌, arith, subst, append_assoc, length-append}
use Rattle.std.specs.Bool.{⊤}
use Rattle.std.specs.List.{AllPairs, list_any}
use Rattle.std.specs.Option.{option_map, option_map_or}
use Rattle.std.specs.Str.{bytes_eq}
use Rattle.std.proofs.lemmas.Bool.{false≢true}
use Rattle.std.proofs.lemmas.Bool.Decides.{nat_tests}
use Rattle.std.proofs.lemmas.Slice.Eq.{bytes_eq-Decides}
use Rattle.std.proofs.lemmas.List.{append-nil}
use Rattle.std.proofs.lemmas.List.Elements.{All-nil, All-cons, All-head, All-tail, All-push}
use Rattle.std.proofs.lemmas.List.Sums.{fold-append}
use Rattle.std.proofs.Math.Seq.{take-length}
use Rattle.common_types.specs.declared.tags.AppTags.{AppTags}
use Rattle.map_core.specs.State.{MapState, History}
use Rattle.map_core.specs.Map.{change_first, is_named, is_app, is_key, put_pair, with_pairs, tags_after, tagged, created, pools_after, after, initial, map_after, map_of, epoch_of, pool_in, view_of, view_at}
use Rattle.map_core.specs.Refusal.{first_of, refusal, tests, tags_in, pairs_in, has_app, has_key, has_pool, is_word, in_limits, is_last}
use Rattle.map_core.specs.Limits.{AcceptedFrom}
use Rattle.map_core.specs.PossibleTags.{ArePossible}
use Rattle.map_core.specs.declared.fault.MapFault.{MapFault}
use Rattle.map_core.specs.declared.pool.Pool.{Pool}
use Rattle.map_core.specs.declared.pool.PoolView.{PoolView}
use Rattle.map_core.specs.declared.command.MapCommand.{MapCommand}
use Rattle.map_core.specs.declared.command.MapCommand.TheVariants.{PoolCreate, AppEnable, AppSet}
use Rattle.request_types.specs.Target.{Target}
use Rattle.share_core.specs.Held.{IsHeld, IsPairOfWords, HasWords, CanBeNamed, TargetsAreHeld}

abbrev Pair : Type 0
Pair = List ℕ × List ℕ

-- ---- lists whose elements differ

rest_of_pairs : {X : Type 0} (R : X → X → Type 0) (x : X) (xs : List X) → AllPairs R (x ∷ xs) → AllPairs R xs
rest_of_pairs R x xs h i j d low high = h (suc i) (suc j) d (omega arith) (omega arith)

first_of_pairs : {X : Type 0} (R : X → X → Type 0) (x : X) (xs : List X) → AllPairs R (x ∷ xs) → All (R x) xs
first_of_pairs R x xs h k d low = h 0 (suc k) d (omega arith) (omega arith)

all_at : {X : Type 0} (P : X → Type 0) (xs : List X) (y : X) (ys : List X) → All P (xs ++ y ∷ ys) → P y
all_at P [] y ys h = All-head P y ys h
all_at P (x ∷ xs) y ys h = all_at P xs y ys (All-tail P x (xs ++ y ∷ ys) h)

-- each element before one differs from it
before_one : {X : Type 0} (R : X → X → Type 0) (xs : List X) (y : X) (ys : List X) → AllPairs R (xs ++ y ∷ ys) → All (λ x. R x y) xs
before_one R [] y ys h = All-nil (λ x. R x y)
before_one R (x ∷ xs) y ys h = All-cons (λ z. R z y) x xs (all_at (R x) xs y ys (first_of_pairs R x (xs ++ y ∷ ys) h)) (before_one R xs y ys (rest_of_pairs R x (xs ++ y ∷ ys) h))

all_so : {X : Type 0} (P Q : X → Type 0) → ((x : X) → P x → Q x) → (xs : List X) → All P xs → All Q xs
all_so P Q f [] h = All-nil Q
all_so P Q f (x ∷ xs) h = All-cons Q x xs (f x (All-head P x xs h)) (all_so P Q f xs (All-tail P x xs h))

other_bytes : (a b : List ℕ) → a ≢ b → bytes_eq a b ≡ false
other_bytes a b h = go (bytes_eq a b) refl
  where
    go : (t : Bool) → bytes_eq a b ≡ t → t ≡ false
    go true is = absurd (h ((bytes_eq-Decides a b).0 is))
    go false is = refl

same_bytes : (a : List ℕ) → bytes_eq a a ≡ true
same_bytes a = (bytes_eq-Decides a a).1 refl

none_of : {X : Type 0} (test : X → Bool) (xs : List X) → All (λ x. test x ≡ false) xs → list_any test xs ≡ false
none_of test [] h = refl
none_of test (x ∷ xs) h = ap (λ b. b || list_any test xs) (All-head (λ y. test y ≡ false) x xs h) ∙ none_of test xs (All-tail (λ y. test y ≡ false) x xs h)

some_last : {X : Type 0} (test : X → Bool) (xs : List X) (y : X) → test y ≡ true → list_any test (xs ++ y ∷ []) ≡ true
some_last test [] y h = ap (λ b. b || false) h
some_last test (x ∷ xs) y h = go (test x) (some_last test xs y h)
  where
    go : (b : Bool) → list_any test (xs ++ y ∷ []) ≡ true → (b || list_any test (xs ++ y ∷ [])) ≡ true
    go true rest = refl
    go false rest = rest

found_last : {X : Type 0} (test : X → Bool) (xs : List X) (y : X) → All (λ x. test x ≡ false) xs → test y ≡ true → find test (xs ++ y ∷ []) ≡ Some y
found_last test [] y none h = ap (λ b. cond b (Some y) None) h
found_last test (x ∷ xs) y none h =
    ap (λ b. cond b (Some x) (find test (xs ++ y ∷ []))) (All-head (λ z. test z ≡ false) x xs none) ∙ found_last test xs y (All-tail (λ z. test z ≡ false) x xs none) h

-- ---- one pool

abbrev pool_with : List ℕ → List AppTags → Pool
pool_with name tags = record { name = name; pg_num = 1; size = 1; min_size = 1; tags = tags }

abbrev map_with : List ℕ → List AppTags → MapState
map_with name tags = record { daemons = 1; pools = pool_with name tags ∷ []; up = (initial 1).up }

is_the_pool : (name : List ℕ) (tags : List AppTags) → pool_in (pool_with name tags ∷ []) name ≡ Some (pool_with name tags)
unfolding pool_in
is_the_pool name tags = ap (λ b. cond b (Some (pool_with name tags)) None) (same_bytes name)

tags_are : (name : List ℕ) (tags : List AppTags) → tags_in (pool_with name tags ∷ []) name ≡ tags
unfolding tags_in
tags_are name tags = ap (λ o. option_map_or (λ (p : Pool). p.tags) o []) (is_the_pool name tags)

has_it : (name : List ℕ) (tags : List AppTags) → has_pool (pool_with name tags ∷ []) name ≡ true
has_it name tags = ap is_some (is_the_pool name tags)

abbrev app_with : List ℕ → List Pair → AppTags
app_with app pairs = record { application = app; pairs = pairs }

after_enable : (name : List ℕ) (tags : List AppTags) (app : List ℕ) → after (map_with name tags) (AppEnable name app) ≡ map_with name (tags ++ app_with app [] ∷ [])
after_enable name tags app =
    ap (λ b. record (map_with name tags) { pools = cond b (tagged (AppEnable name app) (pool_with name tags) ∷ []) (pool_with name tags ∷ []) }) (same_bytes name)

put_last : (key value : List ℕ) (pairs : List Pair) → All (λ (p : Pair). is_key key p ≡ false) pairs → put_pair key value pairs ≡ pairs ++ (key, value) ∷ []
put_last key value [] h = refl
put_last key value (p ∷ pairs) h =
    ap (λ b. cond b ((p.0, value) ∷ pairs) (p ∷ put_pair key value pairs)) (All-head (λ (q : Pair). is_key key q ≡ false) p pairs h)
    ∙ ap (λ l. p ∷ l) (put_last key value pairs (All-tail (λ (q : Pair). is_key key q ≡ false) p pairs h))

abbrev changed_pairs : (List Pair → List Pair) → AppTags → AppTags
changed_pairs change a = record a { pairs = change a.pairs }

last_changed : (app : List ℕ) (change : List Pair → List Pair) (tags : List AppTags) (pairs : List Pair) → All (λ (a : AppTags). is_app app a ≡ false) tags
    → with_pairs app change (tags ++ app_with app pairs ∷ []) ≡ tags ++ app_with app (change pairs) ∷ []
last_changed app change [] pairs h = ap (λ b. cond b (app_with app (change pairs) ∷ []) (app_with app pairs ∷ [])) (same_bytes app)
last_changed app change (a ∷ tags) pairs h =
    ap (λ b. cond b (changed_pairs change a ∷ (tags ++ app_with app pairs ∷ [])) (a ∷ with_pairs app change (tags ++ app_with app pairs ∷ []))) (All-head (λ (c : AppTags). is_app app c ≡ false) a tags h)
    ∙ ap (λ l. a ∷ l) (last_changed app change tags pairs (All-tail (λ (c : AppTags). is_app app c ≡ false) a tags h))

after_set : (name : List ℕ) (tags : List AppTags) (app key value : List ℕ) (pairs : List Pair) → All (λ (a : AppTags). is_app app a ≡ false) tags → All (λ (p : Pair). is_key key p ≡ false) pairs
    → after (map_with name (tags ++ app_with app pairs ∷ [])) (AppSet name app key value) ≡ map_with name (tags ++ app_with app (pairs ++ (key, value) ∷ []) ∷ [])
after_set name tags app key value pairs others new =
    let t : List AppTags = tags ++ app_with app pairs ∷ [] in
    ap (λ b. record (map_with name t) { pools = cond b (tagged (AppSet name app key value) (pool_with name t) ∷ []) (pool_with name t ∷ []) }) (same_bytes name)
    ∙ ap (map_with name) (last_changed app (put_pair key value) tags pairs others ∙ ap (λ l. tags ++ app_with app l ∷ []) (put_last key value pairs new))

-- ---- nothing is refused

abbrev AllFalse : List (Bool × MapFault) → Type 0
AllFalse [] = ⊤
AllFalse (t ∷ ts) = (t.0 ≡ false) × AllFalse ts

no_fault : (ts : List (Bool × MapFault)) → AllFalse ts → first_of ts ≡ None
no_fault [] h = refl
no_fault (t ∷ ts) h = ap (λ b. cond b (Some t.1) (first_of ts)) h.0 ∙ no_fault ts h.1

not_true : (a : Bool) → a ≡ true → not a ≡ false
not_true a h = ap not h

or_false : (a b : Bool) → a ≡ false → b ≡ false → (a || b) ≡ false
or_false a b h k = ap (λ x. x || b) h ∙ k

early : (epoch : ℕ) → epoch ≤ 65000 → is_last epoch ≡ false
early epoch h = grind (arith, nat_tests)

fewer : (m n : ℕ) → n < m → nat_le m n ≡ false
fewer m n h = grind (arith, nat_tests)

takes_application : (name : List ℕ) (tags : List AppTags) (app : List ℕ) (epoch : ℕ) → is_word name ≡ true → is_word app ≡ true → All (λ (a : AppTags). is_app app a ≡ false) tags → length tags < 8 → epoch ≤ 65000
    → refusal (map_with name tags) epoch (AppEnable name app) ≡ None
unfolding refusal has_app
takes_application name tags app epoch named word new room time =
    let is = tags_are name tags in
    no_fault (tests (map_with name tags) epoch (AppEnable name app)) (
      or_false (not (is_word name)) (not (is_word app)) (not_true (is_word name) named) (not_true (is_word app) word),
      (
        not_true (has_pool (pool_with name tags ∷ []) name) (has_it name tags),
        (
          ap (λ l. has_app l app) is ∙ none_of (is_app app) tags new,
          (
            or_false (nat_le 8 (length (tags_in (pool_with name tags ∷ []) name))) (is_last epoch) (ap (λ l. nat_le 8 (length l)) is ∙ fewer 8 (length tags) room) (early epoch time),
            tt,
          ),
        ),
      ),
    )

takes_pair : (name : List ℕ) (tags : List AppTags) (app key value : List ℕ) (pairs : List Pair) (epoch : ℕ) → is_word name ≡ true → is_word app ≡ true → is_word key ≡ true → is_word value ≡ true
    → All (λ (a : AppTags). is_app app a ≡ false) tags → length pairs < 16 → epoch ≤ 65000 → refusal (map_with name (tags ++ app_with app pairs ∷ [])) epoch (AppSet name app key value) ≡ None
unfolding refusal has_app pairs_in
takes_pair name tags app key value pairs epoch named word keyed valued others room time =
    let t : List AppTags = tags ++ app_with app pairs ∷ [] in
    let is = tags_are name t in
    let own : pairs_in t app ≡ pairs = ap (λ o. option_map_or (λ (a : AppTags). a.pairs) o []) (found_last (is_app app) tags (app_with app pairs) others (same_bytes app)) in
    let few : nat_le 16 (length (pairs_in (tags_in (pool_with name t ∷ []) name) app)) ≡ false = ap (λ l. nat_le 16 (length (pairs_in l app))) is ∙ ap (λ l. nat_le 16 (length l)) own ∙ fewer 16 (length pairs) room in
    no_fault (tests (map_with name t) epoch (AppSet name app key value)) (
      or_false _ _ (or_false _ _ (or_false _ _ (not_true (is_word name) named) (not_true (is_word app) word)) (not_true (is_word key) keyed)) (not_true (is_word value) valued),
      (
        not_true (has_pool (pool_with name t ∷ []) name) (has_it name t),
        (
          not_true (has_app (tags_in (pool_with name t ∷ []) name) app) (ap (λ l. has_app l app) is ∙ some_last (is_app app) tags (app_with app pairs) (same_bytes app)),
          (
            or_false _ _ (and_false _ _ few) (early epoch time),
            tt,
          ),
        ),
      ),
    )
  where
    and_false : (a b : Bool) → b ≡ false → (a && b) ≡ false
    and_false true b h = h
    and_false false b h = refl

-- ---- the commands that make the tags

set_commands : List ℕ → List ℕ → List Pair → List MapCommand
set_commands name app [] = []
set_commands name app (p ∷ pairs) = AppSet name app p.0 p.1 ∷ set_commands name app pairs

tag_commands : List ℕ → List AppTags → List MapCommand
tag_commands name [] = []
tag_commands name (a ∷ tags) = AppEnable name a.application ∷ (set_commands name a.application a.pairs ++ tag_commands name tags)

-- commands that are accepted, and what they leave
record Makes (state : MapState) (epoch : ℕ) (commands : List MapCommand) (end : MapState) : Type 0 where
  accepted : AcceptedFrom state epoch commands
  ends : fold after state commands ≡ end

-- one more before
makes_first : (state : MapState) (epoch : ℕ) (command : MapCommand) (commands : List MapCommand) (next end : MapState) → refusal state epoch command ≡ None → after state command ≡ next → Makes next (epoch + 1) commands end → Makes state epoch (command ∷ commands) end
makes_first state epoch command commands next end taken is rest =
    let P : MapState → Type 0 = λ s. Makes s (epoch + 1) commands end in
    let here : Makes (after state command) (epoch + 1) commands end = subst P (sym is) rest in
    record { accepted = (taken, here.accepted); ends = here.ends }

makes_both : (state : MapState) (epoch : ℕ) (first rest : List MapCommand) (middle end : MapState) → Makes state epoch first middle → Makes middle (epoch + length first) rest end → Makes state epoch (first ++ rest) end
makes_both state epoch [] rest middle end one two =
    let P : MapState → Type 0 = λ s. Makes s epoch rest end in
    let at : Makes middle epoch rest end = subst (λ (n : ℕ). Makes middle n rest end) (omega arith) two in
    subst P (sym one.ends) at
makes_both state epoch (c ∷ first) rest middle end one two =
    let later : Makes middle (epoch + 1 + length first) rest end = subst (λ (n : ℕ). Makes middle n rest end) (omega arith) two in
    let tail : Makes (after state c) (epoch + 1) (first ++ rest) end = makes_both (after state c) (epoch + 1) first rest middle end (record { accepted = one.accepted.1; ends = one.ends }) later in
    record { accepted = (one.accepted.0, tail.accepted); ends = tail.ends }

set_count : (name app : List ℕ) (pairs : List Pair) → length (set_commands name app pairs) ≡ length pairs
unfolding set_commands
set_count name app [] = refl
set_count name app (p ∷ pairs) = ap suc (set_count name app pairs)

makes_pairs : (name : List ℕ) (tags : List AppTags) (app : List ℕ) (made pairs : List Pair) (epoch : ℕ) → is_word name ≡ true → is_word app ≡ true → All (λ (a : AppTags). is_app app a ≡ false) tags
    → AllPairs (λ (p q : Pair). p.0 ≢ q.0) (made ++ pairs) → All IsPairOfWords pairs → length made + length pairs ≤ 16 → epoch + length pairs ≤ 65000
    → Makes (map_with name (tags ++ app_with app made ∷ [])) epoch (set_commands name app pairs) (map_with name (tags ++ app_with app (made ++ pairs) ∷ []))
unfolding set_commands
makes_pairs name tags app made [] epoch named word others apart words few time =
    record { accepted = tt; ends = ap (λ l. map_with name (tags ++ app_with app l ∷ [])) (sym (append-nil made)) }
makes_pairs name tags app made (p ∷ pairs) epoch named word others apart words few time =
    let here : IsPairOfWords p = All-head IsPairOfWords p pairs words in
    let new : All (λ (q : Pair). is_key p.0 q ≡ false) made =
    all_so (λ (q : Pair). q.0 ≢ p.0) (λ (q : Pair). is_key p.0 q ≡ false) (λ q. other_bytes q.0 p.0) made (before_one (λ (q r : Pair). q.0 ≢ r.0) made p pairs apart) in
    let joined : made ++ p ∷ pairs ≡ (made ++ p ∷ []) ++ pairs = sym (append_assoc made (p ∷ []) pairs) in
    let size = length-append made (p ∷ []) in
    let rest : Makes (map_with name (tags ++ app_with app (made ++ p ∷ []) ∷ [])) (epoch + 1) (set_commands name app pairs) (map_with name (tags ++ app_with app ((made ++ p ∷ []) ++ pairs) ∷ [])) =
    makes_pairs name tags app (made ++ p ∷ []) pairs (epoch + 1) named word others (subst (AllPairs (λ (q r : Pair). q.0 ≢ r.0)) joined apart) (All-tail IsPairOfWords p pairs words) (omega (arith, size, few)) (omega (arith, time)) in
    let there : Makes (map_with name (tags ++ app_with app (made ++ p ∷ []) ∷ [])) (epoch + 1) (set_commands name app pairs) (map_with name (tags ++ app_with app (made ++ p ∷ pairs) ∷ [])) =
    subst (λ (l : List Pair). Makes (map_with name (tags ++ app_with app (made ++ p ∷ []) ∷ [])) (epoch + 1) (set_commands name app pairs) (map_with name (tags ++ app_with app l ∷ []))) (sym joined) rest in
    makes_first (map_with name (tags ++ app_with app made ∷ [])) epoch (AppSet name app p.0 p.1) (set_commands name app pairs) (map_with name (tags ++ app_with app (made ++ p ∷ []) ∷ [])) (map_with name (tags ++ app_with app (made ++ p ∷ pairs) ∷ []))
    (takes_pair name tags app p.0 p.1 made epoch named word here.0 here.1 others (omega (arith, few)) (omega (arith, time)))
    (after_set name tags app p.0 p.1 made others new)
    there

makes_tags : (name : List ℕ) (made tags : List AppTags) (epoch : ℕ) → is_word name ≡ true → AllPairs (λ (a b : AppTags). a.application ≢ b.application) (made ++ tags)
    → All (λ (a : AppTags). AllPairs (λ (p q : Pair). p.0 ≢ q.0) a.pairs) tags → All HasWords tags → length made + length tags ≤ 8 → epoch + 17 * length tags ≤ 60000
    → Makes (map_with name made) epoch (tag_commands name tags) (map_with name (made ++ tags))
unfolding tag_commands
makes_tags name made [] epoch named apart keys words few time = record { accepted = tt; ends = ap (map_with name) (sym (append-nil made)) }
makes_tags name made (a ∷ tags) epoch named apart keys words few time =
    let has : HasWords a = All-head HasWords a tags words in
    let own = has.few in
    let others : All (λ (b : AppTags). is_app a.application b ≡ false) made =
    all_so (λ (b : AppTags). b.application ≢ a.application) (λ (b : AppTags). is_app a.application b ≡ false) (λ b. other_bytes b.application a.application) made
    (before_one (λ (b c : AppTags). b.application ≢ c.application) made a tags apart) in
    let joined : made ++ a ∷ tags ≡ (made ++ a ∷ []) ++ tags = sym (append_assoc made (a ∷ []) tags) in
    let size = length-append made (a ∷ []) in
    let count = set_count name a.application a.pairs in
    let pairs : Makes (map_with name (made ++ app_with a.application [] ∷ [])) (epoch + 1) (set_commands name a.application a.pairs) (map_with name (made ++ a ∷ [])) =
    makes_pairs name made a.application [] a.pairs (epoch + 1) named has.named others (All-head (λ (b : AppTags). AllPairs (λ (p q : Pair). p.0 ≢ q.0) b.pairs) a tags keys) has.pairs (omega (arith, own)) (omega (arith, own, time)) in
    let rest : Makes (map_with name (made ++ a ∷ [])) (epoch + 1 + length (set_commands name a.application a.pairs)) (tag_commands name tags) (map_with name ((made ++ a ∷ []) ++ tags)) =
    makes_tags name (made ++ a ∷ []) tags (epoch + 1 + length (set_commands name a.application a.pairs)) named (subst (AllPairs (λ (b c : AppTags). b.application ≢ c.application)) joined apart)
    (All-tail (λ (b : AppTags). AllPairs (λ (p q : Pair). p.0 ≢ q.0) b.pairs) a tags keys) (All-tail HasWords a tags words) (omega (arith, size, few)) (omega (arith, count, own, time)) in
    let both : Makes (map_with name (made ++ app_with a.application [] ∷ [])) (epoch + 1) (set_commands name a.application a.pairs ++ tag_commands name tags) (map_with name ((made ++ a ∷ []) ++ tags)) =
    makes_both (map_with name (made ++ app_with a.application [] ∷ [])) (epoch + 1) (set_commands name a.application a.pairs) (tag_commands name tags) (map_with name (made ++ a ∷ [])) (map_with name ((made ++ a ∷ []) ++ tags)) pairs rest in
    makes_first (map_with name made) epoch (AppEnable name a.application) (set_commands name a.application a.pairs ++ tag_commands name tags) (map_with name (made ++ app_with a.application [] ∷ [])) (map_with name (made ++ a ∷ tags))
    (takes_application name made a.application epoch named has.named others (omega (arith, few)) (omega (arith, time)))
    (after_enable name made a.application)
    (subst (λ (l : List AppTags). Makes (map_with name (made ++ app_with a.application [] ∷ [])) (epoch + 1) (set_commands name a.application a.pairs ++ tag_commands name tags) (map_with name l)) (sym joined) both)

creates : (name : List ℕ) → is_word name ≡ true → refusal (initial 1) 1 (PoolCreate name 1 1 1) ≡ None
unfolding refusal pool_in in_limits
creates name named = no_fault (tests (initial 1) 1 (PoolCreate name 1 1 1)) (not_true (is_word name) named, (refl, (refl, tt)))

pub targets_are_held : TargetsAreHeld
unfolding view_at
targets_are_held target possible named =
    let name = target.pool in
    let tags = target.tags in
    let few = named.few in
    let commands : List MapCommand = PoolCreate name 1 1 1 ∷ tag_commands name tags in
    let made : Makes (initial 1) 1 commands (map_with name tags) =
    makes_first (initial 1) 1 (PoolCreate name 1 1 1) (tag_commands name tags) (map_with name []) (map_with name tags) (creates name named.pool) refl
    (makes_tags name [] tags 2 named.pool possible.0 possible.1 named.apps (omega (arith, few)) (omega (arith, few))) in
    let all : take (length commands + 1 - 1) commands ≡ commands = ap (λ n. take n commands) (less_one (length commands)) ∙ take-length commands in
    record {
      history = record { daemons = 1; commands = commands };
      accepted = made.accepted;
      view = view_of (length commands + 1) (pool_with name tags);
      found = ap (λ l. option_map (view_of (length commands + 1)) (pool_in (map_after 1 l).pools name)) all
          ∙ ap (λ (s : MapState). option_map (view_of (length commands + 1)) (pool_in s.pools name)) made.ends
          ∙ ap (option_map (view_of (length commands + 1))) (is_the_pool name tags);
      tags = refl;
    }
  where
    less_one : (n : ℕ) → n + 1 - 1 ≡ n
    less_one n = omega arith
