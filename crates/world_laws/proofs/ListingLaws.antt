-- What the listings of a world tell.
use Prim.Native.Nat.{zero, suc}
use Rattle.std.proofs.Common.{◌≡◌, ◌∙◌, ℕ, ◌+◌, ◌<◌, ◌≤◌, ◌==◌, ◌||◌, List, ◌∷◌, ◌++◌, Bool, true, false, not, cond, if◌then◌else◌, Option, Some, None, Result, Ok, Err, is_some, map, length, fold, unwrap_or, refl, sym, ap, subst, arith, append-nil, append_assoc, []}
use Rattle.std.specs.List.{flat_map, range_with_len, find as list_find}
use Rattle.std.specs.Option.{option_map}
use Rattle.std.specs.Cmp.{unsigned_Decides}
use Rattle.std.proofs.lemmas.List.FromFn.{length-map-range_with_len}
use Rattle.grant_core.specs.Flat.{Table}
use Rattle.map_core.specs.State.{History}
use Rattle.map_core.specs.declared.command.MapCommand.{MapCommand}
use Rattle.store_core.specs.Request.{Sealed, Listing}
use Rattle.store_core.specs.Deciding.{store_of, is_allowed_sealed, answer_on, answered as replied, performed}
use Rattle.entry_core.specs.Log.{Legal, LegalFrom, decide, is_in, ids}
use Rattle.entry_core.specs.Laws.{is_denied}
use Rattle.store_core.specs.declared.entry.Entry.{Entry}
use Rattle.store_core.specs.declared.reply.Reply.{Reply}
use Rattle.store_core.specs.declared.reply.Reply.TheVariants.{Names}
use Rattle.group_model_whole.specs.Each.{Each}
use Rattle.group_model.specs.Group.{submitted}
use Rattle.group_model_whole.specs.Asked.{IsAsked}
use Rattle.group_model_whole.proofs.Audits.{legal_rest}
use Rattle.world_events.specs.declared.event.Ask.{Ask}
use Rattle.world_events.specs.declared.event.Event.{Event}
use Rattle.world_events.specs.declared.event.Event.TheVariants.{Auth, Map, Open, Renew, Close, Submit, List as ListNames, Deliver, Lose, Repeat, Kick}
use Rattle.world_events.specs.declared.fault.WorldFault.{WorldFault as Fault}
use Rattle.world_events.specs.declared.fault.WorldFault.TheVariants.{BadObjectName}
use Rattle.world_front.specs.ControlPlane.{ControlPlane, Asker, ◌>>=◌, refuse_if, if_ok, asker_of, is_namespace, id_of, sealed_of, pieces_of, requests_of, requests_in, sealed_by, listed, front_step}
use Rattle.world_front.specs.declared.session.ListRange.{ListRange}
use Rattle.world_core.specs.World.{World, world_step, first_world, world_after}
use Rattle.world_core.specs.Standing.{HasNumbers}
use Rattle.world_core.specs.Answers.{answer_at, IsAnswered}
use Rattle.world_core.specs.Listing.{sorted, consed, all_of, joined, listing_of}
use Rattle.world_front.specs.Joining.{names_in}
use Rattle.world_laws.specs.Pieces.{objects_of}
use Rattle.world_laws.specs.ListingLaws.{HasPieces, ListsHavePieces, before_of, names_at, denial, IsComplete, KeepsObjects, IsUnchanged, IsListing, ListingsAreTold, AcceptedListings}
use Rattle.world_front.proofs.Bytes.{number_same}
use Rattle.world_front.specs.Stands.{InMap, FrontStands}
use Rattle.world_front.proofs.Pools.{in_later, counted}
use Rattle.world_core.proofs.Acting.{each_join, each_weaker}
use Rattle.world_front.proofs.Fronts.{Made, asker_made, bind_ok, front_stands}
use Rattle.world_core.proofs.Worlds.{world_stands, world_legal, more_submitted, first_stands, found_later}
use Rattle.world_core.proofs.Replied.{answers_are_decided}
use Rattle.world_laws.proofs.Listings.{reply_names, same_replies, none_denied, names_told, pieces_are_the_namespace}
use Rattle.world_laws.proofs.AcceptedLaws.{accepted_has_numbers}
use Rattle.world_core.proofs.Answering.{found_number}

-- ---- the pieces of a list, as the front keeps them

record Kept (f : ControlPlane) (p : ListRange) : Type 0 where
  ask : Ask
  asker : Asker
  first : p.first ≡ id_of ask.session (asker.session.next + 0)
  count : p.count ≡ asker.view.pg_num
  some : 1 ≤ p.count
  pool : InMap f.history asker.view.pool asker.view.pg_num
  submitted_as : (i : ℕ) → i < p.count → submitted f.submissions (p.first + i) ≡ Some (sealed_of ask asker Listing i i)

pieces_kept : (f : ControlPlane) (p : ListRange) → Kept f p → HasPieces f p
pieces_kept f p k = record {
  pool = k.asker.view.pool;
  namespace = k.ask.namespace;
  pieces = λ i. sealed_of k.ask k.asker Listing i i;
  some = k.some;
  groups = sym (counted f.history k.asker.view.pool k.asker.view.pg_num k.pool) ∙ sym k.count;
  submitted_as = k.submitted_as;
  are = λ i low. record { pool_is = refl; groups_is = sym k.count; namespace_is = refl; group_is = refl };
  listing = λ i low. refl;
  ticket = λ i low. refl;
  tick = λ i low. refl;
  allowed = λ i low. refl;
}

-- a front that has more requests, and more of the map's commands
record Later (f g : ControlPlane) : Type 0 where
  requests : List Sealed
  commands : List MapCommand
  submissions : g.submissions ≡ f.submissions ++ requests
  history : g.history ≡ record f.history { commands = f.history.commands ++ commands }

kept_later : (f g : ControlPlane) (p : ListRange) → Later f g → Kept f p → Kept g p
kept_later f g p later k =
    let P : History → Type 0 = λ h. InMap h k.asker.view.pool k.asker.view.pg_num in
    record {
      ask = k.ask;
      asker = k.asker;
      first = k.first;
      count = k.count;
      some = k.some;
      pool = subst P (sym later.history) (in_later f.history later.commands k.asker.view.pool k.asker.view.pg_num k.pool);
      submitted_as = λ i low. ap (λ l. submitted l (p.first + i)) later.submissions ∙ found_later f.submissions later.requests (p.first + i) (sealed_of k.ask k.asker Listing i i) (k.submitted_as i low);
    }

same_history : (h : History) → h ≡ record h { commands = h.commands ++ [] }
same_history h = ap (λ l. record h { commands = l }) (sym (append-nil h.commands))

one_later : (f : ControlPlane) (e : Event) → Later f (front_step f e)
one_later f (Map c) = record { requests = sealed_by f (Map c); commands = c ∷ []; submissions = refl; history = refl }
one_later f (Auth command) = record { requests = sealed_by f (Auth command); commands = []; submissions = refl; history = same_history f.history }
one_later f (Open entity until) = record { requests = sealed_by f (Open entity until); commands = []; submissions = refl; history = same_history f.history }
one_later f (Renew n until) = record { requests = sealed_by f (Renew n until); commands = []; submissions = refl; history = same_history f.history }
one_later f (Close n) = record { requests = sealed_by f (Close n); commands = []; submissions = refl; history = same_history f.history }
one_later f (Submit ask object ops) = record { requests = sealed_by f (Submit ask object ops); commands = []; submissions = refl; history = same_history f.history }
one_later f (ListNames ask) = record { requests = sealed_by f (ListNames ask); commands = []; submissions = refl; history = same_history f.history }
one_later f (Deliver id k) = record { requests = sealed_by f (Deliver id k); commands = []; submissions = refl; history = same_history f.history }
one_later f (Lose id k) = record { requests = sealed_by f (Lose id k); commands = []; submissions = refl; history = same_history f.history }
one_later f (Repeat id k) = record { requests = sealed_by f (Repeat id k); commands = []; submissions = refl; history = same_history f.history }
one_later f (Kick id) = record { requests = sealed_by f (Kick id); commands = []; submissions = refl; history = same_history f.history }

-- ---- a new list

record IsAsker (f : ControlPlane) (ask : Ask) (rs : List Sealed) : Type 0 where
  asker : Asker
  made : Made f ask asker
  are : rs ≡ pieces_of ask asker

list_asker : (f : ControlPlane) (ask : Ask) (rs : List Sealed) → requests_of f (ListNames ask) ≡ Ok rs → IsAsker f ask rs
unfolding requests_of requests_in
list_asker f ask rs h =
    let a = bind_ok (asker_of f ask) (λ asker.
    refuse_if (not (is_namespace ask.namespace)) BadObjectName >>= λ _.
    Ok (pieces_of ask asker)) rs h in
    let b = bind_ok (refuse_if (not (is_namespace ask.namespace)) BadObjectName) (λ _. Ok (pieces_of ask a.0)) rs a.2 in
    let result : ◌≡◌ {A = Result (List Sealed) Fault} (Ok (pieces_of ask a.0)) (Ok rs) = b.2 in
    let same : pieces_of ask a.0 ≡ rs = cc in
    record { asker = a.0; made = asker_made f ask a.0 a.1; are = sym same }

each_at : (P : Sealed → Type 0) (F : ℕ → Sealed) (k n : ℕ) → Each P (map F (range_with_len k n)) → (i : ℕ) → i < n → P (F (k + i))
each_at P F k zero all i low = absurd (omega arith)
each_at P F k (suc n) all zero low = let e : k + 0 ≡ k = omega arith in subst (λ j. P (F j)) (sym e) all.0
each_at P F k (suc n) all (suc i) low = let e : (k + 1) + i ≡ k + suc i = omega arith in subst (λ j. P (F j)) e (each_at P F (k + 1) n all.1 i (omega arith))

each_from_zero : (P : Sealed → Type 0) (F : ℕ → Sealed) (n : ℕ) → Each P (map F (range_with_len 0 n)) → (i : ℕ) → i < n → P (F i)
each_from_zero P F n all i low = let e : 0 + i ≡ i = omega arith in subst (λ j. P (F j)) e (each_at P F 0 n all i low)

listed_each : (P : ListRange → Type 0) (F : ℕ → Sealed) (n : ℕ) → (1 ≤ n → P (record { first = (F 0).id; count = n })) → Each P (listed (map F (range_with_len 0 n)))
listed_each P F zero h = tt
listed_each P F (suc n) h =
    let long : length (map F (range_with_len 0 (suc n))) ≡ suc n = length-map-range_with_len F 0 (suc n) in
    (subst (λ c. P (record { first = (F 0).id; count = c })) (sym long) (h (omega arith)), tt)

new_kept : (f g : ControlPlane) (ask : Ask) (rs : List Sealed) → Later f g → IsAsker f ask rs → Each (IsAsked g.submissions) rs → Each (Kept g) (listed rs)
new_kept f g ask rs later k all =
    let F : ℕ → Sealed = λ i. sealed_of ask k.asker Listing i i in
    let P : List Sealed → Type 0 = λ l. Each (Kept g) (listed l) in
    let Q : List Sealed → Type 0 = Each (IsAsked g.submissions) in
    let H : History → Type 0 = λ h. InMap h k.asker.view.pool k.asker.view.pg_num in
    let each : Each (IsAsked g.submissions) (pieces_of ask k.asker) = subst Q k.are all in
    subst P (sym k.are) (listed_each (Kept g) F k.asker.view.pg_num (λ some. record {
      ask = ask;
      asker = k.asker;
      first = refl;
      count = refl;
      some = some;
      pool = subst H (sym later.history) (in_later f.history later.commands k.asker.view.pool k.asker.view.pg_num k.made.pool);
      submitted_as = λ i low. (let e : id_of ask.session (k.asker.session.next + 0) + i ≡ id_of ask.session (k.asker.session.next + i) = omega arith in
          ap (submitted g.submissions) e ∙ each_from_zero (IsAsked g.submissions) F k.asker.view.pg_num each i low);
    }))

new_lists : (f : ControlPlane) (ask : Ask) (r : Result (List Sealed) Fault) → requests_of f (ListNames ask) ≡ r → Each (IsAsked (front_step f (ListNames ask)).submissions) (if_ok r [] (λ rs. rs))
    → Each (Kept (front_step f (ListNames ask))) (listed (if_ok r [] (λ rs. rs)))
new_lists f ask (Err fault) is all = tt
new_lists f ask (Ok rs) is all = new_kept f (front_step f (ListNames ask)) ask rs (one_later f (ListNames ask)) (list_asker f ask rs is) all

-- ---- histories

abbrev Lists : ControlPlane → Type 0
Lists f = Each (Kept f) f.lists

lists_step_kept : (f : ControlPlane) (e : Event) → FrontStands f → length (front_step f e).submissions < 4294967296 → Lists f → Lists (front_step f e)
lists_step_kept f e stands room all = by e (each_weaker (Kept f) (Kept (front_step f e)) (λ p k. kept_later f (front_step f e) p (one_later f e) k) f.lists all) (front_stands f e stands room).1
  where
    by : (e : Event) → Each (Kept (front_step f e)) f.lists → Each (IsAsked (front_step f e).submissions) (sealed_by f e) → Lists (front_step f e)
    by (ListNames ask) old news =
        each_join (Kept (front_step f (ListNames ask))) f.lists (listed (sealed_by f (ListNames ask))) old (new_lists f ask (requests_of f (ListNames ask)) refl news)
    by (Auth command) old news = old
    by (Map command) old news = old
    by (Open entity until) old news = old
    by (Renew n until) old news = old
    by (Close n) old news = old
    by (Submit ask object ops) old news = old
    by (Deliver id k) old news = old
    by (Lose id k) old news = old
    by (Repeat id k) old news = old
    by (Kick id) old news = old

lists_through : (es : List Event) (w : World) → FrontStands w.front → Lists w.front → length (fold world_step w es).front.submissions < 4294967296 → Lists (fold world_step w es).front
lists_through [] w stands all room = all
lists_through (e ∷ es) w stands all room =
    let b : length (world_step w e).front.submissions ≤ length (fold world_step (world_step w e) es).front.submissions = more_submitted es (world_step w e) in
    let now : length (front_step w.front e).submissions < 4294967296 = omega arith in
    lists_through es (world_step w e) (front_stands w.front e stands now).0 (lists_step_kept w.front e stands now all) room

all_kept : (table : Table) (daemons : ℕ) (events : List Event) → HasNumbers (world_after table daemons events) → Lists (world_after table daemons events).front
all_kept table daemons events room = lists_through events (first_world table daemons) (first_stands table daemons).front tt room

pub lists_have_pieces : ListsHavePieces
lists_have_pieces table daemons events room =
    let f : ControlPlane = (world_after table daemons events).front in
    each_weaker (Kept f) (HasPieces f) (λ p k. pieces_kept f p k) f.lists (all_kept table daemons events room)

-- ---- places in the audit

is_in_join : (xs ys : List Entry) (id : ℕ) → is_in (ids (xs ++ ys)) id ≡ (is_in (ids xs) id || is_in (ids ys) id)
is_in_join [] ys id = refl
is_in_join (x ∷ xs) ys id = ap (λ b. (x.sealed.id == id) || b) (is_in_join xs ys id) ∙ assoc (x.sealed.id == id) (is_in (ids xs) id) (is_in (ids ys) id)
  where
    assoc : (a b c : Bool) → (a || (b || c)) ≡ ((a || b) || c)
    assoc true b c = refl
    assoc false b c = refl

first_false : (a b : Bool) → (a || b) ≡ false → a ≡ false
first_false true b h = absurd (cc)
first_false false b h = refl

-- an entry of a legal list is no entry of what stands before
not_before : (before es behind : List Entry) (id : ℕ) → LegalFrom before (es ++ behind) → is_in (ids es) id ≡ true → is_in (ids before) id ≡ false
not_before before [] behind id legal is = absurd (cc)
not_before before (e ∷ es) behind id legal is = go (e.sealed.id == id) refl is (not_before (before ++ e ∷ []) es behind id legal.2)
  where
    go : (b : Bool) → (e.sealed.id == id) ≡ b → (b || is_in (ids es) id) ≡ true → (is_in (ids es) id ≡ true → is_in (ids (before ++ e ∷ [])) id ≡ false) → is_in (ids before) id ≡ false
    go true here k rest = ap (is_in (ids before)) (sym (number_same e.sealed.id id here)) ∙ legal.0
    go false here k rest = first_false (is_in (ids before) id) (is_in (ids (e ∷ [])) id) (sym (is_in_join before (e ∷ []) id) ∙ rest k)

before_skips : (xs ys : List Entry) (id : ℕ) → is_in (ids xs) id ≡ false → before_of id (xs ++ ys) ≡ xs ++ before_of id ys
before_skips [] ys id h = refl
before_skips (x ∷ xs) ys id h = go (x.sealed.id == id) h (λ k. before_skips xs ys id k)
  where
    go : (b : Bool) → (b || is_in (ids xs) id) ≡ false → (is_in (ids xs) id ≡ false → before_of id (xs ++ ys) ≡ xs ++ before_of id ys) → (if b then [] else x ∷ before_of id (xs ++ ys)) ≡ x ∷ (xs ++ before_of id ys)
    go true k rest = absurd (cc)
    go false k rest = ap (λ l. x ∷ l) (rest k)

before_within : (es behind : List Entry) (id : ℕ) → is_in (ids es) id ≡ true → before_of id (es ++ behind) ≡ before_of id es
before_within [] behind id h = absurd (cc)
before_within (e ∷ es) behind id h = go (e.sealed.id == id) h (λ k. before_within es behind id k)
  where
    go : (b : Bool) → (b || is_in (ids es) id) ≡ true → (is_in (ids es) id ≡ true → before_of id (es ++ behind) ≡ before_of id es) → (if b then [] else e ∷ before_of id (es ++ behind)) ≡ (if b then [] else e ∷ before_of id es)
    go true k rest = refl
    go false k rest = ap (λ l. e ∷ l) (rest k)

own_first : (e : Entry) (behind : List Entry) (id : ℕ) → (e.sealed.id == id) ≡ true → before_of id (e ∷ behind) ≡ []
own_first e behind id h = ap (λ b. if b then [] else e ∷ before_of id behind) h

-- where nothing changes the objects, each place of the stretch has those of its beginning
objects_stay : (pool namespace : List ℕ) (before es : List Entry) (id : ℕ) → KeepsObjects pool namespace before es → objects_of (store_of (before ++ before_of id es)) pool namespace ≡ objects_of (store_of before) pool namespace
objects_stay pool namespace before [] id keeps = ap (λ l. objects_of (store_of l) pool namespace) (append-nil before)
objects_stay pool namespace before (e ∷ es) id keeps = go (e.sealed.id == id) (objects_stay pool namespace (before ++ e ∷ []) es id keeps.1)
  where
    go : (b : Bool) → objects_of (store_of ((before ++ e ∷ []) ++ before_of id es)) pool namespace ≡ objects_of (store_of (before ++ e ∷ [])) pool namespace
        → objects_of (store_of (before ++ (if b then [] else e ∷ before_of id es))) pool namespace ≡ objects_of (store_of before) pool namespace
    go true rest = ap (λ l. objects_of (store_of l) pool namespace) (append-nil before)
    go false rest = ap (λ l. objects_of (store_of l) pool namespace) (sym (append_assoc before (e ∷ []) (before_of id es))) ∙ rest ∙ keeps.0

-- ---- the reply of a piece

-- a reply stands in the audit where its request does
record AtPlace (audit : List Entry) (s : Sealed) (id : ℕ) (reply : Reply) : Type 0 where
  is : reply ≡ (decide (before_of id audit) s).reply

at_place : (w : World) (s : Sealed) (id : ℕ) (reply : Reply) → Legal w.audit → submitted w.front.submissions id ≡ Some s → s.id ≡ id → IsAnswered w id reply → AtPlace w.audit s id reply
at_place w s id reply legal asked number a =
    let both : Some a.request ≡ Some s = sym a.submitted_one ∙ asked in
    let same : a.request ≡ s = cc in
    let d = a.decided in
    let its : d.entry.sealed ≡ s = d.asks ∙ same in
    let its_id : d.entry.sealed.id ≡ id = ap (λ t. t.id) its ∙ number in
    let here : (d.entry.sealed.id == id) ≡ true = (unsigned_Decides d.entry.sealed.id id).1 its_id in
    let rest = legal_rest [] d.before (d.entry ∷ d.after) (subst Legal (sym d.whole) legal) in
    let new : is_in (ids d.before) id ≡ false = ap (is_in (ids d.before)) (sym its_id) ∙ rest.0 in
    let before : before_of id w.audit ≡ d.before =
    ap (before_of id) (sym d.whole) ∙ before_skips d.before (d.entry ∷ d.after) id new ∙ ap (λ l. d.before ++ l) (own_first d.entry d.after id here) ∙ append-nil d.before in
    record { is = d.decided ∙ ap (λ r. (decide d.before r).reply) same ∙ ap (λ l. (decide l s).reply) (sym before) }

reply_denied : (log : List Entry) (s : Sealed) → is_allowed_sealed s ≡ false → (decide log s).reply ≡ denial s
unfolding answer_on
reply_denied log s refused = ap (λ b. (if b then performed (store_of log) s s.work else replied (denial s)).reply) refused

-- ---- the answers together

none_together : (f : ℕ → Option Reply) (a n i : ℕ) → i < n → f (a + i) ≡ None → all_of (map f (range_with_len a n)) ≡ None
none_together f a zero i low h = absurd (omega arith)
none_together f a (suc n) zero low h = let e : a + 0 ≡ a = omega arith in ap (λ o. consed o (all_of (map f (range_with_len (a + 1) n)))) (ap f (sym e) ∙ h)
none_together f a (suc n) (suc i) low h =
    let e : (a + 1) + i ≡ a + suc i = omega arith in
    ap (consed (f a)) (none_together f (a + 1) n i (omega arith) (ap f e ∙ h)) ∙ none_after (f a)
  where
    none_after : (o : Option Reply) → consed o None ≡ None
    none_after None = refl
    none_after (Some r) = refl

all_together : (f : ℕ → Option Reply) (r : ℕ → Reply) (base k n most : ℕ) → k + n ≤ most → ((i : ℕ) → i < most → f (base + i) ≡ Some (r i)) → all_of (map f (range_with_len (base + k) n)) ≡ Some (map r (range_with_len k n))
all_together f r base k zero most few h = refl
all_together f r base k (suc n) most few h =
    let e : (base + k) + 1 ≡ base + (k + 1) = omega arith in
    ap (λ o. consed o (all_of (map f (range_with_len ((base + k) + 1) n)))) (h k (omega arith))
    ∙ ap (λ b. consed (Some (r k)) (all_of (map f (range_with_len b n)))) e
    ∙ ap (consed (Some (r k))) (all_together f r base (k + 1) n most (omega arith) h)

-- the reply, or an arbitrary one where no reply is given
abbrev reply_of : Option Reply → Reply
reply_of o = unwrap_or o (Names [])

some_reply : (o : Option Reply) → is_some o ≡ true → o ≡ Some (reply_of o)
some_reply None h = absurd (cc)
some_reply (Some r) h = refl

first_denied : (r : ℕ → Reply) (n : ℕ) → 1 ≤ n → is_denied (r 0) ≡ true → joined (map r (range_with_len 0 n)) ≡ r 0
first_denied r zero some h = absurd (omega arith)
first_denied r (suc n) some h = ap (λ b. unwrap_or (cond b (Some (r 0)) (list_find is_denied (map r (range_with_len (0 + 1) n)))) (Names (sorted (flat_map names_in (map r (range_with_len 0 (suc n))))))) h

all_names : (r : ℕ → Reply) (f : ℕ → List (List ℕ)) (n : ℕ) → ((i : ℕ) → i < n → r i ≡ Names (f i)) → joined (map r (range_with_len 0 n)) ≡ Names (sorted (flat_map f (range_with_len 0 n)))
all_names r f n are =
    ap joined (same_replies r (λ i. Names (f i)) n are 0 n (omega arith))
    ∙ ap (λ o. unwrap_or o (Names (sorted (flat_map names_in (map (λ i. Names (f i)) (range_with_len 0 n)))))) (none_denied f (range_with_len 0 n))
    ∙ ap (λ l. Names (sorted l)) (names_told f (range_with_len 0 n))

-- ---- the law

is_listing : (w : World) (p : ListRange) → Legal w.audit → ((id : ℕ) (reply : Reply) → answer_at w id ≡ Some reply → IsAnswered w id reply) → HasPieces w.front p → IsListing w p
is_listing w p legal answered has = record {
  has = has;
  named = λ i reply low is allowed. (at i reply low is).is ∙ reply_names (before_of (p.first + i) w.audit) (has.pieces i) (has.listing i low) allowed;
  denied = λ i reply low is refused. (at i reply low is).is ∙ reply_denied (before_of (p.first + i) w.audit) (has.pieces i) refused;
  waits = λ i low none. ap (option_map joined) (none_together (answer_at w) p.first p.count i low none);
  lists = lists;
  denies = denies;
  whole = λ complete allowed u. lists complete allowed ∙ ap (λ l. Some (Names l)) (same_names u);
}
  where
    at : (i : ℕ) (reply : Reply) → i < p.count → answer_at w (p.first + i) ≡ Some reply → AtPlace w.audit (has.pieces i) (p.first + i) reply
    at i reply low is =
        at_place w (has.pieces i) (p.first + i) reply legal (has.submitted_as i low) (found_number w.front.submissions (p.first + i) (has.pieces i) (has.submitted_as i low)) (answered (p.first + i) reply is)

    given : IsComplete w p → (i : ℕ) → i < p.count → answer_at w (p.first + i) ≡ Some (reply_of (answer_at w (p.first + i)))
    given complete i low = some_reply (answer_at w (p.first + i)) (complete i low)

    together : IsComplete w p → listing_of (answer_at w) p ≡ Some (joined (map (λ i. reply_of (answer_at w (p.first + i))) (range_with_len 0 p.count)))
    together complete =
        let e : p.first + 0 ≡ p.first = omega arith in
        ap (λ a. option_map joined (all_of (map (answer_at w) (range_with_len a p.count)))) (sym e)
        ∙ ap (option_map joined) (all_together (answer_at w) (λ i. reply_of (answer_at w (p.first + i))) p.first 0 p.count p.count (omega arith) (given complete))

    lists : IsComplete w p → is_allowed_sealed (has.pieces 0) ≡ true → listing_of (answer_at w) p ≡ Some (Names (sorted (flat_map (λ i. names_at w.audit (has.pieces i) (p.first + i)) (range_with_len 0 p.count))))
    lists complete allowed =
        together complete
        ∙ ap Some (all_names (λ i. reply_of (answer_at w (p.first + i))) (λ i. names_at w.audit (has.pieces i) (p.first + i)) p.count
        (λ i low. (at i (reply_of (answer_at w (p.first + i))) low (given complete i low)).is
        ∙ reply_names (before_of (p.first + i) w.audit) (has.pieces i) (has.listing i low) (has.allowed i low ∙ allowed)))

    denies : IsComplete w p → is_allowed_sealed (has.pieces 0) ≡ false → listing_of (answer_at w) p ≡ Some (denial (has.pieces 0))
    denies complete refused =
        let some : 1 ≤ p.count = has.some in
        let low : 0 < p.count = omega arith in
        let first : reply_of (answer_at w (p.first + 0)) ≡ denial (has.pieces 0) =
        (at 0 (reply_of (answer_at w (p.first + 0))) low (given complete 0 low)).is ∙ reply_denied (before_of (p.first + 0) w.audit) (has.pieces 0) refused in
        together complete ∙ ap Some (first_denied (λ i. reply_of (answer_at w (p.first + i))) p.count some (ap is_denied first) ∙ first)

    same_names : (u : IsUnchanged w.audit p has.pool has.namespace) → sorted (flat_map (λ i. names_at w.audit (has.pieces i) (p.first + i)) (range_with_len 0 p.count)) ≡ map (λ n. n.name) (objects_of (store_of u.before) has.pool has.namespace)
    same_names u =
        pieces_are_the_namespace has.pool has.namespace p.count has.pieces (λ i. store_of (before_of (p.first + i) w.audit)) (objects_of (store_of u.before) has.pool has.namespace) has.some has.are
        (λ i low. stays u (p.first + i) (u.within i low))
      where
        stays : (u : IsUnchanged w.audit p has.pool has.namespace) (id : ℕ) → is_in (ids u.stretch) id ≡ true → objects_of (store_of (before_of id w.audit)) has.pool has.namespace ≡ objects_of (store_of u.before) has.pool has.namespace
        stays u id within =
            let rest : LegalFrom u.before (u.stretch ++ u.behind) = legal_rest [] u.before (u.stretch ++ u.behind) (subst Legal (sym u.whole) legal) in
            let new : is_in (ids u.before) id ≡ false = not_before u.before u.stretch u.behind id rest within in
            ap (λ l. objects_of (store_of l) has.pool has.namespace)
            (ap (before_of id) (sym u.whole) ∙ before_skips u.before (u.stretch ++ u.behind) id new ∙ ap (λ l. u.before ++ l) (before_within u.stretch u.behind id within))
            ∙ objects_stay has.pool has.namespace u.before u.stretch id u.keeps

-- the list of a number
list_found : (P : ListRange → Type 0) (first : ℕ) (ps : List ListRange) (p : ListRange) → Each P ps → list_find (λ q. q.first == first) ps ≡ Some p → P p × (p.first ≡ first)
list_found P first [] p all h = absurd (cc)
list_found P first (q ∷ qs) p all h = go (q.first == first) refl h (λ k. list_found P first qs p all.1 k)
  where
    go : (b : Bool) → (q.first == first) ≡ b → cond b (Some q) (list_find (λ q. q.first == first) qs) ≡ Some p → (list_find (λ q. q.first == first) qs ≡ Some p → P p × (p.first ≡ first)) → P p × (p.first ≡ first)
    go true e k rest = let same : q ≡ p = cc in (subst P same all.0, ap (λ (r : ListRange). r.first) (sym same) ∙ number_same q.first first e)
    go false e k rest = rest k

pub listings_are_told : ListingsAreTold
listings_are_told table daemons events first p room found =
    let w : World = world_after table daemons events in
    let one = list_found (HasPieces w.front) first w.front.lists p (lists_have_pieces table daemons events room) found in
    record {
      begins = one.1;
      told = rw found refl;
      is = is_listing w p (world_legal w (world_stands table daemons events room)) (λ id reply is. answers_are_decided table daemons events id reply room is) one.0;
    }

pub accepted_listings : AcceptedListings
accepted_listings table daemons events first p accepted found = listings_are_told table daemons events first p (accepted_has_numbers table daemons events accepted) found
