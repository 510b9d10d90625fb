-- What every front keeps.
use Prim.Native.Nat.{zero, suc}
use Rattle.std.proofs.Common.{◌≡◌, ◌∙◌, ℕ, ◌+◌, ◌*◌, ◌%◌, ◌<◌, ◌≤◌, ◌||◌, ◌&&◌, List, [], ◌∷◌, ◌++◌, Bool, true, false, cond, not, Option, Some, None, Result, Ok, Err, map, length, refl, sym, ap, subst, arith, append-nil, length-append, mod-lt}
use Rattle.std.specs.Prelude.{nat_lt}
use Rattle.std.specs.List.{range_with_len, filter}
use Rattle.place_core.specs.Placement.{fnv}
use Rattle.store_core.specs.declared.sealed.GroupId.{GroupId}
use Rattle.world_front.specs.Groups.{is_for, group_count}
use Rattle.world_front.proofs.Places.{AtMostOne, filter_map_is, one_mapped, one_number}
use Rattle.map_core.specs.State.{History}
use Rattle.map_core.specs.Map.{view_at, epoch_of}
use Rattle.map_core.specs.declared.pool.PoolView.{PoolView}
use Rattle.map_core.specs.declared.command.MapCommand.{MapCommand}
use Rattle.object_core.specs.Needs.{needs_fault}
use Rattle.object_core.specs.declared.op.Op.{Op}
use Rattle.store_core.specs.Request.{Sealed, Listing}
use Rattle.group_model_whole.specs.Each.{Each}
use Rattle.group_model_whole.specs.Asked.{IsAsked}
use Rattle.world_front.specs.Event.{Ask, Event, Auth, Map, Open, Renew, Close, Submit, ListNames, Deliver, Lose, Repeat, Kick, Fault, NoPool, StaleEpoch, StaleTick, BadObjectName, OfNeeds}
use Rattle.entry_core.specs.Locality.{IsPlaced}
pub use Rattle.world_front.specs.Stands.{IsSealedWell, FrontStands}
use Rattle.world_front.specs.ControlPlane.{Session, ControlPlane, Asker, ◌>>=◌, need, refuse_if, lower, if_ok, session_of, session_at, opened, ticket_for, asker_of, is_object_name, is_namespace, sealed_of, vector_of, pieces_of, requests_of, requests_in, sealed_by, asks_more, asked, front_step}
use Rattle.world_front.proofs.Pools.{InMap, in_later, view_in, counted}
use Rattle.world_front.proofs.Numbers.{next_in as next_of_found, next_at, open_is, IsGiven, Onward, given_later, pushed_onward, pushed_most, at_onward, at_most, at_here, NumberedFrom, asked_later, all_asked, news_given}

pub placed : (history : History) (s : Sealed) → IsSealedWell history s → IsPlaced (group_count history) s
placed history s h = record { counts = counted history s.view.pool s.view.pg_num h.pool; hashes = h.hashes }

-- ---- what an accepted request was made of

pub bind_ok : {A B E : Type 0} (r : Result A E) (k : A → Result B E) (b : B) → (r >>= k) ≡ Ok b → (a : A) × (r ≡ Ok a) × (k a ≡ Ok b)
bind_ok (Ok a) k b h = (a, refl, h)
bind_ok (Err e) k b h = absurd (cc)

needed : {A : Type 0} (o : Option A) (fault : Fault) (a : A) → need o fault ≡ Ok a → o ≡ Some a
needed None fault a h = absurd (cc)
needed (Some x) fault a h = let same : x ≡ a = cc in ap (λ v. Some v) same

pub record Made (f : ControlPlane) (ask : Ask) (asker : Asker) : Type 0 where
  pub session : session_of f.sessions ask.session ≡ Ok asker.session
  pub pool : InMap f.history asker.view.pool asker.view.pg_num

pub asker_made : (f : ControlPlane) (ask : Ask) (asker : Asker) → asker_of f ask ≡ Ok asker → Made f ask asker
asker_made f ask asker h =
    let view : PoolView → Type 0 = λ v. InMap f.history v.pool v.pg_num in
    let a = bind_ok (session_of f.sessions ask.session) (λ s.
    refuse_if (nat_lt ask.epoch s.epoch || nat_lt (epoch_of f.history) ask.epoch) StaleEpoch >>= λ _.
    refuse_if (nat_lt ask.tick s.tick) StaleTick >>= λ _.
    need (view_at f.history ask.pool ask.epoch) NoPool >>= λ view.
    Ok (record { session = s; view = view })) asker h in
    let b = bind_ok (refuse_if (nat_lt ask.epoch a.0.epoch || nat_lt (epoch_of f.history) ask.epoch) StaleEpoch) (λ _.
    refuse_if (nat_lt ask.tick a.0.tick) StaleTick >>= λ _.
    need (view_at f.history ask.pool ask.epoch) NoPool >>= λ view.
    Ok (record { session = a.0; view = view })) asker a.2 in
    let c = bind_ok (refuse_if (nat_lt ask.tick a.0.tick) StaleTick) (λ _.
    need (view_at f.history ask.pool ask.epoch) NoPool >>= λ view.
    Ok (record { session = a.0; view = view })) asker b.2 in
    let d = bind_ok (need (view_at f.history ask.pool ask.epoch) NoPool) (λ view. Ok (record { session = a.0; view = view })) asker c.2 in
    let result : ◌≡◌ {A = Result Asker Fault} (Ok (record { session = a.0; view = d.0 })) (Ok asker) = d.2 in
    let same : record { session = a.0; view = d.0 } ≡ asker = cc in
    record {
      session = a.1 ∙ ap (λ k. Ok k.session) same;
      pool = subst view (ap (λ k. k.view) same) (view_in f.history ask.pool ask.epoch d.0 (needed (view_at f.history ask.pool ask.epoch) NoPool d.0 d.1));
    }

-- for one of its pool's groups
abbrev pub IsBelow : Sealed → Type 0
IsBelow s = 1 ≤ s.view.pg_num → s.group < s.view.pg_num

mod_below : (a b : ℕ) → 1 ≤ b → a % b < b
mod_below a b some = let more : 0 < b = omega arith in mod-lt a more

single_one : (id : GroupId) (s : Sealed) → AtMostOne (filter (is_for id) (s ∷ []))
single_one id s = go (is_for id s)
  where
    go : (b : Bool) → AtMostOne (cond b (s ∷ []) [])
    go true = record { one = Some s; is = refl }
    go false = record { one = None; is = refl }

pub record Requested (f : ControlPlane) (ask : Ask) (rs : List Sealed) : Type 0 where
  pub session : Session
  pub open_one : session_of f.sessions ask.session ≡ Ok session
  pub numbered : NumberedFrom ask.session session.next rs
  pub sealed : Each (IsSealedWell f.history) rs
  pub below : Each IsBelow rs
  pub single : (id : GroupId) → AtMostOne (filter (is_for id) rs)

pub submit_made : (f : ControlPlane) (ask : Ask) (object : List ℕ) (ops : List Op) (rs : List Sealed) → requests_of f (Submit ask object ops) ≡ Ok rs → Requested f ask rs
unfolding requests_of requests_in
submit_made f ask object ops rs h =
    let a = bind_ok (asker_of f ask) (λ asker.
    refuse_if (not (is_object_name object && is_namespace ask.namespace)) BadObjectName >>= λ _.
    lower OfNeeds (needs_fault ops) >>= λ _.
    Ok (vector_of ask asker object ops ∷ [])) rs h in
    let b = bind_ok (refuse_if (not (is_object_name object && is_namespace ask.namespace)) BadObjectName) (λ _.
    lower OfNeeds (needs_fault ops) >>= λ _.
    Ok (vector_of ask a.0 object ops ∷ [])) rs a.2 in
    let c = bind_ok (lower OfNeeds (needs_fault ops)) (λ _. Ok (vector_of ask a.0 object ops ∷ [])) rs b.2 in
    let made : Made f ask a.0 = asker_made f ask a.0 a.1 in
    let result : ◌≡◌ {A = Result (List Sealed) Fault} (Ok (vector_of ask a.0 object ops ∷ [])) (Ok rs) = c.2 in
    let same : vector_of ask a.0 object ops ∷ [] ≡ rs = cc in
    let N : List Sealed → Type 0 = NumberedFrom ask.session a.0.session.next in
    let S : List Sealed → Type 0 = Each (IsSealedWell f.history) in
    let One : List Sealed → Type 0 = λ l. (id : GroupId) → AtMostOne (filter (is_for id) l) in
    record {
      session = a.0.session;
      open_one = made.session;
      numbered = subst N same (let e : ask.session * 4294967296 + (a.0.session.next + 0) ≡ ask.session * 4294967296 + a.0.session.next = omega arith in e, tt);
      sealed = subst S same (record { pool = made.pool; hashes = refl }, tt);
      below = subst (Each IsBelow) same (λ some. mod_below (fnv (ask.namespace ++ 31 ∷ object)) a.0.view.pg_num some, tt);
      single = subst One same (λ id. single_one id (vector_of ask a.0 object ops));
    }

pub piece_numbers : (ask : Ask) (asker : Asker) (k n : ℕ) → NumberedFrom ask.session (asker.session.next + k) (map (λ i. sealed_of ask asker Listing i i) (range_with_len k n))
piece_numbers ask asker k zero = tt
piece_numbers ask asker k (suc n) =
    let e : (asker.session.next + k) + 1 ≡ asker.session.next + (k + 1) = omega arith in
    (refl, subst (λ q. NumberedFrom ask.session q (map (λ i. sealed_of ask asker Listing i i) (range_with_len (k + 1) n))) (sym e) (piece_numbers ask asker (k + 1) n))

pieces_sealed : (f : ControlPlane) (ask : Ask) (asker : Asker) → InMap f.history asker.view.pool asker.view.pg_num → (k n : ℕ) → Each (IsSealedWell f.history) (map (λ i. sealed_of ask asker Listing i i) (range_with_len k n))
pieces_sealed f ask asker has k zero = tt
pieces_sealed f ask asker has k (suc n) = (record { pool = has; hashes = tt }, pieces_sealed f ask asker has (k + 1) n)

pieces_below : (ask : Ask) (asker : Asker) (k n : ℕ) → k + n ≤ asker.view.pg_num → Each IsBelow (map (λ i. sealed_of ask asker Listing i i) (range_with_len k n))
pieces_below ask asker k zero most = tt
pieces_below ask asker k (suc n) most = (λ some. omega arith, pieces_below ask asker (k + 1) n (omega arith))

pieces_single : (id : GroupId) (ask : Ask) (asker : Asker) → AtMostOne (filter (is_for id) (pieces_of ask asker))
pieces_single id ask asker =
    let one = one_mapped (λ i. sealed_of ask asker Listing i i) _ (one_number id asker.view.pool 0 asker.view.pg_num) in
    record { one = one.one; is = filter_map_is (is_for id) (λ i. sealed_of ask asker Listing i i) (range_with_len 0 asker.view.pg_num) ∙ one.is }

pub list_made : (f : ControlPlane) (ask : Ask) (rs : List Sealed) → requests_of f (ListNames ask) ≡ Ok rs → Requested f ask rs
unfolding requests_of requests_in
list_made f ask rs h =
    let a = bind_ok (asker_of f ask) (λ asker.
    refuse_if (not (is_namespace ask.namespace)) BadObjectName >>= λ _.
    Ok (pieces_of ask asker)) rs h in
    let b = bind_ok (refuse_if (not (is_namespace ask.namespace)) BadObjectName) (λ _. Ok (pieces_of ask a.0)) rs a.2 in
    let made : Made f ask a.0 = asker_made f ask a.0 a.1 in
    let result : ◌≡◌ {A = Result (List Sealed) Fault} (Ok (pieces_of ask a.0)) (Ok rs) = b.2 in
    let same : pieces_of ask a.0 ≡ rs = cc in
    let N : List Sealed → Type 0 = NumberedFrom ask.session a.0.session.next in
    let S : List Sealed → Type 0 = Each (IsSealedWell f.history) in
    let One : List Sealed → Type 0 = λ l. (id : GroupId) → AtMostOne (filter (is_for id) l) in
    let e : a.0.session.next + 0 ≡ a.0.session.next = omega arith in
    record {
      session = a.0.session;
      open_one = made.session;
      numbered = subst N same (subst (λ q. NumberedFrom ask.session q (pieces_of ask a.0)) e (piece_numbers ask a.0 0 a.0.view.pg_num));
      sealed = subst S same (pieces_sealed f ask a.0 made.pool 0 a.0.view.pg_num);
      below = subst (Each IsBelow) same (pieces_below ask a.0 0 a.0.view.pg_num (omega arith));
      single = subst One same (λ id. pieces_single id ask a.0);
    }

-- ---- one event

each_more : {X : Type 0} (P Q : X → Type 0) → ((x : X) → P x → Q x) → (xs : List X) → Each P xs → Each Q xs
each_more P Q f [] h = tt
each_more P Q f (x ∷ xs) h = (f x h.0, each_more P Q f xs h.1)

each_both : {X : Type 0} (P : X → Type 0) (xs ys : List X) → Each P xs → Each P ys → Each P (xs ++ ys)
each_both P [] ys h k = k
each_both P (x ∷ xs) ys h k = (h.0, each_both P xs ys h.1 k)

-- an event without requests
quiet : (f : ControlPlane) (sessions : List Session) (commands : List MapCommand) (g : ControlPlane) → FrontStands f → Onward f.sessions sessions → ((n : ℕ) → next_at sessions n ≤ length f.submissions + 1)
    → g.sessions ≡ sessions → g.submissions ≡ f.submissions ++ [] → g.history ≡ record f.history { commands = f.history.commands ++ commands } → FrontStands g
quiet f sessions commands g h on most s u t =
    let subs : g.submissions ≡ f.submissions = u ∙ append-nil f.submissions in
    let G : List Session → List Sealed → Type 0 = λ ss rs. Each (λ r. IsGiven ss r.id) rs in
    let M : List Session → List Sealed → Type 0 = λ ss rs. (n : ℕ) → next_at ss n ≤ length rs + 1 in
    let A : List Sealed → Type 0 = λ rs. Each (IsAsked rs) rs in
    let S : History → List Sealed → Type 0 = λ k rs. Each (IsSealedWell k) rs in
    record {
      given = subst (λ ss. G ss g.submissions) (sym s) (subst (G sessions) (sym subs) (each_more (λ r. IsGiven f.sessions r.id) (λ r. IsGiven sessions r.id) (λ r k. given_later f.sessions sessions r.id on k) f.submissions h.given));
      most = subst (λ ss. M ss g.submissions) (sym s) (subst (M sessions) (sym subs) most);
      asked = subst A (sym subs) h.asked;
      sealed = subst (λ k. S k g.submissions) (sym t) (subst (S (record f.history { commands = f.history.commands ++ commands })) (sym subs)
          (each_more (IsSealedWell f.history) (IsSealedWell (record f.history { commands = f.history.commands ++ commands })) (λ r k. record { pool = in_later f.history commands r.view.pool r.view.pg_num k.pool; hashes = k.hashes }) f.submissions h.sealed));
    }

same_history : (k : History) → k ≡ record k { commands = k.commands ++ [] }
same_history k = λ i. record k { commands = sym (append-nil k.commands) i }

same_onward : (sessions : List Session) → Onward sessions sessions
same_onward sessions = record { onward = λ n. omega arith }

-- an event with requests, or one that was to have some
record Asks (f : ControlPlane) (ask : Ask) (r : Result (List Sealed) Fault) (g : ControlPlane) : Type 0 where
  pub sessions : g.sessions ≡ asked f.sessions ask r
  pub submissions : g.submissions ≡ f.submissions ++ if_ok r [] (λ rs. rs)
  pub history : g.history ≡ f.history

with_requests : (f : ControlPlane) (ask : Ask) (r : Result (List Sealed) Fault) (g : ControlPlane) → FrontStands f → Asks f ask r g → length g.submissions < 4294967296 → ((rs : List Sealed) → r ≡ Ok rs → Requested f ask rs)
    → FrontStands g × Each (IsAsked g.submissions) (if_ok r [] (λ rs. rs))
with_requests f ask (Err fault) g h is room made =
    (quiet f f.sessions [] g h (same_onward f.sessions) h.most is.sessions is.submissions (is.history ∙ same_history f.history), tt)
with_requests f ask (Ok rs) g h is room made =
    let q : Requested f ask rs = made rs refl in
    let sessions : List Session = session_at f.sessions ask.session (asks_more ask (length rs)) in
    let total : length g.submissions ≡ length f.submissions + length rs = ap length is.submissions ∙ length-append f.submissions rs in
    let now : next_at f.sessions ask.session ≡ q.session.next = ap next_of_found (open_is f.sessions ask.session q.session q.open_one) in
    let most_now : q.session.next ≤ length f.submissions + 1 = subst (λ n. n ≤ length f.submissions + 1) now (h.most ask.session) in
    let few : (n : ℕ) → next_at f.sessions n ≤ 4294967296 = λ n. let m : next_at f.sessions n ≤ length f.submissions + 1 = h.most n in omega arith in
    let news : Each (IsAsked (f.submissions ++ rs)) rs = all_asked f.sessions ask.session q.session.next f.submissions rs now few (omega arith) h.given q.numbered in
    let on : Onward f.sessions sessions = at_onward f.sessions ask.session (asks_more ask (length rs)) (λ s. omega arith) in
    let here : next_at sessions ask.session ≡ q.session.next + length rs = at_here f.sessions ask.session q.session (asks_more ask (length rs)) q.open_one in
    let given : Each (λ r. IsGiven sessions r.id) (f.submissions ++ rs) =
    each_both (λ r. IsGiven sessions r.id) f.submissions rs
    (each_more (λ r. IsGiven f.sessions r.id) (λ r. IsGiven sessions r.id) (λ r k. given_later f.sessions sessions r.id on k) f.submissions h.given)
    (news_given sessions ask.session q.session.next rs (omega arith) q.numbered) in
    let most : (n : ℕ) → next_at sessions n ≤ length (f.submissions ++ rs) + 1 =
    λ n. at_most f.sessions ask.session (asks_more ask (length rs)) (length (f.submissions ++ rs) + 1) (length f.submissions + 1) (omega (arith, length-append f.submissions rs)) (λ s k. omega (arith, length-append f.submissions rs)) h.most n in
    let A : List Sealed → Type 0 = λ l. Each (IsAsked l) l in
    let W : List Sealed → Type 0 = λ l. Each (IsAsked l) rs in
    let S : History → List Sealed → Type 0 = λ k l. Each (IsSealedWell k) l in (
      record {
        given = subst (λ ss. Each (λ r. IsGiven ss r.id) g.submissions) (sym is.sessions) (subst (λ l. Each (λ r. IsGiven sessions r.id) l) (sym is.submissions) given);
        most = subst (λ ss. (n : ℕ) → next_at ss n ≤ length g.submissions + 1) (sym is.sessions) (subst (λ l. (n : ℕ) → next_at sessions n ≤ length l + 1) (sym is.submissions) most);
        asked = subst A (sym is.submissions) (each_both (IsAsked (f.submissions ++ rs)) f.submissions rs (each_more (IsAsked f.submissions) (IsAsked (f.submissions ++ rs)) (λ s k. asked_later f.submissions rs s k) f.submissions h.asked) news);
        sealed = subst (λ k. S k g.submissions) (sym is.history) (subst (S f.history) (sym is.submissions) (each_both (IsSealedWell f.history) f.submissions rs h.sealed q.sealed));
      },
      subst W (sym is.submissions) news,
    )

pub front_stands : (f : ControlPlane) (e : Event) → FrontStands f → length (front_step f e).submissions < 4294967296 → FrontStands (front_step f e) × Each (IsAsked (front_step f e).submissions) (sealed_by f e)
unfolding requests_of requests_in
front_stands f (Auth command) h room = (quiet f f.sessions [] (front_step f (Auth command)) h (same_onward f.sessions) h.most refl refl (same_history f.history), tt)
front_stands f (Map command) h room = (quiet f f.sessions (command ∷ []) (front_step f (Map command)) h (same_onward f.sessions) h.most refl refl refl, tt)
front_stands f (Open entity until) h room = (
  quiet f (f.sessions ++ opened entity (ticket_for f.database entity until) ∷ []) [] (front_step f (Open entity until)) h
      (pushed_onward f.sessions (opened entity (ticket_for f.database entity until)))
      (pushed_most f.sessions (opened entity (ticket_for f.database entity until)) (length f.submissions + 1) (omega arith) h.most) refl refl (same_history f.history),
  tt,
)
front_stands f (Renew n until) h room =
    let change : Session → Session = λ s. record s { ticket = ticket_for f.database s.entity until } in (
      quiet f (session_at f.sessions n change) [] (front_step f (Renew n until)) h (at_onward f.sessions n change (λ s. omega arith))
          (at_most f.sessions n change (length f.submissions + 1) (length f.submissions + 1) (omega arith) (λ s k. k) h.most) refl refl (same_history f.history),
      tt,
    )
front_stands f (Close n) h room =
    let change : Session → Session = λ s. record s { is_closed = true } in (
      quiet f (session_at f.sessions n change) [] (front_step f (Close n)) h (at_onward f.sessions n change (λ s. omega arith))
          (at_most f.sessions n change (length f.submissions + 1) (length f.submissions + 1) (omega arith) (λ s k. k) h.most) refl refl (same_history f.history),
      tt,
    )
front_stands f (Submit ask object ops) h room =
    with_requests f ask (requests_of f (Submit ask object ops)) (front_step f (Submit ask object ops)) h (record { sessions = refl; submissions = refl; history = refl }) room (λ rs is. submit_made f ask object ops rs is)
front_stands f (ListNames ask) h room =
    with_requests f ask (requests_of f (ListNames ask)) (front_step f (ListNames ask)) h (record { sessions = refl; submissions = refl; history = refl }) room (λ rs is. list_made f ask rs is)
front_stands f (Deliver id k) h room = (quiet f f.sessions [] (front_step f (Deliver id k)) h (same_onward f.sessions) h.most refl refl (same_history f.history), tt)
front_stands f (Lose id k) h room = (quiet f f.sessions [] (front_step f (Lose id k)) h (same_onward f.sessions) h.most refl refl (same_history f.history), tt)
front_stands f (Repeat id k) h room = (quiet f f.sessions [] (front_step f (Repeat id k)) h (same_onward f.sessions) h.most refl refl (same_history f.history), tt)
front_stands f (Kick id) h room = (quiet f f.sessions [] (front_step f (Kick id)) h (same_onward f.sessions) h.most refl refl (same_history f.history), tt)
