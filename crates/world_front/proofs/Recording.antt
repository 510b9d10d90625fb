-- Requests under new numbers, and what they leave of a front.
use Rattle.std.proofs.Common.{◌≡◌, ◌∙◌, ◌⊎◌, inl, inr, ℕ, ◌+◌, ◌*◌, ◌≤◌, ◌<◌, ◌==◌, ◌&&◌, Bool, true, false, not, cond, List, [], ◌∷◌, ◌++◌, Option, Some, None, Ok, is_some, length, get_or, refl, sym, ap, subst, arith, length-append, eqb-true}
use Rattle.std.specs.Option.{option_map}
use Rattle.std.specs.List.{find}
use Rattle.std.proofs.lemmas.List.FromFn.{length-map-range_with_len}
use Rattle.object_core.specs.Needs.{needs_fault}
use Rattle.object_core.specs.declared.needs.NeedsFault.{NeedsFault}
use Rattle.object_core.specs.declared.op.Op.{Op}
use Rattle.store_core.specs.Request.{Sealed, Listing}
use Rattle.group_model_whole.specs.Each.{Each}
use Rattle.group_model_whole.specs.Group.{submitted}
use Rattle.group_model_whole.specs.Asked.{IsAsked}
use Rattle.world_front.specs.Event.{Ask, Fault, OutOfMemory, Submit, ListNames, BadObjectName, OfNeeds}
use Rattle.world_front.specs.ControlPlane.{error_of, ◌>>=◌, refuse_if, ControlPlane, Session, ListRange, Asker, asker_of, is_object_name, is_namespace, lower, vector_of, pieces_of, sealed_of, requests_of, requests_in, sealed_by, session_of, session_at, asks_more, asked, if_ok, listed, front_step}
use Rattle.world_front.specs.Stands.{next_at, IsGiven, IsKept}
use Rattle.world_events.specs.Submitting.{AreNew}
use Rattle.world_front.proofs.Numbers.{next_in as next_of_found, open_is, NumberedFrom}
use Rattle.world_front.proofs.Fronts.{Requested, front_stands}

-- ---- numbers that no request has

abbrev pub Free : List Sealed → ℕ → ℕ → Type 0
Free rs session number = (q : ℕ) → number ≤ q → q < 4294967296 → submitted rs (session * 4294967296 + q) ≡ None

free_of_given : (sessions : List Session) (session number : ℕ) → next_at sessions session ≤ number → ((n : ℕ) → next_at sessions n ≤ 4294967296) → (rs : List Sealed) → Each (λ r. IsGiven sessions r.id) rs → Free rs session number
free_of_given sessions session number next few [] h q least small = refl
free_of_given sessions session number next few (r ∷ rs) h q least small = go (r.id == (session * 4294967296 + q)) refl (free_of_given sessions session number next few rs h.1 q least small)
  where
    clash : (id n k : ℕ) → id ≡ n * 4294967296 + k → k < 4294967296 → (n ≡ session → k < q) → id ≡ session * 4294967296 + q → ⊥
    clash id n k e low same is =
        let s : n ≡ session = omega arith in
        let t : k < q = same s in
        omega arith

    below : (n : ℕ) → n ≡ session → next_at sessions n ≤ q
    below n e = let m : next_at sessions n ≡ next_at sessions session = ap (next_at sessions) e in omega arith

    other : r.id ≡ session * 4294967296 + q → ⊥
    other is =
        let g : IsGiven sessions r.id = h.0 in
        let past : g.number < next_at sessions g.session = g.past in
        let most : next_at sessions g.session ≤ 4294967296 = few g.session in
        clash r.id g.session g.number g.is (omega arith) (λ e. let m : next_at sessions g.session ≤ q = below g.session e in omega arith) is

    go : (b : Bool) → (r.id == (session * 4294967296 + q)) ≡ b → submitted rs (session * 4294967296 + q) ≡ None → cond b (Some r) (submitted rs (session * 4294967296 + q)) ≡ None
    go true e rest = absurd (other (eqb-true r.id (session * 4294967296 + q) e))
    go false e rest = rest

-- one more request leaves what is not its own number
still_none : (rs : List Sealed) (r : Sealed) (id : ℕ) → (r.id ≡ id → ⊥) → submitted rs id ≡ None → submitted (rs ++ r ∷ []) id ≡ None
still_none [] r id apart none = go (r.id == id) refl
  where
    go : (b : Bool) → (r.id == id) ≡ b → cond b (Some r) None ≡ None
    go true e = absurd (apart (eqb-true r.id id e))
    go false e = refl
still_none (x ∷ xs) r id apart none = go (x.id == id) none (still_none xs r id apart)
  where
    go : (b : Bool) → cond b (Some x) (submitted xs id) ≡ None → (submitted xs id ≡ None → submitted (xs ++ r ∷ []) id ≡ None) → cond b (Some x) (submitted (xs ++ r ∷ []) id) ≡ None
    go true e rest = absurd (cc)
    go false e rest = rest e

pub free_new : (rs news : List Sealed) (session number : ℕ) → Free rs session number → number + length news ≤ 4294967296 → NumberedFrom session number news → AreNew rs news
free_new rs [] session number free room numbered = tt
free_new rs (s ∷ ss) session number free room numbered =
    let later : (q : ℕ) → number + 1 ≤ q → s.id ≡ session * 4294967296 + q → ⊥ = λ q least is. let own : s.id ≡ session * 4294967296 + number = numbered.0 in omega arith in (
      subst (λ i. submitted rs i ≡ None) (sym numbered.0) (free number (omega arith) (omega arith)),
      free_new (rs ++ s ∷ []) ss session (number + 1) (λ q least small. still_none rs s (session * 4294967296 + q) (later q least) (free q (omega arith) small)) (omega arith) numbered.1,
    )

free_each : (rs news : List Sealed) (session number : ℕ) → Free rs session number → number + length news ≤ 4294967296 → NumberedFrom session number news → Each (λ r. submitted rs r.id ≡ None) news
free_each rs [] session number free room numbered = tt
free_each rs (s ∷ ss) session number free room numbered = (
  subst (λ i. submitted rs i ≡ None) (sym numbered.0) (free number (omega arith) (omega arith)),
  free_each rs ss session (number + 1) (λ q least small. free q (omega arith) small) (omega arith) numbered.1,
)

-- an open session's next number is no more than the requests and one
pub next_few : (f : ControlPlane) (n : ℕ) (s : Session) → IsKept f → session_of f.sessions n ≡ Ok s → s.next ≤ 67108929
next_few f n s h is =
    let a : next_at f.sessions n ≤ length f.submissions + 1 = h.stands.most n in
    let b : length f.submissions ≤ 67108928 = h.few in
    let c : next_at f.sessions n ≡ s.next = ap next_of_found (open_is f.sessions n s is) in
    omega arith

pub free_in : (f : ControlPlane) (n : ℕ) (s : Session) → IsKept f → session_of f.sessions n ≡ Ok s → Free f.submissions n s.next
free_in f n s h is =
    let next : next_at f.sessions n ≡ s.next = ap next_of_found (open_is f.sessions n s is) in
    let b : length f.submissions ≤ 67108928 = h.few in
    free_of_given f.sessions n s.next (omega arith) (λ k. let a : next_at f.sessions k ≤ length f.submissions + 1 = h.stands.most k in omega arith) f.submissions h.stands.given

pub requests_new : (f : ControlPlane) (ask : Ask) (rs : List Sealed) → IsKept f → Requested f ask rs → length rs ≤ 64 → AreNew f.submissions rs
requests_new f ask rs h q few =
    let next : q.session.next ≤ 67108929 = next_few f ask.session q.session h q.open_one in
    free_new f.submissions rs ask.session q.session.next (free_in f ask.session q.session h q.open_one) (omega arith) q.numbered

pub requests_fresh : (f : ControlPlane) (ask : Ask) (rs : List Sealed) → IsKept f → Requested f ask rs → length rs ≤ 64 → Each (λ r. submitted f.submissions r.id ≡ None) rs
requests_fresh f ask rs h q few =
    let next : q.session.next ≤ 67108929 = next_few f ask.session q.session h q.open_one in
    free_each f.submissions rs ask.session q.session.next (free_in f ask.session q.session h q.open_one) (omega arith) q.numbered

-- ---- what is asked for

pub vector_asked : (f : ControlPlane) (ask : Ask) (asker : Asker) (object : List ℕ) (ops : List Op) (request : Sealed) → asker_of f ask ≡ Ok asker → (is_object_name object && is_namespace ask.namespace) ≡ true
    → option_map OfNeeds (needs_fault ops) ≡ None → request ≡ vector_of ask asker object ops → requests_of f (Submit ask object ops) ≡ Ok (request ∷ [])
unfolding requests_of requests_in
vector_asked f ask asker object ops request who names needs is =
    ap (λ q. q >>= λ found.
    refuse_if (not (is_object_name object && is_namespace ask.namespace)) BadObjectName >>= λ _.
    lower OfNeeds (needs_fault ops) >>= λ _.
    Ok (vector_of ask found object ops ∷ [])) who
    ∙ ap (λ b. refuse_if (not b) BadObjectName >>= λ _.
    lower OfNeeds (needs_fault ops) >>= λ _.
    Ok (vector_of ask asker object ops ∷ [])) names
    ∙ go (needs_fault ops) needs
    ∙ ap (λ (r : Sealed). Ok (r ∷ [])) (sym is)
  where
    go : (o : Option NeedsFault) → option_map OfNeeds o ≡ None → (lower OfNeeds o >>= λ _. Ok (vector_of ask asker object ops ∷ [])) ≡ Ok (vector_of ask asker object ops ∷ [])
    go None e = refl
    go (Some fault) e = absurd (cc)

-- a vector is refused as its operations are, where who asks and its names are good
pub vector_refused : (f : ControlPlane) (ask : Ask) (asker : Asker) (object : List ℕ) (ops : List Op) (fault : Fault) → asker_of f ask ≡ Ok asker → (is_object_name object && is_namespace ask.namespace) ≡ true
    → (fault ≡ OutOfMemory) ⊎ (option_map OfNeeds (needs_fault ops) ≡ Some fault) → (fault ≡ OutOfMemory) ⊎ (error_of (requests_of f (Submit ask object ops)) ≡ Some fault)
unfolding requests_of requests_in
vector_refused f ask asker object ops fault who names (inl memory) = inl memory
vector_refused f ask asker object ops fault who names (inr refused) = inr (
    ap (λ q. error_of (q >>= λ found.
    refuse_if (not (is_object_name object && is_namespace ask.namespace)) BadObjectName >>= λ _.
    lower OfNeeds (needs_fault ops) >>= λ _.
    Ok (vector_of ask found object ops ∷ []))) who
    ∙ ap (λ b. error_of (refuse_if (not b) BadObjectName >>= λ _.
    lower OfNeeds (needs_fault ops) >>= λ _.
    Ok (vector_of ask asker object ops ∷ []))) names
    ∙ go (needs_fault ops) refused)
  where
    go : (o : Option NeedsFault) → option_map OfNeeds o ≡ Some fault → error_of (lower OfNeeds o >>= λ _. Ok (vector_of ask asker object ops ∷ [])) ≡ Some fault
    go None e = absurd (cc)
    go (Some needs) e = e

pub list_asked : (f : ControlPlane) (ask : Ask) (asker : Asker) (requests : List Sealed) → asker_of f ask ≡ Ok asker → is_namespace ask.namespace ≡ true → requests ≡ pieces_of ask asker
    → requests_of f (ListNames ask) ≡ Ok requests
unfolding requests_of requests_in
list_asked f ask asker requests who names is =
    ap (λ q. q >>= λ found.
    refuse_if (not (is_namespace ask.namespace)) BadObjectName >>= λ _.
    Ok (pieces_of ask found)) who
    ∙ ap (λ b. refuse_if (not b) BadObjectName >>= λ _.
    Ok (pieces_of ask asker)) names
    ∙ ap (λ (rs : List Sealed). Ok rs) (sym is)

pub pieces_count : (ask : Ask) (asker : Asker) (requests : List Sealed) → requests ≡ pieces_of ask asker → length requests ≡ asker.view.pg_num
pieces_count ask asker requests is = ap length is ∙ length-map-range_with_len (λ n. sealed_of ask asker Listing n n) 0 asker.view.pg_num

-- ---- what requests leave

some_later : (rs more : List Sealed) (id : ℕ) → is_some (submitted rs id) ≡ true → is_some (submitted (rs ++ more) id) ≡ true
some_later [] more id h = absurd (cc)
some_later (r ∷ rs) more id h = go (r.id == id) h (some_later rs more id)
  where
    go : (b : Bool) → is_some (cond b (Some r) (submitted rs id)) ≡ true → (is_some (submitted rs id) ≡ true → is_some (submitted (rs ++ more) id) ≡ true) → is_some (cond b (Some r) (submitted (rs ++ more) id)) ≡ true
    go true e rest = refl
    go false e rest = rest e

begun_later : (rs more : List Sealed) (ls : List ListRange) → Each (λ p. is_some (submitted rs p.first) ≡ true) ls → Each (λ p. is_some (submitted (rs ++ more) p.first) ≡ true) ls
begun_later rs more [] h = tt
begun_later rs more (p ∷ ps) h = (some_later rs more p.first h.0, begun_later rs more ps h.1)

begun_push : (rs : List Sealed) (ls : List ListRange) (new : List Sealed) → Each (λ p. is_some (submitted rs p.first) ≡ true) ls → Each (IsAsked rs) new → Each (λ p. is_some (submitted rs p.first) ≡ true) (ls ++ listed new)
begun_push rs [] [] h asked = tt
begun_push rs [] (s ∷ ss) h asked = (ap is_some asked.0, tt)
begun_push rs (p ∷ ps) new h asked = (h.0, begun_push rs ps new h.1 asked)

-- a request that is new begins no list
pub no_list : (rs : List Sealed) (ls : List ListRange) (id : ℕ) → Each (λ p. is_some (submitted rs p.first) ≡ true) ls → submitted rs id ≡ None → find (λ (p : ListRange). p.first == id) ls ≡ None
no_list rs [] id h none = refl
no_list rs (p ∷ ps) id h none = go (p.first == id) refl (no_list rs ps id h.1 none)
  where
    go : (b : Bool) → (p.first == id) ≡ b → find (λ (q : ListRange). q.first == id) ps ≡ None → cond b (Some p) (find (λ (q : ListRange). q.first == id) ps) ≡ None
    go true e rest = let k : is_some (submitted rs id) ≡ true = subst (λ i. is_some (submitted rs i) ≡ true) (eqb-true p.first id e) h.0 in let l : is_some (submitted rs id) ≡ false = ap is_some none in absurd (cc)
    go false e rest = rest

pub vector_kept : (f : ControlPlane) (ask : Ask) (object : List ℕ) (ops : List Op) (request : Sealed) (g : ControlPlane) → IsKept f → requests_of f (Submit ask object ops) ≡ Ok (request ∷ []) → length f.submissions < 67108864
    → g ≡ front_step f (Submit ask object ops) → IsKept g
vector_kept f ask object ops request g h is few step =
    let new : sealed_by f (Submit ask object ops) ≡ request ∷ [] = ap (λ q. if_ok q [] (λ rs. rs)) is in
    let long : length (front_step f (Submit ask object ops)).submissions ≡ length f.submissions + 1 = ap (λ l. length (f.submissions ++ l)) new ∙ length-append f.submissions (request ∷ []) in
    let B : List Sealed → Type 0 = λ s. Each (λ p. is_some (submitted s p.first) ≡ true) f.lists in
    subst IsKept (sym step) (record {
      stands = (front_stands f (Submit ask object ops) h.stands (omega arith)).0;
      few = omega arith;
      begun = begun_later f.submissions (sealed_by f (Submit ask object ops)) f.lists h.begun;
    })

pub list_kept : (f : ControlPlane) (ask : Ask) (requests : List Sealed) (g : ControlPlane) → IsKept f → requests_of f (ListNames ask) ≡ Ok requests → length requests ≤ 64 → length f.submissions < 67108864
    → g ≡ front_step f (ListNames ask) → IsKept g
list_kept f ask requests g h is size few step =
    let new : sealed_by f (ListNames ask) ≡ requests = ap (λ q. if_ok q [] (λ rs. rs)) is in
    let long : length (front_step f (ListNames ask)).submissions ≡ length f.submissions + length requests = ap (λ l. length (f.submissions ++ l)) new ∙ length-append f.submissions requests in
    let after = front_stands f (ListNames ask) h.stands (omega arith) in
    subst IsKept (sym step) (record {
      stands = after.0;
      few = omega arith;
      begun = begun_push (f.submissions ++ sealed_by f (ListNames ask)) f.lists (sealed_by f (ListNames ask)) (begun_later f.submissions (sealed_by f (ListNames ask)) f.lists h.begun) after.1;
    })

pub vector_step : (f : ControlPlane) (ask : Ask) (object : List ℕ) (ops : List Op) (request : Sealed) (ss : List Session) (rs : List Sealed) → requests_of f (Submit ask object ops) ≡ Ok (request ∷ [])
    → ss ≡ session_at f.sessions ask.session (asks_more ask 1) → rs ≡ f.submissions ++ request ∷ [] → record f { sessions = ss; submissions = rs } ≡ front_step f (Submit ask object ops)
vector_step f ask object ops request ss rs is sessions submissions =
    let s : ss ≡ asked f.sessions ask (requests_of f (Submit ask object ops)) = sessions ∙ sym (ap (asked f.sessions ask) is) in
    let r : rs ≡ f.submissions ++ sealed_by f (Submit ask object ops) = submissions ∙ sym (ap (λ q. f.submissions ++ if_ok q [] (λ l. l)) is) in
    λ i. record f { sessions = s i; submissions = r i }

pub list_step : (f : ControlPlane) (ask : Ask) (requests : List Sealed) (ss : List Session) (rs : List Sealed) (ls : List ListRange) → requests_of f (ListNames ask) ≡ Ok requests
    → ss ≡ session_at f.sessions ask.session (asks_more ask (length requests)) → rs ≡ f.submissions ++ requests → ls ≡ f.lists ++ listed requests
    → record f { sessions = ss; submissions = rs; lists = ls } ≡ front_step f (ListNames ask)
list_step f ask requests ss rs ls is sessions submissions lists =
    let s : ss ≡ asked f.sessions ask (requests_of f (ListNames ask)) = sessions ∙ sym (ap (asked f.sessions ask) is) in
    let r : rs ≡ f.submissions ++ sealed_by f (ListNames ask) = submissions ∙ sym (ap (λ q. f.submissions ++ if_ok q [] (λ l. l)) is) in
    let l : ls ≡ f.lists ++ listed (sealed_by f (ListNames ask)) = lists ∙ sym (ap (λ q. f.lists ++ listed (if_ok q [] (λ l. l))) is) in
    λ i. record f { sessions = s i; submissions = r i; lists = l i }

-- where a nonempty list has new requests only, its first request is new
pub first_fresh : (old rs : List Sealed) (x : Sealed) → Each (λ r. submitted old r.id ≡ None) rs → 1 ≤ length rs → x ≡ get_or rs 0 x → submitted old x.id ≡ None
first_fresh old [] x h some is = absurd (omega arith)
first_fresh old (r ∷ rs) x h some is = subst (λ (s : Sealed). submitted old s.id ≡ None) (sym is) h.0

pub listed_at : (rs : List Sealed) (x : Sealed) (first count : ℕ) → 1 ≤ length rs → x ≡ get_or rs 0 x → first ≡ x.id → count ≡ length rs → record { first = first; count = count } ∷ [] ≡ listed rs
listed_at [] x first count some is named counted = absurd (omega arith)
listed_at (r ∷ rs) x first count some is named counted =
    ap (λ k. record { first = k; count = count } ∷ []) (named ∙ ap (λ (s : Sealed). s.id) is) ∙ ap (λ n. record { first = r.id; count = n } ∷ []) counted
