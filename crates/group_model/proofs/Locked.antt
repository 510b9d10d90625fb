-- A group that sends suffixes, beside the one that sends whole logs: what holds of both after each event.
use Rattle.std.proofs.Common.{ℕ, ◌≡◌, Bool, true, false, ◌==◌, List, [], ◌∷◌, ◌++◌, map, refl, sym, subst, arith, if◌then◌else◌}
use Rattle.std.specs.Prelude.{Some, slice_get}
use Rattle.std.specs.List.{remove}
use Rattle.store_core.specs.Request.{Sealed}
use Rattle.store_core.specs.declared.entry.Entry.{Entry}
use Rattle.group_model_whole.specs.Steps.{restarted as whole_restarted}
use Rattle.group_model_whole.specs.Types.{Role as WholeRole, Idle as WholeIdle, Daemon, Request as WholeRequest, Sent as WholeSent}
use Rattle.group_model_whole.specs.Each.{Each}
use Rattle.group_model_whole.specs.Group.{Group as WholeGroup, submitted, to_daemon as whole_to_daemon, to_primary as whole_to_primary}
use Rattle.group_model_whole.specs.Asked.{IsAsked, InLog}
use Rattle.group_model_whole.specs.History.{History, IsSound}
use Rattle.group_model_whole.proofs.Eaches.{Each-append, Each-remove, Each-weaker}
use Rattle.group_model_whole.proofs.Invariant.{CopyOk, SentOk}
use Rattle.group_model_whole.proofs.Longer.{IsSound-longer, CopyOk-longer, BodyOk-longer}
use Rattle.group_model_whole.proofs.Groups.{get-map}
use Rattle.group_model.specs.Types.{Request, Sent, Copy}
use Rattle.peer_core.specs.Steps.{restarted}
use Rattle.group_model.specs.Group.{Group, to_daemon, to_primary}
use Rattle.group_model.specs.Standing.{Both}
use Rattle.group_model.proofs.Agreeing.{SentAgrees, CopyAgrees, whole}
use Rattle.group_model.proofs.Lists.{Both-append, Both-remove, Both-map_both}

-- copies and messages of both, with what happened in the group's intervals so far
pub record Facts (z : ℕ) (sets : List (List ℕ)) (requests : List Sealed) (cs : List Copy) (ss : List Sent) (ws : List Daemon) (ms : List WholeSent) : Type 0 where
  pub promise : ℕ → ℕ
  pub h : History
  pub sound : IsSound promise z sets h
  pub copies_ok : (d : ℕ) (w : Daemon) → slice_get ws d ≡ Some w → CopyOk z sets promise h d w
  pub wire_ok : Each (SentOk sets promise h) ms
  pub asked : (n : ℕ) → InLog (IsAsked requests) (h.grown n)
  pub copies : Both (CopyAgrees promise h) cs ws
  pub wire : Both (SentAgrees promise h) ss ms

-- all the rest is the same
abbrev pub twin : Group → List Daemon → List WholeSent → WholeGroup
twin g ws ms = record { group = g.group; min_size = g.min_size; copies = ws; wire = ms; sets = g.sets; up = g.up; requests = g.requests; answers = g.answers; audit = g.audit }

pub record Agree (g : Group) (w : WholeGroup) : Type 0 where
  pub is : w ≡ twin g w.copies w.wire
  pub facts : Facts g.min_size g.sets g.requests g.copies g.wire w.copies w.wire

pub agree_if : (b : Bool) (g g' : Group) (w w' : WholeGroup) → Agree g w → Agree g' w' → Agree (if b then g else g') (if b then w else w')
agree_if true g g' w w' a a' = a
agree_if false g g' w w' a a' = a'

-- requests

pub asked_push : (xs : List Sealed) (s t : Sealed) → IsAsked xs t → IsAsked (xs ++ s ∷ []) t
asked_push xs s t is = go xs is
  where
    step : (b : Bool) (x : Sealed) (xs : List Sealed) → (if b then Some x else submitted xs t.id) ≡ Some t → (submitted xs t.id ≡ Some t → submitted (xs ++ s ∷ []) t.id ≡ Some t) → (if b then Some x else submitted (xs ++ s ∷ []) t.id) ≡ Some t
    step true x xs here rest = here
    step false x xs there rest = rest there

    go : (xs : List Sealed) → submitted xs t.id ≡ Some t → submitted (xs ++ s ∷ []) t.id ≡ Some t
    go [] is = absurd (cc)
    go (x ∷ xs) is = step (x.id == t.id) x xs is (go xs)

pub primary_agrees : (p : ℕ → ℕ) (h : History) (ds : List ℕ) (requests : List Sealed) → Both (SentAgrees p h) (to_primary ds (map Request requests)) (whole_to_primary ds (map WholeRequest requests))
primary_agrees p h [] requests = tt
primary_agrees p h (d ∷ ds) requests = go requests
  where
    go : (rs : List Sealed) → Both (SentAgrees p h) (map (to_daemon d) (map Request rs)) (map (whole_to_daemon d) (map WholeRequest rs))
    go [] = tt
    go (r ∷ rs) = (record { from = refl; to = refl; body = refl }, go rs)

pub primary_ok : (sets : List (List ℕ)) (p : ℕ → ℕ) (h : History) (ds : List ℕ) (requests : List Sealed) → Each (SentOk sets p h) (whole_to_primary ds (map WholeRequest requests))
primary_ok sets p h [] requests = tt
primary_ok sets p h (d ∷ ds) requests = go requests
  where
    go : (rs : List Sealed) → Each (SentOk sets p h) (map (whole_to_daemon d) (map WholeRequest rs))
    go [] = tt
    go (r ∷ rs) = (tt, go rs)

restarted_ok : (z : ℕ) (sets : List (List ℕ)) (p : ℕ → ℕ) (h : History) (d : ℕ) (c : Daemon) → CopyOk z sets p h d c → CopyOk z sets p h d (whole_restarted c)
restarted_ok z sets p h d c ok = record {
  state = record {
    number = ok.state.number;
    same_size = ok.state.same_size;
    promised = ok.state.promised;
    reached = ok.state.reached;
    base = ok.state.base;
    known = record { fits = omega arith; same = λ j from upto. absurd (omega arith) };
    source = ok.state.source;
    source_is = ok.state.source_is;
    begins = ok.state.begins;
    within = ok.state.within;
    held = ok.state.held;
    held_below = ok.state.held_below;
  };
  role = tt;
}

module _ (z : ℕ) (sets : List (List ℕ)) (requests : List Sealed) (cs : List Copy) (ss : List Sent) (ws : List Daemon) (ms : List WholeSent) (f : Facts z sets requests cs ss ws ms) where
  -- more messages
  abbrev pub facts_more : (ss' : List Sent) (ms' : List WholeSent) → Both (SentAgrees f.promise f.h) ss' ms' → Each (SentOk sets f.promise f.h) ms' → Facts z sets requests cs (ss ++ ss') ws (ms ++ ms')
  facts_more ss' ms' both each = record {
    promise = f.promise;
    h = f.h;
    sound = f.sound;
    copies_ok = f.copies_ok;
    wire_ok = Each-append (SentOk sets f.promise f.h) ms ms' f.wire_ok each;
    asked = f.asked;
    copies = f.copies;
    wire = Both-append (SentAgrees f.promise f.h) ss ms ss' ms' f.wire both;
  }

  abbrev pub facts_without : (k : ℕ) → Facts z sets requests cs (remove ss k) ws (remove ms k)
  facts_without k = record {
    promise = f.promise;
    h = f.h;
    sound = f.sound;
    copies_ok = f.copies_ok;
    wire_ok = Each-remove (SentOk sets f.promise f.h) ms k f.wire_ok;
    asked = f.asked;
    copies = f.copies;
    wire = Both-remove (SentAgrees f.promise f.h) ss ms k f.wire;
  }

  abbrev pub facts_request : (s : Sealed) → Facts z sets (requests ++ s ∷ []) cs ss ws ms
  facts_request s = record {
    promise = f.promise;
    h = f.h;
    sound = f.sound;
    copies_ok = f.copies_ok;
    wire_ok = f.wire_ok;
    asked = λ n. Each-weaker (λ (e : Entry). IsAsked requests e.sealed) (λ (e : Entry). IsAsked (requests ++ s ∷ []) e.sealed) (λ e is. asked_push requests s e.sealed is) (f.h.grown n) (f.asked n);
    copies = f.copies;
    wire = f.wire;
  }

  abbrev pub facts_longer : (acting : List ℕ) → Facts z (sets ++ acting ∷ []) requests cs ss ws ms
  facts_longer acting = record {
    promise = f.promise;
    h = f.h;
    sound = IsSound-longer z sets acting f.promise f.h f.sound;
    copies_ok = λ d w is. CopyOk-longer z sets acting f.promise f.h d w (f.copies_ok d w is);
    wire_ok = Each-weaker (SentOk sets f.promise f.h) (SentOk (sets ++ acting ∷ []) f.promise f.h) (λ m. BodyOk-longer z sets acting f.promise f.h m.from m.body) ms f.wire_ok;
    asked = f.asked;
    copies = f.copies;
    wire = f.wire;
  }

  -- some copies restart
  pub facts_restarts : (which : ℕ → Bool) → Facts z sets requests (map (λ c. if which c.number then restarted c else c) cs) ss (map (λ w. if which w.number then whole_restarted w else w) ws) ms
  facts_restarts which = record {
    promise = f.promise;
    h = f.h;
    sound = f.sound;
    copies_ok = λ d w is. (let m = get-map (λ (v : Daemon). if which v.number then whole_restarted v else v) ws d w is in
        subst (λ v. CopyOk z sets f.promise f.h d v) m.is (one_ok (which m.item.number) d m.item (f.copies_ok d m.item m.is_item)));
    wire_ok = f.wire_ok;
    asked = f.asked;
    copies = Both-map_both (CopyAgrees f.promise f.h) (CopyAgrees f.promise f.h) (λ (c : Copy). if which c.number then restarted c else c) (λ (w : Daemon). if which w.number then whole_restarted w else w)
        (λ c w a. subst (λ v. CopyAgrees f.promise f.h (if which c.number then restarted c else c) (if which v.number then whole_restarted v else v)) (sym a.is) (one (which c.number) c a.role (subst (λ v. CopyAgrees f.promise f.h c v) a.is a)))
        cs ws f.copies;
    wire = f.wire;
  }
    where
      one_ok : (b : Bool) (d : ℕ) (w : Daemon) → CopyOk z sets f.promise f.h d w → CopyOk z sets f.promise f.h d (if b then whole_restarted w else w)
      one_ok true d w ok = restarted_ok z sets f.promise f.h d w ok
      one_ok false d w ok = ok

      one : (b : Bool) (c : Copy) (r : WholeRole) → CopyAgrees f.promise f.h c (whole c r) → CopyAgrees f.promise f.h (if b then restarted c else c) (if b then whole_restarted (whole c r) else whole c r)
      one true c r a = record { role = WholeIdle; is = refl; agrees = refl }
      one false c r a = a
