-- A step of the copy that leads keeps what is due.
use Rattle.std.proofs.Common.{ℕ, ◌≡◌, Bool, true, false, not, ◌&&◌, ◌==◌, List, [], ◌∷◌, ◌++◌, map, length, refl, sym, ◌∙◌, ap, subst, inl, inr, ◌⊎◌, if◌then◌else◌}
use Rattle.std.specs.Prelude.{Option, Some, None}
use Rattle.std.specs.List.{list_any, list_all}
use Rattle.std.proofs.lemmas.Bool.{eq-eqb, both_ways, or_cases, or_left, or_right, and_parts, and_cases, not-true, not-false}
use Rattle.entry_core.specs.Log.{is_in}
use Rattle.store_core.specs.Request.{Sealed}
use Rattle.store_core.specs.declared.entry.Entry.{Entry}
use Rattle.group_model_whole.specs.Steps.{Stepped, still, send}
use Rattle.group_model_whole.proofs.Countings.{counted_still, counted_same}
use Rattle.group_model_whole.specs.ActingSets.{set_of, others, all_count, asked, daemons, counted}
use Rattle.group_model_whole.specs.Serve.{serve, reply_with}
use Rattle.group_model_whole.specs.Decided.{last}
use Rattle.group_model_whole.specs.Choice.{can_choose, is_informed, best, own_offer}
use Rattle.group_model_whole.specs.Copy.{install_chosen, try_choice, on_info, on_installed, on_appended, complete}
use Rattle.group_model_whole.specs.Types.{PeerInfo, Role, Idle, Peering, Installing, Active, Daemon, Body, Info, Install, Installed, Appended, Request, Reply, Party, Client, Osd, Sent}
use Rattle.group_model_whole.proofs.RecoveryStates.{Any, IsAsking, IsInstallingAt, IsAppendingAt, RoleDue, IsReply, IsFor, IsEntryOf, InFlight, IsTaken}
use Rattle.group_model_whole.proofs.RecoveryLists.{Any-left, Any-right, Any-map, Any-weaker, filter_kept}
use Rattle.group_model_whole.proofs.RecoveryServes.{role_due, role_due-right, served}

-- to the copy
abbrev pub to_copy : Daemon → Party → Body → Sent
to_copy c from body = record { from = from; to = Osd c.number; body = body }

-- after that step, with the message taken from the wire
pub record Moved (up : List ℕ) (rest : List Sent) (from : Party) (body : Body) (c : Daemon) (s : Stepped) : Type 0 where
  pub number : s.copy.number ≡ c.number
  pub promise : s.copy.promise ≡ c.promise
  pub role : RoleDue up (rest ++ s.sent) s.copy s.copy.role
  pub each : (id : ℕ) → Any (IsFor c.number id) (to_copy c from body ∷ rest) ⊎ IsTaken c id → Any (IsFor c.number id) (rest ++ s.sent) ⊎ IsTaken s.copy id

pub others_other : (c : Daemon) (d : ℕ) → is_in (others c) d ≡ true → d ≡ c.number → ⊥
others_other c d is same =
    let k = filter_kept (λ m. not (m == c.number)) (set_of c.known c.promise) d is in
    both_ways (d == c.number) (not-true (d == c.number) k.passes) (eq-eqb d c.number same)

pub asked_other : (c : Daemon) (d : ℕ) → is_in (asked c) d ≡ true → d ≡ c.number → ⊥
asked_other c d is same =
    let k = filter_kept (λ d. not (d == c.number) && list_any (λ members. is_in members d) c.known) daemons d is in
    both_ways (d == c.number) (not-true (d == c.number) (and_parts (not (d == c.number)) (list_any (λ members. is_in members d) c.known) k.passes).0) (eq-eqb d c.number same)

pub osd_same : (a b : ℕ) → Osd a ≡ Osd b → a ≡ b
osd_same a b e = cc

module _ (up : List ℕ) (rest : List Sent) (from : Party) (body : Body) (c : Daemon) where
  -- a message to the copy that it need not count
  pub due_left : (r : Role) (sent : List Sent) →
      ((informed : List PeerInfo) → r ≡ Peering informed → (d base : ℕ) (log : List Entry) → from ≡ Osd d → body ≡ Info c.promise base log → is_informed c informed d ≡ true) →
      ((done : List ℕ) → r ≡ Installing done → (d : ℕ) → from ≡ Osd d → body ≡ Installed c.promise → is_in done d ≡ true) →
      ((holders : List ℕ) → r ≡ Active (Some holders) → (d : ℕ) → from ≡ Osd d → body ≡ Appended c.promise (length c.log) → is_in holders d ≡ true) →
      RoleDue up (to_copy c from body ∷ rest) c r → RoleDue up (rest ++ sent) c r
  due_left r sent a b e due = role_due up (to_copy c from body ∷ rest) (rest ++ sent) c r asking installing appending due
    where
      asking : (informed : List PeerInfo) → r ≡ Peering informed → (d : ℕ) → is_in (asked c) d ≡ true → is_in up d ≡ true → Any (IsAsking c d) (to_copy c from body ∷ rest) → (is_informed c informed d ≡ true) ⊎ Any (IsAsking c d) (rest ++ sent)
      asking informed is d in_asked u (inl (inl q)) = absurd (asked_other c d in_asked (sym (osd_same c.number d (ap (λ v. v.to) q))))
      asking informed is d in_asked u (inl (inr t)) = inl (a informed is d t.base t.log (ap (λ v. v.from) t.is) (ap (λ v. v.body) t.is))
      asking informed is d in_asked u (inr w) = inr (Any-left (IsAsking c d) rest sent w)

      installing : (done : List ℕ) → r ≡ Installing done → (d : ℕ) → is_in (others c) d ≡ true → Any (IsInstallingAt c d) (to_copy c from body ∷ rest) → (is_in done d ≡ true) ⊎ Any (IsInstallingAt c d) (rest ++ sent)
      installing done is d o (inl (inl q)) = absurd (others_other c d o (sym (osd_same c.number d (ap (λ v. v.to) q.is))))
      installing done is d o (inl (inr t)) = inl (b done is d (ap (λ v. v.from) t) (ap (λ v. v.body) t))
      installing done is d o (inr w) = inr (Any-left (IsInstallingAt c d) rest sent w)

      appending : (holders : List ℕ) → r ≡ Active (Some holders) → (d : ℕ) → is_in (others c) d ≡ true → Any (IsAppendingAt c d) (to_copy c from body ∷ rest) → (is_in holders d ≡ true) ⊎ Any (IsAppendingAt c d) (rest ++ sent)
      appending holders is d o (inl (inl q)) = absurd (others_other c d o (sym (osd_same c.number d (ap (λ v. v.to) q.is))))
      appending holders is d o (inl (inr t)) = inl (e holders is d (ap (λ v. v.from) t) (ap (λ v. v.body) t))
      appending holders is d o (inr w) = inr (Any-left (IsAppendingAt c d) rest sent w)

  pub each_left : (s : Stepped) → ((id : ℕ) → IsTaken c id → Any (IsReply id) s.sent ⊎ IsTaken s.copy id) →
      ((id : ℕ) (r : Sealed) → body ≡ Request r → r.id ≡ id → Any (IsReply id) s.sent ⊎ IsTaken s.copy id) →
      (id : ℕ) → Any (IsFor c.number id) (to_copy c from body ∷ rest) ⊎ IsTaken c id → Any (IsFor c.number id) (rest ++ s.sent) ⊎ IsTaken s.copy id
  each_left s taken own id due = go due
    where
      put : Any (IsReply id) s.sent ⊎ IsTaken s.copy id → Any (IsFor c.number id) (rest ++ s.sent) ⊎ IsTaken s.copy id
      put (inl a) = inl (Any-right (IsFor c.number id) rest s.sent (Any-weaker (IsReply id) (IsFor c.number id) (λ m p. inr p) s.sent a))
      put (inr t) = inr t

      go : Any (IsFor c.number id) (to_copy c from body ∷ rest) ⊎ IsTaken c id → Any (IsFor c.number id) (rest ++ s.sent) ⊎ IsTaken s.copy id
      go (inl (inl (inl q))) = put (own id q.request (ap (λ v. v.body) q.is) q.same)
      go (inl (inl (inr q))) = let bad : Osd c.number ≡ Client = ap (λ v. v.to) q.is in absurd (cc)
      go (inl (inr w)) = inl (Any-left (IsFor c.number id) rest s.sent w)
      go (inr t) = put (taken id t)

  -- the copy serves what waits, after other messages
  pub serves_moved : (c' : Daemon) (first : List Sent) → c'.number ≡ c.number → c'.promise ≡ c.promise → c'.waiting ≡ c.waiting →
      ((id : ℕ) → InFlight c.role c.log id → Any (IsReply id) first) → ((r : Sealed) → body ≡ Request r → ⊥) →
      Moved up rest from body c (record { copy = (serve c'.waiting c').copy; sent = first ++ (serve c'.waiting c').sent })
  serves_moved c' first n q same flight none =
      let t = served up c'.waiting c' in
      record {
        number = t.number ∙ n;
        promise = t.promise ∙ q;
        role = role_due-right up rest (first ++ (serve c'.waiting c').sent) (serve c'.waiting c').copy (serve c'.waiting c').copy.role
            (role_due-right up first (serve c'.waiting c').sent (serve c'.waiting c').copy (serve c'.waiting c').copy.role t.role);
        each = each_left (record { copy = (serve c'.waiting c').copy; sent = first ++ (serve c'.waiting c').sent }) taken (λ id r is _. absurd (none r is));
      }
    where
      late : (id : ℕ) → Any (IsReply id) (serve c'.waiting c').sent ⊎ IsTaken (serve c'.waiting c').copy id → Any (IsReply id) (first ++ (serve c'.waiting c').sent) ⊎ IsTaken (serve c'.waiting c').copy id
      late id (inl a) = inl (Any-right (IsReply id) first (serve c'.waiting c').sent a)
      late id (inr t) = inr t

      taken : (id : ℕ) → IsTaken c id → Any (IsReply id) (first ++ (serve c'.waiting c').sent) ⊎ IsTaken (serve c'.waiting c').copy id
      taken id (inl w) = late id ((served up c'.waiting c').each id (subst (λ v. Any (λ w. w.id ≡ id) v) (sym same) w))
      taken id (inr f) = inl (Any-left (IsReply id) first (serve c'.waiting c').sent (flight id f))

  -- the copy stays, and the message is not one that it waits for
  pub stays_moved : (sent : List Sent) (r : Role) → c.role ≡ r → RoleDue up (to_copy c from body ∷ rest) c r → ((r : Sealed) → body ≡ Request r → ⊥) →
      ((informed : List PeerInfo) → r ≡ Peering informed → (d base : ℕ) (log : List Entry) → from ≡ Osd d → body ≡ Info c.promise base log → is_informed c informed d ≡ true) →
      ((done : List ℕ) → r ≡ Installing done → (d : ℕ) → from ≡ Osd d → body ≡ Installed c.promise → is_in done d ≡ true) →
      ((holders : List ℕ) → r ≡ Active (Some holders) → (d : ℕ) → from ≡ Osd d → body ≡ Appended c.promise (length c.log) → is_in holders d ≡ true) →
      Moved up rest from body c (record { copy = c; sent = sent })
  stays_moved sent r is due none a b e = record {
    number = refl;
    promise = refl;
    role = subst (λ v. RoleDue up (rest ++ sent) c v) (sym is) (due_left r sent a b e due);
    each = each_left (record { copy = c; sent = sent }) (λ id t. inr t) (λ id r is _. absurd (none r is));
  }

-- Installed from m
pub installed_moved : (up : List ℕ) (rest : List Sent) (c : Daemon) (r : Role) (n m : ℕ) → c.role ≡ r → RoleDue up (to_copy c (Osd m) (Installed n) ∷ rest) c r →
    Moved up rest (Osd m) (Installed n) c (on_installed r c n m)
installed_moved up rest c (Installing done) n m is due = first (c.promise == n) refl
  where
    done' : List ℕ
    done' = counted c done m

    kept : all_count c (counted c done m) ≡ false → Moved up rest (Osd m) (Installed n) c (still (record c { role = Installing (counted c done m) }))
    kept not_all = record {
      number = refl;
      promise = refl;
      role = (not_all, λ d o. again d o (due.1 d o));
      each = each_left up rest (Osd m) (Installed n) c (still (record c { role = Installing (counted c done m) })) taken (λ id r bad _. absurd (cc));
    }
      where
        same_set : (d : ℕ) (s : Sent) → IsInstallingAt c d s → IsInstallingAt (record c { role = Installing (counted c done m) }) d s
        same_set d s (inl q) = inl (record { log = q.log; is = q.is })
        same_set d s (inr t) = inr t

        again : (d : ℕ) → is_in (others c) d ≡ true → (is_in done d ≡ true) ⊎ Any (IsInstallingAt c d) (to_copy c (Osd m) (Installed n) ∷ rest) → (is_in (counted c done m) d ≡ true) ⊎ Any (IsInstallingAt (record c { role = Installing (counted c done m) }) d) (rest ++ [])
        again d o (inl met) = inl (counted_still c done m d o met)
        again d o (inr (inl (inl q))) = absurd (others_other c d o (sym (osd_same c.number d (ap (λ v. v.to) q.is))))
        again d o (inr (inl (inr t))) = inl (counted_same c done m d o (sym (osd_same m d (ap (λ v. v.from) t))))
        again d o (inr (inr w)) = inr (Any-left (IsInstallingAt (record c { role = Installing (counted c done m) }) d) rest [] (Any-weaker (IsInstallingAt c d) (IsInstallingAt (record c { role = Installing (counted c done m) }) d) (same_set d) rest w))

        taken : (id : ℕ) → IsTaken c id → ⊥ ⊎ (Any (λ w. w.id ≡ id) c.waiting ⊎ ⊥)
        taken id (inl w) = inr (inl w)
        taken id (inr f) = absurd (subst (λ v. InFlight v c.log id) is f)

    second : (b : Bool) → all_count c (counted c done m) ≡ b → Moved up rest (Osd m) (Installed n) c (if b then serve c.waiting c else still (record c { role = Installing (counted c done m) }))
    second true all = serves_moved up rest (Osd m) (Installed n) c c [] refl refl refl (λ id f. absurd (subst (λ v. InFlight v c.log id) is f)) (λ r bad. cc)
    second false not_all = kept not_all

    first : (b : Bool) → (c.promise == n) ≡ b → Moved up rest (Osd m) (Installed n) c (if b then (if all_count c (counted c done m) then serve c.waiting c else still (record c { role = Installing (counted c done m) })) else still c)
    first true same = second (all_count c (counted c done m)) refl
    first false other = stays_moved up rest (Osd m) (Installed n) c [] (Installing done) is due (λ r bad. cc) (λ informed e d base log f bad. absurd (cc))
        (λ v e d f b. absurd (both_ways (c.promise == n) other (eq-eqb c.promise n (installed_same c.promise n (sym b))))) (λ v e d f bad. absurd (cc))
      where
        installed_same : (a b : ℕ) → Installed a ≡ Installed b → a ≡ b
        installed_same a b e = cc
installed_moved up rest c Idle n m is due = absurd due
installed_moved up rest c (Peering informed) n m is due = stays_moved up rest (Osd m) (Installed n) c [] (Peering informed) is due (λ r bad. cc) (λ informed e d base log f bad. absurd (cc)) (λ done e d f b. absurd (cc)) (λ v e d f bad. absurd (cc))
installed_moved up rest c (Active None) n m is due = stays_moved up rest (Osd m) (Installed n) c [] (Active None) is due (λ r bad. cc) (λ informed e d base log f bad. absurd (cc)) (λ done e d f b. absurd (cc)) (λ v e d f bad. absurd (cc))
installed_moved up rest c (Active (Some holders)) n m is due = stays_moved up rest (Osd m) (Installed n) c [] (Active (Some holders)) is due (λ r bad. cc) (λ informed e d base log f bad. absurd (cc)) (λ done e d f b. absurd (cc)) (λ v e d f bad. absurd (cc))

-- Appended from m
appended_same : (a b k l : ℕ) → Appended a k ≡ Appended b l → (a ≡ b) × (k ≡ l)
appended_same a b k l e = (cc, cc)

pub appended_moved : (up : List ℕ) (rest : List Sent) (c : Daemon) (r : Role) (n place m : ℕ) → c.role ≡ r → RoleDue up (to_copy c (Osd m) (Appended n place) ∷ rest) c r →
    Moved up rest (Osd m) (Appended n place) c (on_appended r c n place m)
appended_moved up rest c (Active (Some holders)) n place m is due = first ((c.promise == n) && (place == length c.log)) refl
  where
    kept : all_count c (counted c holders m) ≡ false → Moved up rest (Osd m) (Appended n place) c (still (record c { role = Active (Some (counted c holders m)) }))
    kept not_all = record {
      number = refl;
      promise = refl;
      role = (not_all, λ d o. again d o (due.1 d o));
      each = each_left up rest (Osd m) (Appended n place) c (still (record c { role = Active (Some (counted c holders m)) })) taken (λ id r bad _. absurd (cc));
    }
      where
        same_push : (d : ℕ) (s : Sent) → IsAppendingAt c d s → IsAppendingAt (record c { role = Active (Some (counted c holders m)) }) d s
        same_push d s (inl q) = inl (record { entry = q.entry; is_last = q.is_last; is = q.is })
        same_push d s (inr t) = inr t

        again : (d : ℕ) → is_in (others c) d ≡ true → (is_in holders d ≡ true) ⊎ Any (IsAppendingAt c d) (to_copy c (Osd m) (Appended n place) ∷ rest) → (is_in (counted c holders m) d ≡ true) ⊎ Any (IsAppendingAt (record c { role = Active (Some (counted c holders m)) }) d) (rest ++ [])
        again d o (inl met) = inl (counted_still c holders m d o met)
        again d o (inr (inl (inl q))) = absurd (others_other c d o (sym (osd_same c.number d (ap (λ v. v.to) q.is))))
        again d o (inr (inl (inr t))) = inl (counted_same c holders m d o (sym (osd_same m d (ap (λ v. v.from) t))))
        again d o (inr (inr w)) = inr (Any-left (IsAppendingAt (record c { role = Active (Some (counted c holders m)) }) d) rest [] (Any-weaker (IsAppendingAt c d) (IsAppendingAt (record c { role = Active (Some (counted c holders m)) }) d) (same_push d) rest w))

        taken : (id : ℕ) → IsTaken c id → ⊥ ⊎ (Any (λ w. w.id ≡ id) c.waiting ⊎ IsEntryOf c.log id)
        taken id (inl w) = inr (inl w)
        taken id (inr f) = inr (inr (subst (λ v. InFlight v c.log id) is f))

    flight : (id : ℕ) → InFlight c.role c.log id → IsEntryOf c.log id
    flight id f = subst (λ v. InFlight v c.log id) is f

    done : (e : Option Entry) → last c.log ≡ e → Moved up rest (Osd m) (Appended n place) c (complete c e)
    done None l = serves_moved up rest (Osd m) (Appended n place) c c [] refl refl refl (λ id f. (let q : IsEntryOf c.log id = flight id f in let q' = q.is_last in absurd (cc))) (λ r bad. cc)
    done (Some e) l = serves_moved up rest (Osd m) (Appended n place) c c (reply_with c e) refl refl refl
        (λ id f. (let q : IsEntryOf c.log id = flight id f in let q' = q.is_last in let same : q.entry ≡ e = cc in
        inl (record { from = Osd c.number; reply = e.reply; is = ap (λ v. send c Client (Reply v e.reply)) (ap (λ v. v.sealed.id) (sym same) ∙ q.same) }))) (λ r bad. cc)

    second : (b : Bool) → all_count c (counted c holders m) ≡ b → Moved up rest (Osd m) (Appended n place) c (if b then complete c (last c.log) else still (record c { role = Active (Some (counted c holders m)) }))
    second true all = done (last c.log) refl
    second false not_all = kept not_all

    first : (b : Bool) → ((c.promise == n) && (place == length c.log)) ≡ b → Moved up rest (Osd m) (Appended n place) c (if b then (if all_count c (counted c holders m) then complete c (last c.log) else still (record c { role = Active (Some (counted c holders m)) })) else still c)
    first true same = second (all_count c (counted c holders m)) refl
    first false other = stays_moved up rest (Osd m) (Appended n place) c [] (Active (Some holders)) is due (λ r bad. cc) (λ informed e d base log f bad. absurd (cc)) (λ v e d f bad. absurd (cc))
        (λ v e d f b. absurd (bad (appended_same n c.promise place (length c.log) b)))
      where
        bad : (n ≡ c.promise) × (place ≡ length c.log) → ⊥
        bad q = elim (and_cases (c.promise == n) (place == length c.log) other) [
          | inl miss ↦ both_ways (c.promise == n) miss (eq-eqb c.promise n (sym q.0))
          | inr miss ↦ both_ways (place == length c.log) miss (eq-eqb place (length c.log) q.1)
        ]
appended_moved up rest c Idle n place m is due = absurd due
appended_moved up rest c (Peering informed) n place m is due = stays_moved up rest (Osd m) (Appended n place) c [] (Peering informed) is due (λ r bad. cc) (λ informed e d base log f bad. absurd (cc)) (λ done e d f b. absurd (cc)) (λ v e d f bad. absurd (cc))
appended_moved up rest c (Installing done) n place m is due = stays_moved up rest (Osd m) (Appended n place) c [] (Installing done) is due (λ r bad. cc) (λ informed e d base log f bad. absurd (cc)) (λ done e d f b. absurd (cc)) (λ v e d f bad. absurd (cc))
appended_moved up rest c (Active None) n place m is due = stays_moved up rest (Osd m) (Appended n place) c [] (Active None) is due (λ r bad. cc) (λ informed e d base log f bad. absurd (cc)) (λ done e d f b. absurd (cc)) (λ v e d f bad. absurd (cc))

-- Info from m
in_heard-left : (c : Daemon) (informed : List PeerInfo) (i : PeerInfo) (d : ℕ) → is_informed c informed d ≡ true → is_informed c (informed ++ i ∷ []) d ≡ true
in_heard-left c informed i d h = elim (or_cases (d == c.number) (list_any (λ i. i.number == d) informed) h) [
  | inl own ↦ or_left (d == c.number) (list_any (λ i. i.number == d) (informed ++ i ∷ [])) own
  | inr later ↦ or_right (d == c.number) (list_any (λ i. i.number == d) (informed ++ i ∷ [])) (among informed later)
]
  where
    among : (xs : List PeerInfo) → list_any (λ i. i.number == d) xs ≡ true → list_any (λ i. i.number == d) (xs ++ i ∷ []) ≡ true
    among [] h = absurd (both_ways false refl h)
    among (x ∷ xs) h = elim (or_cases (x.number == d) (list_any (λ i. i.number == d) xs) h) [
      | inl here ↦ or_left (x.number == d) (list_any (λ i. i.number == d) (xs ++ i ∷ [])) here
      | inr later ↦ or_right (x.number == d) (list_any (λ i. i.number == d) (xs ++ i ∷ [])) (among xs later)
    ]

in_heard : (c : Daemon) (informed : List PeerInfo) (i : PeerInfo) → is_informed c (informed ++ i ∷ []) i.number ≡ true
in_heard c informed i = or_right (i.number == c.number) (list_any (λ v. v.number == i.number) (informed ++ i ∷ [])) (among informed)
  where
    among : (xs : List PeerInfo) → list_any (λ v. v.number == i.number) (xs ++ i ∷ []) ≡ true
    among [] = or_left (i.number == i.number) false (eq-eqb i.number i.number refl)
    among (x ∷ xs) = or_right (x.number == i.number) (list_any (λ v. v.number == i.number) (xs ++ i ∷ [])) (among xs)

-- the chosen log goes out
pub install_moved : (up : List ℕ) (rest : List Sent) (from : Party) (body : Body) (c : Daemon) (log : List Entry) (ms : List ℕ) → others c ≡ ms → ((id : ℕ) → InFlight c.role c.log id → ⊥) → ((r : Sealed) → body ≡ Request r → ⊥) →
    Moved up rest from body c (install_chosen c log ms)
install_moved up rest from body c log [] is idle none = serves_moved up rest from body c (record c { base = c.promise; log = log; role = Active None }) [] refl refl refl (λ id f. absurd (idle id f)) none
install_moved up rest from body c log (m ∷ ms) is idle none = record {
  number = refl;
  promise = refl;
  role = (none_counted, λ d o. inr (Any-right (IsInstallingAt (record c { base = c.promise; log = log; role = Installing [] }) d) rest (map (λ m. send c (Osd m) (Install c.promise log)) (m ∷ ms)) (goes d o)));
  each = each_left up rest from body c (install_chosen c log (m ∷ ms)) taken (λ id r bad _. absurd (none r bad));
}
  where
    none_counted : list_all (is_in []) (others c) ≡ false
    none_counted = rw is refl

    goes : (d : ℕ) → is_in (others c) d ≡ true → Any (IsInstallingAt (record c { base = c.promise; log = log; role = Installing [] }) d) (map (λ m. send c (Osd m) (Install c.promise log)) (m ∷ ms))
    goes d o = Any-map (IsInstallingAt (record c { base = c.promise; log = log; role = Installing [] }) d) (λ m. send c (Osd m) (Install c.promise log)) (m ∷ ms) d (subst (λ v. is_in v d ≡ true) is o) (inl (record { log = log; is = refl }))

    taken : (id : ℕ) → IsTaken c id → Any (IsReply id) (install_chosen c log (m ∷ ms)).sent ⊎ (Any (λ w. w.id ≡ id) c.waiting ⊎ ⊥)
    taken id (inl w) = inr (inl w)
    taken id (inr f) = absurd (idle id f)

info_same : (a b k l : ℕ) (x y : List Entry) → Info a k x ≡ Info b l y → a ≡ b
info_same a b k l x y e = cc

pub info_moved : (up : List ℕ) (rest : List Sent) (c : Daemon) (r : Role) (n m base : ℕ) (log : List Entry) → c.role ≡ r → RoleDue up (to_copy c (Osd m) (Info n base log) ∷ rest) c r →
    Moved up rest (Osd m) (Info n base log) c (on_info r c n (record { number = m; base = base; log = log }))
info_moved up rest c (Peering informed) n m base log is due = first ((c.promise == n) && not (is_informed c informed m)) refl
  where
    kept : can_choose c (informed ++ record { number = m; base = base; log = log } ∷ []) ≡ false → Moved up rest (Osd m) (Info n base log) c (still (record c { role = Peering (informed ++ record { number = m; base = base; log = log } ∷ []) }))
    kept no_choice = record {
      number = refl;
      promise = refl;
      role = (no_choice, λ d o u. again d o (due.1 d o u));
      each = each_left up rest (Osd m) (Info n base log) c (still (record c { role = Peering (informed ++ record { number = m; base = base; log = log } ∷ []) })) taken (λ id r bad _. absurd (cc));
    }
      where
        same_ask : (d : ℕ) (s : Sent) → IsAsking c d s → IsAsking (record c { role = Peering (informed ++ record { number = m; base = base; log = log } ∷ []) }) d s
        same_ask d s (inl q) = inl q
        same_ask d s (inr t) = inr (record { base = t.base; log = t.log; is = t.is })

        again : (d : ℕ) → is_in (asked c) d ≡ true → (is_informed c informed d ≡ true) ⊎ Any (IsAsking c d) (to_copy c (Osd m) (Info n base log) ∷ rest) →
            (is_informed c (informed ++ record { number = m; base = base; log = log } ∷ []) d ≡ true) ⊎ Any (IsAsking (record c { role = Peering (informed ++ record { number = m; base = base; log = log } ∷ []) }) d) (rest ++ [])
        again d o (inl met) = inl (in_heard-left c informed (record { number = m; base = base; log = log }) d met)
        again d o (inr (inl (inl q))) = absurd (asked_other c d o (sym (osd_same c.number d (ap (λ v. v.to) q))))
        again d o (inr (inl (inr t))) = inl (subst (λ v. is_informed c (informed ++ record { number = m; base = base; log = log } ∷ []) v ≡ true) (osd_same m d (ap (λ v. v.from) t.is)) (in_heard c informed (record { number = m; base = base; log = log })))
        again d o (inr (inr w)) = inr (Any-left (IsAsking (record c { role = Peering (informed ++ record { number = m; base = base; log = log } ∷ []) }) d) rest [] (Any-weaker (IsAsking c d) (IsAsking (record c { role = Peering (informed ++ record { number = m; base = base; log = log } ∷ []) }) d) (same_ask d) rest w))

        taken : (id : ℕ) → IsTaken c id → ⊥ ⊎ (Any (λ w. w.id ≡ id) c.waiting ⊎ ⊥)
        taken id (inl w) = inr (inl w)
        taken id (inr f) = absurd (subst (λ v. InFlight v c.log id) is f)

    second : (b : Bool) → can_choose c (informed ++ record { number = m; base = base; log = log } ∷ []) ≡ b → Moved up rest (Osd m) (Info n base log) c
        (if b then install_chosen c (best (own_offer c) (informed ++ record { number = m; base = base; log = log } ∷ [])).log (others c) else still (record c { role = Peering (informed ++ record { number = m; base = base; log = log } ∷ []) }))
    second true chosen = install_moved up rest (Osd m) (Info n base log) c (best (own_offer c) (informed ++ record { number = m; base = base; log = log } ∷ [])).log (others c) refl (λ id f. subst (λ v. InFlight v c.log id) is f) (λ r bad. cc)
    second false no_choice = kept no_choice

    first : (b : Bool) → ((c.promise == n) && not (is_informed c informed m)) ≡ b → Moved up rest (Osd m) (Info n base log) c (if b then try_choice c (informed ++ record { number = m; base = base; log = log } ∷ []) else still c)
    first true new = second (can_choose c (informed ++ record { number = m; base = base; log = log } ∷ [])) refl
    first false old = stays_moved up rest (Osd m) (Info n base log) c [] (Peering informed) is due (λ r bad. cc) heard_before (λ v e d f bad. absurd (cc)) (λ v e d f bad. absurd (cc))
      where
        heard_before : (informed' : List PeerInfo) → Peering informed ≡ Peering informed' → (d b : ℕ) (l : List Entry) → Osd m ≡ Osd d → Info n base log ≡ Info c.promise b l → is_informed c informed' d ≡ true
        heard_before informed' e d b l f i = elim (and_cases (c.promise == n) (not (is_informed c informed m)) old) [
          | inl miss ↦ absurd (both_ways (c.promise == n) miss (eq-eqb c.promise n (sym (info_same n c.promise base b log l i))))
          | inr met ↦ (let h : is_informed c informed m ≡ true = not-false (is_informed c informed m) met in let same : informed ≡ informed' = cc in
              subst (λ v. is_informed c v d ≡ true) same (subst (λ v. is_informed c informed v ≡ true) (osd_same m d f) h))
        ]
info_moved up rest c Idle n m base log is due = absurd due
info_moved up rest c (Installing done) n m base log is due = stays_moved up rest (Osd m) (Info n base log) c [] (Installing done) is due (λ r bad. cc) (λ v e d b l f bad. absurd (cc)) (λ v e d f b. absurd (cc)) (λ v e d f bad. absurd (cc))
info_moved up rest c (Active None) n m base log is due = stays_moved up rest (Osd m) (Info n base log) c [] (Active None) is due (λ r bad. cc) (λ v e d b l f bad. absurd (cc)) (λ v e d f b. absurd (cc)) (λ v e d f bad. absurd (cc))
info_moved up rest c (Active (Some holders)) n m base log is due = stays_moved up rest (Osd m) (Info n base log) c [] (Active (Some holders)) is due (λ r bad. cc) (λ v e d b l f bad. absurd (cc)) (λ v e d f b. absurd (cc)) (λ v e d f bad. absurd (cc))
