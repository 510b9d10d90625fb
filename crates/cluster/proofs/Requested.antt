-- The requests of a group after a list of turns, and whose they are.
use Rattle.std.proofs.Common.{◌≡◌, ◌∙◌, ℕ, ◌==◌, ◌||◌, List, [], ◌∷◌, ◌++◌, Bool, true, false, if◌then◌else◌, refl, sym, ap, subst, append-nil, append_assoc}
use Rattle.turn_lock.specs.declared.rule.Made.{Made}
use Rattle.turn_lock.specs.Turns.{entries, made_by, state_after, EachFits}
use Rattle.map_core.specs.State.{History}
use Rattle.map_core.specs.declared.command.MapCommand.{MapCommand}
use Rattle.map_core.specs.declared.command.MapCommand.TheVariants.{PoolCreate, AppEnable, AppSet, AppRm, OsdUp, OsdDown, OsdRestart}
use Rattle.store_core.specs.declared.sealed.GroupId.{GroupId}
use Rattle.group_model.specs.Group.{Group, Event, Submit, Deliver, Lose, Repeat, NewInterval, Restart, Kick, group_step, is_submitted}
use Rattle.world_front.proofs.Merge.{number_refl}
use Rattle.world_core.proofs.Requests.{Facts, message_facts, submit_facts, interval_facts, restart_facts}
use Rattle.cluster_locks.specs.declared.groups.GroupEntry.{GroupEntry}
use Rattle.cluster_locks.specs.declared.groups.GroupEntry.TheVariants.{Happened, Looked, Idle}
use Rattle.cluster_locks.specs.Groups.{group_after, entry_fits, WasAccepted}
use Rattle.published_map.specs.Published.{with_command}
use Rattle.cluster.specs.GroupMoves.{happened}
use Rattle.cluster.specs.Monitors.{moves_from}
use Rattle.cluster.specs.Asks.{asked_of}
use Rattle.cluster.proofs.GroupTurns.{fits_first, fits_rest}

-- ---- the requests of a group

asked_step : (g : Group) (e : Event) → WasAccepted g e → (group_step g e).requests ≡ g.requests ++ asked_of (e ∷ [])
asked_step g (Submit s) h = ap (λ (x : Facts). x.requests) (submit_facts g s h)
asked_step g (Deliver k) h = ap (λ (x : Facts). x.requests) (message_facts (Deliver k) g tt) ∙ sym (append-nil g.requests)
asked_step g (Lose k) h = ap (λ (x : Facts). x.requests) (message_facts (Lose k) g tt) ∙ sym (append-nil g.requests)
asked_step g (Repeat k) h = ap (λ (x : Facts). x.requests) (message_facts (Repeat k) g tt) ∙ sym (append-nil g.requests)
asked_step g (NewInterval acting up) h = ap (λ (x : Facts). x.requests) (interval_facts g acting up h) ∙ sym (append-nil g.requests)
asked_step g (Restart d) h = ap (λ (x : Facts). x.requests) (restart_facts g d h) ∙ sym (append-nil g.requests)
asked_step g Kick h = ap (λ (x : Facts). x.requests) (message_facts Kick g tt) ∙ sym (append-nil g.requests)

asked_entry : (g : Group) (e : GroupEntry) → entry_fits g e → (group_after g e).requests ≡ g.requests ++ asked_of (happened (e ∷ []))
asked_entry g (Happened e) h = asked_step g e h
asked_entry g Looked h = sym (append-nil g.requests)
asked_entry g Idle h = sym (append-nil g.requests)

-- those of the first entry, and the others
asked_first : (e : GroupEntry) (es : List GroupEntry) → asked_of (happened (e ∷ es)) ≡ asked_of (happened (e ∷ [])) ++ asked_of (happened es)
asked_first (Happened (Submit s)) es = refl
asked_first (Happened (Deliver k)) es = refl
asked_first (Happened (Lose k)) es = refl
asked_first (Happened (Repeat k)) es = refl
asked_first (Happened (NewInterval acting up)) es = refl
asked_first (Happened (Restart d)) es = refl
asked_first (Happened Kick) es = refl
asked_first Looked es = refl
asked_first Idle es = refl

-- the requests after a list that fits are the first ones, and those that are asked in it, in order
pub requests_after : (list : List (Made GroupEntry)) (first : Group) → EachFits group_after entry_fits first list → (state_after group_after first list).requests ≡ first.requests ++ asked_of (happened (entries list))
requests_after [] first fit = sym (append-nil first.requests)
requests_after (m ∷ ms) first fit =
    requests_after ms (group_after first m.entry) (fits_rest first m ms fit)
    ∙ (ap (λ l. l ++ asked_of (happened (entries ms))) (asked_entry first m.entry (fits_first first m ms fit))
    ∙ (append_assoc first.requests (asked_of (happened (m.entry ∷ []))) (asked_of (happened (entries ms))) ∙ ap (λ l. first.requests ++ l) (sym (asked_first m.entry (entries ms)))))

-- ---- whose a request is

-- a request of this id is among these entries
abbrev pub is_among : List GroupEntry → ℕ → Bool
is_among es id = is_submitted (asked_of (happened es)) id

or_none : (b : Bool) → b ≡ (b || false)
or_none true = refl
or_none false = refl

among_first : (e : GroupEntry) (es : List GroupEntry) (id : ℕ) → is_among (e ∷ es) id ≡ (is_among (e ∷ []) id || is_among es id)
among_first (Happened (Submit s)) es id = ap (λ b. b || is_among es id) (or_none (s.id == id))
among_first (Happened (Deliver k)) es id = refl
among_first (Happened (Lose k)) es id = refl
among_first (Happened (Repeat k)) es id = refl
among_first (Happened (NewInterval acting up)) es id = refl
among_first (Happened (Restart d)) es id = refl
among_first (Happened Kick) es id = refl
among_first Looked es id = refl
among_first Idle es id = refl

or_more : (a b c : Bool) → (b ≡ true → c ≡ true) → (a || b) ≡ true → (a || c) ≡ true
or_more true b c more h = refl
or_more false b c more h = more h

or_last : (a b : Bool) → b ≡ true → (a || b) ≡ true
or_last true b h = refl
or_last false b h = h

or_front : (a b : Bool) → a ≡ true → (a || b) ≡ true
or_front true b h = refl
or_front false b h = absurd (cc)

-- what one seat asked is in the list
pub asked_by_all : (list : List (Made GroupEntry)) (by id : ℕ) → is_submitted (asked_of (happened (made_by by list))) id ≡ true → is_submitted (asked_of (happened (entries list))) id ≡ true
asked_by_all [] by id h = h
asked_by_all (m ∷ ms) by id h = among_first m.entry (entries ms) id ∙ go (m.by == by) h (λ k. asked_by_all ms by id k)
  where
    go : (b : Bool) → is_among (if b then m.entry ∷ made_by by ms else made_by by ms) id ≡ true → (is_among (made_by by ms) id ≡ true → is_among (entries ms) id ≡ true) → (is_among (m.entry ∷ []) id || is_among (entries ms) id) ≡ true
    go true k rest = or_more (is_among (m.entry ∷ []) id) (is_among (made_by by ms) id) (is_among (entries ms) id) rest (sym (among_first m.entry (made_by by ms) id) ∙ k)
    go false k rest = or_last (is_among (m.entry ∷ []) id) (is_among (entries ms) id) (rest k)

-- what is asked in the list, one seat asked
pub asked_by_one : (list : List (Made GroupEntry)) (id : ℕ) → is_submitted (asked_of (happened (entries list))) id ≡ true → (by : ℕ) × (is_submitted (asked_of (happened (made_by by list))) id ≡ true)
asked_by_one [] id h = absurd (cc)
asked_by_one (m ∷ ms) id h = go (is_among (m.entry ∷ []) id) refl (sym (among_first m.entry (entries ms) id) ∙ h) (λ k. asked_by_one ms id k)
  where
    here : is_among (m.entry ∷ []) id ≡ true → is_among (made_by m.by (m ∷ ms)) id ≡ true
    here is = subst (λ (b : Bool). is_among (if b then m.entry ∷ made_by m.by ms else made_by m.by ms) id ≡ true) (sym (number_refl m.by))
        (among_first m.entry (made_by m.by ms) id ∙ or_front (is_among (m.entry ∷ []) id) (is_among (made_by m.by ms) id) is)

    still : (by : ℕ) → is_among (made_by by ms) id ≡ true → is_among (made_by by (m ∷ ms)) id ≡ true
    still by is = past (m.by == by)
      where
        past : (b : Bool) → is_among (if b then m.entry ∷ made_by by ms else made_by by ms) id ≡ true
        past true = among_first m.entry (made_by by ms) id ∙ or_last (is_among (m.entry ∷ []) id) (is_among (made_by by ms) id) is
        past false = is

    go : (a : Bool) → is_among (m.entry ∷ []) id ≡ a → (a || is_among (entries ms) id) ≡ true → (is_among (entries ms) id ≡ true → (by : ℕ) × (is_among (made_by by ms) id ≡ true)) → (by : ℕ) × (is_among (made_by by (m ∷ ms)) id ≡ true)
    go true is k rest = (m.by, here is)
    go false is k rest = let r = rest k in (r.0, still r.0 r.1)

-- the monitor's events have no request
pub moves_ask_none : (id : GroupId) (cs : List MapCommand) (start : History) → asked_of (moves_from start id cs) ≡ []
moves_ask_none id [] start = refl
moves_ask_none id (OsdUp d ∷ cs) start = moves_ask_none id cs (with_command start (OsdUp d))
moves_ask_none id (OsdDown d ∷ cs) start = moves_ask_none id cs (with_command start (OsdDown d))
moves_ask_none id (OsdRestart d ∷ cs) start = moves_ask_none id cs (with_command start (OsdRestart d))
moves_ask_none id (PoolCreate name pg_num size min_size ∷ cs) start = moves_ask_none id cs (with_command start (PoolCreate name pg_num size min_size))
moves_ask_none id (AppEnable pool app ∷ cs) start = moves_ask_none id cs (with_command start (AppEnable pool app))
moves_ask_none id (AppSet pool app key value ∷ cs) start = moves_ask_none id cs (with_command start (AppSet pool app key value))
moves_ask_none id (AppRm pool app key ∷ cs) start = moves_ask_none id cs (with_command start (AppRm pool app key))
