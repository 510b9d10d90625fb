-- The groups of a cluster that was closed ran apart.
use Rattle.std.proofs.Common.{◌≡◌, ◌≢◌, ℕ, zero, suc, ◌+◌, ◌-◌, ◌*◌, ◌<◌, ◌≤◌, ◌==◌, ◌||◌, ◌⊎◌, inl, inr, Bool, true, false, List, [], ◌∷◌, ◌++◌, map, length, get_or, refl, sym, ap, ◌∙◌, subst, arith}
use Rattle.std.specs.Prelude.{All, Option, Some, None, IsNone, slice_get}
use Rattle.std.specs.List.{filter}
use Rattle.std.proofs.lemmas.List.{length-map}
use Rattle.std.proofs.lemmas.Option.{slice_get_within}
use mathlib.Core.Logic.{dite}
use native.Mathlib.Decide.{ℕ_discrete}
use Rattle.turn_lock.specs.Turns.{entries, made_by, state_after}
use Rattle.turn_lock.specs.Seats.{Seated, lock_of, first_of, seat_lock, mine_of}
use Rattle.map_core.specs.State.{History}
use Rattle.map_core.specs.Limits.{IsAccepted}
use Rattle.map_core.specs.declared.command.MapCommand.{MapCommand}
use Rattle.map_core.specs.declared.command.MapCommand.TheVariants.{PoolCreate, AppEnable, AppSet, AppRm, OsdUp, OsdDown, OsdRestart}
use Rattle.store_core.specs.Request.{Sealed}
use Rattle.store_core.specs.declared.sealed.GroupId.{GroupId}
use Rattle.group_model_whole.specs.Each.{Each}
use Rattle.group_model.specs.Group.{Group, Event, Submit, Deliver, Lose, Repeat, NewInterval, Restart, Kick, is_submitted}
use Rattle.world_front.specs.ControlPlane.{id_of}
use Rattle.world_front.specs.Stands.{next_in, next_at, IsGiven}
use Rattle.world_front.specs.Groups.{is_for}
use Rattle.world_core.specs.World.{World}
use Rattle.world_core.specs.Sound.{IsSound}
use Rattle.world_core.specs.Parts.{requests_of}
use Rattle.world_front.specs.declared.session.Session.{Session}
use Rattle.world_core.specs.declared.world.parts.WorldParts.{WorldParts}
use Rattle.world_front.proofs.Bytes.{number_same}
use Rattle.world_front.proofs.Merge.{number_refl}
use Rattle.world_core.proofs.Acting.{each_weaker}
use Rattle.world_core.proofs.GroupsOf.{kept_at}
use Rattle.world_laws.proofs.Apart.{Turn, TakesTurns, commands_of, creates_pool}
use Rattle.world_laws.proofs.Together.{AreApart, RanApart, NumbersApart, TurnsOf, TookTurns, after_turns, apart_after, most_given, asked_in_one, each_joined, each_placed}
use Rattle.cluster_locks.specs.declared.groups.GroupEntry.{GroupEntry}
use Rattle.cluster_locks.specs.declared.groups.GroupEntry.TheVariants.{Happened, Looked, Idle}
use Rattle.cluster.specs.declared.cluster.Cluster.{Cluster}
use Rattle.cluster.specs.declared.cluster.Seats.{Seats}
use Rattle.cluster.specs.declared.cluster.Ended.{Ended}
use Rattle.cluster.specs.declared.monitor.Monitor.{Monitor}
use Rattle.cluster.specs.declared.monitor.Unfinished.{Unfinished}
use Rattle.cluster.specs.declared.pass.OwnSession.{OwnSession}
use Rattle.cluster.specs.declared.pass.Pass.{Pass}
use Rattle.cluster_locks.specs.Groups.{group_after, group_in}
use Rattle.published_map.specs.Published.{with_commands}
use Rattle.cluster.specs.MapCommands.{is_creation}
use Rattle.cluster.specs.Passes.{firsts_of, AreMonitorOf, Closed}
use Rattle.cluster.specs.GroupMoves.{happened, happened_at}
use Rattle.cluster.specs.Monitors.{moves_from, AllFollow, FollowBy, Follows}
use Rattle.cluster.specs.Sessions.{own_session, next_of, IsNumbered, AreSessionsOf}
use Rattle.cluster.specs.Asks.{IsBegun, asked_of, IsOwnEvent, IsAskedAt, IsPassOf, seats_of, sessions_of}
use Rattle.cluster.proofs.Makers.{at_mapped, mapped_at, mapped_beside, all_at, each_at, mine_at, MadeAt, AreMade, are_made}
use Rattle.cluster.proofs.GroupTurns.{IsPassEvent, Took, took_turns}
use Rattle.cluster.proofs.Requested.{requests_after, asked_by_all, asked_by_one, moves_ask_none}

-- ---- lists

-- what stands at the same place of a list that is as long
pub beside_as_long : {X Y : Type 0} → (xs : List X) (ys : List Y) (k : ℕ) (y : Y) → length ys ≡ length xs → slice_get ys k ≡ Some y → (x : X) × (slice_get xs k ≡ Some x)
beside_as_long xs [] k y long there = absurd (cc)
beside_as_long [] (v ∷ vs) k y long there = absurd (omega arith)
beside_as_long (u ∷ us) (v ∷ vs) zero y long there = (u, refl)
beside_as_long (u ∷ us) (v ∷ vs) (suc k) y long there = beside_as_long us vs k y (omega arith) there

one_there : {X : Type 0} → (xs : List X) (k : ℕ) (x y : X) → slice_get xs k ≡ Some x → slice_get xs k ≡ Some y → x ≡ y
one_there xs k x y here there = let both : Some x ≡ Some y = sym here ∙ there in cc

-- ---- the turns of all groups

-- a group took turns with these commands, which made what stands at its place
pub record TookAt (h : History) (cs : List MapCommand) (ends : List Group) (k : ℕ) (first : Group) : Type 0 where
  pub turns : List Turn
  pub takes : TakesTurns (record { history = h; group = first }) turns
  pub commands : commands_of turns ≡ cs
  pub last : slice_get ends k ≡ Some (after_turns h (first, turns))

record Runs (h : History) (cs : List MapCommand) (gs ends : List Group) : Type 0 where
  runs : List TurnsOf
  are : map (λ (r : TurnsOf). r.0) runs ≡ gs
  took : TookTurns h cs runs
  last : map (after_turns h) runs ≡ ends

all_runs : (h : History) (cs : List MapCommand) (gs ends : List Group) → length ends ≡ length gs → ((k : ℕ) (g : Group) → slice_get gs k ≡ Some g → TookAt h cs ends k g) → Runs h cs gs ends
all_runs h cs [] [] long took = record { runs = []; are = refl; took = tt; last = refl }
all_runs h cs [] (e ∷ es) long took = absurd (omega arith)
all_runs h cs (g ∷ gs) [] long took = absurd (omega arith)
all_runs h cs (g ∷ gs) (e ∷ es) long took =
    let one : TookAt h cs (e ∷ es) zero g = took zero g refl in
    let rest : Runs h cs gs es = all_runs h cs gs es (omega arith)
    (λ k x there. let t : TookAt h cs (e ∷ es) (suc k) x = took (suc k) x there in record { turns = t.turns; takes = t.takes; commands = t.commands; last = t.last }) in
    let both : Some e ≡ Some (after_turns h (g, one.turns)) = one.last in
    let same : e ≡ after_turns h (g, one.turns) = cc in
    record { runs = (g, one.turns) ∷ rest.runs; are = ap (λ l. g ∷ l) rest.are; took = ((one.takes, one.commands), rest.took); last = λ i. sym same i ∷ rest.last i }

same_creation : (c : MapCommand) → creates_pool c ≡ is_creation c
same_creation (PoolCreate name pg_num size min_size) = refl
same_creation (AppEnable pool app) = refl
same_creation (AppSet pool app key value) = refl
same_creation (AppRm pool app key) = refl
same_creation (OsdUp d) = refl
same_creation (OsdDown d) = refl
same_creation (OsdRestart d) = refl

none_created : (cs : List MapCommand) → All (λ c. is_creation c ≡ false) cs → Each (λ c. creates_pool c ≡ false) cs
none_created cs none = each_at (λ c. creates_pool c ≡ false) cs (λ k c there. same_creation c ∙ all_at (λ x. is_creation x ≡ false) cs k c none there)

runs_apart : (w : World) (h : History) (cs : List MapCommand) (gs ends : List Group) → IsSound w → w.front.submissions ≡ [] → w.front.history ≡ h → gs ≡ w.groups → Runs h cs gs ends → All (λ c. is_creation c ≡ false) cs → IsAccepted (with_commands h cs)
    → NumbersApart ends → AreApart (with_commands h cs) ends
runs_apart w h cs gs ends sound empty same groups r none accepted numbers =
    let P : History → Type 0 = λ j. TookTurns j cs r.runs → IsAccepted (with_commands j cs) → NumbersApart (map (after_turns j) r.runs) → AreApart (with_commands j cs) (map (after_turns j) r.runs) in
    let all : P h = subst P same (λ took accepted numbers. apart_after w cs r.runs sound empty (r.are ∙ groups) took (none_created cs none) accepted numbers) in
    subst (AreApart (with_commands h cs)) r.last (all r.took accepted (subst NumbersApart (sym r.last) numbers))

-- ---- requests by their ids

-- one that a pass asked has an id of its sessions
pub numbered_in : (start : History) (own : List OwnSession) (group : GroupId) (es : List Event) (id : ℕ) → Each (IsOwnEvent start own group) es → is_submitted (asked_of es) id ≡ true → IsNumbered own id
numbered_in start own group [] id h asked = absurd (cc)
numbered_in start own group (Submit s ∷ es) id h asked = go (s.id == id) refl asked (λ more. numbered_in start own group es id h.1 more)
  where
    go : (b : Bool) → (s.id == id) ≡ b → (b || is_submitted (asked_of es) id) ≡ true → (is_submitted (asked_of es) id ≡ true → IsNumbered own id) → IsNumbered own id
    go true is asked rest = subst (IsNumbered own) (number_same s.id id is) h.0.2
    go false is asked rest = rest asked
numbered_in start own group (Deliver k ∷ es) id h asked = numbered_in start own group es id h.1 asked
numbered_in start own group (Lose k ∷ es) id h asked = absurd h.0
numbered_in start own group (Repeat k ∷ es) id h asked = absurd h.0
numbered_in start own group (NewInterval acting up ∷ es) id h asked = absurd h.0
numbered_in start own group (Restart d ∷ es) id h asked = absurd h.0
numbered_in start own group (Kick ∷ es) id h asked = absurd h.0

-- each request's id is one that is among them
each_asked : (P : ℕ → Type 0) (rs : List Sealed) → ((id : ℕ) → is_submitted rs id ≡ true → P id) → Each (λ r. P r.id) rs
each_asked P [] h = tt
each_asked P (r ∷ rs) h = (h r.id (ap (λ b. b || is_submitted rs r.id) (number_refl r.id)), each_asked P rs (λ id asked. h id (later r id rs asked)))
  where
    later : (r : Sealed) (id : ℕ) (rs : List Sealed) → is_submitted rs id ≡ true → is_submitted (r ∷ rs) id ≡ true
    later r id rs asked = go (r.id == id)
      where
        go : (b : Bool) → (b || is_submitted rs id) ≡ true
        go true = refl
        go false = asked

-- where a request stands among those of the seat j, there is such a seat
pub asked_inside : (seats : List (Seated GroupEntry)) (j id : ℕ) → is_submitted (asked_of (happened (get_or (map mine_of seats) j []))) id ≡ true → (s : Seated GroupEntry) × (slice_get seats j ≡ Some s)
asked_inside [] j id asked = absurd (cc)
asked_inside (s ∷ ss) zero id asked = (s, refl)
asked_inside (s ∷ ss) (suc j) id asked = asked_inside ss j id asked

-- an id tells its session, and the number in it
pub same_session : (s t m n : ℕ) → m < 4294967296 → n < 4294967296 → s * 4294967296 + m ≡ t * 4294967296 + n → s ≡ t
same_session s t m n few less same = omega arith

has_session : (o : Option Session) (n : ℕ) → n < next_in o → (s : Session) × (o ≡ Some s)
has_session None n h = absurd (omega arith)
has_session (Some s) n h = (s, refl)

-- ---- passes and groups at the end

-- a pass has asked this at the place k
record AskedBy (passes : List Pass) (k id : ℕ) : Type 0 where
  place : ℕ
  pass : Pass
  there : slice_get passes place ≡ Some pass
  asks : IsAskedAt pass.seats k id
  numbered : IsNumbered pass.sessions.items id

-- the group at the place k has the requests that passes asked there, and no others
pub record HasSubmitted (passes : List Pass) (k : ℕ) (last : Group) : Type 0 where
  pub asked : (id : ℕ) → is_submitted last.requests id ≡ true → (a : ℕ) × (p : Pass) × (slice_get passes a ≡ Some p) × IsAskedAt p.seats k id
  pub kept : (a : ℕ) (p : Pass) (id : ℕ) → slice_get passes a ≡ Some p → IsAskedAt p.seats k id → is_submitted last.requests id ≡ true

module _ (c : Cluster) (passes : List Pass) (sessions : List Session) (are : All (IsPassOf c) passes) (numbered : AreSessionsOf (map sessions_of passes) sessions) (ends : List Group) (long : length ends ≡ length (firsts_of c))
    (has : (k : ℕ) (first last : Group) → slice_get (firsts_of c) k ≡ Some first → slice_get ends k ≡ Some last → HasSubmitted passes k last) where
  pass_at : (a : ℕ) (p : Pass) → slice_get passes a ≡ Some p → IsPassOf c p
  pass_at a p there = all_at (IsPassOf c) passes a p are there

  asked_by : (k : ℕ) (g : Group) (id : ℕ) → slice_get ends k ≡ Some g → is_submitted g.requests id ≡ true → AskedBy passes k id
  asked_by k g id there asked =
      let f = beside_as_long (firsts_of c) ends k g long there in
      let a = (has k f.0 g f.1 there).asked id asked in
      record {
        place = a.0;
        pass = a.1;
        there = a.2;
        asks = a.3;
        numbered = numbered_in c.start a.1.sessions.items f.0.group (happened_at a.1.seats k) id ((pass_at a.0 a.1 a.2).asks.events k f.0 f.1) a.3;
      }

  -- two that asked one id are one
  one_asked : (k j id : ℕ) (a : AskedBy passes k id) (b : AskedBy passes j id) → a.place ≡ b.place
  one_asked k j id a b =
      let same : a.numbered.session ≡ b.numbered.session = same_session a.numbered.session b.numbered.session a.numbered.number b.numbered.number a.numbered.fits b.numbered.fits (sym a.numbered.is ∙ b.numbered.is) in
      let s = has_session (own_session a.pass.sessions.items a.numbered.session) a.numbered.number a.numbered.past in
      let t = has_session (own_session b.pass.sessions.items b.numbered.session) b.numbered.number b.numbered.past in
      numbered.once a.place b.place a.numbered.session a.pass.sessions.items b.pass.sessions.items s.0 t.0 (mapped_at sessions_of passes a.place a.pass a.there) (mapped_at sessions_of passes b.place b.pass b.there) s.1
      (ap (own_session b.pass.sessions.items) same ∙ t.1)

  numbers_apart : NumbersApart ends
  numbers_apart place other g v id here there p q = go (asked_by place g id here p) (asked_by other v id there q)
    where
      go : AskedBy passes place id → AskedBy passes other id → place ≡ other
      go a b =
          let same : a.pass ≡ b.pass = one_there passes a.place a.pass b.pass a.there (ap (slice_get passes) (one_asked place other id a b) ∙ b.there) in
          (pass_at a.place a.pass a.there).asks.once place other id a.asks (subst (λ (x : Pass). IsAskedAt x.seats other id) (sym same) b.asks)

  given_one : (k id : ℕ) → AskedBy passes k id → IsGiven sessions id
  given_one k id a =
      let s = has_session (own_session a.pass.sessions.items a.numbered.session) a.numbered.number a.numbered.past in
      let at = numbered.each a.place a.numbered.session a.pass.sessions.items s.0 (mapped_at sessions_of passes a.place a.pass a.there) s.1 in
      record { session = a.numbered.session; number = a.numbered.number; is = a.numbered.is; past = subst (λ (o : Option Session). a.numbered.number < next_in o) (s.1 ∙ sym at.1) a.numbered.past }

  all_given : Each (λ r. IsGiven sessions r.id) (requests_of ends)
  all_given = each_joined (λ r. IsGiven sessions r.id) (λ g. g.requests) ends
      (each_placed (λ g. Each (λ r. IsGiven sessions r.id) g.requests) ends
      (λ place g there. each_asked (IsGiven sessions) g.requests (λ id asked. given_one place id (asked_by place g id there asked))))

  -- what a pass asked is there
  asked_there : (a : ℕ) (p : Pass) (j id : ℕ) → slice_get passes a ≡ Some p → IsAskedAt p.seats j id → is_submitted (requests_of ends) id ≡ true
  asked_there a p j id there asked =
      let s = asked_inside p.seats.groups.items j id asked in
      let l = mapped_beside lock_of seat_lock c.groups.items p.seats.groups.items j s.0 (sym (pass_at a p there).seats.0.0) s.1 in
      let first : slice_get (firsts_of c) j ≡ Some (first_of l.0) = mapped_at first_of c.groups.items j l.0 l.1 in
      let e = beside_as_long ends (firsts_of c) j (first_of l.0) (sym long) first in
      asked_in_one ends j e.0 id e.1 ((has j (first_of l.0) e.0 first e.1).kept a p id there asked)

  number_asked : (session k : ℕ) → 1 ≤ session → 1 ≤ k → k < next_at sessions session → is_submitted (requests_of ends) (session * 4294967296 + k) ≡ true
  number_asked session k one least less =
      let s = has_session (slice_get sessions (session - 1)) k less in
      let o = numbered.every session s.0 s.1 one in
      let p = at_mapped sessions_of passes o.0 o.1 o.2 in
      let next : own_session (sessions_of p.0) session ≡ Some s.0 = ap (λ (l : List OwnSession). own_session l session) p.2 ∙ o.3 in
      let below : k < next_of (sessions_of p.0) session = subst (λ (x : Option Session). k < next_in x) (s.1 ∙ sym next) less in
      let a = (pass_at o.0 p.0 p.1).asks.each session k least below in
      asked_there o.0 p.0 a.0 (id_of session k) p.1 a.1

  few_given : (n : ℕ) → next_at sessions n ≤ length (requests_of ends) + 1
  few_given = most_given sessions (requests_of ends) number_asked

-- groups that ran so, of passes that asked their requests, ran apart
pub all_ran : (c : Cluster) (passes : List Pass) (p : WorldParts) (w : World) (cs : List MapCommand) → IsSound w → w.front.submissions ≡ [] → w.front.history ≡ c.start → firsts_of c ≡ w.groups → All (IsPassOf c) passes
    → All (λ x. is_creation x ≡ false) cs → IsAccepted (with_commands c.start cs) → p.map ≡ with_commands c.start cs → length p.groups.items ≡ length (firsts_of c) → AreSessionsOf (map sessions_of passes) p.sessions.items
    → ((k : ℕ) (first : Group) → slice_get (firsts_of c) k ≡ Some first → TookAt c.start cs p.groups.items k first)
    → ((k : ℕ) (first last : Group) → slice_get (firsts_of c) k ≡ Some first → slice_get p.groups.items k ≡ Some last → HasSubmitted passes k last) → RanApart p
all_ran c passes p w cs sound empty same groups are none accepted map_is long numbered took has =
    let ends : List Group = p.groups.items in
    let apart : AreApart (with_commands c.start cs) ends =
    runs_apart w c.start cs (firsts_of c) ends sound empty same groups (all_runs c.start cs (firsts_of c) ends long took) none accepted (numbers_apart c passes p.sessions.items are numbered ends long has) in
    record {
      apart = subst (λ (h : History). AreApart h ends) (sym map_is) apart;
      given = all_given c passes p.sessions.items are numbered ends long has;
      most = few_given c passes p.sessions.items are numbered ends long has;
    }

-- ---- one group of a closed cluster

pass_event : (start : History) (own : List OwnSession) (id : GroupId) (e : Event) → IsOwnEvent start own id e → IsPassEvent start id e
pass_event start own id (Submit s) h = (h.0, h.1)
pass_event start own id (Deliver k) h = h
pass_event start own id (Lose k) h = absurd h
pass_event start own id (Repeat k) h = absurd h
pass_event start own id (NewInterval acting up) h = absurd h
pass_event start own id (Restart d) h = absurd h
pass_event start own id Kick h = absurd h

-- what was asked among entries is asked where there are more
asked_front : (es more : List GroupEntry) (id : ℕ) → is_submitted (asked_of (happened es)) id ≡ true → is_submitted (asked_of (happened (es ++ more))) id ≡ true
asked_front [] more id h = absurd (cc)
asked_front (Looked ∷ es) more id h = asked_front es more id h
asked_front (Idle ∷ es) more id h = asked_front es more id h
asked_front (Happened (Submit s) ∷ es) more id h = go (s.id == id) h (λ k. asked_front es more id k)
  where
    go : (b : Bool) → (b || is_submitted (asked_of (happened es)) id) ≡ true → (is_submitted (asked_of (happened es)) id ≡ true → is_submitted (asked_of (happened (es ++ more))) id ≡ true) → (b || is_submitted (asked_of (happened (es ++ more))) id) ≡ true
    go true k rest = refl
    go false k rest = rest k
asked_front (Happened (Deliver k) ∷ es) more id h = asked_front es more id h
asked_front (Happened (Lose k) ∷ es) more id h = asked_front es more id h
asked_front (Happened (Repeat k) ∷ es) more id h = asked_front es more id h
asked_front (Happened (NewInterval acting up) ∷ es) more id h = asked_front es more id h
asked_front (Happened (Restart d) ∷ es) more id h = asked_front es more id h
asked_front (Happened Kick ∷ es) more id h = asked_front es more id h

none_asked : (rs : List Sealed) (id : ℕ) → rs ≡ [] → is_submitted rs id ≡ true → ⊥
none_asked rs id none asked = let is : false ≡ true = ap (λ l. is_submitted l id) (sym none) ∙ asked in absurd (cc)

module _ (c : Cluster) (m : Monitor) (passes : List Pass) (ended : Ended) (are : All (IsPassOf c) passes) (cs : List MapCommand) (accepted : IsAccepted (with_commands c.start cs))
    (k : ℕ) (first : Group) (at : slice_get (firsts_of c) k ≡ Some first) (made : MadeAt m.seats passes ended k first) (moves : happened_at m.seats k ≡ moves_from c.start first.group cs) (empty : first.requests ≡ []) where
  others_pass : (by : ℕ) → by ≢ made.number → Each (IsPassEvent c.start first.group) (happened (made_by by made.list))
  others_pass by other = go (made.others by other)
    where
      go : (made_by by made.list ≡ []) ⊎ ((a : ℕ) × (p : Pass) × (slice_get passes a ≡ Some p) × (happened (made_by by made.list) ≡ happened_at p.seats k)) → Each (IsPassEvent c.start first.group) (happened (made_by by made.list))
      go (inl none) = subst (λ (es : List GroupEntry). Each (IsPassEvent c.start first.group) (happened es)) (sym none) tt
      go (inr t) =
          let own : List OwnSession = t.1.sessions.items in
          subst (Each (IsPassEvent c.start first.group)) (sym t.3)
          (each_weaker (IsOwnEvent c.start own first.group) (IsPassEvent c.start first.group) (λ e h. pass_event c.start own first.group e h) (happened_at t.1.seats k) ((all_at (IsPassOf c) passes t.0 t.1 are t.2).asks.events k first at))

  took_so : TookAt c.start cs (map group_in ended.groups.items) k first
  took_so =
      let t : Took c.start first cs (state_after group_after first made.list) = took_turns c.start first made.number cs made.list made.fit (made.own ∙ moves) others_pass accepted in
      record { turns = t.0; takes = t.1; commands = t.2; last = made.is ∙ ap (λ (g : Group). Some g) (sym t.3) }

  requests_are : (state_after group_after first made.list).requests ≡ asked_of (happened (entries made.list))
  requests_are = requests_after made.list first made.fit ∙ ap (λ rs. rs ++ asked_of (happened (entries made.list))) empty

  -- who made a request is a pass
  pass_asked : (by id : ℕ) → is_submitted (asked_of (happened (made_by by made.list))) id ≡ true → (a : ℕ) × (p : Pass) × (slice_get passes a ≡ Some p) × IsAskedAt p.seats k id
  pass_asked by id asked = dite (ℕ_discrete by made.number)
      (λ is. absurd (none_asked (asked_of (happened (made_by by made.list))) id (ap (λ n. asked_of (happened (made_by n made.list))) is ∙ (ap asked_of (made.own ∙ moves) ∙ moves_ask_none first.group cs c.start)) asked))
      (λ other. go (made.others by other))
    where
      go : (made_by by made.list ≡ []) ⊎ ((a : ℕ) × (p : Pass) × (slice_get passes a ≡ Some p) × (happened (made_by by made.list) ≡ happened_at p.seats k)) → (a : ℕ) × (p : Pass) × (slice_get passes a ≡ Some p) × IsAskedAt p.seats k id
      go (inl none) = absurd (none_asked (asked_of (happened (made_by by made.list))) id (ap (λ es. asked_of (happened es)) none) asked)
      go (inr t) = (t.0, t.1, t.2, subst (λ (es : List Event). is_submitted (asked_of es) id ≡ true) t.3 asked)

  -- and what a pass asked is there
  asked_kept : (a : ℕ) (p : Pass) (id : ℕ) → slice_get passes a ≡ Some p → IsAskedAt p.seats k id → is_submitted (asked_of (happened (entries made.list))) id ≡ true
  asked_kept a p id there asked =
      let b = made.kept a p there in
      asked_by_all made.list b.0 id (subst (λ (es : List GroupEntry). is_submitted (asked_of (happened es)) id ≡ true) (sym b.2) (asked_front (mine_at p.seats k) b.1 id asked))

  has_asked : (last : Group) → slice_get (map group_in ended.groups.items) k ≡ Some last → HasSubmitted passes k last
  has_asked last here =
      let same : state_after group_after first made.list ≡ last = one_there (map group_in ended.groups.items) k (state_after group_after first made.list) last made.is here in
      subst (HasSubmitted passes k) same (record {
        asked = λ id asked. let b = asked_by_one made.list id (subst (λ (rs : List Sealed). is_submitted rs id ≡ true) requests_are asked) in pass_asked b.0 id b.1;
        kept = λ a p id there asked. subst (λ (rs : List Sealed). is_submitted rs id ≡ true) (sym requests_are) (asked_kept a p id there asked);
      })

-- ---- the whole

all_follow : (u : Option Unfinished) (first : History) (commands : List MapCommand) (places : List GroupId) (seats : Seats) → IsNone u → FollowBy u first commands places seats → AllFollow first commands places seats
all_follow None first commands places seats none h = h
all_follow (Some x) first commands places seats none h = absurd (cc)

-- the seat of a group made the events of the commands
moves_at : (c : Cluster) (m : Monitor) (f : Follows c.start m) → IsNone m.unfinished → m.places.items ≡ map (λ g. g.group) (firsts_of c) → (k : ℕ) (first : Group) → slice_get (firsts_of c) k ≡ Some first
    → happened_at m.seats k ≡ moves_from c.start first.group f.commands
moves_at c m f none places k first at =
    let there : slice_get m.places.items k ≡ Some first.group = ap (λ (l : List GroupId). slice_get l k) places ∙ mapped_at (λ (g : Group). g.group) (firsts_of c) k first at in
    all_follow m.unfinished c.start f.commands m.places.items m.seats none f.events k first.group (slice_get_within m.places.items k first.group there) there

-- at first no group has a request
begins_empty : (c : Cluster) → IsBegun c → (k : ℕ) (first : Group) → slice_get (firsts_of c) k ≡ Some first → first.requests ≡ []
begins_empty c b k first at = (kept_at b.world b.sound k first (ap (λ (l : List Group). slice_get l k) (sym b.groups) ∙ at)).requests ∙ ap (filter (is_for first.group)) b.unasked

-- the groups of a cluster that was closed by all its passes, with no change of the map unfinished, ran apart
pub ran_apart : (c : Cluster) (m : Monitor) (passes : List Pass) (ended : Ended) (p : WorldParts) → IsBegun c → All (IsPassOf c) passes → length passes ≡ c.passes → c.passes < 18446744073709551615 → AreMonitorOf c m.seats → Follows c.start m → IsNone m.unfinished
    → m.places.items ≡ map (λ g. g.group) (firsts_of c) → IsAccepted m.map → Closed c m.seats (map seats_of passes) ended → p.groups.items ≡ map group_in ended.groups.items → p.map ≡ m.map → AreSessionsOf (map sessions_of passes) p.sessions.items → RanApart p
ran_apart c m passes ended p begun are whole few own follows none places accepted closed groups map_is numbered =
    let made : AreMade c m.seats passes ended = are_made c m.seats passes ended own are whole few closed in
    let fine : IsAccepted (with_commands c.start follows.commands) = subst IsAccepted follows.map_is accepted in
    all_ran c passes p begun.world follows.commands begun.sound begun.unasked begun.map_is begun.groups are follows.pools fine (map_is ∙ follows.map_is)
    (ap length groups ∙ (length-map ended.groups.items group_in ∙ (made.count ∙ sym (length-map c.groups.items first_of)))) numbered
    (λ k first at. subst (λ (l : List Group). TookAt c.start follows.commands l k first) (sym groups)
    (took_so c m passes ended are follows.commands fine k first at (made.each k first at) (moves_at c m follows none places k first at) (begins_empty c begun k first at)))
    (λ k first last at here. has_asked c m passes ended are follows.commands fine k first at (made.each k first at) (moves_at c m follows none places k first at) (begins_empty c begun k first at) last (ap (λ (l : List Group). slice_get l k) (sym groups) ∙ here))
