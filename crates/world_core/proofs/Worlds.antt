-- What every world keeps, event by event.
use Rattle.std.proofs.Common.{◌≡◌, ◌∙◌, ℕ, ◌<◌, ◌≤◌, ◌==◌, List, [], ◌∷◌, ◌++◌, Bool, true, false, cond, if◌then◌else◌, Option, Some, None, map, length, refl, sym, ap, subst, arith, append-nil, append_assoc, length-append}
use Rattle.std.specs.Prelude.{fold}
use Rattle.std.specs.List.{flat_map}
use Rattle.std.specs.Option.{option_map}
use Rattle.place_core.specs.Placement.{numbers_of}
use Rattle.grant_core.specs.Flat.{Table}
use Rattle.map_core.specs.State.{MapState}
use Rattle.map_core.specs.Map.{map_of, after}
use Rattle.map_core.specs.declared.command.MapCommand.{MapCommand}
use Rattle.map_core.specs.declared.command.MapCommand.TheVariants.{PoolCreate, AppEnable, AppSet, AppRm, OsdUp, OsdDown, OsdRestart}
use Rattle.store_core.specs.Request.{Sealed}
use Rattle.entry_core.specs.Log.{Legal, find}
use Rattle.store_core.specs.declared.entry.Entry.{Entry}
use Rattle.store_core.specs.declared.sealed.GroupId.{GroupId}
use Rattle.group_model.specs.Types.{EntryReply}
use Rattle.group_model_whole.specs.Each.{Each}
use Rattle.group_model_whole.specs.Asked.{IsAsked, IsReplied}
use Rattle.group_model_whole.specs.History.{Begins}
use Rattle.group_model.specs.Group.{Group, group_step, run, start, submitted, answer_of}
use Rattle.group_model.specs.Group as group
use Rattle.group_model_whole.proofs.Kept.{answer_replied}
use Rattle.group_model.proofs.Additions.{answer_stands}
use Rattle.group_model.proofs.Twins.{run_replied}
use Rattle.world_events.specs.declared.event.Event.{Event}
use Rattle.world_events.specs.declared.event.Event.TheVariants.{Auth, Map, Open, Renew, Close, Submit, List as ListNames, Deliver, Lose, Repeat, Kick}
use Rattle.entry_core.specs.Locality.{group_for, IsPlaced}
use Rattle.world_front.specs.Groups.{is_same_group, is_of, groups_of, group_count}
use Rattle.world_front.specs.Merging.{part_of, IsKnown}
use Rattle.world_front.specs.ControlPlane.{ControlPlane, sealed_by, front_step}
use Rattle.world_core.specs.World.{World, Part, part, first_world, group_at, decided_in, act, acted, members_of, map_parts, asked_parts, parts_of, begun_group, created_by, world_step, world_after}
use Rattle.world_core.specs.Standing.{audit_in, audit_at, IsMerged, AllSubmitted, HasNumbers}
use Rattle.world_core.specs.Answers.{answer_in, answer_to, answer_at, IsOneList, DecidedIsOneList, AuditGrows, AnswersStand}
use Rattle.world_front.proofs.Merge.{same_group, group_refl, parts_are_legal_together}
use Rattle.world_core.proofs.Standing.{step_is, Submits, Stands, stands_legal}
use Rattle.world_core.proofs.Acting.{act_stands, act_asked, act_merged, group_at_self, group_at_other, group_at_each, each_join, each_weaker}
use Rattle.world_front.proofs.Bytes.{number_same}
use Rattle.world_front.proofs.Numbers.{asked_later}
use Rattle.world_front.proofs.Fronts.{IsSealedWell, placed, front_stands}
pub use Rattle.world_core.specs.Sound.{WorldStands}

-- ---- more submissions

submits_later : (rs more : List Sealed) (id : GroupId) (e : group.Event) → Submits rs id e → Submits (rs ++ more) id e
submits_later rs more id (group.Submit s) h = (asked_later rs more s h.0, h.1)
submits_later rs more id (group.Deliver k) h = tt
submits_later rs more id (group.Lose k) h = tt
submits_later rs more id (group.Repeat k) h = tt
submits_later rs more id (group.NewInterval acting up) h = tt
submits_later rs more id (group.Restart d) h = tt
submits_later rs more id group.Kick h = tt

stands_later : (rs more : List Sealed) (g : Group) → Stands rs g → Stands (rs ++ more) g
stands_later rs more g h = record {
  min_size = h.min_size;
  count = h.count;
  acting = h.acting;
  up = h.up;
  events = h.events;
  submits = each_weaker (Submits rs g.group) (Submits (rs ++ more) g.group) (λ e k. submits_later rs more g.group e k) h.events h.submits;
  is = h.is;
}

-- ---- the parts of an event

abbrev AreGiven : List Sealed → List Part → Type 0
AreGiven rs parts = Each (λ p. Submits rs p.id p.event) parts

asked_given : (rs news : List Sealed) → Each (IsAsked rs) news → AreGiven rs (asked_parts news)
asked_given rs [] h = tt
asked_given rs (s ∷ ss) h = ((h.0, refl), asked_given rs ss h.1)

moved_given : (rs : List Sealed) (state : MapState) (ids : List GroupId) → AreGiven rs (map (λ id. part id (group.NewInterval (members_of state id) (numbers_of state.up))) ids)
moved_given rs state [] = tt
moved_given rs state (id ∷ ids) = (tt, moved_given rs state ids)

restarted_given : (rs : List Sealed) (d : ℕ) (ids : List GroupId) → AreGiven rs (map (λ id. part id (group.Restart d)) ids)
restarted_given rs d [] = tt
restarted_given rs d (id ∷ ids) = (tt, restarted_given rs d ids)

map_given : (rs : List Sealed) (state : MapState) (c : MapCommand) → AreGiven rs (map_parts state c)
map_given rs state (PoolCreate name pg_num size min_size) = tt
map_given rs state (AppEnable pool app) = tt
map_given rs state (AppSet pool app key value) = tt
map_given rs state (AppRm pool app key) = tt
map_given rs state (OsdUp d) = moved_given rs (after state (OsdUp d)) (flat_map groups_of (after state (OsdUp d)).pools)
map_given rs state (OsdDown d) = moved_given rs (after state (OsdDown d)) (flat_map groups_of (after state (OsdDown d)).pools)
map_given rs state (OsdRestart d) = restarted_given rs d (flat_map groups_of state.pools)

parts_given : (rs : List Sealed) (f : ControlPlane) (e : Event) → Each (IsAsked rs) (sealed_by f e) → AreGiven rs (parts_of f e)
parts_given rs f (Auth command) h = tt
parts_given rs f (Map command) h = map_given rs (map_of f.history) command
parts_given rs f (Open entity until) h = tt
parts_given rs f (Renew n until) h = tt
parts_given rs f (Close n) h = tt
parts_given rs f (Submit ask object ops) h = asked_given rs (sealed_by f (Submit ask object ops)) h
parts_given rs f (ListNames ask) h = asked_given rs (sealed_by f (ListNames ask)) h
parts_given rs f (Deliver id k) h = (tt, tt)
parts_given rs f (Lose id k) h = (tt, tt)
parts_given rs f (Repeat id k) h = (tt, tt)
parts_given rs f (Kick id) h = (tt, tt)

record Acted (rs : List Sealed) (w : World) : Type 0 where
  pub groups : Each (Stands rs) w.groups
  pub asked : Each (λ x. IsAsked rs x.sealed) w.audit
  pub merged : IsMerged w

acted_stands : (rs : List Sealed) (parts : List Part) (w : World) → AreGiven rs parts → Acted rs w → Acted rs (acted w parts)
acted_stands rs [] w given h = h
acted_stands rs (p ∷ ps) w given h = acted_stands rs ps (act w p) given.1 (record {
  groups = act_stands rs w p given.0 h.groups;
  asked = act_asked rs w p given.0 h.groups h.asked;
  merged = act_merged rs w p given.0 h.groups h.merged;
})

-- ---- new groups

abbrev pub IsNew : List Sealed → Group → Type 0
IsNew rs g = Stands rs g × (g.audit ≡ []) × (g.answers ≡ [])

begun_new : (rs : List Sealed) (state : MapState) (min_size : ℕ) (ids : List GroupId) → Each (IsNew rs) (map (begun_group state min_size) ids)
begun_new rs state min_size [] = tt
begun_new rs state min_size (id ∷ ids) = ((record { min_size = min_size; count = state.daemons; acting = members_of state id; up = numbers_of state.up; events = []; submits = tt; is = refl }, refl, refl), begun_new rs state min_size ids)

pub created_new : (rs : List Sealed) (f : ControlPlane) (e : Event) → Each (IsNew rs) (created_by f e)
created_new rs f (Map (PoolCreate name pg_num size min_size)) =
    begun_new rs (after (map_of f.history) (PoolCreate name pg_num size min_size)) min_size (groups_of (record { name = name; pg_num = pg_num; size = size; min_size = min_size; tags = [] }))
created_new rs f (Map (AppEnable pool app)) = tt
created_new rs f (Map (AppSet pool app key value)) = tt
created_new rs f (Map (AppRm pool app key)) = tt
created_new rs f (Map (OsdUp d)) = tt
created_new rs f (Map (OsdDown d)) = tt
created_new rs f (Map (OsdRestart d)) = tt
created_new rs f (Auth command) = tt
created_new rs f (Open entity until) = tt
created_new rs f (Renew n until) = tt
created_new rs f (Close n) = tt
created_new rs f (Submit ask object ops) = tt
created_new rs f (ListNames ask) = tt
created_new rs f (Deliver id k) = tt
created_new rs f (Lose id k) = tt
created_new rs f (Repeat id k) = tt
created_new rs f (Kick id) = tt

new_audits : (rs : List Sealed) (id : GroupId) (news : List Group) → Each (IsNew rs) news → audit_at id news ≡ []
new_audits rs id [] h = refl
new_audits rs id (g ∷ gs) h = go (is_same_group id g.group)
  where
    rest : audit_at id gs ≡ []
    rest = new_audits_of gs h.1
      where
        new_audits_of : (ns : List Group) → Each (IsNew rs) ns → audit_at id ns ≡ []
        new_audits_of [] k = refl
        new_audits_of (n ∷ ns) k = by (is_same_group id n.group) (new_audits_of ns k.1)
          where
            by : (b : Bool) → audit_at id ns ≡ [] → audit_in (if b then Some n else group_at id ns) ≡ []
            by true more = k.0.1
            by false more = more

    go : (b : Bool) → audit_in (if b then Some g else group_at id gs) ≡ []
    go true = h.0.1
    go false = rest

pub joined_audits : (rs : List Sealed) (id : GroupId) (gs news : List Group) → Each (IsNew rs) news → audit_at id (gs ++ news) ≡ audit_at id gs
joined_audits rs id [] news h = new_audits rs id news h
joined_audits rs id (g ∷ gs) news h = go (is_same_group id g.group) (joined_audits rs id gs news h)
  where
    go : (b : Bool) → audit_at id (gs ++ news) ≡ audit_at id gs → audit_in (if b then Some g else group_at id (gs ++ news)) ≡ audit_in (if b then Some g else group_at id gs)
    go true rest = refl
    go false rest = rest

-- ---- one event

pub step_stands : (w : World) (e : Event) → WorldStands w → length (world_step w e).front.submissions < 4294967296 → WorldStands (world_step w e)
step_stands w e h room =
    let rs : List Sealed = (front_step w.front e).submissions in
    let f = front_stands w.front e h.front room in
    let done : Acted rs (acted w (parts_of w.front e)) = acted_stands rs (parts_of w.front e) w (parts_given rs w.front e f.1) (record {
      groups = each_weaker (Stands w.front.submissions) (Stands rs) (λ g k. stands_later w.front.submissions (sealed_by w.front e) g k) w.groups h.groups;
      asked = each_weaker (λ x. IsAsked w.front.submissions x.sealed) (λ x. IsAsked rs x.sealed) (λ x k. asked_later w.front.submissions (sealed_by w.front e) x.sealed k) w.audit h.asked;
      merged = h.merged;
    }) in
    let news : Each (IsNew rs) (created_by w.front e) = created_new rs w.front e in
    record {
      front = f.0;
      groups = each_join (Stands rs) (acted w (parts_of w.front e)).groups (created_by w.front e) done.groups (each_weaker (IsNew rs) (Stands rs) (λ g k. k.0) (created_by w.front e) news);
      asked = done.asked;
      merged = λ id. done.merged id ∙ sym (joined_audits rs id (acted w (parts_of w.front e)).groups (created_by w.front e) news);
    }

-- requests are never taken back
step_more : (w : World) (e : Event) → length w.front.submissions ≤ length (world_step w e).front.submissions
step_more w e = omega (arith, length-append w.front.submissions (sealed_by w.front e))

pub more_submitted : (es : List Event) (w : World) → length w.front.submissions ≤ length (fold world_step w es).front.submissions
more_submitted [] w = omega arith
more_submitted (e ∷ es) w = let a : length w.front.submissions ≤ length (world_step w e).front.submissions = step_more w e in
    let b : length (world_step w e).front.submissions ≤ length (fold world_step (world_step w e) es).front.submissions = more_submitted es (world_step w e) in omega arith

stands_through : (es : List Event) (w : World) → WorldStands w → length (fold world_step w es).front.submissions < 4294967296 → WorldStands (fold world_step w es)
stands_through [] w h room = h
stands_through (e ∷ es) w h room =
    let b : length (world_step w e).front.submissions ≤ length (fold world_step (world_step w e) es).front.submissions = more_submitted es (world_step w e) in
    stands_through es (world_step w e) (step_stands w e h (omega arith)) room

pub first_stands : (table : Table) (daemons : ℕ) → WorldStands (first_world table daemons)
first_stands table daemons = record { front = record { given = tt; most = λ n. omega arith; asked = tt; sealed = tt }; groups = tt; asked = tt; merged = λ id. refl }

pub world_stands : (table : Table) (daemons : ℕ) (events : List Event) → HasNumbers (world_after table daemons events) → WorldStands (world_after table daemons events)
world_stands table daemons events room = stands_through events (first_world table daemons) (first_stands table daemons) room

-- ---- the laws

-- a submission that is found is one that the front keeps
found_in : (P : Sealed → Type 0) (rs : List Sealed) (id : ℕ) (s : Sealed) → Each P rs → submitted rs id ≡ Some s → P s
found_in P [] id s h is = absurd (cc)
found_in P (r ∷ rs) id s h is = go (r.id == id) is (λ more. found_in P rs id s h.1 more)
  where
    go : (b : Bool) → (if b then Some r else submitted rs id) ≡ Some s → (submitted rs id ≡ Some s → P s) → P s
    go true one rest = let same : r ≡ s = cc in subst P same h.0
    go false more rest = rest more

audit_placed : (w : World) → WorldStands w → AllSubmitted w
audit_placed w h = each_weaker (λ x. IsAsked w.front.submissions x.sealed) (λ x. IsAsked w.front.submissions x.sealed × IsPlaced (group_count w.front.history) x.sealed)
    (λ x a. (a, placed w.front.history x.sealed (found_in (IsSealedWell w.front.history) w.front.submissions x.sealed.id x.sealed h.front.sealed a))) w.audit h.asked

audit_at_legal : (rs : List Sealed) (id : GroupId) (gs : List Group) → Each (Stands rs) gs → Legal (audit_at id gs)
audit_at_legal rs id gs all = go (group_at id gs) refl
  where
    go : (found : Option Group) → group_at id gs ≡ found → Legal (audit_in found)
    go None is = tt
    go (Some g) is = stands_legal rs g (group_at_each (Stands rs) id gs g all is)

pub world_legal : (w : World) → WorldStands w → Legal w.audit
world_legal w h =
    parts_are_legal_together (group_count w.front.history) w.front.submissions w.audit
    (each_weaker (λ x. IsAsked w.front.submissions x.sealed × IsPlaced (group_count w.front.history) x.sealed) (IsKnown (group_count w.front.history) w.front.submissions) (λ x k. record { asked = k.0; placed = k.1 }) w.audit (audit_placed w h))
    (λ id. subst Legal (sym (h.merged id)) (audit_at_legal w.front.submissions id w.groups h.groups))

-- a group's part finds what the whole list finds under the number of one of its requests
pub find_part : (rs : List Sealed) (s : Sealed) (id : ℕ) (es : List Entry) → submitted rs id ≡ Some s → Each (λ x. IsAsked rs x.sealed) es → find (part_of (group_for s) es) id ≡ find es id
find_part rs s id [] is h = refl
find_part rs s id (e ∷ es) is h = go (is_of (group_for s) e) refl (e.sealed.id == id) refl (find_part rs s id es is h.1)
  where
    own : (e.sealed.id == id) ≡ true → is_of (group_for s) e ≡ true
    own same =
        let number : e.sealed.id ≡ id = number_same e.sealed.id id same in
        let both : Some e.sealed ≡ Some s = sym h.0 ∙ ap (submitted rs) number ∙ is in
        let sealed : e.sealed ≡ s = cc in
        ap (λ t. is_same_group (group_for s) (group_for t)) sealed ∙ group_refl (group_for s)

    go : (b : Bool) → is_of (group_for s) e ≡ b → (c : Bool) → (e.sealed.id == id) ≡ c → find (part_of (group_for s) es) id ≡ find es id
        → find (cond b (e ∷ part_of (group_for s) es) (part_of (group_for s) es)) id ≡ find (e ∷ es) id
    go true here c same rest = ap (λ r. if e.sealed.id == id then Some e else r) rest
    go false here true same rest = absurd (let t : true ≡ false = sym (own same) ∙ here in cc)
    go false here false same rest = rest ∙ sym (ap (λ b. if b then Some e else find es id) same)

group_replied : (rs : List Sealed) (g : Group) (id : ℕ) (reply : EntryReply) → Stands rs g → answer_of g.answers id ≡ Some reply → IsReplied g.audit id reply
group_replied rs g id reply h is =
    let made : Group = run h.events (start g.group h.min_size h.count h.acting h.up) in
    let P : Group → Type 0 = λ v. IsReplied v.audit id reply in
    subst P h.is (answer_replied made.audit made.answers id reply (run_replied g.group h.min_size h.count h.acting h.up h.events) (ap (λ v. answer_of v.answers id) h.is ∙ is))

pub world_replied : (w : World) → WorldStands w → (id : ℕ) (reply : EntryReply) → answer_at w id ≡ Some reply → IsReplied w.audit id reply
world_replied w h id reply is = go (submitted w.front.submissions id) refl is
  where
    at : (s : Sealed) → submitted w.front.submissions id ≡ Some s → (found : Option Group) → group_at (group_for s) w.groups ≡ found → answer_in found id ≡ Some reply → IsReplied w.audit id reply
    at s asked None none a = absurd (cc)
    at s asked (Some g) there a =
        let r : IsReplied g.audit id reply = group_replied w.front.submissions g id reply (group_at_each (Stands w.front.submissions) (group_for s) w.groups g h.groups there) a in
        let same : part_of (group_for s) w.audit ≡ g.audit = h.merged (group_for s) ∙ ap audit_in there in
        record {
          entry = r.entry;
          found = sym (find_part w.front.submissions s id w.audit asked h.asked) ∙ ap (λ l. find l id) same ∙ r.found;
          is = r.is;
        }

    go : (o : Option Sealed) → submitted w.front.submissions id ≡ o → answer_to w.groups id o ≡ Some reply → IsReplied w.audit id reply
    go None none a = absurd (cc)
    go (Some s) asked a = at s asked (group_at (group_for s) w.groups) refl a

pub world_one_list : (w : World) → WorldStands w → IsOneList w
world_one_list w h = record { legal = world_legal w h; merged = h.merged; submitted = audit_placed w h; answered = world_replied w h }

pub decided_is_one_list : DecidedIsOneList
decided_is_one_list table daemons events room = world_one_list (world_after table daemons events) (world_stands table daemons events room)

acted_grows : (parts : List Part) (w : World) → Begins w.audit (acted w parts).audit
acted_grows [] w = record { rest = []; whole = append-nil w.audit }
acted_grows (p ∷ ps) w =
    let b : Begins (act w p).audit (acted (act w p) ps).audit = acted_grows ps (act w p) in
    let new : List Entry = decided_in (group_at p.id w.groups) p.event in
    record { rest = new ++ b.rest; whole = sym (append_assoc w.audit new b.rest) ∙ b.whole }

pub audit_grows : AuditGrows
audit_grows w e = acted_grows (parts_of w.front e) w

-- ---- answers stand

abbrev Keeps : List Group → List Group → Type 0
Keeps gs hs = (place : GroupId) (id : ℕ) (reply : EntryReply) → answer_in (group_at place gs) id ≡ Some reply → answer_in (group_at place hs) id ≡ Some reply

act_keeps : (w : World) (p : Part) → Keeps w.groups (act w p).groups
act_keeps w p place id reply is = go (is_same_group place p.id) refl
  where
    keeps : (g : Group) → (group_step g p.event).group ≡ g.group
    keeps g = step_is g.group p.event g refl

    stepped : (found : Option Group) → answer_in found id ≡ Some reply → answer_in (option_map (λ g. group_step g p.event) found) id ≡ Some reply
    stepped None a = a
    stepped (Some g) a = answer_stands id reply [] (p.event ∷ []) g a

    go : (b : Bool) → is_same_group place p.id ≡ b → answer_in (group_at place (act w p).groups) id ≡ Some reply
    go true same =
        let there : place ≡ p.id = same_group place p.id same in
        ap (λ i. answer_in (group_at i (act w p).groups) id) there
        ∙ ap (λ o. answer_in o id) (group_at_self p.id (λ g. group_step g p.event) keeps w.groups)
        ∙ stepped (group_at p.id w.groups) (ap (λ i. answer_in (group_at i w.groups) id) (sym there) ∙ is)
    go false apart = ap (λ o. answer_in o id) (group_at_other p.id place (λ g. group_step g p.event) keeps apart w.groups) ∙ is

acted_keeps : (parts : List Part) (w : World) → Keeps w.groups (acted w parts).groups
acted_keeps [] w place id reply is = is
acted_keeps (p ∷ ps) w place id reply is = acted_keeps ps (act w p) place id reply (act_keeps w p place id reply is)

joined_keeps : (gs news : List Group) → Keeps gs (gs ++ news)
joined_keeps [] news place id reply is = absurd (cc)
joined_keeps (g ∷ gs) news place id reply is = go (is_same_group place g.group) is (λ k. joined_keeps gs news place id reply k)
  where
    go : (b : Bool) → answer_in (if b then Some g else group_at place gs) id ≡ Some reply → (answer_in (group_at place gs) id ≡ Some reply → answer_in (group_at place (gs ++ news)) id ≡ Some reply)
        → answer_in (if b then Some g else group_at place (gs ++ news)) id ≡ Some reply
    go true a rest = a
    go false a rest = rest a

pub found_later : (rs more : List Sealed) (id : ℕ) (s : Sealed) → submitted rs id ≡ Some s → submitted (rs ++ more) id ≡ Some s
found_later [] more id s is = absurd (cc)
found_later (r ∷ rs) more id s is = go (r.id == id) is (λ k. found_later rs more id s k)
  where
    go : (b : Bool) → (if b then Some r else submitted rs id) ≡ Some s → (submitted rs id ≡ Some s → submitted (rs ++ more) id ≡ Some s) → (if b then Some r else submitted (rs ++ more) id) ≡ Some s
    go true e rest = e
    go false e rest = rest e

pub answers_stand : AnswersStand
answers_stand w e id reply is = go (submitted w.front.submissions id) refl is
  where
    all : Keeps w.groups (world_step w e).groups
    all place i r a = joined_keeps (acted w (parts_of w.front e)).groups (created_by w.front e) place i r (acted_keeps (parts_of w.front e) w place i r a)

    go : (o : Option Sealed) → submitted w.front.submissions id ≡ o → answer_to w.groups id o ≡ Some reply → answer_at (world_step w e) id ≡ Some reply
    go None none a = absurd (cc)
    go (Some s) found a =
        ap (answer_to (world_step w e).groups id) (found_later w.front.submissions (sealed_by w.front e) id s found)
        ∙ all (group_for s) id reply a
