-- Events that decide nothing: commands on the map, and submissions.
use Prim.Native.Nat.{zero, suc}
use Rattle.std.proofs.Common.{◌≡◌, ◌∙◌, ℕ, ◌==◌, List, [], ◌∷◌, ◌++◌, Bool, true, false, Option, Some, None, if◌then◌else◌, map, length, drop, refl, sym, ap, arith, append-nil, length-append}
use Rattle.std.specs.List.{flat_map}
use Rattle.std.proofs.lemmas.List.{drop_all}
use Rattle.place_core.specs.Placement.{numbers_of}
use Rattle.map_core.specs.State.{MapState}
use Rattle.map_core.specs.Map.{after}
use Rattle.map_core.specs.declared.command.MapCommand.{MapCommand}
use Rattle.map_core.specs.declared.command.MapCommand.TheVariants.{PoolCreate, AppEnable, AppSet, AppRm, OsdUp, OsdDown, OsdRestart}
use Rattle.entry_core.specs.Log.{is_in}
use Rattle.entry_core.specs.Locality.{group_for}
use Rattle.store_core.specs.Request.{Sealed}
use Rattle.store_core.specs.declared.entry.Entry.{Entry}
use Rattle.store_core.specs.declared.sealed.GroupId.{GroupId}
use Rattle.peer_core.specs.Steps.{restarted}
use Rattle.group_model_whole.specs.Each.{Each}
use Rattle.group_model_whole.specs.History.{Begins}
use Rattle.group_model.specs.Group.{Group, begin, group_step, has_all_intervals, has_all_requests, is_submitted, last_set, take_request, same_set, with_up}
use Rattle.group_model.specs.Group as group
use Rattle.world_front.specs.Groups.{is_same_group, groups_of}
use Rattle.world_core.specs.World.{World, Part, part, act, acted, asked_parts, decided_in, group_at, map_parts, members_of}
use Rattle.world_core.specs.Moves.{stepped, stepped_by}
use Rattle.world_core.proofs.RunPlaces.{Longer, audit_at_place}

-- the event decides nothing in any group
abbrev pub IsSilent : Part → Type 0
IsSilent p = (g : Group) → (group_step g p.event).audit ≡ g.audit

if_audit : (es : List Entry) (b : Bool) (g h : Group) → g.audit ≡ es → h.audit ≡ es → (if b then g else h).audit ≡ es
if_audit es true g h p q = p
if_audit es false g h p q = q

pub submit_silent : (id : GroupId) (s : Sealed) → IsSilent (part id (group.Submit s))
submit_silent id s g = if_audit g.audit (is_submitted g.requests s.id) g (if has_all_requests g then g else take_request g s) refl (if_audit g.audit (has_all_requests g) g (take_request g s) refl refl)

interval_silent : (id : GroupId) (acting up : List ℕ) → IsSilent (part id (group.NewInterval acting up))
interval_silent id acting up g = if_audit g.audit (same_set acting (last_set g.sets)) (with_up g up) (if has_all_intervals g then g else begin (with_up g up) acting) refl
    (if_audit g.audit (has_all_intervals g) g (begin (with_up g up) acting) refl refl)

restart_silent : (id : GroupId) (d : ℕ) → IsSilent (part id (group.Restart d))
restart_silent id d g =
    let h : Group = record g { copies = map (λ c. if c.number == d then restarted c else c) g.copies } in
    if_audit g.audit (is_in (last_set g.sets) d) (if has_all_intervals g then g else begin h (last_set g.sets)) h (if_audit g.audit (has_all_intervals g) g (begin h (last_set g.sets)) refl refl) refl

pub asked_silent : (rs : List Sealed) → Each IsSilent (asked_parts rs)
asked_silent [] = tt
asked_silent (s ∷ ss) = (submit_silent (group_for s) s, asked_silent ss)

moved_silent : (state : MapState) (ids : List GroupId) → Each IsSilent (map (λ id. part id (group.NewInterval (members_of state id) (numbers_of state.up))) ids)
moved_silent state [] = tt
moved_silent state (id ∷ ids) = (interval_silent id (members_of state id) (numbers_of state.up), moved_silent state ids)

restarted_silent : (d : ℕ) (ids : List GroupId) → Each IsSilent (map (λ id. part id (group.Restart d)) ids)
restarted_silent d [] = tt
restarted_silent d (id ∷ ids) = (restart_silent id d, restarted_silent d ids)

pub map_silent : (state : MapState) (c : MapCommand) → Each IsSilent (map_parts state c)
map_silent state (PoolCreate name pg_num size min_size) = tt
map_silent state (AppEnable pool app) = tt
map_silent state (AppSet pool app key value) = tt
map_silent state (AppRm pool app key) = tt
map_silent state (OsdUp d) = moved_silent (after state (OsdUp d)) (flat_map groups_of state.pools)
map_silent state (OsdDown d) = moved_silent (after state (OsdDown d)) (flat_map groups_of state.pools)
map_silent state (OsdRestart d) = restarted_silent d (flat_map groups_of state.pools)

-- ---- what was decided stays

abbrev pub audits_of : List Group → List (List Entry)
audits_of groups = map (λ g. g.audit) groups

at_group_audits : (p : Part) → IsSilent p → (gs : List Group) → audits_of (stepped_by gs p) ≡ audits_of gs
at_group_audits p silent [] = refl
at_group_audits p silent (g ∷ gs) = go (is_same_group p.id g.group) (at_group_audits p silent gs)
  where
    go : (b : Bool) → audits_of (stepped_by gs p) ≡ audits_of gs → audits_of (if b then group_step g p.event ∷ gs else g ∷ stepped_by gs p) ≡ g.audit ∷ audits_of gs
    go true rest = ap (λ a. a ∷ audits_of gs) (silent g)
    go false rest = ap (λ l. g.audit ∷ l) rest

pub stepped_audits : (ps : List Part) (gs : List Group) → Each IsSilent ps → audits_of (stepped ps gs) ≡ audits_of gs
stepped_audits [] gs h = refl
stepped_audits (p ∷ ps) gs h = stepped_audits ps (stepped_by gs p) h.1 ∙ at_group_audits p h.0 gs

nothing_decided : (p : Part) (o : Option Group) → IsSilent p → decided_in o p.event ≡ []
nothing_decided p None silent = refl
nothing_decided p (Some g) silent = ap (drop (length g.audit)) (silent g) ∙ drop_all (length g.audit) g.audit (omega arith)

pub acted_audit : (ps : List Part) (w : World) → Each IsSilent ps → (acted w ps).audit ≡ w.audit
acted_audit [] w h = refl
acted_audit (p ∷ ps) w h = acted_audit ps (act w p) h.1 ∙ ap (λ l. w.audit ++ l) (nothing_decided p (group_at p.id w.groups) h.0) ∙ append-nil w.audit

pub acted_groups : (ps : List Part) (w : World) → (acted w ps).groups ≡ stepped ps w.groups
acted_groups [] w = refl
acted_groups (p ∷ ps) w = acted_groups ps (act w p)

audits_length : (gs : List Group) → length (audits_of gs) ≡ length gs
audits_length [] = refl
audits_length (g ∷ gs) = ap suc (audits_length gs)

-- groups with the same audits, and more behind them
pub longer_with : (gs hs more : List Group) → audits_of hs ≡ audits_of gs → Longer gs (hs ++ more)
longer_with gs hs more same = record {
  all = let e : length hs ≡ length gs = sym (audits_length hs) ∙ ap length same ∙ audits_length gs in omega (arith, length-append hs more);
  begins = go gs hs same;
}
  where
    go : (xs ys : List Group) → audits_of ys ≡ audits_of xs → (k : ℕ) → Begins (audit_at_place xs k) (audit_at_place (ys ++ more) k)
    go [] ys e k = record { rest = audit_at_place (ys ++ more) k; whole = refl }
    go (x ∷ xs) [] e k = absurd (cc)
    go (x ∷ xs) (y ∷ ys) e zero = record { rest = []; whole = append-nil x.audit ∙ (let a : x.audit ≡ y.audit = cc in a) }
    go (x ∷ xs) (y ∷ ys) e (suc k) = go xs ys (let t : audits_of ys ≡ audits_of xs = cc in t) k
