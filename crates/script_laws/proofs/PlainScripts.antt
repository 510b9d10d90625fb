-- What a plain script prints, line by line.
use Rattle.std.proofs.Common.{◌≡◌, ◌∙◌, ℕ, ◌+◌, ◌-◌, ◌<◌, ◌≤◌, ◌==◌, ◌&&◌, List, [], ◌∷◌, ◌++◌, Bool, true, false, not, if◌then◌else◌, Option, Some, None, map, length, fold, take, refl, sym, ap, subst, arith, append_assoc}
use Rattle.std.specs.Prelude.{nat_le, nat_lt, codes}
use Rattle.std.specs.List.{filter}
use Rattle.std.specs.Option.{option_map, option_or}
use Rattle.std.proofs.lemmas.Bool.Decides.{nat_tests}
use Rattle.script_text.specs.Lines.{script_lines, is_blank}
use Rattle.script_text.specs.Text.{line, numeral}
use Rattle.grant_core.specs.BuiltIn.{built_in}
use Rattle.map_core.specs.Map.{map_of}
use Rattle.entry_core.specs.Log.{find, is_in}
use Rattle.store_core.specs.Request.{Sealed}
use Rattle.store_core.specs.declared.entry.Entry.{Entry}
use Rattle.store_core.specs.declared.sealed.GroupId.{GroupId}
use Rattle.group_model_whole.specs.Choice.{covers}
use Rattle.group_model_whole.specs.Each.{Each}
use Rattle.group_model_whole.specs.Asked.{IsAsked}
use Rattle.group_model.specs.Group.{Group, answer_of, submitted, last_set}
use Rattle.group_model_whole.specs.Calm.{answer_with}
use Rattle.group_model.specs.Recovery.{is_ready, greatest_base}
use Rattle.entry_core.specs.Locality.{group_for}
use Rattle.world_events.specs.declared.event.Event.{Event}
use Rattle.world_events.specs.declared.fault.WorldFault.{WorldFault as Fault}
use Rattle.world_events.specs.declared.event.Event.TheVariants.{Auth, Map, Open, Renew, Close, Submit as SubmitEvent, List as ListEvent, Deliver, Lose, Repeat, Kick}
use Rattle.world_events.specs.declared.fault.WorldFault.TheVariants.{Group as OfGroup}
use Rattle.world_front.specs.Groups.{is_for}
use Rattle.world_front.specs.ControlPlane.{front_refusal, group_refusal, told_of}
use Rattle.world_core.specs.World.{World, first_world, group_at, members_of, parts_of, parts_refusal, refusal_of, is_drop}
use Rattle.world_core.specs.Standing.{audit_in, audit_at}
use Rattle.world_core.specs.Answers.{answer_in as answer_in_group, answer_to, answer_at}
use Rattle.world_laws.specs.Places.{IsFoundByPlace}
use Rattle.world_script.specs.declared.command.Command.{Command}
use Rattle.world_script.specs.declared.command.Command.TheVariants.{Osds, Happens, Submit, List as ListNames, Locate, ShowUser, ListUsers, Tick, Settle, KickAll, LoseAll, Answer as AskAnswer, Listing, Ready}
use Rattle.world_script.specs.Command.{read_line}
use Rattle.script_printing.specs.Text.{id_text, told_text, refused_text, or_refused, asked_text, users_text, ready_text}
use Rattle.world_script.specs.Script.{Step, Goes, IsBad, IsOther, stepped, line_step, behind, onward, outputs, kept, begins, ask_now, places, locate_text, show_text, answer_in, listing_in, Machine, prints, does, event_told, event_line, ready_in, ready_line_text, goes, machine_step, script_step, Wrote}
use Rattle.script_laws.specs.Plain.{Plain, Settled, decides, serves, settles, first_plain, is_enough, least_of, is_move, is_message, asks, judged, plain_event, tells, ready_plain, plain_step, IsPlain, PlainScriptsPrint, PlainBeginnings, PlainScriptsWrite}
use Rattle.world_front.proofs.Bytes.{number_same}
use Rattle.world_laws.proofs.AcceptedLaws.{accepted_has_numbers}
use Rattle.world_core.specs.Sound.{WorldStands}
use Rattle.world_core.proofs.Worlds.{world_stands, find_part}
use Rattle.world_laws.proofs.PlaceGroups.{groups_are_found_by_place}
use Rattle.script_laws.proofs.PlainGroups.{steady_sets, steady_least}
use Rattle.script_laws.proofs.PlainStates.{Agrees, Simulates}
use Rattle.script_laws.proofs.PlainEvents.{Happened, happened}
use Rattle.script_laws.proofs.PlainSettles.{IsSettled, holds_other, settled}

-- ---- answers

world_sound : (p : Plain) (w : World) → Agrees p w → WorldStands w
world_sound p w s = subst WorldStands s.is (world_stands built_in s.daemons s.events (accepted_has_numbers built_in s.daemons s.events s.accepted))

-- the answers of decided entries
answers_found : (es : List Entry) (id : ℕ) → answer_of (map answer_with es) id ≡ option_map (λ e. e.reply) (find es id)
answers_found [] id = refl
answers_found (e ∷ es) id = go (e.sealed.id == id) (answers_found es id)
  where
    go : (b : Bool) → answer_of (map answer_with es) id ≡ option_map (λ x. x.reply) (find es id) → (if b then Some e.reply else answer_of (map answer_with es) id) ≡ option_map (λ x. x.reply) (if b then Some e else find es id)
    go true rest = refl
    go false rest = rest

-- a request that was not submitted has no entry
no_entry : (rs : List Sealed) (es : List Entry) (id : ℕ) → Each (λ x. IsAsked rs x.sealed) es → submitted rs id ≡ None → find es id ≡ None
no_entry rs [] id all none = refl
no_entry rs (e ∷ es) id all none = go (e.sealed.id == id) refl (no_entry rs es id all.1 none)
  where
    go : (b : Bool) → (e.sealed.id == id) ≡ b → find es id ≡ None → (if b then Some e else find es id) ≡ None
    go true is rest = absurd (let clash : Some e.sealed ≡ None = sym all.0 ∙ ap (submitted rs) (number_same e.sealed.id id is) ∙ none in cc)
    go false is rest = rest

group_answers : (p : Plain) (w : World) (place : GroupId) (id : ℕ) → Agrees p w → answer_in_group (group_at place w.groups) id ≡ option_map (λ e. e.reply) (find (audit_at place w.groups) id)
group_answers p w place id s = go (group_at place w.groups) refl
  where
    go : (o : Option Group) → group_at place w.groups ≡ o → answer_in_group o id ≡ option_map (λ e. e.reply) (find (audit_in o) id)
    go None is = refl
    go (Some g) is = ap (λ l. answer_of l id) (s.groups place g is).answers ∙ answers_found g.audit id

pub answers_alike : (p : Plain) (w : World) (id : ℕ) → Agrees p w → answer_of p.answers id ≡ answer_at w id
answers_alike p w id s = ap (λ l. answer_of l id) s.answers ∙ answers_found w.audit id ∙ sym (go (submitted w.front.submissions id) refl)
  where
    go : (o : Option Sealed) → submitted w.front.submissions id ≡ o → answer_to w.groups id o ≡ option_map (λ e. e.reply) (find w.audit id)
    go None none = sym (ap (option_map (λ e. e.reply)) (no_entry w.front.submissions w.audit id (world_sound p w s).asked none))
    go (Some r) is =
        let h : WorldStands w = world_sound p w s in
        group_answers p w (group_for r) id s
        ∙ ap (λ l. option_map (λ e. e.reply) (find l id)) (sym (h.merged (group_for r)))
        ∙ ap (option_map (λ e. e.reply)) (find_part w.front.submissions r id w.audit is h.asked)

pub all_answers_alike : (p : Plain) (w : World) → Agrees p w → answer_of p.answers ≡ answer_at w
all_answers_alike p w s = λ i id. answers_alike p w id s i

-- ---- readiness

one_ready : (g : Group) (acting : List ℕ) → g.sets ≡ acting ∷ [] → is_ready g ≡ nat_le g.min_size (length acting)
one_ready g acting one =
    ap (λ s. not (nat_lt (length (last_set s)) g.min_size) && covers g.min_size (greatest_base g.up g.copies) (is_in g.up) 1 (take (length s - 1) s)) one ∙ both (length acting) g.min_size
  where
    and_true : (b : Bool) → (b && true) ≡ b
    and_true true = refl
    and_true false = refl

    turned : (a b : ℕ) → not (nat_lt a b) ≡ nat_le b a
    turned a b = go (nat_lt a b) refl (nat_le b a) refl
      where
        go : (s : Bool) → nat_lt a b ≡ s → (t : Bool) → nat_le b a ≡ t → not s ≡ t
        go true x false y = refl
        go false x true y = refl
        go true x true y = absurd (let l : a < b = grind (arith, nat_tests) in let m : b ≤ a = grind (arith, nat_tests) in omega arith)
        go false x false y = absurd (let l : b ≤ a = grind (arith, nat_tests) in let m : a < b = grind (arith, nat_tests) in omega arith)

    both : (n least : ℕ) → (not (nat_lt n least) && true) ≡ nat_le least n
    both n least = and_true (not (nat_lt n least)) ∙ turned n least

refused_alike : (o : Option Fault) (a b : List ℕ) → (o ≡ None → a ≡ b) → or_refused o a ≡ or_refused o b
refused_alike None a b h = h refl
refused_alike (Some fault) a b h = refl

ready_alike : (p : Plain) (w : World) (id : GroupId) → Agrees p w → ready_plain p id ≡ ready_line_text w id
ready_alike p w id s =
    ap (λ f. or_refused (group_refusal f id) (ready_text (is_enough f id))) s.front
    ∙ refused_alike (group_refusal w.front id) (ready_text (is_enough w.front id)) (ready_text (ready_in (group_at id w.groups))) (λ named. ap ready_text (is_alike named))
  where
    is_alike : group_refusal w.front id ≡ None → is_enough w.front id ≡ ready_in (group_at id w.groups)
    is_alike named =
        let F : World → Type 0 = λ v. IsFoundByPlace v id in
        let found : IsFoundByPlace w id = subst F s.is (groups_are_found_by_place built_in s.daemons s.events id s.accepted) in
        let h = found.named named in
        let steady = (s.groups id h.group h.there).steady in
        let ready : is_ready h.group ≡ nat_le h.group.min_size (length (members_of (map_of w.front.history) id)) = one_ready h.group (members_of (map_of w.front.history) id) (steady_sets (least_of (map_of w.front.history) id) (members_of (map_of w.front.history) id) h.group steady) in
        sym (ap ready_in h.there ∙ ready ∙ ap (λ n. nat_le n (length (members_of (map_of w.front.history) id))) (steady_least (least_of (map_of w.front.history) id) (members_of (map_of w.front.history) id) h.group steady))

-- ---- one line

-- what a line does: the same text, and related states, where a plain script can have it
Alike : Step Plain → Step Machine → Type 0
Alike (Goes text p) (Goes other m) = (text ≡ other) × Simulates p m.world × (p.tick ≡ m.tick)
Alike (Goes text p) IsBad = ⊥
Alike (Goes text p) IsOther = ⊥
Alike IsBad IsBad = Unit {0}
Alike IsBad (Goes text m) = ⊥
Alike IsBad IsOther = ⊥
Alike IsOther m = Unit {0}

told_alike : (p : Plain) (m : Machine) (a b : List ℕ) → Simulates p m.world → p.tick ≡ m.tick → a ≡ b → Alike (tells p a) (goes m (prints m b))
unfolding Alike
told_alike p m a b s tick same = (same, s, tick)

no_drop : (e : Event) (fault : Fault) → is_message e ≡ false → is_drop e fault ≡ false
no_drop (Auth command) fault h = refl
no_drop (Map command) fault h = refl
no_drop (Open entity until) fault h = refl
no_drop (Renew n until) fault h = refl
no_drop (Close n) fault h = refl
no_drop (SubmitEvent ask object ops) fault h = refl
no_drop (ListEvent ask) fault h = refl
no_drop (Deliver id k) fault h = absurd (cc)
no_drop (Lose id k) fault h = absurd (cc)
no_drop (Repeat id k) fault h = absurd (cc)
no_drop (Kick id) fault h = absurd (cc)

event_alike : (p : Plain) (m : Machine) (e : Event) → Simulates p m.world → p.tick ≡ m.tick → Alike (plain_event p e) (goes m (event_line m e))
unfolding Alike
event_alike p m e s tick = message (is_message e) refl
  where
    moves : (b : Bool) → is_move p.front e ≡ b → is_message e ≡ false → front_refusal p.front e ≡ None → Alike (if b then IsOther else Goes (line (told_text (told_of p.front e))) (asks p e)) (goes m (event_line m e))
    moves true is quiet allowed = tt
    moves false is quiet allowed =
        let h : Happened p m.world e = happened p m.world e s allowed quiet is in
        let P : Option Fault → Type 0 = λ o. Alike (Goes (line (told_text (told_of p.front e))) (asks p e)) (goes m (event_told m e o)) in
        subst P (sym h.free) (ap (λ f. line (told_text (told_of f e))) s.agrees.front, h.sim, tick)

    refuses : (o : Option Fault) → front_refusal p.front e ≡ o → is_message e ≡ false → Alike (judged p e o) (goes m (event_line m e))
    refuses None is quiet = moves (is_move p.front e) refl quiet is
    refuses (Some fault) is quiet =
        let same : refusal_of m.world e ≡ Some fault = ap (λ o. option_or o (option_map OfGroup (parts_refusal m.world.groups (parts_of m.world.front e)))) (ap (λ f. front_refusal f e) (sym s.agrees.front) ∙ is) in
        let P : Option Fault → Type 0 = λ o. Alike (Goes (refused_text fault) p) (goes m (event_told m e o)) in
        let Q : Bool → Type 0 = λ b. Alike (Goes (refused_text fault) p) (goes m (does m (refused_text fault) (if b then e ∷ [] else []))) in
        subst P (sym same) (subst Q (sym (no_drop e fault quiet)) (refl, s, tick))

    message : (b : Bool) → is_message e ≡ b → Alike (if b then IsOther else judged p e (front_refusal p.front e)) (goes m (event_line m e))
    message true is = tt
    message false is = refuses (front_refusal p.front e) refl is

ask_alike : (p : Plain) (m : Machine) (session : ℕ) (pool namespace : List ℕ) → Simulates p m.world → p.tick ≡ m.tick → ask_now p.front p.tick session pool namespace ≡ ask_now m.world.front m.tick session pool namespace
ask_alike p m session pool namespace s tick = ap (λ f. ask_now f p.tick session pool namespace) s.agrees.front ∙ ap (λ t. ask_now m.world.front t session pool namespace) tick

-- the stamp says nothing of groups
ticked : (p : Plain) (w : World) (t : ℕ) → Simulates p w → Simulates (record p { tick = t }) w
ticked p w t s = record {
  agrees = record {
    daemons = s.agrees.daemons;
    events = s.agrees.events;
    accepted = s.agrees.accepted;
    is = s.agrees.is;
    front = s.agrees.front;
    objects = s.agrees.objects;
    answers = s.agrees.answers;
    groups = λ id g there. holds_other (map_of w.front.history) p (record p { tick = t }) id g refl (s.agrees.groups id g there);
    known = λ test empty. s.agrees.known test empty;
    opened = λ id empty. s.agrees.opened id empty;
  };
  owes = λ id g there. s.owes id g there;
}

-- and no settling changes it
decided_tick : (ss : List Sealed) (p : Plain) → (fold decides p ss).tick ≡ p.tick
decided_tick [] p = refl
decided_tick (s ∷ ss) p = decided_tick ss (decides p s)

places_tick : (ids : List GroupId) (c : Settled) → (fold settles c ids).plain.tick ≡ c.plain.tick
places_tick [] c = refl
places_tick (id ∷ ids) c = places_tick ids (settles c id) ∙ one (is_enough c.plain.front id)
  where
    one : (b : Bool) → (if b then serves id c.plain else c.plain).tick ≡ c.plain.tick
    one true = decided_tick (filter (is_for id) c.plain.pending) (record c.plain { pending = filter (λ s. not (is_for id s)) c.plain.pending })
    one false = refl

step_alike : (p : Plain) (m : Machine) (c : Command) → Simulates p m.world → p.tick ≡ m.tick → Alike (plain_step p c) (machine_step m c)
unfolding Alike
step_alike p m (Osds daemons) s tick = told_alike p m [] [] s tick refl
step_alike p m (Happens e) s tick = event_alike p m e s tick
step_alike p m (Submit session pool namespace object ops) s tick =
    let P : Event → Type 0 = λ e. Alike (plain_event p (SubmitEvent (ask_now p.front p.tick session pool namespace) object ops)) (goes m (event_line m e)) in
    subst P (ap (λ a. SubmitEvent a object ops) (ask_alike p m session pool namespace s tick)) (event_alike p m (SubmitEvent (ask_now p.front p.tick session pool namespace) object ops) s tick)
step_alike p m (ListNames session pool namespace) s tick =
    let P : Event → Type 0 = λ e. Alike (plain_event p (ListEvent (ask_now p.front p.tick session pool namespace))) (goes m (event_line m e)) in
    subst P (ap ListEvent (ask_alike p m session pool namespace s tick)) (event_alike p m (ListEvent (ask_now p.front p.tick session pool namespace)) s tick)
step_alike p m (Locate pool namespace object) s tick = told_alike p m _ _ s tick (ap (λ f. locate_text f pool namespace object) s.agrees.front)
step_alike p m (ShowUser name) s tick = told_alike p m _ _ s tick (ap (λ f. show_text f name) s.agrees.front)
step_alike p m ListUsers s tick = told_alike p m _ _ s tick (ap (λ f. users_text f.database.users) s.agrees.front)
step_alike p m (Tick t) s tick = (refl, ticked p m.world t s, refl)
step_alike p m Settle s tick =
    let d : IsSettled p m.world = settled p m.world s in
    (ap (λ n. line (codes "settled " ++ numeral n)) d.counted, d.sim, places_tick (places p.front) (record { plain = p; count = 0 }) ∙ tick)
step_alike p m KickAll s tick = tt
step_alike p m LoseAll s tick = tt
step_alike p m (AskAnswer id) s tick =
    told_alike p m _ _ s tick (ap (λ f. asked_text (id_text id) (answer_in f (answer_of p.answers) id)) s.agrees.front ∙ ap (λ a. asked_text (id_text id) (answer_in m.world.front a id)) (all_answers_alike p m.world s.agrees))
step_alike p m (Listing id) s tick =
    told_alike p m _ _ s tick (ap (λ f. asked_text (id_text id) (listing_in f (answer_of p.answers) id)) s.agrees.front ∙ ap (λ a. asked_text (id_text id) (listing_in m.world.front a id)) (all_answers_alike p m.world s.agrees))
step_alike p m (Ready id) s tick = told_alike p m _ _ s tick (ready_alike p m.world id s.agrees)

-- ---- all lines

Related : Option Plain → Option Machine → Type 0
Related None None = Unit {0}
Related None (Some m) = ⊥
Related (Some p) None = ⊥
Related (Some p) (Some m) = Simulates p m.world × (p.tick ≡ m.tick)

AlikeFrom : Step (Option Plain) → Step (Option Machine) → Type 0
AlikeFrom (Goes text p) (Goes other m) = (text ≡ other) × Related p m
AlikeFrom (Goes text p) IsBad = ⊥
AlikeFrom (Goes text p) IsOther = ⊥
AlikeFrom IsBad IsBad = Unit {0}
AlikeFrom IsBad (Goes text m) = ⊥
AlikeFrom IsBad IsOther = ⊥
AlikeFrom IsOther m = Unit {0}

kept_alike : (a : Step Plain) (b : Step Machine) → Alike a b → AlikeFrom (kept a) (kept b)
unfolding Alike AlikeFrom Related
kept_alike (Goes text p) (Goes other m) h = (h.0, (h.1, h.2))
kept_alike (Goes text p) IsBad h = absurd h
kept_alike (Goes text p) IsOther h = absurd h
kept_alike IsBad IsBad h = tt
kept_alike IsBad (Goes text m) h = absurd h
kept_alike IsBad IsOther h = absurd h
kept_alike IsOther (Goes text m) h = tt
kept_alike IsOther IsBad h = tt
kept_alike IsOther IsOther h = tt

first_sim : (daemons : ℕ) → Simulates (first_plain daemons) (first_world built_in daemons)
first_sim daemons = record {
  agrees = record {
    daemons = daemons;
    events = [];
    accepted = tt;
    is = refl;
    front = refl;
    objects = refl;
    answers = refl;
    groups = λ id g there. absurd (cc);
    known = λ test empty. (refl, refl);
    opened = λ id empty. refl;
  };
  owes = λ id g there. absurd (cc);
}

begins_alike : (p : Option Plain) (m : Option Machine) (c : Command) → Related p m → AlikeFrom (begins first_plain plain_step p c) (script_step m c)
unfolding AlikeFrom Related
begins_alike None None (Osds daemons) h = (refl, (first_sim daemons, refl))
begins_alike None None (Happens e) h = tt
begins_alike None None (Submit session pool namespace object ops) h = tt
begins_alike None None (ListNames session pool namespace) h = tt
begins_alike None None (Locate pool namespace object) h = tt
begins_alike None None (ShowUser name) h = tt
begins_alike None None ListUsers h = tt
begins_alike None None (Tick t) h = tt
begins_alike None None Settle h = tt
begins_alike None None KickAll h = tt
begins_alike None None LoseAll h = tt
begins_alike None None (AskAnswer id) h = tt
begins_alike None None (Listing id) h = tt
begins_alike None None (Ready id) h = tt
begins_alike None (Some m) c h = absurd h
begins_alike (Some p) None c h = absurd h
begins_alike (Some p) (Some m) (Osds daemons) h = tt
begins_alike (Some p) (Some m) (Happens e) h = kept_alike (plain_step p (Happens e)) (machine_step m (Happens e)) (step_alike p m (Happens e) h.0 h.1)
begins_alike (Some p) (Some m) (Submit session pool namespace object ops) h =
    kept_alike (plain_step p (Submit session pool namespace object ops)) (machine_step m (Submit session pool namespace object ops)) (step_alike p m (Submit session pool namespace object ops) h.0 h.1)
begins_alike (Some p) (Some m) (ListNames session pool namespace) h = kept_alike (plain_step p (ListNames session pool namespace)) (machine_step m (ListNames session pool namespace)) (step_alike p m (ListNames session pool namespace) h.0 h.1)
begins_alike (Some p) (Some m) (Locate pool namespace object) h = kept_alike (plain_step p (Locate pool namespace object)) (machine_step m (Locate pool namespace object)) (step_alike p m (Locate pool namespace object) h.0 h.1)
begins_alike (Some p) (Some m) (ShowUser name) h = kept_alike (plain_step p (ShowUser name)) (machine_step m (ShowUser name)) (step_alike p m (ShowUser name) h.0 h.1)
begins_alike (Some p) (Some m) ListUsers h = kept_alike (plain_step p ListUsers) (machine_step m ListUsers) (step_alike p m ListUsers h.0 h.1)
begins_alike (Some p) (Some m) (Tick t) h = kept_alike (plain_step p (Tick t)) (machine_step m (Tick t)) (step_alike p m (Tick t) h.0 h.1)
begins_alike (Some p) (Some m) Settle h = kept_alike (plain_step p Settle) (machine_step m Settle) (step_alike p m Settle h.0 h.1)
begins_alike (Some p) (Some m) KickAll h = kept_alike (plain_step p KickAll) (machine_step m KickAll) (step_alike p m KickAll h.0 h.1)
begins_alike (Some p) (Some m) LoseAll h = kept_alike (plain_step p LoseAll) (machine_step m LoseAll) (step_alike p m LoseAll h.0 h.1)
begins_alike (Some p) (Some m) (AskAnswer id) h = kept_alike (plain_step p (AskAnswer id)) (machine_step m (AskAnswer id)) (step_alike p m (AskAnswer id) h.0 h.1)
begins_alike (Some p) (Some m) (Listing id) h = kept_alike (plain_step p (Listing id)) (machine_step m (Listing id)) (step_alike p m (Listing id) h.0 h.1)
begins_alike (Some p) (Some m) (Ready id) h = kept_alike (plain_step p (Ready id)) (machine_step m (Ready id)) (step_alike p m (Ready id) h.0 h.1)

line_alike : (p : Option Plain) (m : Option Machine) (text : List ℕ) → Related p m → AlikeFrom (line_step (begins first_plain plain_step) p text) (line_step script_step m text)
unfolding AlikeFrom
line_alike p m text h = blank (is_blank text)
  where
    reads : (o : Option Command) → AlikeFrom (stepped (begins first_plain plain_step) p o) (stepped script_step m o)
    reads None = tt
    reads (Some c) = begins_alike p m c h

    blank : (b : Bool) → AlikeFrom (if b then Goes [] p else stepped (begins first_plain plain_step) p (read_line text)) (if b then Goes [] m else stepped script_step m (read_line text))
    blank true = (refl, h)
    blank false = reads (read_line text)

outputs_alike : (ls : List (List ℕ)) (taken : ℕ) (p : Option Plain) (m : Option Machine) → Related p m → IsPlain (outputs (begins first_plain plain_step) ls taken p).ending
    → outputs script_step ls taken m ≡ outputs (begins first_plain plain_step) ls taken p
unfolding AlikeFrom
outputs_alike [] taken p m h plain = refl
outputs_alike (l ∷ ls) taken p m h plain =
    go (line_step (begins first_plain plain_step) p l) (line_step script_step m l) (line_alike p m l h) (λ q n k rest. outputs_alike ls (taken + 1) q n k rest) plain
  where
    go : (a : Step (Option Plain)) (b : Step (Option Machine)) → AlikeFrom a b
        → ((q : Option Plain) (n : Option Machine) → Related q n → IsPlain (outputs (begins first_plain plain_step) ls (taken + 1) q).ending → outputs script_step ls (taken + 1) n ≡ outputs (begins first_plain plain_step) ls (taken + 1) q)
        → IsPlain (onward a (taken + 1) (outputs (begins first_plain plain_step) ls (taken + 1))).ending
        → onward b (taken + 1) (outputs script_step ls (taken + 1)) ≡ onward a (taken + 1) (outputs (begins first_plain plain_step) ls (taken + 1))
    go (Goes text q) (Goes other n) k rest is = ap (behind other) (rest q n k.1 is) ∙ ap (λ t. behind t (outputs (begins first_plain plain_step) ls (taken + 1) q)) (sym k.0)
    go (Goes text q) IsBad k rest is = absurd k
    go (Goes text q) IsOther k rest is = absurd k
    go IsBad IsBad k rest is = refl
    go IsBad (Goes text n) k rest is = absurd k
    go IsBad IsOther k rest is = absurd k
    go IsOther (Goes text n) k rest is = absurd is
    go IsOther IsBad k rest is = absurd is
    go IsOther IsOther k rest is = absurd is

pub plain_scripts_print : PlainScriptsPrint
unfolding Related
plain_scripts_print bytes plain = outputs_alike (script_lines bytes) 0 None None tt plain

beginnings_alike : (ls : List (List ℕ)) (taken : ℕ) (p : Option Plain) (m : Option Machine) → Related p m
    → (rest : List ℕ) × ((outputs (begins first_plain plain_step) ls taken p).text ++ rest ≡ (outputs script_step ls taken m).text)
unfolding AlikeFrom
beginnings_alike [] taken p m h = ([], refl)
beginnings_alike (l ∷ ls) taken p m h = go (line_step (begins first_plain plain_step) p l) (line_step script_step m l) (line_alike p m l h) (λ q n k. beginnings_alike ls (taken + 1) q n k)
  where
    go : (a : Step (Option Plain)) (b : Step (Option Machine)) → AlikeFrom a b
        → ((q : Option Plain) (n : Option Machine) → Related q n → (rest : List ℕ) × ((outputs (begins first_plain plain_step) ls (taken + 1) q).text ++ rest ≡ (outputs script_step ls (taken + 1) n).text))
        → (rest : List ℕ) × ((onward a (taken + 1) (outputs (begins first_plain plain_step) ls (taken + 1))).text ++ rest ≡ (onward b (taken + 1) (outputs script_step ls (taken + 1))).text)
    go (Goes text q) (Goes other n) k more =
        let r = more q n k.1 in
        let told : List ℕ = (outputs (begins first_plain plain_step) ls (taken + 1) q).text in
        (r.0, append_assoc text told r.0 ∙ ap (λ t. text ++ t) r.1 ∙ ap (λ t. t ++ (outputs script_step ls (taken + 1) n).text) k.0)
    go (Goes text q) IsBad k more = absurd k
    go (Goes text q) IsOther k more = absurd k
    go IsBad IsBad k more = ([], refl)
    go IsBad (Goes text n) k more = absurd k
    go IsBad IsOther k more = absurd k
    go IsOther (Goes text n) k more = ((onward (Goes text n) (taken + 1) (outputs script_step ls (taken + 1))).text, refl)
    go IsOther IsBad k more = ([], refl)
    go IsOther IsOther k more = ([], refl)

pub plain_beginnings : PlainBeginnings
unfolding Related
plain_beginnings bytes = beginnings_alike (script_lines bytes) 0 None None tt

pub plain_scripts_write : PlainScriptsWrite
plain_scripts_write bytes old new result plain wrote = subst (λ o. Wrote o old new result) (plain_scripts_print bytes plain) wrote
