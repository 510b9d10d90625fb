-- What a plain script prints does not hang on how objects are kept.
use Rattle.std.proofs.Common.{◌≡◌, ◌∙◌, ℕ, ◌+◌, List, [], ◌∷◌, Bool, true, false, not, cond, if◌then◌else◌, Option, Some, None, refl, sym, ap}
use Rattle.std.specs.Prelude.{fold, codes}
use Rattle.std.specs.List.{filter}
use Rattle.std.specs.Ordering.{eq_by_cmp}
use Rattle.std.specs.declared.cmp.Ordering.TheVariants.{Equal}
use Rattle.std.specs.FinMap.{get, entries, remove, get-entries, entries_sorted, entries-insert, get-remove, empty, get-empty}
use Rattle.std.specs.FinMap.Entries.{where_key, is_sorted-where_key, find-where_key, same_entries}
use Rattle.object_core.specs.Content.{Content}
use Rattle.object_core.specs.Effect.{effect}
use Rattle.object_core.specs.declared.outcome.Change.{Change}
use Rattle.object_core.specs.declared.outcome.Change.TheVariants.{Kept, Became}
use Rattle.verdict_core.specs.Verdict.{report_of}
use Rattle.store_core.specs.Request.{Sealed, Work, Vector, Listing, target_of, needs_for}
use Rattle.store_core.specs.Store.{Store, ObjectName, name_cmp}
use Rattle.store_core.specs.Names.{name_cmp_total, same_names, is_same-ties, is_same_equiv}
use Rattle.store_core.specs.Deciding.{name_of, ran, answered, names_in, performed, answer_on, decision_on, is_allowed_sealed}
use Rattle.store_core.specs.Objects.{changed}
use Rattle.store_core.specs.declared.reply.Reply.TheVariants.{Denied}
use Rattle.store_core.specs.declared.sealed.GroupId.{GroupId}
use Rattle.world_events.specs.declared.event.Event.{Event}
use Rattle.world_events.specs.declared.fault.WorldFault.{WorldFault as Fault}
use Rattle.world_events.specs.declared.event.Event.TheVariants as happens
use Rattle.world_front.specs.Groups.{is_for}
use Rattle.world_front.specs.ControlPlane.{front_refusal}
use Rattle.world_script.specs.declared.command.Command.{Command}
use Rattle.world_script.specs.declared.command.Command.TheVariants.{Osds, Happens, Submit, List as ListNames, Locate, ShowUser, ListUsers, Tick, Settle, KickAll, LoseAll, Answer as AskAnswer, Listing as AskListing, Ready}
use Rattle.world_script.specs.Command.{read_line}
use Rattle.world_script.specs.Script.{Step, Goes, IsBad, IsOther, Output, stepped, line_step, behind, onward, outputs, kept, begins, ask_now, places}
use Rattle.script_laws.specs.Plain.{in_store, PlainIn, first_in, with_reply, decides_in, serves_in, cost, SettledIn, settles_in, settles_all_in, settled_step, is_enough, is_move, is_message, asks, judged, plain_event, plain_step_in, output_in, plain_output}
use Rattle.script_laws.specs.Worked.{Objects, in_list, left_in, performed_in, answer_in, left_by}
use Rattle.script_text.specs.Lines.{is_blank, script_lines}
use Rattle.script_text.specs.Text.{line}

-- ---- one decision

tie_ends : (k x y : ObjectName) → name_cmp x y ≡ Equal → not (eq_by_cmp name_cmp k y) ≡ not (eq_by_cmp name_cmp k x)
tie_ends k x y e = ap (λ n. not (eq_by_cmp name_cmp k n)) (sym (same_names x y e))

turned : (b : Bool) (x : Option Content) → cond (not b) x None ≡ cond b None x
turned true x = refl
turned false x = refl

symmetric : (a b : ObjectName) → eq_by_cmp name_cmp a b ≡ eq_by_cmp name_cmp b a
symmetric a b = sym (is_same-ties a b) ∙ is_same_equiv.symm a b ∙ is_same-ties b a

entries_without : (store : Store) (k : ObjectName) → entries (remove store k) ≡ where_key name_cmp (λ n. not (eq_by_cmp name_cmp k n)) (entries store)
entries_without store k =
    same_entries name_cmp name_cmp_total same_names (entries (remove store k)) (where_key name_cmp (λ n. not (eq_by_cmp name_cmp k n)) (entries store))
    (entries_sorted (remove store k)) (is_sorted-where_key name_cmp (λ n. not (eq_by_cmp name_cmp k n)) (entries store) (entries_sorted store))
    (λ q. sym (get-entries (remove store k) q) ∙ get-remove name_cmp_total store k q
    ∙ ap (λ b. cond b None (get store q)) (symmetric q k)
    ∙ sym (turned (eq_by_cmp name_cmp k q) (get store q))
    ∙ ap (λ r. cond (not (eq_by_cmp name_cmp k q)) r None) (get-entries store q)
    ∙ sym (find-where_key name_cmp (λ n. not (eq_by_cmp name_cmp k n)) q (λ x e. tie_ends k q x e) (entries store)))

entries_changed : (store : Store) (name : ObjectName) (c : Change) → entries (changed store name c) ≡ left_in (entries store) name c
entries_changed store name Kept = refl
entries_changed store name (Became (Some object)) = entries-insert name_cmp_total store name object
entries_changed store name (Became None) = entries_without store name

performed_alike : (store : Store) (s : Sealed) (w : Work) → performed store s w ≡ performed_in (entries store) s w
unfolding names_in
performed_alike store s (Vector object ops) = ap (λ o. ran (effect o ops)) (get-entries store (name_of s))
performed_alike store s Listing = refl

if_alike : {A : Type 0} (b : Bool) (x y z : A) → x ≡ y → cond b x z ≡ cond b y z
if_alike true x y z h = h
if_alike false x y z h = refl

answered_alike : (store : Store) (s : Sealed) → answer_on store s ≡ answer_in (entries store) s
unfolding answer_on
answered_alike store s = if_alike (is_allowed_sealed s) _ _ (answered (Denied (report_of s.ticket (target_of s) (needs_for s.work) s.tick))) (performed_alike store s s.work)

-- ---- how objects are kept, changed

abbrev as_list : PlainIn Store → PlainIn Objects
as_list p = record { front = p.front; tick = p.tick; objects = entries p.objects; pending = p.pending; fresh = p.fresh; opened = p.opened; answers = p.answers }

decides_alike : (p : PlainIn Store) (s : Sealed) → as_list (decides_in in_store p s) ≡ decides_in in_list (as_list p) s
decides_alike p s =
    ap (λ os. with_reply (as_list p) s ((decision_on p.objects s).entry.reply, os)) (entries_changed p.objects (name_of s) (decision_on p.objects s).change)
    ∙ ap (λ a. with_reply (as_list p) s (left_by (entries p.objects) s a)) (answered_alike p.objects s)

fold_alike : {A B C : Type 0} (h : B → C) (f : B → A → B) (g : C → A → C) → ((b : B) (a : A) → h (f b a) ≡ g (h b) a) → (xs : List A) (b : B) → h (fold f b xs) ≡ fold g (h b) xs
fold_alike h f g same [] b = refl
fold_alike h f g same (x ∷ xs) b = fold_alike h f g same xs (f b x) ∙ ap (λ c. fold g c xs) (same b x)

abbrev settled_list : SettledIn Store → SettledIn Objects
settled_list c = record { plain = as_list c.plain; count = c.count }

serves_alike : (id : GroupId) (p : PlainIn Store) → as_list (serves_in in_store id p) ≡ serves_in in_list id (as_list p)
serves_alike id p = fold_alike as_list (decides_in in_store) (decides_in in_list) decides_alike (filter (is_for id) p.pending) (record p { pending = filter (λ s. not (is_for id s)) p.pending })

settles_alike : (c : SettledIn Store) (id : GroupId) → settled_list (settles_in in_store c id) ≡ settles_in in_list (settled_list c) id
settles_alike c id = ap (λ p. record { plain = p; count = c.count + cost c.plain id }) (go (is_enough c.plain.front id))
  where
    go : (b : Bool) → as_list (if b then serves_in in_store id c.plain else c.plain) ≡ (if b then serves_in in_list id (as_list c.plain) else as_list c.plain)
    go true = serves_alike id c.plain
    go false = refl

all_alike : (p : PlainIn Store) → settled_list (settles_all_in in_store p) ≡ settles_all_in in_list (as_list p)
all_alike p = fold_alike settled_list (settles_in in_store) (settles_in in_list) settles_alike (places p.front) (record { plain = p; count = 0 })

-- ---- lines

abbrev step_list : {S T : Type 0} → (S → T) → Step S → Step T
step_list h (Goes text s) = Goes text (h s)
step_list h IsBad = IsBad
step_list h IsOther = IsOther

other_alike : (b : Bool) (p : Step (PlainIn Store)) (q : Step (PlainIn Objects)) → step_list as_list p ≡ q → step_list as_list (if b then IsOther else p) ≡ (if b then IsOther else q)
other_alike true p q h = refl
other_alike false p q h = h

judged_alike : (p : PlainIn Store) (e : Event) (o : Option Fault) → step_list as_list (judged p e o) ≡ judged (as_list p) e o
judged_alike p e None = other_alike (is_move p.front e) (Goes _ (asks p e)) (Goes _ (asks (as_list p) e)) refl
judged_alike p e (Some fault) = refl

event_alike : (p : PlainIn Store) (e : Event) → step_list as_list (plain_event p e) ≡ plain_event (as_list p) e
event_alike p e = other_alike (is_message e) (judged p e (front_refusal p.front e)) (judged (as_list p) e (front_refusal p.front e)) (judged_alike p e (front_refusal p.front e))

command_alike : (p : PlainIn Store) (c : Command) → step_list as_list (plain_step_in in_store p c) ≡ plain_step_in in_list (as_list p) c
command_alike p (Osds daemons) = refl
command_alike p (Happens e) = event_alike p e
command_alike p (Submit session pool namespace object ops) = event_alike p (happens.Submit (ask_now p.front p.tick session pool namespace) object ops)
command_alike p (ListNames session pool namespace) = event_alike p (happens.List (ask_now p.front p.tick session pool namespace))
command_alike p (Locate pool namespace object) = refl
command_alike p (ShowUser name) = refl
command_alike p ListUsers = refl
command_alike p (Tick t) = refl
command_alike p Settle = ap settled_step (all_alike p)
command_alike p KickAll = refl
command_alike p LoseAll = refl
command_alike p (AskAnswer id) = refl
command_alike p (AskListing id) = refl
command_alike p (Ready id) = refl

-- ---- scripts

abbrev option_list : {S T : Type 0} → (S → T) → Option S → Option T
option_list h None = None
option_list h (Some s) = Some (h s)

kept_alike : {S T : Type 0} (h : S → T) (s : Step S) → step_list (option_list h) (kept s) ≡ kept (step_list h s)
kept_alike h (Goes text s) = refl
kept_alike h IsBad = refl
kept_alike h IsOther = refl

first_alike : (n : ℕ) → as_list (first_in in_store n) ≡ first_in in_list n
first_alike n = ap (λ os. record (first_in in_list n) { objects = os }) nothing_kept
  where
    nothing_kept : entries (empty {X = Content} {R = name_cmp}) ≡ []
    nothing_kept = same_entries name_cmp name_cmp_total same_names (entries empty) [] (entries_sorted empty) tt (λ q. sym (get-entries empty q) ∙ get-empty name_cmp q)

begins_alike : (o : Option (PlainIn Store)) (c : Command) → step_list (option_list as_list) (begins (first_in in_store) (plain_step_in in_store) o c) ≡ begins (first_in in_list) (plain_step_in in_list) (option_list as_list o) c
begins_alike None (Osds daemons) = ap (λ p. Goes (line (codes "epoch 1")) (Some p)) (first_alike daemons)
begins_alike None (Happens e) = refl
begins_alike None (Submit session pool namespace object ops) = refl
begins_alike None (ListNames session pool namespace) = refl
begins_alike None (Locate pool namespace object) = refl
begins_alike None (ShowUser name) = refl
begins_alike None ListUsers = refl
begins_alike None (Tick t) = refl
begins_alike None Settle = refl
begins_alike None KickAll = refl
begins_alike None LoseAll = refl
begins_alike None (AskAnswer id) = refl
begins_alike None (AskListing id) = refl
begins_alike None (Ready id) = refl
begins_alike (Some p) (Osds daemons) = refl
begins_alike (Some p) (Happens e) = kept_alike as_list (plain_step_in in_store p (Happens e)) ∙ ap kept (command_alike p (Happens e))
begins_alike (Some p) (Submit session pool namespace object ops) = kept_alike as_list (plain_step_in in_store p (Submit session pool namespace object ops)) ∙ ap kept (command_alike p (Submit session pool namespace object ops))
begins_alike (Some p) (ListNames session pool namespace) = kept_alike as_list (plain_step_in in_store p (ListNames session pool namespace)) ∙ ap kept (command_alike p (ListNames session pool namespace))
begins_alike (Some p) (Locate pool namespace object) = kept_alike as_list (plain_step_in in_store p (Locate pool namespace object)) ∙ ap kept (command_alike p (Locate pool namespace object))
begins_alike (Some p) (ShowUser name) = kept_alike as_list (plain_step_in in_store p (ShowUser name)) ∙ ap kept (command_alike p (ShowUser name))
begins_alike (Some p) ListUsers = kept_alike as_list (plain_step_in in_store p ListUsers) ∙ ap kept (command_alike p ListUsers)
begins_alike (Some p) (Tick t) = kept_alike as_list (plain_step_in in_store p (Tick t)) ∙ ap kept (command_alike p (Tick t))
begins_alike (Some p) Settle = kept_alike as_list (plain_step_in in_store p Settle) ∙ ap kept (command_alike p Settle)
begins_alike (Some p) KickAll = kept_alike as_list (plain_step_in in_store p KickAll) ∙ ap kept (command_alike p KickAll)
begins_alike (Some p) LoseAll = kept_alike as_list (plain_step_in in_store p LoseAll) ∙ ap kept (command_alike p LoseAll)
begins_alike (Some p) (AskAnswer id) = kept_alike as_list (plain_step_in in_store p (AskAnswer id)) ∙ ap kept (command_alike p (AskAnswer id))
begins_alike (Some p) (AskListing id) = kept_alike as_list (plain_step_in in_store p (AskListing id)) ∙ ap kept (command_alike p (AskListing id))
begins_alike (Some p) (Ready id) = kept_alike as_list (plain_step_in in_store p (Ready id)) ∙ ap kept (command_alike p (Ready id))

line_alike : {S T : Type 0} (h : S → T) (f : S → Command → Step S) (g : T → Command → Step T) → ((s : S) (c : Command) → step_list h (f s c) ≡ g (h s) c) → (l : List ℕ) (s : S) → step_list h (line_step f s l) ≡ line_step g (h s) l
line_alike h f g same l s = by (is_blank l) (read_line l)
  where
    by : (b : Bool) (o : Option Command) → step_list h (if b then Goes [] s else stepped f s o) ≡ (if b then Goes [] (h s) else stepped g (h s) o)
    by true o = refl
    by false None = refl
    by false (Some c) = same s c

onward_alike : {S T : Type 0} (h : S → T) (n : ℕ) (f : S → Output) (g : T → Output) → ((s : S) → f s ≡ g (h s)) → (r : Step S) → onward r n f ≡ onward (step_list h r) n g
onward_alike h n f g same (Goes text s) = ap (behind text) (same s)
onward_alike h n f g same IsBad = refl
onward_alike h n f g same IsOther = refl

outputs_alike : {S T : Type 0} (h : S → T) (f : S → Command → Step S) (g : T → Command → Step T) → ((s : S) (c : Command) → step_list h (f s c) ≡ g (h s) c) → (ls : List (List ℕ)) (n : ℕ) (s : S) → outputs f ls n s ≡ outputs g ls n (h s)
outputs_alike h f g same [] n s = refl
outputs_alike h f g same (l ∷ ls) n s =
    onward_alike h (n + 1) (outputs f ls (n + 1)) (outputs g ls (n + 1)) (outputs_alike h f g same ls (n + 1)) (line_step f s l)
    ∙ ap (λ r. onward r (n + 1) (outputs g ls (n + 1))) (line_alike h f g same l s)

pub keepings_agree : (bytes : List ℕ) → plain_output bytes ≡ output_in in_list bytes
keepings_agree bytes = outputs_alike (option_list as_list) (begins (first_in in_store) (plain_step_in in_store)) (begins (first_in in_list) (plain_step_in in_list)) begins_alike (script_lines bytes) 0 None
