-- What is decided on some of a log's objects.
use Rattle.std.proofs.Common.{◌≡◌, ℕ, ◌+◌, ◌<◌, List, [], ◌∷◌, ◌++◌, Bool, true, false, cond, Option, Some, None, length, get_or, take, drop, refl, sym, ap, ◌∙◌, subst, append_assoc, add-one}
use Rattle.std.proofs.lemmas.List.{take_more}
use Rattle.std.proofs.Math.Seq.{drop-cons}
use Rattle.std.specs.FinMap.{get, same_map}
use Rattle.std.specs.Ordering.{eq_by_cmp}
use Rattle.object_core.specs.Content.{Content}
use Rattle.object_core.specs.Effect.{effect}
use Rattle.object_core.specs.declared.outcome.Change.{Change}
use Rattle.object_core.specs.declared.outcome.Change.TheVariants.{Kept, Became}
use Rattle.store_core.specs.Request.{Sealed, Work, Vector, Listing}
use Rattle.store_core.specs.Store.{Store, ObjectName, name_cmp, with_object}
use Rattle.store_core.specs.Names.{name_cmp_total, same_names, is_same, is_same-ties, is_same_equiv, same_from_is_same}
use Rattle.store_core.specs.Deciding.{Decision, store_of, name_of, names_in, ran, answered, performed, answer_on, with_answer, is_allowed_sealed, decision_on}
use Rattle.store_core.specs.Objects.{AlikeAt, AlikeFor, all_changed, changed, change_of}
use Rattle.entry_core.specs.Drafts.{IsDraft, Undoes}
use Rattle.entry_core.specs.Fitting.{decided_behind}
use Rattle.entry_core.specs.Log.{decide, decision}
use Rattle.store_core.specs.Sealing.{ops_of}
use Rattle.entry_core.specs.Stored.{LeadsBack}
use Rattle.store_core.specs.declared.entry.Entry.{Entry}
use Rattle.entry_core.specs.declared.draft.Draft.{Draft}
use Rattle.store_core.specs.declared.decided.NamedChange.{NamedChange}
use Rattle.store_core.specs.declared.decided.ObjectChange.{ObjectChange}
use Rattle.store_core.specs.declared.reply.Reply.TheVariants.{Names}
use Rattle.entry_core.proofs.Fitting.{behind_at}
use Rattle.entry_core.proofs.Lawful.{decision_tells_the_store, others_are_left}
use Rattle.entry_core.proofs.Locality.{chosen_alike}
use Rattle.entry_core.proofs.Pushing.{split_last, whole_of}
use Rattle.store_core.proofs.Stores.{get-with_object}
use Rattle.store_core.proofs.AlikeStores.{brought}

-- what stands at each name after a change
abbrev held : Bool → Change → Option Content → Option Content
held tied Kept o = o
held tied (Became w) o = cond tied w o

get-changed : (store : Store) (k q : ObjectName) (c : Change) → get (changed store k c) q ≡ held (eq_by_cmp name_cmp q k) c (get store q)
get-changed store k q Kept = refl
get-changed store k q (Became w) = get-with_object store k q w

-- stores stay alike where both are changed
changed_at : (a b : Store) (k q : ObjectName) (c : Change) (w : Work) → AlikeAt a b q w → AlikeAt (changed a k c) (changed b k c) q w
changed_at a b k q c (Vector object ops) h = get-changed a k q c ∙ ap (held (eq_by_cmp name_cmp q k) c) h ∙ sym (get-changed b k q c)
changed_at a b k q c Listing h = ap (λ s. changed s k c) h

changed_for : (a b : Store) (k : ObjectName) (c : Change) (part : List Sealed) → AlikeFor a b part → AlikeFor (changed a k c) (changed b k c) part
changed_for a b k c [] h = tt
changed_for a b k c (s ∷ part) h = (changed_at a b k (name_of s) c s.work h.0, changed_for a b k c part h.1)

get_alike : (a b : Store) (q : ObjectName) (w : Work) → AlikeAt a b q w → get a q ≡ get b q
get_alike a b q (Vector object ops) h = h
get_alike a b q Listing h = ap (λ s. get s q) h

held_off : (c : Change) (o : Option Content) → held false c o ≡ o
held_off Kept o = refl
held_off (Became w) o = refl

undone_by : (b : Bool) (c undo : Change) (x y : Option Content) → (b ≡ true → x ≡ y) → held b undo (held b c x) ≡ x → held b undo (held b c y) ≡ y
undone_by true c undo x y same h = ap (λ z. held true undo (held true c z)) (sym (same refl)) ∙ h ∙ same refl
undone_by false c undo x y same h = held_off undo (held false c y) ∙ held_off c y

-- what undoes a change in one store undoes it in another one with the same object
undone_alike : (a b : Store) (k : ObjectName) (c undo : Change) → get a k ≡ get b k → changed (changed a k c) k undo ≡ a → changed (changed b k c) k undo ≡ b
undone_alike a b k c undo same h = same_map name_cmp_total same_names _ _ (λ q.
    let t : Bool = eq_by_cmp name_cmp q k in
    let in_a : held t undo (held t c (get a q)) ≡ get a q = ap (held t undo) (sym (get-changed a k q c)) ∙ sym (get-changed (changed a k c) k q undo) ∙ ap (λ s. get s q) h in
    get-changed (changed b k c) k q undo ∙ ap (held t undo) (get-changed b k q c)
    ∙ undone_by t c undo (get a q) (get b q) (λ tied. let e : q ≡ k = same_from_is_same q k (is_same-ties q k ∙ tied) in ap (get a) e ∙ same ∙ ap (get b) (sym e)) in_a)

-- stores that are alike for a request decide it alike
performed_on : (a b : Store) (s : Sealed) (w : Work) → AlikeAt a b (name_of s) w → performed a s w ≡ performed b s w
performed_on a b s (Vector object ops) h = ap (λ o. ran (effect o ops)) h
performed_on a b s Listing h = ap (λ store. answered (Names (names_in store s))) h

decision_alike : (a b : Store) (s : Sealed) → AlikeAt a b (name_of s) s.work → decision_on a s ≡ decision_on b s
unfolding answer_on
decision_alike a b s h = ap (with_answer s) (chosen_alike (is_allowed_sealed s) _ _ _ (performed_on a b s s.work h))

-- what was there before the last entry, put back
pub put_back : (front : List Entry) (e : Entry) (o : Option Content) → o ≡ get (store_of front) (name_of e.sealed) → with_object (store_of (front ++ e ∷ [])) (name_of e.sealed) o ≡ store_of front
put_back front e o is = same_map name_cmp_total same_names _ _ (λ q. brought (store_of (front ++ e ∷ [])) (store_of front) (name_of e.sealed) q o is (others_are_left front e q))

pub changed-push : (store : Store) (changes : List NamedChange) (c : NamedChange) → all_changed store (changes ++ c ∷ []) ≡ changed (all_changed store changes) c.name (change_of c.left)
changed-push store [] c = refl
changed-push store (d ∷ changes) c = changed-push (changed store d.name (change_of d.left)) changes c

-- from the last entry back
pub back_from : (front log : List Entry) (e : Entry) (back : ObjectChange) → front ++ e ∷ [] ≡ log → changed (store_of (front ++ e ∷ [])) (name_of e.sealed) (change_of back) ≡ store_of front → LeadsBack log (Some back)
back_from front log e back whole leads other f is =
    let last = split_last other front f e (is ∙ sym whole) in
    (λ i. changed (store_of (sym whole i)) (name_of (last.1 i).sealed) (change_of back)) ∙ leads ∙ ap store_of (sym last.0)

undone_back : (front : List Entry) (e : Entry) (a : Store) (c : Change) (back : Option ObjectChange) → get a (name_of e.sealed) ≡ get (store_of front) (name_of e.sealed) → store_of (front ++ e ∷ []) ≡ changed (store_of front) (name_of e.sealed) c
    → Undoes (changed a (name_of e.sealed) c) a (name_of e.sealed) back → LeadsBack (front ++ e ∷ []) back
undone_back front e a c None same grown undo = tt
undone_back front e a c (Some back) same grown undo =
    back_from front (front ++ e ∷ []) e back refl
    (ap (λ s. changed s (name_of e.sealed) (change_of back)) grown ∙ undone_alike a (store_of front) (name_of e.sealed) c (change_of back) same undo)

-- the draft of a log with no part of it dropped
pub draft_none : (log : List Entry) (store : Store) (part : List Sealed) (d : Draft) → store ≡ store_of log → AlikeFor d.objects store part → d.changes.items ≡ [] → d.back ≡ None → IsDraft log log part d
draft_none log store part d made alike none unknown = record {
  found = record { made = ap (all_changed (store_of log)) none; leads = subst (LeadsBack log) (sym unknown) tt };
  alike = subst (λ s. AlikeFor d.objects s part) made alike;
}

-- the last entry's object is put back
pub draft_back : (log : List Entry) (kept : ℕ) (last : Entry) (part : List Sealed) (d d' : Draft) (back : ObjectChange) → length log ≡ kept + 1 → last ≡ get_or log kept last → IsDraft log log part d → LeadsBack log (Some back)
    → d'.objects ≡ changed d.objects (name_of last.sealed) (change_of back) → ((store : Store) → all_changed store d'.changes.items ≡ changed (all_changed store d.changes.items) (name_of last.sealed) (change_of back)) → d'.back ≡ None → IsDraft log (take kept log) part d'
draft_back log kept last part d d' back one is draft leads objects changes unknown =
    let leads_to : changed (store_of log) (name_of last.sealed) (change_of back) ≡ store_of (take kept log) = leads (take kept log) last (whole_of log kept last one is) in
    record {
      found = record {
        made = changes (store_of log) ∙ ap (λ s. changed s (name_of last.sealed) (change_of back)) draft.found.made ∙ leads_to;
        leads = subst (LeadsBack (take kept log)) (sym unknown) tt;
      };
      alike =
          subst (λ s. AlikeFor d'.objects s part) leads_to
          (subst (λ s. AlikeFor s (changed (store_of log) (name_of last.sealed) (change_of back)) part) (sym objects) (changed_for d.objects (store_of log) (name_of last.sealed) (change_of back) part draft.alike));
    }

-- one more request is decided
draft_more : (log front : List Entry) (s : Sealed) (part : List Sealed) (d d' : Draft) → IsDraft log front (s ∷ part) d → d'.objects ≡ changed d.objects (name_of s) (decision_on d.objects s).change
    → ((store : Store) → all_changed store d'.changes.items ≡ changed (all_changed store d.changes.items) (name_of s) (decision_on d.objects s).change) → Undoes d'.objects d.objects (name_of s) d'.back → IsDraft log (front ++ decide front s ∷ []) part d'
draft_more log front s part d d' draft objects changes undo =
    let c : Change = (decision_on d.objects s).change in
    let told : decision_on d.objects s ≡ decision front s = decision_alike d.objects (store_of front) s draft.alike.0 in
    let grown : store_of (front ++ decide front s ∷ []) ≡ changed (store_of front) (name_of s) c = decision_tells_the_store front s ∙ ap (λ (x : Decision). changed (store_of front) (name_of s) x.change) (sym told) in
    record {
      found = record {
        made = changes (store_of log) ∙ ap (λ x. changed x (name_of s) c) draft.found.made ∙ sym grown;
        leads =
            undone_back front (decide front s) d.objects c d'.back (get_alike d.objects (store_of front) (name_of s) s.work draft.alike.0) grown
            (subst (λ x. Undoes x d.objects (name_of s) d'.back) objects undo);
      };
      alike =
          subst (λ x. AlikeFor d'.objects x part) (sym grown)
          (subst (λ x. AlikeFor x (changed (store_of front) (name_of s) c) part) (sym objects) (changed_for d.objects (store_of front) (name_of s) c part draft.alike.1));
    }

-- the next request of a part is decided
pub record Next (log front : List Entry) (part : List Sealed) (p : ℕ) (d d' : Draft) : Type 0 where
  pub draft : IsDraft log (front ++ d'.entries.items) (drop (p + 1) part) d'
  pub all : decided_behind (front ++ d'.entries.items) (drop (p + 1) part) ≡ decided_behind (front ++ d.entries.items) (drop p part)

pub draft_next : (log front : List Entry) (part : List Sealed) (p : ℕ) (s : Sealed) (d d' : Draft) → p < length part → s ≡ get_or part p s → IsDraft log (front ++ d.entries.items) (drop p part) d
    → d'.entries.items ≡ d.entries.items ++ (decision_on d.objects s).entry ∷ [] → d'.objects ≡ changed d.objects (name_of s) (decision_on d.objects s).change
    → ((store : Store) → all_changed store d'.changes.items ≡ changed (all_changed store d.changes.items) (name_of s) (decision_on d.objects s).change) → Undoes d'.objects d.objects (name_of s) d'.back → Next log front part p d d'
draft_next log front part p s d d' within is draft entries objects changes undo =
    let here : List Entry = front ++ d.entries.items in
    let rest : drop p part ≡ s ∷ drop (p + 1) part = drop-cons part p s within ∙ (λ i. sym is i ∷ drop (sym (add-one p) i) part) in
    let now : IsDraft log here (s ∷ drop (p + 1) part) d = subst (λ l. IsDraft log here l d) rest draft in
    let told : decision_on d.objects s ≡ decision here s = decision_alike d.objects (store_of here) s now.alike.0 in
    let grown : front ++ d'.entries.items ≡ here ++ decide here s ∷ [] =
    ap (λ l. front ++ l) entries ∙ sym (append_assoc front d.entries.items ((decision_on d.objects s).entry ∷ [])) ∙ ap (λ (x : Decision). here ++ x.entry ∷ []) told in
    record {
      draft = subst (λ l. IsDraft log l (drop (p + 1) part) d') (sym grown) (draft_more log here s (drop (p + 1) part) d d' now objects changes undo);
      all = ap (λ l. decided_behind l (drop (p + 1) part)) grown ∙ sym (behind_at here part p s within is);
    }
