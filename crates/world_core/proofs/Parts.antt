-- What is put together of groups, one after another.
use Rattle.std.proofs.Common.{◌≡◌, ◌∙◌, ℕ, ◌+◌, ◌<◌, List, [], ◌∷◌, ◌++◌, Some, refl, sym, ap, subst, append-nil, length, take, drop, get_or}
use Rattle.std.specs.Prelude.{slice_get}
use Rattle.std.proofs.lemmas.List.{append_assoc, drop_more, take_more}
use Rattle.std.proofs.lemmas.Option.{slice_get_read}
use Rattle.std.proofs.lemmas.Grind.{flat_map-append}
use Rattle.store_core.specs.Request.{Sealed}
use Rattle.group_model_whole.specs.Each.{Each}
use Rattle.group_model.specs.Group.{Group}
use Rattle.world_events.specs.Submitting.{AreNew}
use Rattle.world_core.specs.Inside.{run_entries, entries_told}
use Rattle.world_core.specs.Sound.{FitsAt}
use Rattle.world_core.specs.Applying.{runs_from}
use Rattle.world_core.specs.Parts.{requests_of, decided_of}
use Rattle.world_core.specs.declared.audit.Run.{Run}
use Rattle.world_core.proofs.Acting.{each_join}
use Rattle.world_core.proofs.RunPlaces.{News, new_run}

-- ---- requests

pub new_front : (old xs ys : List Sealed) → AreNew old (xs ++ ys) → AreNew old xs
new_front old [] ys h = tt
new_front old (x ∷ xs) ys h = (h.0, new_front (old ++ x ∷ []) xs ys h.1)

pub new_back : (old xs ys : List Sealed) → AreNew old (xs ++ ys) → AreNew (old ++ xs) ys
new_back old [] ys h = subst (λ l. AreNew l ys) (sym (append-nil old)) h
new_back old (x ∷ xs) ys h = subst (λ l. AreNew l ys) (append_assoc old (x ∷ []) xs) (new_back (old ++ x ∷ []) xs ys h.1)

drop_first : (groups : List Group) (i : ℕ) (g : Group) → i < length groups → g ≡ get_or groups i g → drop i groups ≡ g ∷ drop (i + 1) groups
drop_first groups i g low is = drop_more groups i g low ∙ ap (λ x. x ∷ drop (i + 1) groups) (sym is)

-- the requests of one group more
pub new_here : (all : List Sealed) (groups : List Group) (i : ℕ) (g : Group) → i < length groups → g ≡ get_or groups i g → AreNew all (requests_of (drop i groups)) → AreNew all g.requests
new_here all groups i g low is h = new_front all g.requests (requests_of (drop (i + 1) groups)) (subst (λ l. AreNew all (requests_of l)) (drop_first groups i g low is) h)

pub new_later : (all : List Sealed) (groups : List Group) (i : ℕ) (g : Group) → i < length groups → g ≡ get_or groups i g → AreNew all (requests_of (drop i groups)) → AreNew (all ++ g.requests) (requests_of (drop (i + 1) groups))
new_later all groups i g low is h = new_back all g.requests (requests_of (drop (i + 1) groups)) (subst (λ l. AreNew all (requests_of l)) (drop_first groups i g low is) h)

take_last : (groups : List Group) (i : ℕ) (g : Group) → i < length groups → g ≡ get_or groups i g → take (i + 1) groups ≡ take i groups ++ g ∷ []
take_last groups i g low is = take_more groups i g low ∙ ap (λ x. take i groups ++ x ∷ []) (sym is)

pub requests_next : (all : List Sealed) (groups : List Group) (i : ℕ) (g : Group) → i < length groups → g ≡ get_or groups i g → all ≡ requests_of (take i groups) → all ++ g.requests ≡ requests_of (take (i + 1) groups)
requests_next all groups i g low is h =
    ap (λ l. l ++ g.requests) h
    ∙ ap (λ l. requests_of (take i groups) ++ l) (sym (append-nil g.requests))
    ∙ sym (flat_map-append (λ x. x.requests) (take i groups) (g ∷ []))
    ∙ ap requests_of (sym (take_last groups i g low is))

-- ---- what was decided

-- the runs of one group more
pub runs_next : (groups : List Group) (runs : List Run) (i n : ℕ) (g : Group) → i < length groups → g ≡ get_or groups i g → n ≡ length g.audit → Each (FitsAt groups) runs → entries_told groups runs ≡ decided_of (take i groups)
    → News groups (runs ++ runs_from i 0 n) (decided_of (take (i + 1) groups))
runs_next groups runs i n g low is long fit told =
    let there : slice_get groups i ≡ Some g = slice_get_read groups (length groups) i g refl low is in
    let news : News groups (runs_from i 0 n) g.audit = subst (λ (m : ℕ). News groups (runs_from i 0 m) g.audit) (sym long) (new_run groups i 0 g there) in
    record {
      fit = each_join (FitsAt groups) runs (runs_from i 0 n) fit news.fit;
      tell = flat_map-append (run_entries groups) runs (runs_from i 0 n)
          ∙ ap (λ l. l ++ entries_told groups (runs_from i 0 n)) told
          ∙ ap (λ l. decided_of (take i groups) ++ l) (news.tell ∙ sym (append-nil g.audit))
          ∙ sym (flat_map-append (λ x. x.audit) (take i groups) (g ∷ []))
          ∙ ap decided_of (sym (take_last groups i g low is));
    }
