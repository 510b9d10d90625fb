-- All groups made ready, moved, and given up.
use Rattle.std.proofs.Common.{◌≡◌, ◌∙◌, List, [], ◌∷◌, ◌++◌, map, length, refl, sym, ap, append_assoc, arith}
use Rattle.std.specs.Prelude.{reverse}
use Rattle.std.proofs.lemmas.List.{map-append, reverse-append}
use Rattle.store_core.specs.declared.sealed.GroupId.{GroupId}
use Rattle.group_model.specs.Group.{Group, group_step}
use Rattle.group_model.specs.Group as group
use Rattle.group_core.specs.Moves.{Prepared}
use Rattle.world_core.specs.Moves.{all_moved, all_prepared, prepared, given_up, committed}

given : (event : GroupId → group.Event) (groups : List Group) → map given_up (all_prepared event groups) ≡ groups
given event [] = refl
given event (g ∷ gs) = ap (λ l. g ∷ l) (given event gs)

pub moved : (event : GroupId → group.Event) (groups : List Group) → map committed (all_prepared event groups) ≡ all_moved event groups
moved event [] = refl
moved event (g ∷ gs) = ap (λ l. group_step g (event g.group) ∷ l) (moved event gs)

-- some of them were made ready, and are given up
pub given_back : (event : GroupId → group.Event) (rest groups : List Group) (ready : List Prepared) → all_prepared event rest ++ ready ≡ all_prepared event groups → rest ++ map given_up ready ≡ groups
given_back event rest groups ready is =
    ap (λ l. l ++ map given_up ready) (sym (given event rest))
    ∙ sym (map-append given_up (all_prepared event rest) ready)
    ∙ ap (map given_up) is
    ∙ given event groups

-- all of them were made ready, and are moved, or given up
pub all_committed : (event : GroupId → group.Event) (left groups : List Group) (ready : List Prepared) → left ≡ [] → ready ≡ all_prepared event groups → left ++ map committed ready ≡ all_moved event groups
all_committed event left groups ready none is = ap (λ l. l ++ map committed ready) none ∙ ap (map committed) is ∙ moved event groups

pub all_given_up : (event : GroupId → group.Event) (left groups : List Group) (ready : List Prepared) → left ≡ [] → ready ≡ all_prepared event groups → left ++ map given_up ready ≡ groups
all_given_up event left groups ready none is = ap (λ l. l ++ map given_up ready) none ∙ ap (map given_up) is ∙ given event groups

-- ---- one after another, the last first

-- one group more was made ready
pub one_ready : (event : GroupId → group.Event) (left rest groups : List Group) (g : Group) (p : Prepared) (ready more : List Prepared) → left ≡ rest ++ g ∷ [] → p ≡ prepared event g → more ≡ ready ++ p ∷ []
    → all_prepared event left ++ reverse ready ≡ all_prepared event groups → all_prepared event rest ++ reverse more ≡ all_prepared event groups
one_ready event left rest groups g p ready more last is longer before =
    ap (λ l. all_prepared event rest ++ reverse l) longer
    ∙ ap (λ l. all_prepared event rest ++ l) (reverse-append ready (p ∷ []))
    ∙ ap (λ q. all_prepared event rest ++ q ∷ reverse ready) is
    ∙ sym (append_assoc (all_prepared event rest) (prepared event g ∷ []) (reverse ready))
    ∙ ap (λ l. l ++ reverse ready) (sym (map-append (prepared event) rest (g ∷ [])) ∙ ap (all_prepared event) (sym last))
    ∙ before

-- one group was not, and is put back before the others are given up
pub one_refused : (event : GroupId → group.Event) (left rest back groups then : List Group) (g same : Group) (ready : List Prepared) → left ≡ rest ++ g ∷ [] → same ≡ g → back ≡ rest ++ same ∷ []
    → all_prepared event left ++ reverse ready ≡ all_prepared event groups → then ≡ back ++ map given_up (reverse ready) → then ≡ groups
one_refused event left rest back groups then g same ready last is put before after =
    after
    ∙ ap (λ l. l ++ map given_up (reverse ready)) (put ∙ ap (λ h. rest ++ h ∷ []) is ∙ sym last)
    ∙ given_back event left groups (reverse ready) before

-- all of them were
pub all_ready : (event : GroupId → group.Event) (left groups : List Group) (ready : List Prepared) → length left ≡ 0 → all_prepared event left ++ reverse ready ≡ all_prepared event groups → reverse ready ≡ all_prepared event groups
all_ready event [] groups ready none is = is
all_ready event (g ∷ gs) groups ready none is = absurd (omega (arith, none))
