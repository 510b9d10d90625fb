-- Acting sets of an accepted map, as the groups see them.
use Rattle.std.proofs.Common.{◌≡◌, ◌∙◌, ℕ, suc, ◌<◌, ◌==◌, ◌||◌, List, [], ◌∷◌, Bool, true, false, Option, Some, None, length, length-take, take, min, zero, slice_index_or, All, unwrap_or, fold, refl, sym, ap, subst, arith}
use Rattle.std.specs.List.{Contains}
use Rattle.std.specs.Cmp.{unsigned_Decides}
use Rattle.std.proofs.lemmas.List.{length-set}
use Rattle.std.proofs.lemmas.List.Elements.{All-head, All-tail, All-contains}
use Rattle.place_core.specs.Placement.{IsActingSet, numbers_of}
use Rattle.place_core.proofs.Distinct.{distinct-from_pairs}
use Rattle.place_core.proofs.Numbers.{numbers_below}
use Rattle.map_core.specs.State.{MapState, History}
use Rattle.map_core.specs.Map.{initial, after, map_of}
use Rattle.map_core.specs.Limits.{IsAccepted}
use Rattle.map_core.specs.Intervals.{set_of}
use Rattle.map_core.specs.declared.command.MapCommand.{MapCommand}
use Rattle.map_core.specs.declared.command.MapCommand.TheVariants.{PoolCreate, AppEnable, AppSet, AppRm, OsdUp, OsdDown, OsdRestart}
use Rattle.map_core.proofs.Current.{daemons_stay}
use Rattle.map_core.proofs.Daemons.{sets_are_acting, up_are_there}
use Rattle.entry_core.specs.Log.{is_in}
use Rattle.store_core.specs.declared.sealed.GroupId.{GroupId}
use Rattle.group_model_whole.specs.ActingSets.{daemons}
use Rattle.group_model.specs.Group.{IsSet}
use Rattle.group_model_whole.specs.Within.{LiesWithin}
use Rattle.group_model_whole.proofs.Sets.{set_is}
use Rattle.world_core.specs.World.{members_of}
use Rattle.world_front.proofs.Bytes.{number_same}

true_not_false : true ≡ false → ⊥
true_not_false e = cc

-- ---- elements, by the test and by their places

holds_at : (P : ℕ → Type 0) (xs : List ℕ) (d : ℕ) → All P xs → is_in xs d ≡ true → P d
holds_at P [] d all h = absurd (true_not_false (sym h))
holds_at P (x ∷ xs) d all h = go (x == d) refl h (λ k. holds_at P xs d (All-tail P x xs all) k)
  where
    go : (b : Bool) → (x == d) ≡ b → (b || is_in xs d) ≡ true → (is_in xs d ≡ true → P d) → P d
    go true e one rest = subst P (number_same x d e) (All-head P x xs all)
    go false e more rest = rest more

later_one : (a b : Bool) → b ≡ true → (a || b) ≡ true
later_one true b h = refl
later_one false b h = h

stands_in : (xs : List ℕ) (d k : ℕ) → k < length xs → slice_index_or xs k d ≡ d → is_in xs d ≡ true
stands_in [] d k low e = absurd (omega arith)
stands_in (x ∷ xs) d zero low e = ap (λ b. b || is_in xs d) ((unsigned_Decides x d).1 e)
stands_in (x ∷ xs) d (suc k) low e = later_one (x == d) (is_in xs d) (stands_in xs d k (omega arith) e)

contained : (xs : List ℕ) (d : ℕ) → Contains xs d → is_in xs d ≡ true
contained xs d h = stands_in xs d h.0 h.1 h.2

-- ---- the map of accepted commands

pub record IsMap (state : MapState) : Type 0 where
  pub history : History
  pub accepted : IsAccepted history
  pub is : map_of history ≡ state

up_long : (state : MapState) (cs : List MapCommand) → length (fold after state cs).up ≡ length state.up
up_long state [] = refl
up_long state (c ∷ cs) = up_long (after state c) cs ∙ one c
  where
    one : (c : MapCommand) → length (after state c).up ≡ length state.up
    one (OsdUp d) = length-set state.up d true
    one (OsdDown d) = length-set state.up d false
    one (PoolCreate name pg_num size min_size) = refl
    one (AppEnable pool app) = refl
    one (AppSet pool app key value) = refl
    one (AppRm pool app key) = refl
    one (OsdRestart d) = refl

-- a daemon that is up is one of the existing daemons, and of the sixteen
up_within : (history : History) → IsAccepted history → (d : ℕ) → Contains (numbers_of (map_of history).up) d → d < length (take (map_of history).daemons daemons)
up_within history accepted d h =
    let up : List ℕ = numbers_of (map_of history).up in
    let there : d < history.daemons = All-contains (λ x. x < history.daemons) up d (up_are_there history accepted) h in
    let low : d < length (map_of history).up = All-contains (λ x. x < length (map_of history).up) up d (numbers_below (map_of history).up) h in
    let long : length (map_of history).up ≡ 16 = up_long (initial history.daemons) history.commands in
    let stay : (map_of history).daemons ≡ history.daemons = daemons_stay (initial history.daemons) history.commands in
    let taken : length (take (map_of history).daemons daemons) ≡ min (map_of history).daemons 16 = length-take (map_of history).daemons daemons in
    omega arith

pub set_acting : (state : MapState) (id : GroupId) (set : List ℕ) → IsMap state → set_of state id.pool id.number ≡ Some set → IsActingSet (numbers_of state.up) set
set_acting state id set m h =
    let P : MapState → Type 0 = λ s. IsActingSet (numbers_of s.up) set in
    subst P m.is (sets_are_acting m.history id.pool id.number set m.accepted (ap (λ s. set_of s id.pool id.number) m.is ∙ h)).is_set

no_set : IsSet []
no_set = record { few = omega arith; once = refl }

pub members_fit : (state : MapState) (id : GroupId) → IsMap state → IsSet (members_of state id)
members_fit state id m = go (set_of state id.pool id.number) refl
  where
    go : (o : Option (List ℕ)) → set_of state id.pool id.number ≡ o → IsSet (unwrap_or o [])
    go None e = no_set
    go (Some set) e = let is = set_acting state id set m e in set_is set is.few (distinct-from_pairs set is.distinct)

pub lies_within : (state : MapState) (id : GroupId) → IsMap state → LiesWithin state.daemons (members_of state id) (numbers_of state.up)
lies_within state id m = go (set_of state id.pool id.number) refl
  where
    within : (d : ℕ) → Contains (numbers_of state.up) d → d < length (take state.daemons daemons)
    within =
        let P : MapState → Type 0 = λ s. (d : ℕ) → Contains (numbers_of s.up) d → d < length (take s.daemons daemons) in
        subst P m.is (up_within m.history m.accepted)

    go : (o : Option (List ℕ)) → set_of state id.pool id.number ≡ o → LiesWithin state.daemons (unwrap_or o []) (numbers_of state.up)
    go None e d h = absurd (true_not_false (sym h))
    go (Some set) e d h =
        let up : Contains (numbers_of state.up) d = holds_at (Contains (numbers_of state.up)) set d (set_acting state id set m e).from_up h in
        (contained (numbers_of state.up) d up, within d up)
