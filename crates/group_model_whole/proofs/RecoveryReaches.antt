-- What every event keeps, where each acting set lies within the daemons that are up.
use Rattle.std.proofs.Common.{ℕ, zero, suc, ◌≡◌, ◌≤◌, ◌<◌, ◌-◌, Bool, true, false, List, [], ◌∷◌, ◌++◌, map, length, refl, sym, ◌∙◌, ap, subst, arith, inl, inr, ◌⊎◌, if◌then◌else◌, length-append}
use Rattle.std.specs.Prelude.{Some, slice_get, slice_index_or}
use Rattle.entry_core.specs.Log.{is_in}
use Rattle.group_model_whole.specs.Steps.{restarted}
use Rattle.group_model_whole.specs.ActingSets.{set_of, is_primary}
use Rattle.group_model_whole.specs.Copy.{copy_step}
use Rattle.group_model_whole.specs.Types.{Daemon, Body, Interval, Query, Info, Install, Installed, Append, Appended, Request, Reply, NotHere, Party, Osd, Sent}
use Rattle.group_model_whole.specs.Each.{Each}
use Rattle.group_model_whole.specs.Group.{Group, last_set, open_requests, to_daemon, steps, begin, announced_by, resent_by}
use Rattle.group_model_whole.proofs.RecoveryStates.{HasCopy, RoleIsPrompt, IsLeader}
use Rattle.group_model_whole.proofs.Eaches.{Each-append, Each-map_all}
use Rattle.group_model_whole.proofs.Invariant.{SentOk, BodyOk}
use Rattle.group_model_whole.proofs.Longer.{set_of-longer}
use Rattle.group_model_whole.proofs.Rules.{comes_after}
use Rattle.group_model_whole.proofs.Groups.{Good, get-map}
use Rattle.group_model_whole.proofs.RecoveryFits.{IsBased, BodyFits, SentFits}
use Rattle.group_model_whole.proofs.RecoveryFitGroups.{tell_first_fits}
use Rattle.group_model_whole.proofs.RecoveryReady.{AllFit, set_all, set_new, hears_fits, grows}
use Rattle.group_model_whole.proofs.RecoveryPrompts.{PromptStep, comes_prompt}

pub record Base (count : ℕ) (g : Group) : Type 0 where
  pub least : 1 ≤ g.min_size
  pub fits : AllFit g
  pub roles : (d : ℕ) (c : Daemon) → slice_get g.copies d ≡ Some c → RoleIsPrompt c c.role
  pub exist : (j d : ℕ) → is_in (set_of g.sets j) d ≡ true → d < count
  pub copies : (d : ℕ) → d < count → HasCopy g d
  pub few : (d : ℕ) (c : Daemon) → slice_get g.copies d ≡ Some c → d < count

pub record Reach (count : ℕ) (g : Group) : Type 0 where
  pub base : Base count g
  pub leader : (d : ℕ) (c : Daemon) → is_primary (last_set g.sets) d ≡ true → g.min_size ≤ length (last_set g.sets) → slice_get g.copies d ≡ Some c → IsLeader g.sets c
  pub last_up : (d : ℕ) → is_in (last_set g.sets) d ≡ true → is_in g.up d ≡ true

-- a message reaches a copy
pub hears_reach : (count : ℕ) (g : Group) (m : Sent) (d : ℕ) (c : Daemon) (good : Good g) → slice_get g.copies d ≡ Some c → SentOk g.sets good.promise good.h m → BodyFits g.sets (Osd d) m.body →
    Reach count g → Reach count (steps g d (copy_step c (record { from = m.from; body = m.body })))
hears_reach count g m d c good here ok fits r =
    let a = comes_after g.min_size g.sets d m.body good.promise good.h c m.from good.sound (good.copies d c here) ok in
    let s : PromptStep g.min_size g.sets d c (copy_step c (record { from = m.from; body = m.body })) = comes_prompt g.min_size g.sets good.promise good.h d c (good.copies d c here).state (good.copies d c here).role (r.base.roles d c here) a.promise' a.h' m.body m.from ok fits a.copy.role in
    record {
      base = record {
        least = r.base.least;
        fits = hears_fits g m d c good here ok r.base.fits fits;
        roles = set_all g.copies d c (copy_step c (record { from = m.from; body = m.body })).copy (λ e z. RoleIsPrompt z z.role) here s.prompt r.base.roles;
        exist = r.base.exist;
        copies = λ e less. (let h = r.base.copies e less in let n = set_new g.copies d c (copy_step c (record { from = m.from; body = m.body })).copy here (grows g m d c good here ok) e h.copy h.here in record { copy = n.copy; here = n.here });
        few = set_all g.copies d c (copy_step c (record { from = m.from; body = m.body })).copy (λ e z. e < count) here (r.base.few d c here) r.base.few;
      };
      leader = λ e z first enough is. set_all g.copies d c (copy_step c (record { from = m.from; body = m.body })).copy
          (λ e z. is_primary (last_set g.sets) e ≡ true → IsLeader g.sets z) here (λ f. s.leader f enough (r.leader d c f enough here)) (λ e z is f. r.leader e z f enough is) e z is first;
      last_up = r.last_up;
    }

-- the sets, with one more

index_cases : (sets : List (List ℕ)) (a : List ℕ) (i d : ℕ) → is_in (slice_index_or (sets ++ a ∷ []) i []) d ≡ true → (is_in (slice_index_or sets i []) d ≡ true) ⊎ (is_in a d ≡ true)
index_cases [] a zero d is = inr is
index_cases [] a (suc i) d is = inl is
index_cases (s ∷ sets) a zero d is = inl is
index_cases (s ∷ sets) a (suc i) d is = index_cases sets a i d is

index_last : (sets : List (List ℕ)) (a : List ℕ) → slice_index_or (sets ++ a ∷ []) (length sets) [] ≡ a
index_last [] a = refl
index_last (s ∷ sets) a = index_last sets a

pub last_is_new : (sets : List (List ℕ)) (a : List ℕ) → last_set (sets ++ a ∷ []) ≡ a
last_is_new sets a = let e : length (sets ++ a ∷ []) - 1 ≡ length sets = omega (arith, length-append sets (a ∷ [])) in ap (λ v. slice_index_or (sets ++ a ∷ []) v []) e ∙ index_last sets a

module _ (count : ℕ) (g : Group) (acting : List ℕ) (good : Good g) (base : Base count g) (few : (d : ℕ) → is_in acting d ≡ true → d < count) where
  longer : (j : ℕ) → 1 ≤ j → j ≤ length g.sets → set_of (g.sets ++ acting ∷ []) j ≡ set_of g.sets j
  longer j from upto = set_of-longer g.min_size g.sets acting good.promise good.h j from upto

  body_longer : (from to : Party) (b : Body) → BodyOk g.sets good.promise good.h from b → BodyFits g.sets to b → BodyFits (g.sets ++ acting ∷ []) to b
  body_longer from to (Interval known) ok f = tt
  body_longer from to (Query n) ok f = (f.0, λ d is. subst (λ v. is_primary v d ≡ false) (sym (longer n f.0 ok)) (f.1 d is))
  body_longer from to (Info n b log) ok f = tt
  body_longer from to (Install n log) ok f = (f.0, λ d is. (subst (λ v. is_in v d ≡ true) (sym (longer n f.0 ok.0)) (f.1 d is).0, subst (λ v. is_primary v d ≡ false) (sym (longer n f.0 ok.0)) (f.1 d is).1))
  body_longer from to (Installed n) ok f = tt
  body_longer from to (Append n place s) ok f = tt
  body_longer from to (Appended n place) ok f = tt
  body_longer from to (Request s) ok f = tt
  body_longer from to (Reply id reply) ok f = tt
  body_longer from to (NotHere id) ok f = tt

  wire_longer : (ms : List Sent) → Each (SentOk g.sets good.promise good.h) ms → Each (SentFits g.sets) ms → Each (SentFits (g.sets ++ acting ∷ [])) ms
  wire_longer [] ok f = tt
  wire_longer (m ∷ ms) ok f = (body_longer m.from m.to m.body ok.0 f.0, wire_longer ms ok.1 f.1)

  pub begin_base : Base count (begin g acting)
  begin_base = record {
    least = base.least;
    fits = record {
      copies = λ d c is from. (let s = (good.copies d c is).state in subst (λ v. is_in v d ≡ true) (sym (longer c.base from (omega (arith, s.base, s.reached)))) (base.fits.copies d c is from));
      wire = Each-append (SentFits (g.sets ++ acting ∷ [])) (g.wire ++ announced_by (record g { sets = g.sets ++ acting ∷ [] })) (resent_by (record g { sets = g.sets ++ acting ∷ [] }))
          (Each-append (SentFits (g.sets ++ acting ∷ [])) g.wire (announced_by (record g { sets = g.sets ++ acting ∷ [] })) (wire_longer g.wire good.wire base.fits.wire)
          (Each-map_all (SentFits (g.sets ++ acting ∷ [])) (λ d. to_daemon d (Interval (g.sets ++ acting ∷ []))) (λ d. tt) (last_set (g.sets ++ acting ∷ []))))
          (tell_first_fits (g.sets ++ acting ∷ []) (last_set (g.sets ++ acting ∷ [])) (open_requests (record g { sets = g.sets ++ acting ∷ [] })));
    };
    roles = base.roles;
    exist = λ j d is. elim (index_cases g.sets acting (j - 1) d is) [ inl old ↦ base.exist j d old | inr new ↦ few d new ];
    copies = λ d less. (let h = base.copies d less in record { copy = h.copy; here = h.here });
    few = base.few;
  }

  pub begin_reach : ((d : ℕ) → is_in acting d ≡ true → is_in g.up d ≡ true) → Reach count (begin g acting)
  begin_reach up = record {
    base = begin_base;
    leader = λ d c first enough is. (let s = (good.copies d c is).state in inl (omega (arith, s.reached, length-append g.sets (acting ∷ [])), omega (arith, s.known.fits, length-append g.sets (acting ∷ []))));
    last_up = λ d is. up d (subst (λ v. is_in v d ≡ true) (last_is_new g.sets acting) is);
  }

-- some copies restart
get_mapped : (f : Daemon → Daemon) (xs : List Daemon) (d : ℕ) (c : Daemon) → slice_get xs d ≡ Some c → slice_get (map f xs) d ≡ Some (f c)
get_mapped f [] d c is = absurd (cc)
get_mapped f (x ∷ xs) zero c is = let e : x ≡ c = cc in ap (λ v. Some (f v)) e
get_mapped f (x ∷ xs) (suc d) c is = get_mapped f xs d c is

pub restarts_base : (count : ℕ) (g : Group) (up : List ℕ) (which : Daemon → Bool) → Base count g → Base count (record g { up = up; copies = map (λ c. if which c then restarted c else c) g.copies })
restarts_base count g up which base = record {
  least = base.least;
  fits = record {
    copies = λ d c is. (let m = get-map (λ c. if which c then restarted c else c) g.copies d c is in subst (λ v. IsBased g.sets d v) m.is (based (which m.item) d m.item (base.fits.copies d m.item m.is_item)));
    wire = base.fits.wire;
  };
  roles = λ d c is. (let m = get-map (λ c. if which c then restarted c else c) g.copies d c is in subst (λ v. RoleIsPrompt v v.role) m.is (role (which m.item) m.item (base.roles d m.item m.is_item)));
  exist = base.exist;
  copies = λ d less. (let h = base.copies d less in record { copy = if which h.copy then restarted h.copy else h.copy; here = get_mapped (λ c. if which c then restarted c else c) g.copies d h.copy h.here });
  few = λ d c is. (let m = get-map (λ c. if which c then restarted c else c) g.copies d c is in base.few d m.item m.is_item);
}
  where
    based : (b : Bool) (d : ℕ) (c : Daemon) → IsBased g.sets d c → IsBased g.sets d (if b then restarted c else c)
    based true d c was = was
    based false d c was = was

    role : (b : Bool) (c : Daemon) → RoleIsPrompt c c.role → RoleIsPrompt (if b then restarted c else c) (if b then restarted c else c).role
    role true c was = tt
    role false c was = was

-- no copy of the last set restarts
pub restarts_reach : (count : ℕ) (g : Group) (up : List ℕ) (which : Daemon → Bool) → Reach count g → ((d : ℕ) → is_in (last_set g.sets) d ≡ true → is_in up d ≡ true) →
    ((d : ℕ) (c : Daemon) → is_primary (last_set g.sets) d ≡ true → slice_get g.copies d ≡ Some c → which c ≡ false) → Reach count (record g { up = up; copies = map (λ c. if which c then restarted c else c) g.copies })
restarts_reach count g up which r ups stays = record {
  base = restarts_base count g up which r.base;
  leader = λ d c first enough is. (let m = get-map (λ c. if which c then restarted c else c) g.copies d c is in
      let same : m.item ≡ c = subst (λ v. (if v then restarted m.item else m.item) ≡ c) (stays d m.item first m.is_item) m.is in
      subst (λ v. IsLeader g.sets v) same (r.leader d m.item first enough m.is_item));
  last_up = ups;
}
