-- One group's part of an event keeps what every world keeps.
use Rattle.std.proofs.Common.{◌≡◌, ◌∙◌, List, [], ◌∷◌, ◌++◌, Bool, true, false, cond, if◌then◌else◌, Option, Some, None, refl, sym, ap, subst, append-nil, length, drop}
use Rattle.std.specs.Option.{option_map}
use Rattle.std.proofs.lemmas.List.Elements.{filter-append}
use Rattle.std.proofs.Math.Seq.{drop-append_seam}
use Rattle.store_core.specs.Request.{Sealed}
use Rattle.store_core.specs.declared.entry.Entry.{Entry}
use Rattle.store_core.specs.declared.sealed.GroupId.{GroupId}
use Rattle.group_model_whole.specs.Each.{Each}
use Rattle.group_model_whole.specs.Asked.{IsAsked}
use Rattle.group_model_whole.specs.History.{Begins}
use Rattle.group_model.specs.Group.{Group, Event, group_step}
use Rattle.group_model.proofs.Additions.{audit_grows}
use Rattle.entry_core.specs.Locality.{group_for}
use Rattle.world_front.specs.Groups.{is_same_group, is_of}
use Rattle.world_front.specs.Merging.{part_of}
use Rattle.world_core.specs.World.{World, Part, group_at, at_group, decided_in, act}
use Rattle.world_core.specs.Standing.{audit_in, audit_at, IsMerged}
use Rattle.world_front.proofs.Merge.{same_group, group_refl}
use Rattle.world_core.proofs.Standing.{step_is, Submits, Stands, stands_step, stands_asked}

-- ---- groups by their places

pub group_at_self : (id : GroupId) (change : Group → Group) → ((g : Group) → (change g).group ≡ g.group) → (gs : List Group) → group_at id (at_group id change gs) ≡ option_map change (group_at id gs)
group_at_self id change keeps [] = refl
group_at_self id change keeps (g ∷ gs) = go (is_same_group id g.group) refl (group_at_self id change keeps gs)
  where
    go : (b : Bool) → is_same_group id g.group ≡ b → group_at id (at_group id change gs) ≡ option_map change (group_at id gs)
        → group_at id (if b then change g ∷ gs else g ∷ at_group id change gs) ≡ option_map change (if b then Some g else group_at id gs)
    go true is rest = ap (λ c. if c then Some (change g) else group_at id gs) (ap (is_same_group id) (keeps g) ∙ is)
    go false is rest = ap (λ c. if c then Some g else group_at id (at_group id change gs)) is ∙ rest

pub group_at_other : (id other : GroupId) (change : Group → Group) → ((g : Group) → (change g).group ≡ g.group) → is_same_group other id ≡ false → (gs : List Group)
    → group_at other (at_group id change gs) ≡ group_at other gs
group_at_other id other change keeps apart [] = refl
group_at_other id other change keeps apart (g ∷ gs) = go (is_same_group id g.group) refl (group_at_other id other change keeps apart gs)
  where
    go : (b : Bool) → is_same_group id g.group ≡ b → group_at other (at_group id change gs) ≡ group_at other gs
        → group_at other (if b then change g ∷ gs else g ∷ at_group id change gs) ≡ group_at other (g ∷ gs)
    go true is rest =
        let same : id ≡ g.group = same_group id g.group is in
        let no : is_same_group other g.group ≡ false = ap (is_same_group other) (sym same) ∙ apart in
        ap (λ c. if c then Some (change g) else group_at other gs) (ap (is_same_group other) (keeps g) ∙ no)
        ∙ sym (ap (λ c. if c then Some g else group_at other gs) no)
    go false is rest = ap (λ r. if is_same_group other g.group then Some g else r) rest

-- the group of a place, and where it is found
pub group_at_is : (id : GroupId) (gs : List Group) (g : Group) → group_at id gs ≡ Some g → id ≡ g.group
group_at_is id [] g h = absurd (cc)
group_at_is id (x ∷ xs) g h = go (is_same_group id x.group) refl h (λ more. group_at_is id xs g more)
  where
    go : (b : Bool) → is_same_group id x.group ≡ b → (if b then Some x else group_at id xs) ≡ Some g → (group_at id xs ≡ Some g → id ≡ g.group) → id ≡ g.group
    go true is one rest = let same : x ≡ g = cc in same_group id x.group is ∙ ap (λ v. v.group) same
    go false is more rest = rest more

pub group_at_each : (P : Group → Type 0) (id : GroupId) (gs : List Group) (g : Group) → Each P gs → group_at id gs ≡ Some g → P g
group_at_each P id [] g all h = absurd (cc)
group_at_each P id (x ∷ xs) g all h = go (is_same_group id x.group) h (λ more. group_at_each P id xs g all.1 more)
  where
    go : (b : Bool) → (if b then Some x else group_at id xs) ≡ Some g → (group_at id xs ≡ Some g → P g) → P g
    go true one rest = let same : x ≡ g = cc in subst P same all.0
    go false more rest = rest more

at_group_each : (P : Group → Type 0) (id : GroupId) (change : Group → Group) → ((g : Group) → id ≡ g.group → P g → P (change g)) → (gs : List Group) → Each P gs → Each P (at_group id change gs)
at_group_each P id change keeps [] all = tt
at_group_each P id change keeps (g ∷ gs) all = go (is_same_group id g.group) refl (at_group_each P id change keeps gs all.1)
  where
    go : (b : Bool) → is_same_group id g.group ≡ b → Each P (at_group id change gs) → Each P (if b then change g ∷ gs else g ∷ at_group id change gs)
    go true is rest = (keeps g (same_group id g.group is) all.0, all.1)
    go false is rest = (all.0, rest)

-- ---- one part

pub act_stands : (submissions : List Sealed) (w : World) (p : Part) → Submits submissions p.id p.event → Each (Stands submissions) w.groups → Each (Stands submissions) (act w p).groups
act_stands submissions w p new all =
    at_group_each (Stands submissions) p.id (λ g. group_step g p.event)
    (λ g same h. stands_step submissions g p.event h (let P : GroupId → Type 0 = λ id. Submits submissions id p.event in subst P same new)) w.groups all

-- what is decided in a group is what its audit gains
pub gained : (g : Group) (e : Event) → (group_step g e).audit ≡ g.audit ++ decided_in (Some g) e
gained g e =
    let b : Begins g.audit (group_step g e).audit = audit_grows [] (e ∷ []) g in
    sym b.whole ∙ ap (λ l. g.audit ++ l) (sym (drop-append_seam g.audit b.rest) ∙ ap (drop (length g.audit)) b.whole)

each_behind : {X : Type 0} (P : X → Type 0) (xs ys : List X) → Each P (xs ++ ys) → Each P ys
each_behind P [] ys h = h
each_behind P (x ∷ xs) ys h = each_behind P xs ys h.1

pub each_join : {X : Type 0} (P : X → Type 0) (xs ys : List X) → Each P xs → Each P ys → Each P (xs ++ ys)
each_join P [] ys h k = k
each_join P (x ∷ xs) ys h k = (h.0, each_join P xs ys h.1 k)

-- all that is decided in a group is of its submissions
decided_asked : (submissions : List Sealed) (id : GroupId) (found : Option Group) (e : Event) → ((g : Group) → found ≡ Some g → Stands submissions (group_step g e) × (id ≡ g.group))
    → Each (λ x. IsAsked submissions x.sealed × (group_for x.sealed ≡ id)) (decided_in found e)
decided_asked submissions id None e h = tt
decided_asked submissions id (Some g) e h =
    let k = h g refl in
    let same : (group_step g e).group ≡ id = step_is g.group e g refl ∙ sym k.1 in
    let P : GroupId → List Entry → Type 0 = λ i l. Each (λ x. IsAsked submissions x.sealed × (group_for x.sealed ≡ i)) l in
    each_behind (λ x. IsAsked submissions x.sealed × (group_for x.sealed ≡ id)) g.audit (decided_in (Some g) e)
    (subst (P id) (gained g e) (let Q : GroupId → Type 0 = λ i. P i (group_step g e).audit in subst Q same (stands_asked submissions (group_step g e) k.0)))

-- entries of one group are all of it, and none of another
own_part : (id : GroupId) (es : List Entry) → Each (λ x. group_for x.sealed ≡ id) es → part_of id es ≡ es
own_part id [] h = refl
own_part id (e ∷ es) h =
    let is : is_of id e ≡ true = ap (is_same_group id) h.0 ∙ group_refl id in
    ap (λ b. cond b (e ∷ part_of id es) (part_of id es)) is ∙ ap (λ l. e ∷ l) (own_part id es h.1)

other_part : (id other : GroupId) (es : List Entry) → is_same_group other id ≡ false → Each (λ x. group_for x.sealed ≡ id) es → part_of other es ≡ []
other_part id other [] apart h = refl
other_part id other (e ∷ es) apart h =
    let is : is_of other e ≡ false = ap (is_same_group other) h.0 ∙ apart in
    ap (λ b. cond b (e ∷ part_of other es) (part_of other es)) is ∙ other_part id other es apart h.1

pub each_weaker : {X : Type 0} (P Q : X → Type 0) → ((x : X) → P x → Q x) → (xs : List X) → Each P xs → Each Q xs
each_weaker P Q f [] h = tt
each_weaker P Q f (x ∷ xs) h = (f x h.0, each_weaker P Q f xs h.1)

-- the decided entries of a part
part_decided : (submissions : List Sealed) (w : World) (p : Part) → Submits submissions p.id p.event → Each (Stands submissions) w.groups
    → Each (λ x. IsAsked submissions x.sealed × (group_for x.sealed ≡ p.id)) (decided_in (group_at p.id w.groups) p.event)
part_decided submissions w p new all =
    decided_asked submissions p.id (group_at p.id w.groups) p.event
    (λ g is. let same : p.id ≡ g.group = group_at_is p.id w.groups g is in
    (stands_step submissions g p.event (group_at_each (Stands submissions) p.id w.groups g all is) (let P : GroupId → Type 0 = λ id. Submits submissions id p.event in subst P same new), same))

pub act_asked : (submissions : List Sealed) (w : World) (p : Part) → Submits submissions p.id p.event → Each (Stands submissions) w.groups
    → Each (λ x. IsAsked submissions x.sealed) w.audit → Each (λ x. IsAsked submissions x.sealed) (act w p).audit
act_asked submissions w p new all asked =
    each_join (λ x. IsAsked submissions x.sealed) w.audit (decided_in (group_at p.id w.groups) p.event) asked
    (each_weaker (λ x. IsAsked submissions x.sealed × (group_for x.sealed ≡ p.id)) (λ x. IsAsked submissions x.sealed) (λ x h. h.0) _ (part_decided submissions w p new all))

after_found : (found : Option Group) (e : Event) → audit_in found ++ decided_in found e ≡ audit_in (option_map (λ g. group_step g e) found)
after_found None e = refl
after_found (Some g) e = sym (gained g e)

pub act_merged : (submissions : List Sealed) (w : World) (p : Part) → Submits submissions p.id p.event → Each (Stands submissions) w.groups → IsMerged w → IsMerged (act w p)
act_merged submissions w p new all merged id =
    let fresh : List Entry = decided_in (group_at p.id w.groups) p.event in
    let of : Each (λ x. group_for x.sealed ≡ p.id) fresh =
    each_weaker (λ x. IsAsked submissions x.sealed × (group_for x.sealed ≡ p.id)) (λ x. group_for x.sealed ≡ p.id) (λ x h. h.1) fresh (part_decided submissions w p new all) in
    filter-append (is_of id) w.audit fresh ∙ go (is_same_group id p.id) refl fresh refl of
  where
    keeps : (g : Group) → (group_step g p.event).group ≡ g.group
    keeps g = step_is g.group p.event g refl

    go : (b : Bool) → is_same_group id p.id ≡ b → (fresh : List Entry) → fresh ≡ decided_in (group_at p.id w.groups) p.event → Each (λ x. group_for x.sealed ≡ p.id) fresh
        → part_of id w.audit ++ part_of id fresh ≡ audit_at id (act w p).groups
    go true is fresh what of =
        let same : id ≡ p.id = same_group id p.id is in
        ap (λ l. l ++ part_of id fresh) (merged id)
        ∙ ap (λ i. audit_at i w.groups ++ part_of i fresh) same
        ∙ ap (λ l. audit_at p.id w.groups ++ l) (own_part p.id fresh of ∙ what)
        ∙ after_found (group_at p.id w.groups) p.event
        ∙ sym (ap audit_in (group_at_self p.id (λ g. group_step g p.event) keeps w.groups))
        ∙ ap (λ i. audit_at i (act w p).groups) (sym same)
    go false is fresh what of =
        ap (λ l. part_of id w.audit ++ l) (other_part p.id id fresh is of)
        ∙ append-nil (part_of id w.audit)
        ∙ merged id
        ∙ sym (ap audit_in (group_at_other p.id id (λ g. group_step g p.event) keeps is w.groups))
