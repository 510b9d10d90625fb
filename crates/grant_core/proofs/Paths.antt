-- Paths under numbers.
use Rattle.std.proofs.Common.{◌≡◌, ℕ, ◌+◌, ◌<◌, List, [], ◌∷◌, ◌++◌, map, drop, length, get_or, ap, sym, refl, ◌∙◌, append_assoc, arith}
use Rattle.std.proofs.lemmas.List.{map-append, drop_more}
use Rattle.cap_grants.specs.declared.grant.Grant.{Grant}
use Rattle.cap_grants.specs.declared.grant.Grant.TheVariants.{Allow, Profile}
use Rattle.cap_grants.specs.declared.grant.ProfileUse.{ProfileUse}
use Rattle.grant_core.specs.Flat.{Flat, filled, numbered, under}
use Rattle.grant_core.specs.Tree.{below}

pub add_nothing : (es : Flat) → es ++ [] ≡ es
add_nothing [] = refl
add_nothing (e ∷ es) = ap (λ x. e ∷ x) (add_nothing es)

pub below-under : (above : List ℕ) (number : ℕ) (es : Flat) → map (below above) (map (under number) es) ≡ map (below (above ++ number ∷ [])) es
below-under above number [] = refl
below-under above number (e ∷ es) = λ i. (sym (append_assoc above (number ∷ []) e.0) i, e.1) ∷ below-under above number es i

-- the grants of a use, where the number of the use was put behind those above
pub grown_use : (above : List ℕ) (number : ℕ) (gs es : Flat) {above2 : List ℕ} {gs2 : Flat}
    → above2 ≡ above ++ number ∷ [] → gs2 ≡ gs ++ map (below above2) es → gs2 ≡ gs ++ map (below above) (map (under number) es)
grown_use above number gs es {above2} {gs2} pushed grown =
    grown ∙ ap (λ a. gs ++ map (below a) es) pushed ∙ ap (λ x. gs ++ x) (sym (below-under above number es))

-- the grants of a list are those of its first grant and then those of the others
pub first_and_others : (above : List ℕ) (parts : ProfileUse → Flat) (number : ℕ) (g : Grant) (gs : List Grant)
    → map (below above) (numbered parts number (g ∷ gs)) ≡ map (below above) (numbered parts number (g ∷ [])) ++ map (below above) (numbered parts (number + 1) gs)
first_and_others above parts number (Allow g) gs = refl
first_and_others above parts number (Profile used) gs =
    map-append (below above) (map (under number) (parts used)) (numbered parts (number + 1) gs)
    ∙ ap (λ x. map (below above) x ++ map (below above) (numbered parts (number + 1) gs)) (sym (add_nothing (map (under number) (parts used))))

-- the grants of a body, where one more is put behind those so far
pub grown_one : (above : List ℕ) (parts : ProfileUse → Flat) (used : ProfileUse) (body : List Grant) (i : ℕ) (x : Grant) (gs all : Flat) {above2 : List ℕ} {gs2 : Flat}
    → i < length body → x ≡ get_or body i x → above2 ≡ above → gs ++ map (below above) (numbered parts (1 + i) (map (filled used) (drop i body))) ≡ all
    → gs2 ≡ gs ++ map (below above2) (numbered parts (i + 1) (filled used x ∷ []))
    → gs2 ++ map (below above) (numbered parts (1 + (i + 1)) (map (filled used) (drop (i + 1) body))) ≡ all
grown_one above parts used body i x gs all {above2} {gs2} inside is back so_far grown =
    let more = map (filled used) (drop (i + 1) body) in
    let split : drop i body ≡ x ∷ drop (i + 1) body = drop_more body i x inside ∙ ap (λ y. y ∷ drop (i + 1) body) (sym is) in
    let next : 1 + (i + 1) ≡ (1 + i) + 1 = omega arith in
    let here : i + 1 ≡ 1 + i = omega arith in
    ap (λ n. gs2 ++ map (below above) (numbered parts n more)) next
    ∙ (ap (λ es. es ++ map (below above) (numbered parts ((1 + i) + 1) more)) (grown ∙ (λ k. gs ++ map (below (back k)) (numbered parts (here k) (filled used x ∷ []))))
    ∙ (append_assoc gs _ _
    ∙ (ap (λ es. gs ++ es) (sym (first_and_others above parts (1 + i) (filled used x) more))
    ∙ (ap (λ gs'. gs ++ map (below above) (numbered parts (1 + i) (map (filled used) gs'))) (sym split) ∙ so_far))))

pub below_nothing : (es : Flat) → map (below []) es ≡ es
below_nothing [] = refl
below_nothing (e ∷ es) = ap (λ x. e ∷ x) (below_nothing es)
