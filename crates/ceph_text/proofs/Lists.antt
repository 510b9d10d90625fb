-- Grants are read one after the other, and in one way.
use Rattle.std.proofs.Common.{◌≡◌, ◌≢◌, ℕ, ◌+◌, ◌-◌, true, false, List, [], ◌∷◌, ◌++◌, length, Option, Some, None, eqb, Bool, ◌<◌, refl, sym, ap, subst, ◌∙◌, arith}
use Rattle.std.proofs.lemmas.List.{length-append, nil_from_length}
use Rattle.std.proofs.lemmas.Bool.{eqb-true}
use Rattle.std.proofs.lemmas.Bool.Decides.{nat_tests}
use Rattle.ceph_text.specs.declared.grant.CephGrant.{CephGrant}
use Rattle.ceph_text.specs.Readers.{Reader}
use Rattle.ceph_text.specs.Grammar.{first_grant, next_grant}
use Rattle.ceph_text.specs.Pieces.{reader_at}
use Rattle.ceph_text.specs.Texts.{Begins, reader_behind, ReadsTo, behind_spaces, IsCephText, IsNoCephText, HasTooMany, StopsAt}

pub begins_more : (reader : Reader CephGrant) (text : List ℕ) (gs : List CephGrant) (mid : List ℕ) (g : CephGrant) (after : List ℕ) → Begins reader text gs mid → reader_behind reader gs mid ≡ Some (g, after) → Begins reader text (gs ++ g ∷ []) after
begins_more reader text [] mid g after h e = (after, ap reader h ∙ e, refl)
begins_more reader text (k ∷ []) mid g after h e = (h.0, h.1, begins_more next_grant h.0 [] mid g after h.2 e)
begins_more reader text (k ∷ l ∷ gs) mid g after h e = (h.0, h.1, begins_more next_grant h.0 (l ∷ gs) mid g after h.2 e)

some_is : (g h : CephGrant × List ℕ) (r : Option (CephGrant × List ℕ)) → r ≡ Some g → r ≡ Some h → g ≡ h
some_is g h r e f = let both : Some g ≡ Some h = sym e ∙ f in cc

no_some : (g : CephGrant × List ℕ) (r : Option (CephGrant × List ℕ)) → r ≡ Some g → r ≡ None → ⊥
no_some g r e f = let both : Some g ≡ None = sym e ∙ f in absurd cc

stops_behind : (reader : Reader CephGrant) (g : CephGrant) (gs : List CephGrant) (rest : List ℕ) → reader_behind reader (g ∷ gs) rest ≡ None → reader_behind next_grant gs rest ≡ None
stops_behind reader g [] rest e = e
stops_behind reader g (h ∷ gs) rest e = e

-- where reading stops, and what it read, is determined
pub reads_one : (reader : Reader CephGrant) (text : List ℕ) (gs hs : List CephGrant) (a b : List ℕ) → Begins reader text gs a → reader_behind reader gs a ≡ None → Begins reader text hs b → reader_behind reader hs b ≡ None → (gs ≡ hs) × (a ≡ b)
reads_one reader text [] [] a b h x k y = (refl, sym h ∙ k)
reads_one reader text [] (g ∷ hs) a b h x k y = absurd (no_some (g, k.0) (reader a) (ap reader (sym h) ∙ k.1) x)
reads_one reader text (g ∷ gs) [] a b h x k y = absurd (no_some (g, h.0) (reader b) (ap reader (sym k) ∙ h.1) y)
reads_one reader text (g ∷ gs) (i ∷ hs) a b h x k y =
    let same = some_is (g, h.0) (i, k.0) (reader text) h.1 k.1 in
    let head : g ≡ i = ap (λ (p : CephGrant × List ℕ). p.0) same in
    let mid : h.0 ≡ k.0 = ap (λ (p : CephGrant × List ℕ). p.1) same in
    let P : List ℕ → Type 0 = λ t. Begins next_grant t hs b in
    let rest = reads_one next_grant h.0 gs hs a b h.2 (stops_behind reader g gs a x) (subst P (sym mid) k.2) (stops_behind reader i hs b y) in
    let tail : gs ≡ hs = rest.0 in
    (cc, rest.1)

pub one_list : (text : List ℕ) (gs hs : List CephGrant) → IsCephText text gs → IsCephText text hs → gs ≡ hs
one_list text gs hs x y = (reads_one first_grant text gs hs x.1.0 y.1.0 x.1.1.0 x.1.1.1 y.1.1.0 y.1.1.1).0

-- a text is invalid where something other than spaces is left behind its grants, or where it has no grants
pub refused_behind : (text : List ℕ) (gs : List CephGrant) (rest : List ℕ) → ReadsTo text gs rest → behind_spaces rest ≢ [] → IsNoCephText text
refused_behind text gs rest h more hs x =
    let same = (reads_one first_grant text gs hs rest x.1.0 h.0 h.1 x.1.1.0 x.1.1.1).1 in
    more (ap behind_spaces same ∙ x.1.2)

pub refused_nothing : (text : List ℕ) (gs : List CephGrant) (rest : List ℕ) → ReadsTo text gs rest → gs ≡ [] → IsNoCephText text
refused_nothing text gs rest h none hs x =
    let same = (reads_one first_grant text gs hs rest x.1.0 h.0 h.1 x.1.1.0 x.1.1.1).0 in
    x.0 (sym same ∙ none)

not_first : (n : ℕ) (first : Bool) → 0 < n → first ≡ eqb n 0 → first ≡ false
not_first n first more e = grind (arith, nat_tests)

pub reader_is : (gs : List CephGrant) (first : Bool) (text : List ℕ) → first ≡ eqb (length gs) 0 → reader_at first text ≡ reader_behind first_grant gs text
reader_is [] first text e = ap (λ (b : Bool). reader_at b text) e
reader_is (g ∷ gs) first text e = ap (λ (b : Bool). reader_at b text) (not_first (length (g ∷ gs)) first (omega arith) e)

pub too_many : (text : List ℕ) (gs : List CephGrant) (mid : List ℕ) (g : CephGrant) (after : List ℕ) → Begins first_grant text gs mid → reader_behind first_grant gs mid ≡ Some (g, after) → length gs ≡ 4096 → HasTooMany text
too_many text gs mid g after h e len = (gs ++ g ∷ [], after, begins_more first_grant text gs mid g after h e, length-append gs (g ∷ []) ∙ omega (arith, len))

nil_of : (xs : List ℕ) (b : Bool) → b ≡ eqb (length xs) 0 → b ≡ true → xs ≡ []
nil_of xs b e t = nil_from_length xs (eqb-true (length xs) 0 (sym e ∙ t))

-- grants with nothing but spaces behind them
pub is_text : (text : List ℕ) (gs : List CephGrant) (rest behind : List ℕ) (b c : Bool) → Begins first_grant text gs rest → reader_behind first_grant gs rest ≡ None → behind ≡ behind_spaces rest → b ≡ eqb (length behind) 0 → b ≡ true → c ≡ eqb (length gs) 0 → c ≡ false → IsCephText text gs
is_text text gs rest behind b c h none same eb tb ec tc =
    (some_grants gs c ec tc, (rest, (h, none), sym same ∙ nil_of behind b eb tb)) where
      some_grants : (gs : List CephGrant) (c : Bool) → c ≡ eqb (length gs) 0 → c ≡ false → gs ≢ []
      some_grants gs c ec tc e = let f : false ≡ true = sym tc ∙ ec ∙ ap (λ (x : List CephGrant). eqb (length x) 0) e in absurd cc

pub not_spaces : (text : List ℕ) (gs : List CephGrant) (rest behind : List ℕ) (b : Bool) → Begins first_grant text gs rest → reader_behind first_grant gs rest ≡ None → behind ≡ behind_spaces rest → b ≡ eqb (length behind) 0 → b ≡ false → IsNoCephText text
not_spaces text gs rest behind b h none same e f =
    refused_behind text gs rest (h, none) (λ z. let g : false ≡ true = sym f ∙ e ∙ ap (λ (x : List ℕ). eqb (length x) 0) (same ∙ z) in absurd cc)

pub no_grants : (text : List ℕ) (gs : List CephGrant) (rest : List ℕ) (c : Bool) → Begins first_grant text gs rest → reader_behind first_grant gs rest ≡ None → c ≡ eqb (length gs) 0 → c ≡ true → IsNoCephText text
no_grants text gs rest c h none e t = refused_nothing text gs rest (h, none) (empty gs (eqb-true (length gs) 0 (sym e ∙ t))) where
  empty : (gs : List CephGrant) → length gs ≡ 0 → gs ≡ []
  empty [] z = refl
  empty (g ∷ gs) z = absurd (omega (arith, z))

pub stops_at : (text : List ℕ) (gs : List CephGrant) (rest behind : List ℕ) (at : ℕ) → Begins first_grant text gs rest → reader_behind first_grant gs rest ≡ None → behind ≡ behind_spaces rest → at ≡ length text - length behind → StopsAt text at
stops_at text gs rest behind at h none same e = (gs, rest, (h, none), e ∙ ap (λ (x : List ℕ). length text - length x) same)
