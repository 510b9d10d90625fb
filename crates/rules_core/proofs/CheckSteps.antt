-- What is found of each entity, one after another, and what it says of the rule.
use Rattle.std.proofs.Common.{◌≡◌, ℕ, zero, suc, ◌+◌, ◌<◌, ◌≤◌, List, [], ◌∷◌, ◌++◌, Bool, true, false, ◌||◌, Option, None, Some, slice_get, get_or, drop, length, refl, sym, ap, subst, ◌∙◌, inl, inr, append_assoc, append-nil}
use Rattle.std.proofs.lemmas.List.{drop_all, drop_more}
use Rattle.std.proofs.lemmas.Bool.{false≢true}
use Rattle.rights_core.specs.Rights.{Rights}
use Rattle.share_core.specs.declared.pools.Pool.{Pool}
use Rattle.rules_core.specs.Checking.{IsCrossedFound}
use Rattle.rules_core.specs.Rules.{AreFound, IsFinding, IsKept, is_selected}
use Rattle.rules_core.specs.Subject.{Subject}
use Rattle.rules_core.specs.declared.checking.Finding.{Finding}
use Rattle.rules_core.specs.declared.checking.Finding.TheVariants.{Unread, Breach, Crossed}
use Rattle.rules_core.specs.declared.checking.Found.{Found}
use Rattle.rules_core.specs.declared.rule.Rule.{Rule}
use Rattle.rules_core.specs.declared.rule.Rule.TheVariants.{Each, Apart}
use Rattle.rules_core.specs.declared.rule.Who.{Who}

-- whatever is found from a place on completes what was found before it
abbrev pub FoundBefore : Option (List Pool) → Rule → List Subject → ℕ → List Found → Type 0
FoundBefore pools rule subjects place founds =
    (others : List Found) → AreFound pools rule subjects place (drop place subjects) others → AreFound pools rule subjects 0 subjects (founds ++ others)

at_place : (xs : List Subject) (i : ℕ) (x : Subject) → i < length xs → x ≡ get_or xs i x → drop i xs ≡ x ∷ drop (i + 1) xs
at_place xs i x inside at = drop_more xs i x inside ∙ ap (λ y. y ∷ drop (i + 1) xs) (sym at)

pub found_nothing_yet : (pools : Option (List Pool)) (rule : Rule) (subjects : List Subject) → FoundBefore pools rule subjects 0 []
found_nothing_yet pools rule subjects others h = h

pub found_none : (pools : Option (List Pool)) (rule : Rule) (subjects : List Subject) (place : ℕ) (subject : Subject) (founds : List Found) → place < length subjects → subject ≡ get_or subjects place subject
    → IsFinding pools rule subjects subject None → FoundBefore pools rule subjects place founds → FoundBefore pools rule subjects (place + 1) founds
found_none pools rule subjects place subject founds inside at none before others h =
    before others (subst (λ l. AreFound pools rule subjects place l others) (sym (at_place subjects place subject inside at)) (inl (none, h)))

pub found_some : (pools : Option (List Pool)) (rule : Rule) (subjects : List Subject) (place : ℕ) (subject : Subject) (founds : List Found) (finding : Finding) → place < length subjects
    → subject ≡ get_or subjects place subject → IsFinding pools rule subjects subject (Some finding) → FoundBefore pools rule subjects place founds
    → FoundBefore pools rule subjects (place + 1) (founds ++ record { place = place; finding = finding } ∷ [])
found_some pools rule subjects place subject founds finding inside at some before others h =
    let one : Found = record { place = place; finding = finding } in
    subst (AreFound pools rule subjects 0 subjects) (sym (append_assoc founds (one ∷ []) others))
    (before (one ∷ others) (subst (λ l. AreFound pools rule subjects place l (one ∷ others)) (sym (at_place subjects place subject inside at)) (inr (finding, others, some, refl, h))))

pub found_all : (pools : Option (List Pool)) (rule : Rule) (subjects : List Subject) (place : ℕ) (founds : List Found) → length subjects ≤ place → FoundBefore pools rule subjects place founds
    → AreFound pools rule subjects 0 subjects founds
found_all pools rule subjects place founds past before =
    subst (AreFound pools rule subjects 0 subjects) (append-nil founds) (before [] (subst (λ l. AreFound pools rule subjects place l []) (sym (drop_all place subjects past)) refl))

-- where nothing is found, nothing is found of any
none_of : (pools : Option (List Pool)) (rule : Rule) (all : List Subject) (place : ℕ) (subjects : List Subject) → AreFound pools rule all place subjects [] → (k : ℕ) (subject : Subject)
    → slice_get subjects k ≡ Some subject → IsFinding pools rule all subject None
none_of pools rule all place [] h k subject at = absurd (cc)
none_of pools rule all place (s ∷ subjects) (inl (none, rest)) zero subject at = subst (λ x. IsFinding pools rule all x None) (at_once at) none
  where
    at_once : {X : Type 0} {a b : X} → Some a ≡ Some b → a ≡ b
    at_once e = cc
none_of pools rule all place (s ∷ subjects) (inl (none, rest)) (suc k) subject at = none_of pools rule all (place + 1) subjects rest k subject at
none_of pools rule all place (s ∷ subjects) (inr (finding, rest, some, is, more)) k subject at = absurd (cc)

or_second : (a b : Bool) → b ≡ true → (a || b) ≡ true
or_second true b h = refl
or_second false b h = h

-- and the rule is kept
kept_of : (pools : Option (List Pool)) (rule : Rule) (subjects : List Subject) → ((k : ℕ) (subject : Subject) → slice_get subjects k ≡ Some subject → IsFinding pools rule subjects subject None) → IsKept pools rule subjects
kept_of pools (Each demand who region) subjects none = λ subject one. none one.0 subject one.1
kept_of pools (Apart ones others) subjects none =
    λ one other is_one is_other mine theirs.
    (none is_one.0 one is_one.1).1 mine other is_other theirs ((none is_other.0 other is_other.1).0 (or_second (is_selected ones other.name) (is_selected others other.name) theirs))

pub kept : (pools : Option (List Pool)) (rule : Rule) (subjects : List Subject) (founds : List Found) → founds ≡ [] → AreFound pools rule subjects 0 subjects founds → IsKept pools rule subjects
kept pools rule subjects founds none h = kept_of pools rule subjects (none_of pools rule subjects 0 subjects (subst (AreFound pools rule subjects 0 subjects) none h))

-- what is found of an entity with the others, and of one that is among the others alone

pub apart_found : (pools : Option (List Pool)) (ones others : Who) (subjects : List Subject) (subject : Subject) (rights : Rights) (found : Option Finding) → subject.rights ≡ Some rights
    → is_selected ones subject.name ≡ true → IsCrossedFound pools rights.grants others subjects found → IsFinding pools (Apart ones others) subjects subject found
apart_found pools ones others subjects subject rights None is selected h = (λ named. (rights, is), λ mine other one theirs read. (rights, is, h other one theirs read))
apart_found pools ones others subjects subject rights (Some Unread) is selected h = absurd h
apart_found pools ones others subjects subject rights (Some (Breach found)) is selected h = absurd h
apart_found pools ones others subjects subject rights (Some (Crossed place crossing)) is selected h = (selected, h.0, h.1, h.2, (rights, is, h.3))

pub apart_other : (pools : Option (List Pool)) (ones others : Who) (subjects : List Subject) (subject : Subject) (rights : Rights) → subject.rights ≡ Some rights → is_selected ones subject.name ≡ false
    → IsFinding pools (Apart ones others) subjects subject None
apart_other pools ones others subjects subject rights is none = (λ named. (rights, is), λ mine. absurd (false≢true (sym none ∙ mine)))
