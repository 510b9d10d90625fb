-- The choice among offers that carry parts is the choice among those that carry logs.
use Rattle.std.proofs.Common.{ℕ, ◌≡◌, ◌+◌, ◌-◌, Bool, true, false, ◌==◌, ◌||◌, ◌&&◌, nat_lt, List, [], ◌∷◌, length, take, drop, refl, ◌∙◌, ap, arith, if◌then◌else◌}
use Rattle.std.specs.List.{list_any, list_all}
use Rattle.std.proofs.lemmas.List.{length-drop, length-map}
use Rattle.store_core.specs.Request.{Sealed}
use Rattle.store_core.specs.declared.entry.Entry.{Entry}
use Rattle.group_model_whole.specs.ActingSets.{set_of}
use Rattle.group_model_whole.specs.Choice.{covers, is_better as whole_is_better, best as whole_best, own_offer as whole_own_offer, is_informed as whole_is_informed, can_choose as whole_can_choose}
use Rattle.group_model_whole.specs.Types.{PeerInfo, Role as WholeRole}
use Rattle.group_model_whole.specs.History.{History}
use Rattle.group_model.specs.Types.{Offer, Copy}
use Rattle.peer_core.specs.Choice.{size_of, is_better, best, own_offer, is_informed, can_choose}
use Rattle.group_model.specs.Standing.{Both}
use Rattle.group_model.proofs.Agreeing.{IsPart, OfferAgrees, whole}

pub part_length : (mine log : List Entry) (start : ℕ) (part : List Sealed) → IsPart mine log start part → start + length part ≡ length log
part_length mine log start part is =
    let long : length part ≡ length (drop start log) = ap length is.part_is ∙ length-map (drop start log) (λ (e : Entry). e.sealed) in
    omega (arith, long, length-drop start log, is.within_log)

pick : (R : Offer → PeerInfo → Type 0) (t t' : Bool) (i j : Offer) (o q : PeerInfo) → t ≡ t' → R i o → R j q → R (if t then j else i) (if t' then q else o)
pick R true true i j o q same a b = b
pick R false false i j o q same a b = a
pick R true false i j o q same a b = absurd (cc)
pick R false true i j o q same a b = absurd (cc)

module _ (p : ℕ → ℕ) (h : History) (n : ℕ) (mine : List Entry) where
  size_same : (i : Offer) (o : PeerInfo) → OfferAgrees p h n mine i o → size_of i ≡ length o.log
  size_same i o a = part_length mine o.log i.start i.part a.told.is_part

  better_same : (i j : Offer) (o q : PeerInfo) → OfferAgrees p h n mine i o → OfferAgrees p h n mine j q → is_better i j ≡ whole_is_better o q
  better_same i j o q a b =
      let size : size_of i ≡ length o.log = size_same i o a in
      let size' : size_of j ≡ length q.log = size_same j q b in
      let base = a.base in
      let base' = b.base in
      let number = a.number in
      let number' = b.number in
      (λ k. nat_lt (base' k) (base k) || (base k == base' k) && (nat_lt (size' k) (size k) || (size k == size' k) && nat_lt (number k) (number' k)))

  pub best_agrees : (i : Offer) (o : PeerInfo) (is : List Offer) (os : List PeerInfo) → OfferAgrees p h n mine i o → Both (OfferAgrees p h n mine) is os → OfferAgrees p h n mine (best i is) (whole_best o os)
  best_agrees i o [] [] a both = a
  best_agrees i o [] (q ∷ os) a both = absurd both
  best_agrees i o (j ∷ is) [] a both = absurd both
  best_agrees i o (j ∷ is) (q ∷ os) a both =
      best_agrees (if is_better j i then j else i) (if whole_is_better q o then q else o) is os
      (pick (OfferAgrees p h n mine) (is_better j i) (whole_is_better q o) i j o q (better_same j i q o both.0 a) a both.0) both.1

  any_same : (m : ℕ) (is : List Offer) (os : List PeerInfo) → Both (OfferAgrees p h n mine) is os → list_any (λ i. i.number == m) is ≡ list_any (λ o. o.number == m) os
  any_same m [] [] both = refl
  any_same m [] (o ∷ os) both = absurd both
  any_same m (i ∷ is) [] both = absurd both
  any_same m (i ∷ is) (o ∷ os) both = (let number = both.0.number in let rest = any_same m is os both.1 in (λ k. (number k == m) || rest k))

  pub informed_same : (c : Copy) (r : WholeRole) (is : List Offer) (os : List PeerInfo) → Both (OfferAgrees p h n mine) is os → (m : ℕ) → is_informed c is m ≡ whole_is_informed (whole c r) os m
  informed_same c r is os both m = ap (λ b. (m == c.number) || b) (any_same m is os both)

  pub can_choose_same : (c : Copy) (r : WholeRole) (is : List Offer) (os : List PeerInfo) → OfferAgrees p h n mine (own_offer c) (whole_own_offer (whole c r)) → Both (OfferAgrees p h n mine) is os → can_choose c is ≡ whole_can_choose (whole c r) os
  can_choose_same c r is os own both =
      let who : is_informed c is ≡ whole_is_informed (whole c r) os = (λ k. λ m. informed_same c r is os both m k) in
      let base = (best_agrees (own_offer c) (whole_own_offer (whole c r)) is os own both).base in
      (λ k. list_all (who k) (set_of c.known c.promise) && covers c.min_size (base k) (who k) 1 (take (c.promise - 1) c.known))
