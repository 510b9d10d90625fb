-- The audit is the beginning of the log of the copy that is furthest on.
use Rattle.std.proofs.Common.{ℕ, zero, suc, ◌≡◌, ◌≤◌, ◌<◌, true, List, [], ◌∷◌, map, length, take, max, refl, sym, ◌∙◌, ap, subst, arith, inl, inr, ◌⊎◌}
use Rattle.std.specs.Prelude.{Option, Some, None, slice_get}
use Rattle.std.proofs.Math.Seq.{take-append_seam}
use Rattle.entry_core.specs.Log.{is_in, Legal}
use Rattle.store_core.specs.declared.entry.Entry.{Entry}
use Rattle.group_model_whole.specs.ActingSets.{set_of, is_primary}
use Rattle.group_model_whole.specs.Choice.{best, own_offer}
use Rattle.group_model_whole.specs.Decided.{decided_by}
use Rattle.group_model_whole.specs.Types.{Daemon, PeerInfo}
use Rattle.group_model_whole.specs.History.{Begins, IsDecided}
use Rattle.group_model_whole.specs.Group.{Group, audit_after}
use Rattle.group_model_whole.specs.Furthest.{furthest}
use Rattle.group_model_whole.specs.Each.{Each}
use Rattle.group_model_whole.proofs.Choices.{AtMost, best_among, first_at_most, each_at_most}
use Rattle.group_model_whole.proofs.Prefixes.{Begins-nil, Begins-trans, Begins-length, take-begins}
use Rattle.group_model_whole.proofs.Histories.{decided_begins_chosen}
use Rattle.group_model_whole.proofs.Groups.{Good, audit_legal}
use Rattle.group_model_whole.proofs.Audits.{audit_length}

-- a copy in the list, as it is offered
record Stands (cs : List Daemon) (i : PeerInfo) : Type 0 where
  place : ℕ
  copy : Daemon
  is_there : slice_get cs place ≡ Some copy
  is : own_offer copy ≡ i

stands_next : (x : Daemon) (cs : List Daemon) (i : PeerInfo) → Stands cs i → Stands (x ∷ cs) i
stands_next x cs i s = record { place = suc s.place; copy = s.copy; is_there = s.is_there; is = s.is }

each_stands : (cs : List Daemon) → Each (Stands cs) (map own_offer cs)
each_stands [] = tt
each_stands (c ∷ cs) = (record { place = 0; copy = c; is_there = refl; is = refl }, weaker (map own_offer cs) (each_stands cs))
  where
    weaker : (is : List PeerInfo) → Each (Stands cs) is → Each (Stands (c ∷ cs)) is
    weaker [] each = tt
    weaker (i ∷ is) each = (stands_next c cs i each.0, weaker is each.1)

at_offers : (cs : List Daemon) (b : PeerInfo) (m : ℕ) (c : Daemon) → Each (λ i. AtMost i b) (map own_offer cs) → slice_get cs m ≡ Some c → AtMost (own_offer c) b
at_offers [] b m c each is = absurd (cc)
at_offers (x ∷ cs) b zero c each is = (let same : x ≡ c = cc in subst (λ v. AtMost (own_offer v) b) same each.0)
at_offers (x ∷ cs) b (suc m) c each is = at_offers cs b m c each.1 is

-- the best of these copies is one of them, and none is further
record Furthest (cs : List Daemon) (log : List Entry) : Type 0 where
  place : ℕ
  copy : Daemon
  is_there : slice_get cs place ≡ Some copy
  is : copy.log ≡ log
  most : (m : ℕ) (c : Daemon) → slice_get cs m ≡ Some c → AtMost (own_offer c) (own_offer copy)

furthest_is : (c : Daemon) (cs : List Daemon) → Furthest (c ∷ cs) (furthest (c ∷ cs))
furthest_is c cs =
    let b : PeerInfo = best (own_offer c) (map own_offer cs) in
    let all = each_stands (c ∷ cs) in
    let s : Stands (c ∷ cs) b = best_among (Stands (c ∷ cs)) (own_offer c) (map own_offer cs) all.0 all.1 in
    let each : Each (λ i. AtMost i b) (map own_offer (c ∷ cs)) = (first_at_most (own_offer c) (map own_offer cs), each_at_most (own_offer c) (map own_offer cs)) in
    record {
      place = s.place;
      copy = s.copy;
      is_there = s.is_there;
      is = ap (λ (i : PeerInfo). i.log) s.is;
      most = λ m x is. subst (λ v. AtMost (own_offer x) v) (sym s.is) (at_offers (c ∷ cs) b m x each is);
    }

first_member : (ms : List ℕ) → 1 ≤ length ms → (m : ℕ) × (is_primary ms m ≡ true) × (is_in ms m ≡ true)
first_member [] some = absurd (omega arith)
first_member (m ∷ ms) some = (m, same m, here m)
  where
    same : (x : ℕ) → is_primary (x ∷ ms) x ≡ true
    same x = grind (arith)

    here : (x : ℕ) → is_in (x ∷ ms) x ≡ true
    here x = grind (arith)

-- the audit of a good group begins the log of the furthest copy
module _ (g : Group) (good : Good g) (least : 1 ≤ g.min_size) where
  -- the first member of an interval that chose a log has a copy
  module _ (n k : ℕ) (one : IsDecided g.sets good.h n k) where
    member : (m : ℕ) × (is_primary (set_of g.sets n) m ≡ true) × (is_in (set_of g.sets n) m ≡ true)
    member = (let o = good.sound.opened n one.log one.later one.begun in first_member (set_of g.sets n) (omega (arith, o.members)))

    at_furthest : (log : List Entry) → Furthest g.copies log → Begins (take k (good.h.grown n)) log
    at_furthest log f =
        let o = good.sound.opened n one.log one.later one.begun in
        let moved : n ≤ good.promise member.0 = o.led member.0 member.1 in
        from (slice_get g.copies member.0) refl moved
      where
        begins : (c : Daemon) → slice_get g.copies member.0 ≡ Some c → Begins (take k (good.h.grown n)) log
        begins c is =
            let held = one.by_all member.0 member.2 in
            let own = good.copies member.0 c is in
            let far = good.copies f.place f.copy f.is_there in
            let low = own.state.held_below n held.most held.is in
            let at_most = f.most member.0 c is in
            let le : c.base ≤ f.copy.base = at_most.base in
            let which : (n < f.copy.base) ⊎ (n ≡ f.copy.base) = grind (arith) in
            subst (λ l. Begins (take k (good.h.grown n)) l) f.is (elim which [
              | inl below ↦ Begins-trans (decided_begins_chosen good.promise g.min_size g.sets good.h good.sound n f.copy.base k far.state.source one below far.state.source_is) far.state.begins
              | inr same ↦ (
                  let equal : c.base ≡ f.copy.base = omega (arith, low, le, same) in
                  let long : length c.log ≤ length f.copy.log = at_most.size equal in
                  let there : good.h.held member.0 n ≡ Some (length c.log) = subst (λ v. good.h.held member.0 v ≡ Some (length c.log)) (equal ∙ sym same) own.state.held in
                  let was = held.is in
                  let as_many : held.most ≡ length c.log = cc in
                  take-begins k (subst (λ v. Begins f.copy.log (good.h.grown v)) (sym same) far.state.within) (omega (arith, held.enough)))
            ])

        from : (found : Option Daemon) → slice_get g.copies member.0 ≡ found → n ≤ good.promise member.0 → Begins (take k (good.h.grown n)) log
        from None none moved = (let zero_promise = good.absent member.0 none in absurd (omega (arith, one.later)))
        from (Some c) is moved = begins c is

  audit_begins_furthest : Begins g.audit (furthest g.copies)
  audit_begins_furthest = elim good.audit.decided [
    | inl none ↦ subst (λ l. Begins l (furthest g.copies)) (sym (good.audit.is ∙ ap (λ v. take v (good.h.grown good.audit.n)) none)) (Begins-nil (furthest g.copies))
    | inr one ↦ subst (λ l. Begins l (furthest g.copies)) (sym good.audit.is) (by_copies g.copies refl one)
  ]
    where
      by_copies : (cs : List Daemon) → g.copies ≡ cs → IsDecided g.sets good.h good.audit.n good.audit.k → Begins (take good.audit.k (good.h.grown good.audit.n)) (furthest cs)
      by_copies [] is one =
          let m = member good.audit.n good.audit.k one in
          let o = good.sound.opened good.audit.n one.log one.later one.begun in
          let moved : good.audit.n ≤ good.promise m.0 = o.led m.0 m.1 in
          let zero_promise = good.absent m.0 (ap (λ l. slice_get l m.0) is) in
          absurd (omega (arith, one.later))
      by_copies (c ∷ cs) is one = at_furthest good.audit.n good.audit.k one (furthest (c ∷ cs)) (subst (λ l. Furthest l (furthest (c ∷ cs))) (sym is) (furthest_is c cs))

  pub audit_furthest : g.audit ≡ take (length g.audit) (furthest g.copies)
  audit_furthest = (let b = audit_begins_furthest in sym (ap (λ l. take (length g.audit) l) (sym b.whole) ∙ take-append_seam g.audit b.rest))

  pub audit_fits : length g.audit ≤ length (furthest g.copies)
  audit_fits = Begins-length audit_begins_furthest

-- how long the audit is after a copy's step
pub audit_count : (g : Group) (audit : List Entry) (c : Daemon) (d : ℕ) → g.audit ≡ audit_after audit c → Good g → slice_get g.copies d ≡ Some c →
    length (audit_after audit c) ≡ max (length audit) (length (decided_by c.role c.log))
audit_count g audit c d is good here =
    let covers : Begins (decided_by c.role c.log) (audit_after audit c) = subst (λ l. Begins (decided_by c.role c.log) l) is (good.covers d c here) in
    let legal : Legal (audit_after audit c) = subst (λ l. Legal l) is (audit_legal g good) in
    audit_length audit (decided_by c.role c.log) legal covers
