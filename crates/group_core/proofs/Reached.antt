-- What holds of each group that there can be: by the group that sends whole logs, for which it stands.
use Rattle.std.proofs.Common.{ℕ, ◌≡◌, ◌≤◌, List, [], ◌∷◌, map, length, take, max, refl, sym, ◌∙◌, ap, subst}
use Rattle.std.specs.Prelude.{Some, slice_get}
use Rattle.entry_core.specs.Log.{Legal}
use Rattle.store_core.specs.declared.entry.Entry.{Entry}
use Rattle.group_model_whole.specs.Choice.{own_offer, best}
use Rattle.group_model_whole.specs.Decided.{decided_by as whole_decided_by}
use Rattle.peer_core.specs.Decided.{decided_by}
use Rattle.group_model_whole.specs.Types.{Daemon}
use Rattle.group_model_whole.specs.Furthest.{furthest as whole_furthest}
use Rattle.group_model_whole.specs.History.{Begins}
use Rattle.group_model_whole.proofs.Audits.{audit_length}
use Rattle.group_model_whole.proofs.AskedOnce.{decided_few as whole_decided_few}
use Rattle.group_model_whole.proofs.Reached.{reached_audit as whole_reached_audit, reached_fits as whole_reached_fits}
use Rattle.group_model.specs.Standing.{Both, SameCopy}
use Rattle.group_model.proofs.Agreeing.{CopyAgrees}
use Rattle.group_model.proofs.Lists.{Beside, beside}
use Rattle.group_model.proofs.Hearing.{shown_same}
use Rattle.group_model.proofs.Twins.{twin_of, lock_stands, run_legal}
use Rattle.group_model.specs.Types.{Copy}
use Rattle.group_model.specs.Group.{Group, audit_after}
use Rattle.group_wire.specs.Furthest.{whole_offer, furthest}
use Rattle.group_model.specs.Reached.{IsReached}

-- the copy that is furthest on is the same of both

offer_same : (c : Copy) (w : Daemon) → SameCopy c w → own_offer w ≡ whole_offer c
offer_same c w s =
    ap (λ v. record { number = v; base = w.base; log = w.log }) s.number ∙ ap (λ v. record { number = c.number; base = v; log = w.log }) s.base ∙ ap (λ v. record { number = c.number; base = c.base; log = v }) s.log

offers_same : (cs : List Copy) (ws : List Daemon) → Both SameCopy cs ws → map own_offer ws ≡ map whole_offer cs
offers_same [] [] both = refl
offers_same [] (w ∷ ws) both = absurd both
offers_same (c ∷ cs) [] both = absurd both
offers_same (c ∷ cs) (w ∷ ws) both = ap (λ v. v ∷ map own_offer ws) (offer_same c w both.0) ∙ ap (λ l. whole_offer c ∷ l) (offers_same cs ws both.1)

pub furthest_same : (cs : List Copy) (ws : List Daemon) → Both SameCopy cs ws → whole_furthest ws ≡ furthest cs
furthest_same [] [] both = refl
furthest_same [] (w ∷ ws) both = absurd both
furthest_same (c ∷ cs) [] both = absurd both
furthest_same (c ∷ cs) (w ∷ ws) both = ap (λ v. (best v (map own_offer ws)).log) (offer_same c w both.0) ∙ ap (λ l. (best (whole_offer c) l).log) (offers_same cs ws both.1)

pub reached_audit : (g : Group) → IsReached g → g.audit ≡ take (length g.audit) (furthest g.copies)
reached_audit g r =
    let t = twin_of g r in
    let s = lock_stands g t.whole t.lock in
    let far : whole_furthest t.whole.copies ≡ furthest g.copies = furthest_same g.copies t.whole.copies s.copies in
    sym s.audit ∙ whole_reached_audit t.whole t.reached ∙ ap (λ l. take (length l) (whole_furthest t.whole.copies)) s.audit ∙ ap (λ l. take (length g.audit) l) far

pub reached_fits : (g : Group) → IsReached g → length g.audit ≤ length (furthest g.copies)
reached_fits g r =
    let t = twin_of g r in
    let s = lock_stands g t.whole t.lock in
    subst (λ l. length g.audit ≤ length l) (furthest_same g.copies t.whole.copies s.copies) (subst (λ l. length l ≤ length (whole_furthest t.whole.copies)) s.audit (whole_reached_fits t.whole t.reached))

pub reached_legal : (g : Group) → IsReached g → Legal g.audit
reached_legal g r = subst (λ (v : Group). Legal v.audit) r.is (run_legal r.group r.min_size r.daemons r.acting r.up r.events)

-- what a copy shows to be decided begins what was decided
pub reached_covers : (g : Group) → IsReached g → (d : ℕ) (c : Copy) → slice_get g.copies d ≡ Some c → Begins (decided_by c.role c.log) g.audit
reached_covers g r d c here =
    let t = twin_of g r in
    let f = t.lock.agree.facts in
    let b : Beside (CopyAgrees f.promise f.h) c t.whole.copies d = beside (CopyAgrees f.promise f.h) g.copies t.whole.copies d c f.copies here in
    let shown : decided_by c.role c.log ≡ whole_decided_by b.item.role b.item.log = shown_same f.promise f.h c b.item b.agrees in
    subst (λ l. Begins (decided_by c.role c.log) l) (lock_stands g t.whole t.lock).audit (subst (λ l. Begins l t.whole.audit) (sym shown) (t.lock.good.covers d b.item b.is))

-- how long the audit is after a copy's step
pub audit_count : (g : Group) (audit : List Entry) (c : Copy) (d : ℕ) → g.audit ≡ audit_after audit c → IsReached g → slice_get g.copies d ≡ Some c →
    length (audit_after audit c) ≡ max (length audit) (length (decided_by c.role c.log))
audit_count g audit c d is r here =
    let covers : Begins (decided_by c.role c.log) (audit_after audit c) = subst (λ l. Begins (decided_by c.role c.log) l) is (reached_covers g r d c here) in
    let legal : Legal (audit_after audit c) = subst (λ l. Legal l) is (reached_legal g r) in
    audit_length audit (decided_by c.role c.log) legal covers

pub decided_few : (g : Group) → IsReached g → length g.audit ≤ length g.requests
decided_few g r =
    let t = twin_of g r in
    subst (λ l. length g.audit ≤ length l) (lock_stands g t.whole t.lock).requests (subst (λ l. length l ≤ length t.whole.requests) (lock_stands g t.whole t.lock).audit (whole_decided_few t.whole t.reached))
