-- Each entry on its way goes from the primary of its interval to another member.
use Rattle.std.proofs.Common.{ℕ, ◌≡◌, refl, sym, ◌∙◌, ap, subst}
use Rattle.std.specs.Prelude.{Some, slice_get}
use Rattle.store_core.specs.Request.{Sealed}
use Rattle.group_model_whole.specs.Types.{Osd, Append as WholeAppend, Role as WholeRole, Idle as WholeIdle, Sent as WholeSent}
use Rattle.group_model_whole.specs.Group.{Group as WholeGroup}
use Rattle.group_model_whole.specs.Laws.{GoesToOther, AppendsGoToOthers as WholeAppendsGo}
use Rattle.group_model_whole.proofs.AppendGroups.{appends_go as whole_appends_go}
use Rattle.group_model.specs.Standing.{SameBody, SameSent, SameRole, SameCopy, StandsFor}
use Rattle.group_model.specs.Types.{Role, Idle, Peering, Installing, Active, Copy, Append, Sent}
use Rattle.group_model.specs.Group.{Group}
use Rattle.group_model.specs.Reached.{IsReached}
use Rattle.group_model.proofs.Lists.{Beside, beside}
use Rattle.group_model.specs.Laws.{AppendsGoToOthers}
use Rattle.group_model.proofs.Twins.{Twin, twin_of, lock_stands}

idle_as : (r : Role) (w : WholeRole) → SameRole r w → w ≡ WholeIdle → r ≡ Idle
idle_as Idle w same is = refl
idle_as (Peering informed) w same is = (let other = same.is in absurd (cc))
idle_as (Installing done common) w same is = absurd (cc)
idle_as (Active flight) w same is = absurd (cc)

module _ (g : Group) (w : WholeGroup) (s : StandsFor g w) (all : WholeAppendsGo w) where
  beside_sent : (k : ℕ) (m : Sent) → slice_get g.wire k ≡ Some m → Beside SameSent m w.wire k
  beside_sent k m is = beside SameSent g.wire w.wire k m s.wire is

  append_is : (n place : ℕ) (r : Sealed) (m : Sent) (v : WholeSent) → SameSent m v → m.body ≡ Append n place r → v.body ≡ WholeAppend n place r
  append_is n place r m v same is = subst (λ b. SameBody b v.body) is same.body

  goes_at : (k n place : ℕ) (r : Sealed) (m : Sent) → slice_get g.wire k ≡ Some m → m.body ≡ Append n place r → GoesToOther g.sets n m.from m.to
  goes_at k n place r m here is =
      let b = beside_sent k m here in
      let goes : GoesToOther w.sets n b.item.from b.item.to = all.goes k n place r b.item b.is (append_is n place r m b.item b.agrees is) in
      subst (λ to. GoesToOther g.sets n m.from to) b.agrees.to (subst (λ from. GoesToOther g.sets n from b.item.to) b.agrees.from (subst (λ l. GoesToOther l n b.item.from b.item.to) s.sets goes))

  idle_at : (k place : ℕ) (r : Sealed) (m : Sent) (d : ℕ) (c : Copy) → slice_get g.wire k ≡ Some m → m.to ≡ Osd d → slice_get g.copies d ≡ Some c → m.body ≡ Append c.promise place r → c.role ≡ Idle
  idle_at k place r m d c here to copy is =
      let b = beside_sent k m here in
      let o : Beside SameCopy c w.copies d = beside SameCopy g.copies w.copies d c s.copies copy in
      let body : b.item.body ≡ WholeAppend o.item.promise place r = append_is c.promise place r m b.item b.agrees is ∙ ap (λ n. WholeAppend n place r) (sym o.agrees.promise) in
      idle_as c.role o.item.role o.agrees.role (all.idle k place r b.item d o.item b.is (b.agrees.to ∙ to) o.is body)

pub appends_go : (g : Group) → IsReached g → AppendsGoToOthers g
appends_go g r =
    let t : Twin g = twin_of g r in
    let s : StandsFor g t.whole = lock_stands g t.whole t.lock in
    let all : WholeAppendsGo t.whole = whole_appends_go t.whole t.reached in
    record { goes = goes_at g t.whole s all; idle = idle_at g t.whole s all }
