-- How many messages one step of a copy sends: as many as that of the copy for which it stands.
use Rattle.std.proofs.Common.{ℕ, ◌≡◌, ◌≤◌, ◌+◌, true, List, ◌++◌, length, ◌∙◌, ap, arith, length-append, if◌then◌else◌}
use Rattle.std.specs.Prelude.{Option, Some, slice_get}
use Rattle.std.specs.List.{remove}
use Rattle.std.proofs.lemmas.List.Edits.{length-remove}
use Rattle.entry_core.specs.Log.{is_in}
use Rattle.peer_core.specs.Copy.{copy_step}
use Rattle.group_model_whole.specs.Copy.{copy_step as whole_copy_step}
use Rattle.group_model_whole.specs.Types.{Daemon, Sent as WholeSent}
use Rattle.group_model_whole.specs.Group.{Group as WholeGroup, group_step as whole_group_step, deliver as whole_deliver, arrives as whole_arrives, without as whole_without, copy_hears as whole_copy_hears}
use Rattle.group_model_whole.proofs.Reached.{reached_bounded as whole_reached_bounded}
use Rattle.group_model_whole.proofs.Sends.{sent_few as whole_sent_few}
use Rattle.group_model.specs.Standing.{SameSent, SameCopy}
use Rattle.group_model.proofs.Lists.{Beside, beside}
use Rattle.group_model.proofs.Events.{step_locked}
use Rattle.group_model.proofs.Twins.{twin_of, lock_stands}
use Rattle.group_model.proofs.Counts.{sent_many}
use Rattle.group_model.specs.Types.{Copy, Sent, Osd}
use Rattle.group_model.specs.Group.{Group, Deliver, group_step}
use Rattle.group_model.specs.Reached.{IsReached}
use Rattle.group_core.proofs.Calls.{arrived_is, get_in}

whole_arrived : (g : WholeGroup) (k d : ℕ) (m : WholeSent) (found : Option Daemon) → slice_get g.wire k ≡ Some m → m.to ≡ Osd d → is_in g.up d ≡ true → slice_get g.copies d ≡ found → whole_group_step g (Deliver k) ≡ whole_copy_hears (whole_without g k) m d found
whole_arrived g k d m found here to up is = ap (λ o. whole_deliver g k o) here ∙ ap (λ p. whole_arrives (whole_without g k) m p) to ∙ ap (λ b. if b then whole_copy_hears (whole_without g k) m d (slice_get g.copies d) else whole_without g k) up
    ∙ ap (λ o. whole_copy_hears (whole_without g k) m d o) is

-- a step sends at most 20 messages more than requests wait
pub sent_few : (g : Group) → IsReached g → (k d : ℕ) (m : Sent) (c : Copy) → slice_get g.wire k ≡ Some m → m.to ≡ Osd d → is_in g.up d ≡ true → slice_get g.copies d ≡ Some c →
    length (copy_step c (record { from = m.from; body = m.body })).sent ≤ length c.waiting + 20
sent_few g r k d m c here to up found =
    let t = twin_of g r in
    let w = t.whole in
    let s = lock_stands g w t.lock in
    let next = lock_stands (group_step g (Deliver k)) (whole_group_step w (Deliver k)) (step_locked g w (Deliver k) t.lock) in
    let m' : Beside SameSent m w.wire k = beside SameSent g.wire w.wire k m s.wire here in
    let c' : Beside SameCopy c w.copies d = beside SameCopy g.copies w.copies d c s.copies found in
    let up' : is_in w.up d ≡ true = ap (λ l. is_in l d) s.up ∙ up in
    let sent : List Sent = (copy_step c (record { from = m.from; body = m.body })).sent in
    let sent' : List WholeSent = (whole_copy_step c'.item (record { from = m'.item.from; body = m'.item.body })).sent in
    let step : (group_step g (Deliver k)).wire ≡ remove g.wire k ++ sent = ap (λ (v : Group). v.wire) (arrived_is g k d m (Some c) here to up found) in
    let step' : (whole_group_step w (Deliver k)).wire ≡ remove w.wire k ++ sent' = ap (λ (v : WholeGroup). v.wire) (whole_arrived w k d m'.item (Some c'.item) m'.is (m'.agrees.to ∙ to) up' c'.is) in
    let before = sent_many g w s in
    let after = sent_many (group_step g (Deliver k)) (whole_group_step w (Deliver k)) next in
    let rest = length-remove g.wire k (get_in g.wire k m here) in
    let rest' = length-remove w.wire k (get_in w.wire k m'.item m'.is) in
    let one : length (group_step g (Deliver k)).wire ≡ length (remove g.wire k) + length sent = ap (λ l. length l) step ∙ length-append (remove g.wire k) sent in
    let two : length (whole_group_step w (Deliver k)).wire ≡ length (remove w.wire k) + length sent' = ap (λ l. length l) step' ∙ length-append (remove w.wire k) sent' in
    let few : length sent' ≤ length c'.item.waiting + 20 = whole_sent_few w (whole_reached_bounded w t.reached) k d m'.item c'.item m'.is c'.is in
    let waits : length c'.item.waiting ≡ length c.waiting = ap (λ l. length l) c'.agrees.waiting in
    omega arith
