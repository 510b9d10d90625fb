-- What was decided stands in the logs of copies that send suffixes.
use Rattle.std.proofs.Common.{ℕ, ◌≡◌, ◌≤◌, true, List, sym, ◌∙◌, ap, subst}
use Rattle.std.specs.Prelude.{Option, Some, slice_get}
use Rattle.entry_core.specs.Log.{is_in}
use Rattle.group_model_whole.specs.ActingSets.{set_of}
use Rattle.group_model_whole.specs.Types.{Active as WholeActive, Daemon}
use Rattle.group_model_whole.specs.Each.{Each}
use Rattle.group_model_whole.specs.Group.{Group as WholeGroup, run as whole_run, start as whole_start}
use Rattle.group_model_whole.specs.Asked.{IsReplied}
use Rattle.group_model_whole.specs.History.{Begins, History, but_last}
use Rattle.group_model_whole.specs.Replicated.{IsLatest as IsWholeLatest}
use Rattle.group_messages.specs.Answers.{Answer}
use Rattle.group_model_whole.proofs.Fronts.{but_last-begins}
use Rattle.group_model_whole.proofs.Groups.{replicated}
use Rattle.group_model_whole.proofs.Prefixes.{Begins-trans}
use Rattle.group_model.specs.Types.{Active, Copy}
use Rattle.peer_core.specs.ActingSets.{others}
use Rattle.group_model.specs.Group.{Group, run, start}
use Rattle.group_model.specs.Refinement.{IsLatest, GroupHolds, DecidedIsHeld}
use Rattle.group_model.proofs.Agreeing.{RoleAgrees, CopyAgrees}
use Rattle.group_model.proofs.Lists.{Beside, beside, besides}
use Rattle.group_model.proofs.Events.{Lock, reached_locked}

active_role : (p : ℕ → ℕ) (h : History) (c : Copy) (w : Daemon) (flight : Option (List ℕ)) → CopyAgrees p h c w → c.role ≡ Active flight → w.role ≡ WholeActive flight
active_role p h c w flight a is = ap (λ (v : Daemon). v.role) a.is ∙ subst (λ q. RoleAgrees p h c.promise c.log (others c) q a.role) is a.agrees

module _ (g : Group) (w : WholeGroup) (l : Lock g w) where
  audit_is : w.audit ≡ g.audit
  audit_is = ap (λ (v : WholeGroup). v.audit) l.agree.is

  sets_are : w.sets ≡ g.sets
  sets_are = ap (λ (v : WholeGroup). v.sets) l.agree.is

  copy_beside : (d : ℕ) (c : Copy) → slice_get g.copies d ≡ Some c → Beside (CopyAgrees l.agree.facts.promise l.agree.facts.h) c w.copies d
  copy_beside d c is = beside (CopyAgrees l.agree.facts.promise l.agree.facts.h) g.copies w.copies d c l.agree.facts.copies is

  log_is : (c : Copy) (v : Daemon) → CopyAgrees l.agree.facts.promise l.agree.facts.h c v → v.log ≡ c.log
  log_is c v a = ap (λ (x : Daemon). x.log) a.is

  holds_open : (d : ℕ) (c : Copy) → slice_get g.copies d ≡ Some c → Begins (but_last c.log) g.audit
  holds_open d c is =
      let b = copy_beside d c is in
      let ok = l.good.copies d b.item b.is in
      let held : Begins (but_last b.item.log) w.audit = Begins-trans (but_last-begins ok.state.within) (l.good.shown b.item.base) in
      subst (λ v. Begins (but_last c.log) v) audit_is (subst (λ v. Begins (but_last v) w.audit) (log_is c b.item b.agrees) held)

  latest : (c : Copy) (v : Daemon) → CopyAgrees l.agree.facts.promise l.agree.facts.h c v → IsLatest g c → IsWholeLatest w v
  latest c v a is m other inside there =
      let b = besides (CopyAgrees l.agree.facts.promise l.agree.facts.h) g.copies w.copies m other l.agree.facts.copies there in
      let promise : v.promise ≡ c.promise = ap (λ (x : Daemon). x.promise) a.is in
      let promise' : other.promise ≡ b.item.promise = ap (λ (x : Daemon). x.promise) b.agrees.is in
      let inside' : is_in (set_of g.sets c.promise) m ≡ true = subst (λ x. is_in (set_of g.sets x) m ≡ true) promise (subst (λ s. is_in (set_of s v.promise) m ≡ true) sets_are inside) in
      subst (λ x. other.promise ≤ x) (sym promise) (subst (λ x. x ≤ c.promise) (sym promise') (is m b.item inside' b.is))

  holds_replicated : (d : ℕ) (c : Copy) (flight : Option (List ℕ)) → slice_get g.copies d ≡ Some c → c.role ≡ Active flight → IsLatest g c →
      (m : ℕ) (other : Copy) → is_in (set_of g.sets c.promise) m ≡ true → slice_get g.copies m ≡ Some other → Begins g.audit other.log
  holds_replicated d c flight is role last m other inside there =
      let b = copy_beside d c is in
      let o = copy_beside m other there in
      let promise : b.item.promise ≡ c.promise = ap (λ (x : Daemon). x.promise) b.agrees.is in
      let inside' : is_in (set_of w.sets b.item.promise) m ≡ true = subst (λ s. is_in (set_of s b.item.promise) m ≡ true) (sym sets_are) (subst (λ x. is_in (set_of g.sets x) m ≡ true) (sym promise) inside) in
      let held : Begins w.audit o.item.log = replicated w l.good d b.item flight b.is (active_role l.agree.facts.promise l.agree.facts.h c b.item flight b.agrees role) (latest c b.item b.agrees last) m o.item inside' o.is in
      subst (λ v. Begins g.audit v) (log_is other o.item o.agrees) (subst (λ v. Begins v o.item.log) audit_is held)

  holds_answers : Each (λ (a : Answer). IsReplied g.audit a.id a.reply) g.answers
  holds_answers =
      let answers : w.answers ≡ g.answers = ap (λ (v : WholeGroup). v.answers) l.agree.is in
      subst (λ es. Each (λ (a : Answer). IsReplied es a.id a.reply) g.answers) audit_is (subst (λ as'. Each (λ (a : Answer). IsReplied w.audit a.id a.reply) as') answers l.kept.answers)

  holds : GroupHolds g
  holds = record { open_last = holds_open; replicated = holds_replicated; answers = holds_answers }

pub decided_held : DecidedIsHeld
decided_held group z count acting up es = holds (run es (start group z count acting up)) (whole_run es (whole_start group z count acting up)) (reached_locked group z count acting up es)
