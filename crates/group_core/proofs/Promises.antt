-- What each group that there can be keeps.
use Rattle.std.proofs.Common.{ℕ, ◌≡◌, ◌≤◌, true, List, [], ◌∷◌, map, length, subst}
use Rattle.entry_core.specs.Log.{Legal}
use Rattle.store_core.specs.Request.{Sealed}
use Rattle.group_model_whole.specs.Types.{Daemon, Role as WholeRole}
use Rattle.group_model_whole.specs.Each.{Each}
use Rattle.group_model_whole.specs.Asked.{IsReplied}
use Rattle.group_model_whole.specs.Sane.{RoleIsSane as WholeRoleIsSane, IsSane as IsWholeSane}
use Rattle.group_model_whole.proofs.Reached.{reached_sane as whole_reached_sane}
use Rattle.group_model.specs.Standing.{Both, SameRole, SameCopy}
use Rattle.group_model.proofs.Twins.{twin_of, lock_stands, reached_holds}
use Rattle.group_model.specs.Fits.{FitsAnswerTrue}
use Rattle.group_model.proofs.Fitting.{fit_answers}
use Rattle.group_model.specs.Types.{Role, Idle, Peering, Installing, Active, Copy}
use Rattle.group_model.specs.Group.{Group, Answer, is_distinct}
use Rattle.group_model.specs.Sane.{RoleIsSane, IsSane, AllSane}
use Rattle.group_model.specs.Reached.{IsReached}

pub reached_answers : (g : Group) → IsReached g → Each (λ (a : Answer). IsReplied g.audit a.id a.reply) g.answers
reached_answers g r = (reached_holds g r).answers

pub reached_fitting : (g : Group) → IsReached g → FitsAnswerTrue g
reached_fitting g r = subst FitsAnswerTrue r.is (fit_answers r.group r.min_size r.daemons r.acting r.up r.events)

pub reached_room : (g : Group) → IsReached g → length g.requests ≤ 16384
reached_room g r = (let t = twin_of g r in subst (λ l. length l ≤ 16384) (lock_stands g t.whole t.lock).requests t.lock.kept.room)

pub reached_intervals : (g : Group) → IsReached g → length g.sets ≤ 1024
reached_intervals g r = (let t = twin_of g r in subst (λ l. length l ≤ 1024) (lock_stands g t.whole t.lock).sets t.lock.kept.intervals)

pub reached_once : (g : Group) → IsReached g → is_distinct (map (λ (s : Sealed). s.id) g.requests) ≡ true
reached_once g r = (let t = twin_of g r in subst (λ l. is_distinct (map (λ (s : Sealed). s.id) l) ≡ true) (lock_stands g t.whole t.lock).requests t.lock.kept.once)

-- a copy is as sane as that for which it stands

role_sane : (r : Role) (w : WholeRole) (promise known : ℕ) → SameRole r w → WholeRoleIsSane w promise known → RoleIsSane r promise known
role_sane Idle w promise known same sane = tt
role_sane (Peering informed) w promise known same sane = (subst (λ v. WholeRoleIsSane v promise known) same.is sane).0
role_sane (Installing done common) w promise known same sane = subst (λ v. WholeRoleIsSane v promise known) same sane
role_sane (Active flight) w promise known same sane = subst (λ v. WholeRoleIsSane v promise known) same sane

copy_sane : (c : Copy) (w : Daemon) → SameCopy c w → IsWholeSane w → IsSane c
copy_sane c w same sane = record {
  base = subst (λ v. v ≤ c.promise) same.base (subst (λ v. w.base ≤ v) same.promise sane.base);
  role = role_sane c.role w.role c.promise (length c.known) same.role (subst (λ v. WholeRoleIsSane w.role v (length c.known)) same.promise (subst (λ l. WholeRoleIsSane w.role w.promise (length l)) same.known sane.role));
  legal = subst Legal same.log sane.legal;
}

copies_sane : (cs : List Copy) (ws : List Daemon) → Both SameCopy cs ws → Each IsWholeSane ws → Each IsSane cs
copies_sane [] ws both sane = tt
copies_sane (c ∷ cs) [] both sane = absurd both
copies_sane (c ∷ cs) (w ∷ ws) both sane = (copy_sane c w both.0 sane.0, copies_sane cs ws both.1 sane.1)

pub reached_sane : (g : Group) → IsReached g → AllSane g
reached_sane g r = (let t = twin_of g r in copies_sane g.copies t.whole.copies (lock_stands g t.whole t.lock).copies (whole_reached_sane t.whole t.reached).copies)
