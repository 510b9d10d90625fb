use Rattle.std.proofs.Common.{◌∙◌, ap, sym, subst, refl}
use Rattle.place_core.specs.Placement.{numbers_of}
use Rattle.group_model.specs.Group.{NewInterval, Restart, group_step}
use Rattle.group_core.specs.Inside.{group_of}
use Rattle.group_core.specs.Moves.{Prepared, IsReady, event_of}
use Rattle.group_core.specs.Sound.{IsSound}
use Rattle.group_core.proofs.Calls.{Next}
use Rattle.group_core.proofs.Moving.{Moved, moved_to, restarted_to}
use Rattle.group_core.proofs.moves.PreparedGroup.commit.Goals as goal
use Rattle.group_core.proofs.moves.PreparedGroup.commit.Goals.{in-NewInterval, in-Restart}

pub invariant_of-result : goal.invariant_of-result
invariant_of-result c =
    let old = c.self.inside.state in
    elim c.match-change.branch [
      | in-NewInterval w ↦ (
          let ready = subst (λ v. IsReady (group_of old) old.decided old.wire.room v c.self.inside.opening) w.in-NewInterval.is c.self.invariant in
          let next : Next (group_of old) (NewInterval w.in-NewInterval.acting (numbers_of w.in-NewInterval.up)) (Moved (group_of old) old.decided c.open_made.new.sets c.open_made.new.wire.sent (numbers_of w.change_up.new.up) w.change_up.new.copies.items) old.decided =
          moved_to w.in-NewInterval.acting w.in-NewInterval.up w.change_up.new.copies.items refl w.change_up.ensures.copies c.self.inside.opening c.open_made.new.sets c.open_made.new.wire.sent w.change_up.new.up ready c.open_made.ensures w.change_up.ensures.up in
          subst (λ s. IsSound (group_of s) s.decided) (sym w.state-is) next.whole)
      | in-Restart w ↦ (
          let ready = subst (λ v. IsReady (group_of old) old.decided old.wire.room v c.self.inside.opening) w.in-Restart.is c.self.invariant in
          let next : Next (group_of old) (Restart w.in-Restart.daemon) (Moved (group_of old) old.decided c.open_made.new.sets c.open_made.new.wire.sent (numbers_of old.up) w.restart_one.new.copies.items) old.decided =
          restarted_to w.in-Restart.daemon w.restart_one.new.copies.items refl w.restart_one.ensures c.self.inside.opening c.open_made.new.sets c.open_made.new.wire.sent ready c.open_made.ensures in
          subst (λ s. IsSound (group_of s) s.decided) (sym w.state-is) next.whole)
    ]

pub returns : goal.returns
returns c =
    let old = c.self.inside.state in
    elim c.match-change.branch [
      | in-NewInterval w ↦ (
          let ready = subst (λ v. IsReady (group_of old) old.decided old.wire.room v c.self.inside.opening) w.in-NewInterval.is c.self.invariant in
          let next : Next (group_of old) (NewInterval w.in-NewInterval.acting (numbers_of w.in-NewInterval.up)) (Moved (group_of old) old.decided c.open_made.new.sets c.open_made.new.wire.sent (numbers_of w.change_up.new.up) w.change_up.new.copies.items) old.decided =
          moved_to w.in-NewInterval.acting w.in-NewInterval.up w.change_up.new.copies.items refl w.change_up.ensures.copies c.self.inside.opening c.open_made.new.sets c.open_made.new.wire.sent w.change_up.new.up ready c.open_made.ensures w.change_up.ensures.up in
          ap (λ s. group_of s) w.state-is ∙ next.is ∙ ap (λ v. group_step (group_of old) (event_of v)) (sym w.in-NewInterval.is) ∙ ap (λ (p : Prepared). group_step p.group p.event) c.self.view_is)
      | in-Restart w ↦ (
          let ready = subst (λ v. IsReady (group_of old) old.decided old.wire.room v c.self.inside.opening) w.in-Restart.is c.self.invariant in
          let next : Next (group_of old) (Restart w.in-Restart.daemon) (Moved (group_of old) old.decided c.open_made.new.sets c.open_made.new.wire.sent (numbers_of old.up) w.restart_one.new.copies.items) old.decided =
          restarted_to w.in-Restart.daemon w.restart_one.new.copies.items refl w.restart_one.ensures c.self.inside.opening c.open_made.new.sets c.open_made.new.wire.sent ready c.open_made.ensures in
          ap (λ s. group_of s) w.state-is ∙ next.is ∙ ap (λ v. group_step (group_of old) (event_of v)) (sym w.in-Restart.is) ∙ ap (λ (p : Prepared). group_step p.group p.event) c.self.view_is)
    ]
