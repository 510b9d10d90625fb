use Rattle.std.proofs.Common.{◌≡◌, ℕ, List, refl, sym, ap, ◌∙◌, subst, arith}
use Rattle.map_core.specs.Map.{epoch_of}
use Rattle.map_core.specs.declared.command.MapCommand.{MapCommand}
use Rattle.store_core.specs.declared.sealed.GroupId.{GroupId}
use Rattle.cluster.specs.declared.cluster.Cluster.{Cluster}
use Rattle.cluster.specs.declared.cluster.Seats.{Seats}
use Rattle.cluster.specs.declared.monitor.Monitor.{Monitor}
use Rattle.published_map.specs.Published.{with_command}
use Rattle.cluster.specs.Passes.{group_count}
use Rattle.cluster.specs.GroupMoves.{HaveLooked, NoneFull, Goes}
use Rattle.cluster.specs.Monitors.{HasBegun, IsAdmitted, IsLeft, IsLeftBy, left_at, change_refusal, published_of}
use Rattle.cluster.proofs.Moved.{none_through, goes_nowhere, goes_through}
use Rattle.cluster.proofs.Changes.{only_looked, overfull, owns_begun, refused_for_want, still_own}
use Rattle.cluster.proofs.Following.{follows_begun, follows_looked}
use Rattle.cluster.proofs.GoingOn.{begins, stands_whole, where_none}
use Rattle.std.specs.Prelude.{None}
use Rattle.std.proofs.lemmas.Grind.{common_steps}
use Rattle.cluster.proofs.monitor.Monitor.begin.Goals as goal

-- the command that was copied, by which the change goes on
started : (command kept : MapCommand) (at : ℕ) (old mid new : Monitor) → kept ≡ command → HaveLooked old.seats mid.seats → mid.map ≡ with_command old.map command → mid.places ≡ old.places
    → (HasBegun kept 0 old mid → HasBegun kept at old new) → HasBegun command at old new
started command kept at old mid new same looked map_is places go =
    subst (λ (x : MapCommand). HasBegun x at old new) same (go (begins kept old mid looked (map_is ∙ ap (with_command old.map) (sym same)) places))

admitted : (c : Cluster) (command : MapCommand) (old new : Monitor) (places : List GroupId) (mid : Seats) → change_refusal old.map command ≡ None → places ≡ old.places.items
    → NoneFull c old.map command places (group_count c) old.seats mid → Goes mid new.seats → IsAdmitted c command old new
admitted c command old new places mid free same room goes = record {
  free = free;
  room = subst (λ (l : List GroupId). NoneFull c old.map command l (group_count c) old.seats new.seats) same
      (none_through c old.map command places (group_count c) old.seats old.seats mid new.seats (goes_nowhere old.seats) room goes);
}

pub returns-in-Ok-resume-clause-ok : goal.returns-in-Ok-resume-clause-ok
returns-in-Ok-resume-clause-ok g c = let old = c.args.self.now in let new = c.resume.new.self in let world = c.args.cluster.now in let count = group_count world in
    let mid : Monitor = record old { map = c.apply.new.self; seats = c.any_full.new.seats } in
    let begun : HasBegun c.args.command count old new = started c.args.command c.in-Ok.kept count old mid new c.in-Ok.ensures c.any_full.ensures.looked c.in-Ok-apply.ensures.accepted refl (c.in-Ok-resume.ensures.begun old) in (
      admitted world c.args.command old new c.as_slice-places.result.now c.any_full.new.seats c.requires.free c.as_slice-places.ensures.value c.if-any_full.ensures.found c.resume.ensures.goes,
      record {
        begun = begun;
        before = stands_whole old.unfinished count old.map (published_of old) _ c.requires.whole c.requires.monitor.stands;
        shown = stands_whole new.unfinished count new.map (published_of new) _ c.in-Ok-resume.ensures.ok c.resume.ensures.monitor.stands ∙ begun.map_is;
        done = c.in-Ok-resume.ensures.ok;
      },
    )

pub returns-in-Err-resume-clause-err : goal.returns-in-Err-resume-clause-err
returns-in-Err-resume-clause-err g c = let old = c.args.self.now in let new = c.resume.new.self in let world = c.args.cluster.now in let count = group_count world in
    let at = c.in-Err-resume.at in
    let mid : Monitor = record old { map = c.apply.new.self; seats = c.any_full.new.seats } in
    let before : published_of old ≡ old.map = stands_whole old.unfinished count old.map (published_of old) _ c.requires.whole c.requires.monitor.stands in
    let left : IsLeft world c.args.command at old new = record {
      begun = started c.args.command c.in-Ok.kept at old mid new c.in-Ok.ensures c.any_full.ensures.looked c.in-Ok-apply.ensures.accepted refl (c.in-Err-resume.ensures.begun old);
      before = before;
      shown = c.in-Err-resume.ensures.err.0 ∙ before;
      left = subst (λ (x : MapCommand). IsLeftBy world x at new.unfinished) c.in-Ok.ensures c.in-Err-resume.ensures.err.1;
    } in
    where_none old.unfinished (λ u. (at ≡ left_at world u) × (new ≡ old)) (IsAdmitted world c.args.command old new × IsLeft world c.args.command at old new) c.requires.whole
    (admitted world c.args.command old new c.as_slice-places.result.now c.any_full.new.seats c.requires.free c.as_slice-places.ensures.value c.if-any_full.ensures.found c.resume.ensures.goes, left)

pub returns-in-Ok-resume-clause-goes : goal.returns-in-Ok-resume-clause-goes
returns-in-Ok-resume-clause-goes g c = goes_through c.args.self.now.seats c.any_full.new.seats c.resume.new.self.seats c.any_full.ensures.looked.goes c.resume.ensures.goes

pub returns-in-Ok-resume-clause-follows : goal.returns-in-Ok-resume-clause-follows
returns-in-Ok-resume-clause-follows g c first h = let old = c.args.self.now in
    let mid : Monitor = record old { map = c.apply.new.self; seats = c.any_full.new.seats } in
    c.resume.ensures.follows first (follows_begun first c.args.command c.in-Ok.kept old mid c.requires.whole c.requires.free c.in-Ok.ensures c.any_full.ensures.looked c.in-Ok-apply.ensures.accepted refl h)

pub returns-in-Err-resume-clause-goes : goal.returns-in-Err-resume-clause-goes
returns-in-Err-resume-clause-goes g c = goes_through c.args.self.now.seats c.any_full.new.seats c.resume.new.self.seats c.any_full.ensures.looked.goes c.resume.ensures.goes

pub returns-in-Err-resume-clause-follows : goal.returns-in-Err-resume-clause-follows
returns-in-Err-resume-clause-follows g c first h = let old = c.args.self.now in
    let mid : Monitor = record old { map = c.apply.new.self; seats = c.any_full.new.seats } in
    c.resume.ensures.follows first (follows_begun first c.args.command c.in-Ok.kept old mid c.requires.whole c.requires.free c.in-Ok.ensures c.any_full.ensures.looked c.in-Ok-apply.ensures.accepted refl h)

pub any_full-requires-clause-places : goal.any_full-requires-clause-places
any_full-requires-clause-places g c = grind (arith, common_steps)

pub any_full-requires-clause-own : goal.any_full-requires-clause-own
any_full-requires-clause-own g c = c.requires.monitor.seats

pub resume-requires : goal.resume-requires
resume-requires g c = (
  owns_begun c.args.cluster.now c.args.command c.in-Ok.kept c.args.self.now c.apply.new.self c.any_full.new.seats c.requires.monitor c.requires.whole c.any_full.ensures.own c.in-Ok.ensures c.in-Ok-apply.ensures.accepted,
  c.requires.whole,
)

pub returns-then-any_full-clause-monitor : goal.returns-then-any_full-clause-monitor
returns-then-any_full-clause-monitor g c = still_own c.args.cluster.now c.args.self.now c.args.self.now.map c.any_full.new.seats refl c.requires.monitor c.any_full.ensures.own

pub returns-then-any_full-clause-goes : goal.returns-then-any_full-clause-goes
returns-then-any_full-clause-goes g c = c.any_full.ensures.looked.goes

pub returns-then-any_full-clause-follows : goal.returns-then-any_full-clause-follows
returns-then-any_full-clause-follows g c first h = let old = c.args.self.now in follows_looked first old (record old { seats = c.any_full.new.seats }) refl refl refl c.any_full.ensures.looked h

pub returns-then-any_full-clause-err : goal.returns-then-any_full-clause-err
returns-then-any_full-clause-err g c = (
  c.requires.whole,
  refl,
  overfull c.args.cluster.now c.args.command c.args.self.now c.any_full.new.seats c.as_slice-places.result.now c.requires.free c.as_slice-places.ensures.value c.any_full.ensures.looked c.if-any_full.ensures.found,
)

pub returns-in_default-clause-monitor : goal.returns-in_default-clause-monitor
returns-in_default-clause-monitor g c = still_own c.args.cluster.now c.args.self.now c.args.self.now.map c.any_full.new.seats refl c.requires.monitor c.any_full.ensures.own

pub returns-in_default-clause-goes : goal.returns-in_default-clause-goes
returns-in_default-clause-goes g c = c.any_full.ensures.looked.goes

pub returns-in_default-clause-follows : goal.returns-in_default-clause-follows
returns-in_default-clause-follows g c first h = let old = c.args.self.now in follows_looked first old (record old { seats = c.any_full.new.seats }) refl refl refl c.any_full.ensures.looked h

pub returns-in_default-clause-err : goal.returns-in_default-clause-err
returns-in_default-clause-err g c = let old = c.args.self.now in
    (c.requires.whole, refused_for_want c.args.command old _ c.requires.free (only_looked old old.map c.any_full.new.seats refl c.any_full.ensures.looked))

pub returns-in-Err-clause-monitor : goal.returns-in-Err-clause-monitor
returns-in-Err-clause-monitor g c = still_own c.args.cluster.now c.args.self.now c.apply.new.self c.any_full.new.seats c.in-Err.ensures.unchanged c.requires.monitor c.any_full.ensures.own

pub returns-in-Err-clause-goes : goal.returns-in-Err-clause-goes
returns-in-Err-clause-goes g c = c.any_full.ensures.looked.goes

pub returns-in-Err-clause-follows : goal.returns-in-Err-clause-follows
returns-in-Err-clause-follows g c first h = let old = c.args.self.now in
    follows_looked first old (record old { map = c.apply.new.self; seats = c.any_full.new.seats }) c.in-Err.ensures.unchanged refl refl c.any_full.ensures.looked h

pub returns-in-Err-clause-err : goal.returns-in-Err-clause-err
returns-in-Err-clause-err g c = let old = c.args.self.now in
    (c.requires.whole, refused_for_want c.args.command old _ c.requires.free (only_looked old c.apply.new.self c.any_full.new.seats c.in-Err.ensures.unchanged c.any_full.ensures.looked))

pub returns-in-Ok-resume-clause-monitor : goal.returns-in-Ok-resume-clause-monitor
returns-in-Ok-resume-clause-monitor g c = c.resume.ensures.monitor

pub returns-in-Ok-resume-clause-epoch : goal.returns-in-Ok-resume-clause-epoch
returns-in-Ok-resume-clause-epoch g c = c.in-Ok-apply.ensures.epoch ∙ ap epoch_of (sym c.resume.ensures.map)

pub returns-in-Err-resume-clause-monitor : goal.returns-in-Err-resume-clause-monitor
returns-in-Err-resume-clause-monitor g c = c.resume.ensures.monitor
