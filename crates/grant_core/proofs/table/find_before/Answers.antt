use Rattle.std.proofs.Common.{sym}
use Rattle.grant_core.proofs.Places.{missing, later, here}
use Rattle.grant_core.proofs.table.find_before.Goals as goal

pub returns-in_err-place : goal.returns-in_err-place
returns-in_err-place c =
    rw c.from_residual.ensures (λ used is. missing c.args.profiles.now.entries c.args.name.now c.args.before used (rw c.as_str.ensures at (sym c.in_err-place.ensures.index)) c.requires is)

pub returns-then-place-before : goal.returns-then-place-before
returns-then-place-before c =
    λ used is. later c.args.profiles.now.entries c.args.name.now c.args.before c.in_ok-place.place used (rw c.as_str.ensures at (sym c.in_ok-place.ensures.index)) c.requires c.if-place-before.true is

pub returns : goal.returns
returns c =
    here c.args.profiles.now.entries c.args.name.now c.args.before c.in_ok-place.place c.in_ok-profile.field-0-0.now c.in_ok-profile.profile.now c.len.ensures.unique
    (rw c.as_str.ensures at (sym c.in_ok-place.ensures.index)) (sym c.in_ok-profile.ensures.entry) c.requires c.if-place-before.false
