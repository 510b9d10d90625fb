use Rattle.std.proofs.Common.{subst, sym}
use Rattle.std.specs.List.{Contains}
use Rattle.share_core.proofs.NotedPools.{kept_both}
use Rattle.share_core.proofs.pool_places.PoolPlaces.note_pool.Goals as goal

pub returns-in-None-clause-kept : goal.returns-in-None-clause-kept
returns-in-None-clause-kept c = kept_both c.args.self.now (record { named = c.args.self.now.named; unnamed = c.note.new.places }) c.note.ensures.kept (λ wanted place has. has)

pub returns-in_ok-prepare-in-Some-clause-kept : goal.returns-in_ok-prepare-in-Some-clause-kept
returns-in_ok-prepare-in-Some-clause-kept c =
    kept_both c.args.self.now (record { named = c.note_name.new.named; unnamed = c.args.self.now.unnamed }) (λ place has. has)
    (λ wanted place has. c.note_name.ensures.kept wanted place (subst (λ list. Contains list place) (sym (c.prepare.ensures.same wanted)) has))
