use Rattle.world_core.proofs.world.World.audit.Goals as goal

pub collect-requires : goal.collect-requires
collect-requires c = rw (c.as_slice.ensures.value, c.as_slice-2.ensures.value) c.self.invariant.fit

pub returns : goal.returns
returns c = rw (← c.self.view_is, ← c.as_slice.ensures.value, ← c.as_slice-2.ensures.value) c.collect.ensures
