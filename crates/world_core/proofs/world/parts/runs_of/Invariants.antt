use Rattle.std.proofs.Common.{◌≡◌, take}
use Rattle.group_model_whole.specs.Each.{Each}
use Rattle.world_core.specs.Inside.{entries_told}
use Rattle.world_core.specs.Parts.{decided_of}
use Rattle.world_core.specs.Sound.{FitsAt}
use Rattle.world_core.proofs.world.parts.runs_of.Given as goal

abbrev pub invariant-loop-place : goal.invariant-loop-place
invariant-loop-place l = record {
  fit : Each (FitsAt l.groups) l.runs.items;
  told : entries_told l.groups l.runs.items ≡ decided_of (take l.place l.groups);
}
