-- Refinement: only contracts inside the crate use it.
-- What a handle owns: nothing at null, and else the box at its pointer.
use Rattle.std.specs.declared.option.Option.{Option}
use Rattle.std.specs.declared.option.Option.TheVariants.{None, Some}
use Rattle.std.specs.declared.alloc.Global.{Global}
use Rattle.std.specs.contracts.impls.GlobalAllocator.TheImpl.{ghosts}
use base.Fml.{Fml, ftrue, ffalse}
use denote.RattleType.{RattleType}
use denote.RawPtr.{Ptr, block_ptr, null_ptr}
use Rattle.std.specs.Box.Ownership.{box_owns}

abbrev pub held : (R : RattleType) → Global → Ptr → Option R.Denot → Fml
held R a null_ptr None = ftrue
held R a null_ptr (Some x) = ffalse
held R a (block_ptr b o) None = ffalse
held R a (block_ptr b o) (Some x) = box_owns (ghosts.dealloc_token a) R (block_ptr b o) x
