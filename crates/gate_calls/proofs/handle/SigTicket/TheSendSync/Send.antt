-- A handle may go to another thread, as the ticket that it holds may.
use mir.Raw.{raw}
use base.Fraction.{full_share}
use base.Shift.{Keyless}
use denote.Builtin.{RawPtr}
use denote.Memory.{lone}
use denote.RawPtr.{Ptr, block_ptr, null_ptr}
use denote.Param.Send.{IsSend, AllSend, part_keyless, owning_send, struct_send, sendable}
use denote.Struct.Owning.{shape, fields, to}
use denote.Struct.Struct.{exits_of}
use Rattle.core.specs.declared.option.Option.{Option}
use Rattle.core.specs.declared.option.Option.TheVariants.{None, Some}
use Rattle.std.proofs.Crossing.{frees}
use Rattle.std.proofs.alloc.Global.TheSendSync as heap
use Rattle.std_alloc.proofs.SendSync.{quiet}
use Rattle.gate_calls.proofs.shared.SharedCaps.TheSendSync.{the_send}
use Rattle.gate_calls.proofs.HandleValues.{R, Z}
use Rattle.gate_calls.specs.Held.{held}
use Rattle.gate_calls.specs.contracts.handle.SigTicket as one

held_keyless : (a : Z.Denot) (p : Ptr) (x : Option R.Denot) → Keyless (held R a p x)
held_keyless a null_ptr None = tt
held_keyless a null_ptr (Some x) = tt
held_keyless a (block_ptr b o) None = tt
held_keyless a (block_ptr b o) (Some x) = (part_keyless R the_send full_share x b o, frees.frees a (raw (lone R.mir)) (block_ptr b o))

ps : IsSend RawPtr
ps = search sendable

all : AllSend (fields one.the_type)
all = (ps, (heap.the_field_send, tt))

pub send : IsSend one.the_row
send = let O = one.the_type in owning_send O all (λ d. held_keyless d.alloc d.at d.ticket) (λ k. quiet (to O) (exits_of k (fields O)) ((struct_send (shape O) all).leaving k))
