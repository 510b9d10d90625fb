-- Statement: contracts of public calls use it.
-- The error numbers of replies: those of Ceph's operations, where EPERM is 1.
use Rattle.std.specs.Prelude.{ℕ}
use Rattle.store_core.specs.declared.reply.Reply.{Reply}
use Rattle.store_core.specs.declared.reply.Reply.TheVariants.{Denied, Done, Failed, Names}

abbrev pub number_of : Reply → ℕ
number_of (Denied report) = 1
number_of (Done outputs) = 0
number_of (Failed place number) = number
number_of (Names names) = 0
