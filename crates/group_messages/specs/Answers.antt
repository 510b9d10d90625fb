-- Statement: contracts of public calls use it.
-- The answers that reached the client.
use Rattle.std.specs.Prelude.{ℕ}
use Rattle.store_core.specs.declared.reply.Reply.{Reply}

-- the first reply to the request of a number
pub record Answer : Type 0 where
  pub id : ℕ
  pub reply : Reply
