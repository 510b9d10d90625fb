-- Statement: contracts of public calls use it.
-- What a message makes of a copy.
use Rattle.std.specs.Prelude.{ℕ, List, []}
use Rattle.group_model_whole.specs.Types.{Party, Osd, Body, Sent, Idle, Daemon}

-- a copy and what it sends
pub record Stepped : Type 0 where
  pub copy : Daemon
  pub sent : List Sent

-- nothing changes and nothing is sent
abbrev pub still : Daemon → Stepped
still c = record { copy = c; sent = [] }

abbrev pub send : Daemon → Party → Body → Sent
send c to body = record { from = Osd c.number; to = to; body = body }

-- a copy of nothing, as it begins
abbrev pub blank : ℕ → ℕ → Daemon
blank min_size number = record { number = number; min_size = min_size; promise = 0; base = 0; log = []; known = []; role = Idle; waiting = [] }

-- what a restart keeps: the promise, the base and the log
abbrev pub restarted : Daemon → Daemon
restarted c = record c { known = []; role = Idle; waiting = [] }
