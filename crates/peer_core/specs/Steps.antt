-- Statement: contracts of public calls use it.
-- What a message makes of a copy.
use Rattle.std.specs.Prelude.{ℕ, List, []}
use Rattle.peer_core.specs.Types.{Party, Osd, Body, Sent, Idle, Copy}

-- a copy and what it sends
pub record Stepped : Type 0 where
  pub copy : Copy
  pub sent : List Sent

-- nothing changes and nothing is sent
abbrev pub still : Copy → Stepped
still c = record { copy = c; sent = [] }

abbrev pub send : Copy → Party → Body → Sent
send c to body = record { from = Osd c.number; to = to; body = body }

-- a copy of nothing, as it begins
abbrev pub blank : ℕ → ℕ → Copy
blank min_size number = record { number = number; min_size = min_size; promise = 0; base = 0; log = []; known = []; role = Idle; waiting = [] }

-- what a restart keeps: the promise, the base and the log
abbrev pub restarted : Copy → Copy
restarted c = record c { known = []; role = Idle; waiting = [] }
