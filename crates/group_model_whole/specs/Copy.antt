-- Statement: contracts of public calls use it.
-- One daemon's copy of one group: what each message makes of it, and what it sends (Ceph Peering, the RADOS paper, and this project's profile).
use Rattle.std.specs.Prelude.{ℕ, ◌+◌, Bool, ◌==◌, ◌&&◌, not, nat_lt, List, [], ◌∷◌, ◌++◌, map, filter, length, Option, Some, None, if◌then◌else◌}
use Rattle.std.specs.List.{list_any}
use Rattle.entry_core.specs.Log.{find, is_in, ids}
use Rattle.group_model_whole.specs.Types.{Sealed, Entry, Party, Client, Osd, Body, Interval, Query, Info, Install, Installed, Append, Appended, Request, Reply, NotHere, Message, Sent, PeerInfo, Role, Idle, Peering, Installing, Active, Daemon}
use Rattle.group_model_whole.specs.ActingSets.{set_of, is_primary, others, counted, all_count, missing, asked}
use Rattle.group_model_whole.specs.Decided.{not_in_flight, last, with_entry}
use Rattle.group_model_whole.specs.Choice.{best, own_offer, is_informed, can_choose}
use Rattle.group_model_whole.specs.Steps.{Stepped, still, send}
use Rattle.group_model_whole.specs.Serve.{reply_with, serve}

-- a copy that hears of an interval promises it, and drops its role if that is new
abbrev pub promise_interval : Daemon → ℕ → Daemon
promise_interval c interval = if nat_lt c.promise interval then record c { promise = interval; role = Idle; waiting = [] } else c

-- requests

abbrev pub waits : Daemon → Sealed → Stepped
waits c s = still (record c { waiting = c.waiting ++ s ∷ [] })

-- a request while an entry is in flight
abbrev pub busy_request : Daemon → Sealed → Option Entry → Stepped
busy_request c s (Some e) = record { copy = c; sent = reply_with c e }
busy_request c s None = if is_in (ids c.log) s.id then still c else waits c s

abbrev pub on_request_as : Role → Daemon → Sealed → Stepped
on_request_as Idle c s = record { copy = c; sent = send c Client (NotHere s.id) ∷ [] }
on_request_as (Peering informed) c s = waits c s
on_request_as (Installing done) c s = waits c s
on_request_as (Active None) c s = serve (s ∷ c.waiting) c
on_request_as (Active (Some holders)) c s = busy_request c s (find (not_in_flight c.log (Some holders)) s.id)

abbrev pub on_request : Daemon → Sealed → Stepped
on_request c s = if list_any (λ w. w.id == s.id) c.waiting then still c else on_request_as c.role c s

-- peering

-- the chosen log is this copy's, and goes to each other member
abbrev pub install_chosen : Daemon → List Entry → List ℕ → Stepped
install_chosen c log [] = serve c.waiting (record c { base = c.promise; log = log; role = Active None })
install_chosen c log (member ∷ members) = record {
  copy = record c { base = c.promise; log = log; role = Installing [] };
  sent = map (λ member. send c (Osd member) (Install c.promise log)) (member ∷ members);
}

abbrev pub try_choice : Daemon → List PeerInfo → Stepped
try_choice c informed =
    if can_choose c informed
    then install_chosen c (best (own_offer c) informed).log (others c)
    else still (record c { role = Peering informed })

abbrev pub queries : Daemon → List Sent
queries c = map (λ daemon. send c (Osd daemon) (Query c.promise)) (asked c)

-- a copy that was told these sets
abbrev pub learn_sets : Daemon → List (List ℕ) → Daemon
learn_sets c sets = record c { known = sets; role = Idle; waiting = [] }

abbrev pub leads : Daemon → List (List ℕ) → Bool
leads c sets =
    not (nat_lt (length (set_of sets (length sets))) c.min_size)
    && is_primary (set_of sets (length sets)) c.number && nat_lt c.promise (length sets)

-- it asks every daemon of any set
abbrev pub lead : Daemon → Stepped
lead c = record { copy = (try_choice c []).copy; sent = queries c ++ (try_choice c []).sent }

abbrev pub on_interval : Daemon → List (List ℕ) → Stepped
on_interval c sets =
    if nat_lt (length c.known) (length sets)
    then (if leads c sets then lead (record (learn_sets c sets) { promise = length sets }) else still (learn_sets c sets))
    else still c

abbrev pub on_query : Daemon → Party → ℕ → Stepped
on_query c from interval =
    if nat_lt interval c.promise
    then still c
    else record { copy = promise_interval c interval; sent = send c from (Info interval c.base c.log) ∷ [] }

abbrev pub on_info : Role → Daemon → ℕ → PeerInfo → Stepped
on_info (Peering informed) c interval offer =
    if (c.promise == interval) && not (is_informed c informed offer.number) then try_choice c (informed ++ offer ∷ []) else still c
on_info Idle c interval offer = still c
on_info (Installing done) c interval offer = still c
on_info (Active flight) c interval offer = still c

abbrev pub on_install : Daemon → Party → ℕ → List Entry → Stepped
on_install c from interval log =
    if nat_lt interval c.promise
    then still c
    else (
    let next : Daemon = promise_interval c interval in
    record {
      copy = if nat_lt c.base interval then record next { base = interval; log = log } else next;
      sent = send c from (Installed interval) ∷ [];
    }
    )

abbrev pub on_installed : Role → Daemon → ℕ → ℕ → Stepped
on_installed (Installing done) c interval member =
    if c.promise == interval
    then (if all_count c (counted c done member) then serve c.waiting c else still (record c { role = Installing (counted c done member) }))
    else still c
on_installed Idle c interval member = still c
on_installed (Peering informed) c interval member = still c
on_installed (Active flight) c interval member = still c

-- entries

-- the copy acknowledges an index that it has
abbrev pub acknowledged : Daemon → Party → ℕ → ℕ → Stepped
acknowledged c from interval index =
    if nat_lt (length c.log) index then still c else record { copy = c; sent = send c from (Appended interval index) ∷ [] }

abbrev pub on_append : Daemon → Party → ℕ → ℕ → Sealed → Stepped
on_append c from interval index s =
    if (c.promise == interval) && (c.base == interval)
    then (if (length c.log + 1 == index) && not (is_in (ids c.log) s.id) then acknowledged (with_entry c s) from interval index else acknowledged c from interval index)
    else still c

-- the last entry is held by every member
abbrev pub complete : Daemon → Option Entry → Stepped
complete c None = serve c.waiting c
complete c (Some e) = record { copy = (serve c.waiting c).copy; sent = reply_with c e ++ (serve c.waiting c).sent }

abbrev pub on_appended : Role → Daemon → ℕ → ℕ → ℕ → Stepped
on_appended (Active (Some holders)) c interval index member =
    if (c.promise == interval) && (index == length c.log)
    then (if all_count c (counted c holders member) then complete c (last c.log) else still (record c { role = Active (Some (counted c holders member)) }))
    else still c
on_appended (Active None) c interval index member = still c
on_appended Idle c interval index member = still c
on_appended (Peering informed) c interval index member = still c
on_appended (Installing done) c interval index member = still c

-- any message

-- what comes from a daemon alone
abbrev pub of_daemon : Party → (ℕ → Stepped) → Stepped → Stepped
of_daemon (Osd member) f other = f member
of_daemon Client f other = other

abbrev pub on_body : Body → Daemon → Party → Stepped
on_body (Interval sets) c from = on_interval c sets
on_body (Query interval) c from = on_query c from interval
on_body (Info interval base log) c from = of_daemon from (λ member. on_info c.role c interval (record { number = member; base = base; log = log })) (still c)
on_body (Install interval log) c from = on_install c from interval log
on_body (Installed interval) c from = of_daemon from (λ member. on_installed c.role c interval member) (still c)
on_body (Append interval index s) c from = on_append c from interval index s
on_body (Appended interval index) c from = of_daemon from (λ member. on_appended c.role c interval index member) (still c)
on_body (Request s) c from = on_request c s
on_body (Reply id reply) c from = still c
on_body (NotHere id) c from = still c

abbrev pub copy_step : Daemon → Message → Stepped
copy_step c message = on_body message.body c message.from

-- what a copy sends again

abbrev pub append_again : Daemon → Option Entry → List ℕ → List Sent
append_again c None members = []
append_again c (Some e) members = map (λ member. send c (Osd member) (Append c.promise (length c.log) e.sealed)) members

-- the daemons that were asked and did not answer
abbrev pub uninformed : Daemon → List PeerInfo → List ℕ
uninformed c informed = filter (λ daemon. not (is_informed c informed daemon)) (asked c)

abbrev pub retransmit_as : Role → Daemon → List Sent
retransmit_as Idle c = []
retransmit_as (Peering informed) c = map (λ daemon. send c (Osd daemon) (Query c.promise)) (uninformed c informed)
retransmit_as (Installing done) c = map (λ member. send c (Osd member) (Install c.promise c.log)) (missing c done)
retransmit_as (Active None) c = []
retransmit_as (Active (Some holders)) c = append_again c (last c.log) (missing c holders)

abbrev pub retransmit : Daemon → List Sent
retransmit c = retransmit_as c.role c
