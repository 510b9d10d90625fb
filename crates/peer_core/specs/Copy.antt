-- Statement: contracts of public calls use it.
-- One daemon's copy of one group, where peering sends suffixes: what each message makes of it, and what it sends (Ceph Peering, the RADOS paper, and this project's profile).
use Rattle.std.specs.Prelude.{ℕ, ◌+◌, Bool, ◌==◌, ◌&&◌, not, nat_lt, List, [], ◌∷◌, ◌++◌, map, filter, length, Option, Some, None, if◌then◌else◌}
use Rattle.std.specs.List.{list_any}
use Rattle.store_core.specs.Request.{Sealed}
use Rattle.entry_core.specs.Log.{find, is_in, ids}
use Rattle.entry_core.specs.Fitting.{part_of, last_id, fitted}
use Rattle.store_core.specs.declared.entry.Entry.{Entry}
use Rattle.group_messages.specs.ActingSets.{set_of, is_primary}
use Rattle.group_messages.specs.Decided.{not_in_flight, last}
use Rattle.peer_core.specs.Types.{Party, Client, Osd, Body, Interval, Query, Info, Install, Installed, Append, Appended, Request, Reply, NotHere, Message, Sent, Offer, Role, Idle, Peering, Installing, Active, Copy}
use Rattle.peer_core.specs.Steps.{Stepped, still, send}
use Rattle.peer_core.specs.ActingSets.{others, counted, all_count, missing, asked}
use Rattle.peer_core.specs.Decided.{with_entry}
use Rattle.peer_core.specs.Serve.{reply_with, serve}
use Rattle.peer_core.specs.Choice.{best, own_offer, is_informed, can_choose}
use Rattle.group_messages.specs.Beginnings.{common_of, count_at}
use Rattle.group_messages.specs.Starts.{start_for}

-- a copy that hears of an interval promises it, and drops its role if that is new
abbrev pub promise_interval : Copy → ℕ → Copy
promise_interval c interval = if nat_lt c.promise interval then record c { promise = interval; role = Idle; waiting = [] } else c

-- requests

abbrev pub waits : Copy → Sealed → Stepped
waits c s = still (record c { waiting = c.waiting ++ s ∷ [] })

-- a request while an entry is in flight
abbrev pub busy_request : Copy → Sealed → Option Entry → Stepped
busy_request c s (Some e) = record { copy = c; sent = reply_with c e }
busy_request c s None = if is_in (ids c.log) s.id then still c else waits c s

abbrev pub on_request_as : Role → Copy → Sealed → Stepped
on_request_as Idle c s = record { copy = c; sent = send c Client (NotHere s.id) ∷ [] }
on_request_as (Peering informed) c s = waits c s
on_request_as (Installing done common) c s = waits c s
on_request_as (Active None) c s = serve (s ∷ c.waiting) c
on_request_as (Active (Some holders)) c s = busy_request c s (find (not_in_flight c.log (Some holders)) s.id)

abbrev pub on_request : Copy → Sealed → Stepped
on_request c s = if list_any (λ w. w.id == s.id) c.waiting then still c else on_request_as c.role c s

-- what the member lacks of this log, which it has up to that place
abbrev pub install_from : Copy → List Entry → ℕ → ℕ → Sent
install_from c log m start = send c (Osd m) (Install c.promise start (part_of log start))

-- the chosen log is this copy's, and what each other member lacks goes to it
abbrev pub install_chosen : Copy → List Offer → List Entry → List ℕ → Stepped
install_chosen c informed log [] = serve c.waiting (record c { base = c.promise; log = log; role = Active None })
install_chosen c informed log (member ∷ members) = record {
  copy = record c {
    base = c.promise;
    log = log;
    role = Installing [] (map (λ m. record { member = m; count = common_of informed c.log log m }) (member ∷ members));
  };
  sent = map (λ m. install_from c log m (common_of informed c.log log m)) (member ∷ members);
}

-- where it can not be fitted nothing is chosen
abbrev pub fit_chosen : Copy → List Offer → Option (List Entry) → Stepped
fit_chosen c informed None = still (record c { role = Peering informed })
fit_chosen c informed (Some log) = install_chosen c informed log (others c)

abbrev pub try_choice : Copy → List Offer → Stepped
try_choice c informed =
    if can_choose c informed
    then fit_chosen c informed (fitted c.log (best (own_offer c) informed).start (best (own_offer c) informed).part)
    else still (record c { role = Peering informed })

-- peering

-- how long the log is that the answer goes behind, and which request is its last
abbrev pub query : Copy → Body
query c = Query c.promise (length c.log) (last_id c.log)

abbrev pub queries : Copy → List Sent
queries c = map (λ daemon. send c (Osd daemon) (query c)) (asked c)

-- a copy that was told these sets
abbrev pub learn_sets : Copy → List (List ℕ) → Copy
learn_sets c sets = record c { known = sets; role = Idle; waiting = [] }

abbrev pub leads : Copy → List (List ℕ) → Bool
leads c sets =
    not (nat_lt (length (set_of sets (length sets))) c.min_size)
    && is_primary (set_of sets (length sets)) c.number && nat_lt c.promise (length sets)

-- it asks every daemon of any set
abbrev pub lead : Copy → Stepped
lead c = record { copy = (try_choice c []).copy; sent = queries c ++ (try_choice c []).sent }

abbrev pub on_interval : Copy → List (List ℕ) → Stepped
on_interval c sets =
    if nat_lt (length c.known) (length sets)
    then (if leads c sets then lead (record (learn_sets c sets) { promise = length sets }) else still (learn_sets c sets))
    else still c

abbrev pub info : Copy → ℕ → ℕ → Body
info c interval start = Info interval c.base start (part_of c.log start)

abbrev pub on_query : Copy → Party → ℕ → ℕ → Option ℕ → Stepped
on_query c from interval len end =
    if nat_lt interval c.promise
    then still c
    else record { copy = promise_interval c interval; sent = send c from (info c interval (start_for c.log len end)) ∷ [] }

abbrev pub on_info_as : Role → Copy → ℕ → Offer → Stepped
on_info_as (Peering informed) c interval offer =
    if (c.promise == interval) && not (is_informed c informed offer.number) then try_choice c (informed ++ offer ∷ []) else still c
on_info_as Idle c interval offer = still c
on_info_as (Installing done common) c interval offer = still c
on_info_as (Active flight) c interval offer = still c

-- an offer that begins behind the end of this copy's log is not heard
abbrev pub on_info : Copy → ℕ → Offer → Stepped
on_info c interval offer = if nat_lt (length c.log) offer.start then still c else on_info_as c.role c interval offer

-- where it can not be fitted nothing changes
abbrev pub install_fitted : Copy → Party → ℕ → Option (List Entry) → Stepped
install_fitted c from interval None = still c
install_fitted c from interval (Some log) = record { copy = record (promise_interval c interval) { base = interval; log = log }; sent = send c from (Installed interval) ∷ [] }

abbrev pub on_install : Copy → Party → ℕ → ℕ → List Sealed → Stepped
on_install c from interval start part =
    if nat_lt interval c.promise
    then still c
    else (
    if nat_lt c.base interval
    then install_fitted c from interval (fitted c.log start part)
    else record { copy = promise_interval c interval; sent = send c from (Installed interval) ∷ [] }
    )

abbrev pub on_installed : Role → Copy → ℕ → ℕ → Stepped
on_installed (Installing done common) c interval member =
    if c.promise == interval
    then (if all_count c (counted c done member) then serve c.waiting c else still (record c { role = Installing (counted c done member) common }))
    else still c
on_installed Idle c interval member = still c
on_installed (Peering informed) c interval member = still c
on_installed (Active flight) c interval member = still c

-- entries

-- the copy acknowledges an index that it has
abbrev pub acknowledged : Copy → Party → ℕ → ℕ → Stepped
acknowledged c from interval index =
    if nat_lt (length c.log) index then still c else record { copy = c; sent = send c from (Appended interval index) ∷ [] }

abbrev pub on_append : Copy → Party → ℕ → ℕ → Sealed → Stepped
on_append c from interval index s =
    if (c.promise == interval) && (c.base == interval)
    then (if (length c.log + 1 == index) && not (is_in (ids c.log) s.id) then acknowledged (with_entry c s) from interval index else acknowledged c from interval index)
    else still c

-- the last entry is held by every member
abbrev pub complete : Copy → Option Entry → Stepped
complete c None = serve c.waiting c
complete c (Some e) = record { copy = (serve c.waiting c).copy; sent = reply_with c e ++ (serve c.waiting c).sent }

abbrev pub on_appended : Role → Copy → ℕ → ℕ → ℕ → Stepped
on_appended (Active (Some holders)) c interval index member =
    if (c.promise == interval) && (index == length c.log)
    then (if all_count c (counted c holders member) then complete c (last c.log) else still (record c { role = Active (Some (counted c holders member)) }))
    else still c
on_appended (Active None) c interval index member = still c
on_appended Idle c interval index member = still c
on_appended (Peering informed) c interval index member = still c
on_appended (Installing done common) c interval index member = still c

-- any message

-- what comes from a daemon alone
abbrev pub of_daemon : Party → (ℕ → Stepped) → Stepped → Stepped
of_daemon (Osd member) f other = f member
of_daemon Client f other = other

abbrev pub on_body : Body → Copy → Party → Stepped
on_body (Interval sets) c from = on_interval c sets
on_body (Query interval len end) c from = on_query c from interval len end
on_body (Info interval base start part) c from = of_daemon from (λ member. on_info c interval (record { number = member; base = base; start = start; part = part })) (still c)
on_body (Install interval start part) c from = on_install c from interval start part
on_body (Installed interval) c from = of_daemon from (λ member. on_installed c.role c interval member) (still c)
on_body (Append interval index s) c from = on_append c from interval index s
on_body (Appended interval index) c from = of_daemon from (λ member. on_appended c.role c interval index member) (still c)
on_body (Request s) c from = on_request c s
on_body (Reply id reply) c from = still c
on_body (NotHere id) c from = still c

abbrev pub copy_step : Copy → Message → Stepped
copy_step c message = on_body message.body c message.from

-- what a copy sends again

abbrev pub append_again : Copy → Option Entry → List ℕ → List Sent
append_again c None members = []
append_again c (Some e) members = map (λ member. send c (Osd member) (Append c.promise (length c.log) e.sealed)) members

-- the daemons that were asked and did not answer
abbrev pub uninformed : Copy → List Offer → List ℕ
uninformed c informed = filter (λ daemon. not (is_informed c informed daemon)) (asked c)

abbrev pub retransmit_as : Role → Copy → List Sent
retransmit_as Idle c = []
retransmit_as (Peering informed) c = map (λ daemon. send c (Osd daemon) (query c)) (uninformed c informed)
retransmit_as (Installing done common) c = map (λ m. install_from c c.log m (count_at common m)) (missing c done)
retransmit_as (Active None) c = []
retransmit_as (Active (Some holders)) c = append_again c (last c.log) (missing c holders)

abbrev pub retransmit : Copy → List Sent
retransmit c = retransmit_as c.role c
