-- A delivery lowers the budget.
use Rattle.std.proofs.Common.{ℕ, ◌≡◌, ◌+◌, ◌*◌, ◌≤◌, Bool, true, false, not, ◌==◌, ◌&&◌, nat_lt, List, [], ◌∷◌, map, length, refl, arith, length-append, if◌then◌else◌}
use Rattle.std.specs.Prelude.{Option, Some, None}
use Rattle.std.specs.List.{list_any}
use Rattle.entry_core.specs.Log.{find, is_in, ids}
use Rattle.store_core.specs.Request.{Sealed}
use Rattle.store_core.specs.declared.entry.Entry.{Entry}
use Rattle.group_model_whole.specs.Steps.{Stepped, still}
use Rattle.group_model_whole.specs.Copy.{promise_interval, on_request, on_request_as, busy_request, waits, on_query, on_append, acknowledged, complete, on_appended}
use Rattle.group_model_whole.specs.ActingSets.{others, all_count, counted}
use Rattle.group_model_whole.specs.Serve.{serve, serve_one, push_new}
use Rattle.group_model_whole.specs.Decided.{with_entry, not_in_flight, last}
use Rattle.group_model_whole.specs.Types.{Role, Idle, Peering, Installing, Active, Daemon, Info, Append, Appended, Party, Osd}
use Rattle.group_model_whole.specs.Budget.{sent_budget, role_budget, copy_budget, Lowers}

pub promised_budget : (c : Daemon) (n : ℕ) → copy_budget (promise_interval c n) ≤ copy_budget c
promised_budget c n = elim (nat_lt c.promise n) as (λ b. copy_budget (if b then record c { promise = n; role = Idle; waiting = [] } else c) ≤ copy_budget c) [ true ↦ omega arith | false ↦ omega arith ]

pub query_lowers : (c : Daemon) (from : Party) (n : ℕ) → Lowers 2 c (on_query c from n)
query_lowers c from n = elim (nat_lt n c.promise) as (λ b. Lowers 2 c (if b then still c else record { copy = promise_interval c n; sent = record { from = Osd c.number; to = from; body = Info n c.base c.log } ∷ [] })) [
  | true ↦ omega arith
  | false ↦ omega (arith, promised_budget c n)
]

sent_budget-appends : (c : Daemon) (place : ℕ) (s : Sealed) (ms : List ℕ) → sent_budget (map (λ m. record { from = Osd c.number; to = Osd m; body = Append c.promise place s }) ms) ≡ 2 * length ms
sent_budget-appends c place s [] = refl
sent_budget-appends c place s (m ∷ ms) = omega (arith, sent_budget-appends c place s ms)

-- what an active copy makes of its waiting requests costs no more than they did
abbrev pub Serves : ℕ → Stepped → Type 0
Serves most s = copy_budget s.copy + sent_budget s.sent ≤ most

pub serve_budget : (waiting : List Sealed) (c : Daemon) → length (others c) ≤ 4 → Serves (9 * length waiting) (serve waiting c)
serve_budget [] c few = omega arith
serve_budget (s ∷ rest) c few = one (find c.log s.id) (serve rest c) (serve rest (with_entry c s)) (serve_budget rest c few) (serve_budget rest (with_entry c s) few)
  where
    new : (ms : List ℕ) (after : Stepped) → length ms ≤ length (others c) → Serves (9 * length rest) after → Serves (9 * (1 + length rest)) (push_new ms c s rest after)
    new [] after fits a = omega (arith, a)
    new (m ∷ ms) after fits a = omega (arith, sent_budget-appends c (length c.log + 1) s (others c), few)

    one : (found : Option Entry) (after pushed : Stepped) → Serves (9 * length rest) after → Serves (9 * length rest) pushed → Serves (9 * length (s ∷ rest)) (serve_one found c s rest after pushed)
    one (Some e) after pushed a p = omega (arith, a)
    one None after pushed a p = let n = new (others c) pushed (omega arith) p in omega (arith, n)

pub by_test : (most : ℕ) (c : Daemon) (b : Bool) (x y : Stepped) → Lowers most c x → Lowers most c y → Lowers most c (if b then x else y)
by_test most c true x y p q = p
by_test most c false x y p q = q

pub waits_lowers : (c : Daemon) (s : Sealed) → Lowers 10 c (waits c s)
waits_lowers c s = omega (arith, length-append c.waiting (s ∷ []))

pub busy_lowers : (c : Daemon) (s : Sealed) (found : Option Entry) → Lowers 10 c (busy_request c s found)
busy_lowers c s (Some e) = omega arith
busy_lowers c s None = by_test 10 c (is_in (ids c.log) s.id) (still c) (waits c s) (omega arith) (waits_lowers c s)

pub request_as_lowers : (r : Role) (c : Daemon) (s : Sealed) → c.role ≡ r → length (others c) ≤ 4 → Lowers 10 c (on_request_as r c s)
request_as_lowers Idle c s is few = omega arith
request_as_lowers (Peering informed) c s is few = waits_lowers c s
request_as_lowers (Installing done) c s is few = waits_lowers c s
request_as_lowers (Active None) c s is few = omega (arith, serve_budget (s ∷ c.waiting) c few)
request_as_lowers (Active (Some holders)) c s is few = busy_lowers c s (find (not_in_flight c.log (Some holders)) s.id)

pub request_lowers : (c : Daemon) (s : Sealed) → length (others c) ≤ 4 → Lowers 10 c (on_request c s)
request_lowers c s few = by_test 10 c (list_any (λ w. w.id == s.id) c.waiting) (still c) (on_request_as c.role c s) (omega arith) (request_as_lowers c.role c s refl few)

acknowledged_lowers : (c d : Daemon) (from : Party) (n place : ℕ) → copy_budget d ≤ copy_budget c → Lowers 2 c (acknowledged d from n place)
acknowledged_lowers c d from n place le = by_test 2 c (nat_lt (length d.log) place) (still d) (record { copy = d; sent = record { from = Osd d.number; to = from; body = Appended n place } ∷ [] }) (omega (arith, le)) (omega (arith, le))

pub append_lowers : (c : Daemon) (from : Party) (n place : ℕ) (s : Sealed) → Lowers 2 c (on_append c from n place s)
append_lowers c from n place s = by_test 2 c ((c.promise == n) && (c.base == n))
    (if (length c.log + 1 == place) && not (is_in (ids c.log) s.id) then acknowledged (with_entry c s) from n place else acknowledged c from n place) (still c)
    (by_test 2 c ((length c.log + 1 == place) && not (is_in (ids c.log) s.id)) (acknowledged (with_entry c s) from n place) (acknowledged c from n place)
    (acknowledged_lowers c (with_entry c s) from n place (omega arith)) (acknowledged_lowers c c from n place (omega arith)))
    (omega arith)

complete_budget : (c : Daemon) (e : Option Entry) → length (others c) ≤ 4 → Serves (9 * length c.waiting + 1) (complete c e)
complete_budget c None few = omega (arith, serve_budget c.waiting c few)
complete_budget c (Some e) few = omega (arith, serve_budget c.waiting c few)

pub appended_as_lowers : (r : Role) (c : Daemon) (n place m : ℕ) → c.role ≡ r → length (others c) ≤ 4 → Lowers 1 c (on_appended r c n place m)
appended_as_lowers (Active (Some holders)) c n place m is few =
    let in_flight : role_budget c.role ≡ 1 = rw is in
    by_test 1 c ((c.promise == n) && (place == length c.log))
    (if all_count c (counted c holders m) then complete c (last c.log) else still (record c { role = Active (Some (counted c holders m)) })) (still c)
    (by_test 1 c (all_count c (counted c holders m)) (complete c (last c.log)) (still (record c { role = Active (Some (counted c holders m)) }))
    (omega (arith, complete_budget c (last c.log) few, in_flight))
    (omega (arith, in_flight)))
    (omega arith)
appended_as_lowers (Active None) c n place m is few = omega arith
appended_as_lowers Idle c n place m is few = omega arith
appended_as_lowers (Peering informed) c n place m is few = omega arith
appended_as_lowers (Installing done) c n place m is few = omega arith
