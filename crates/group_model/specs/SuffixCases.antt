-- Statement: contracts of public calls use it.
-- Worked cases of peering by suffixes.
use Rattle.std.specs.Prelude.{ℕ, ◌≡◌, List, [], ◌∷◌, length, Option, Some, None, slice_get}
use Rattle.std.specs.Option.{option_map}
use Rattle.store_core.specs.Request.{Sealed}
use Rattle.entry_core.specs.Log.{ids}
use Rattle.store_core.specs.declared.sealed.GroupId.{GroupId}
use Rattle.group_model_whole.specs.Group.{Submit, Deliver, Lose, NewInterval, Kick}
use Rattle.group_model.specs.Types.{Osd, Query, Info, Install, Sent, Copy}
use Rattle.group_model.specs.Fits.{Fit, fit_at}
use Rattle.group_model.specs.Group.{Group, group_step, run, start, settle}

-- a request of that number, whatever it asks for
abbrev pub ask : Sealed → ℕ → Sealed
ask s n = record s { id = n }

-- three daemons, of which two are enough
abbrev pub opened : GroupId → Group
opened group = settle 11 (start group 2 3 (0 ∷ 1 ∷ 2 ∷ []) (0 ∷ 1 ∷ 2 ∷ []))

abbrev pub served : Sealed → ℕ → Group → Group
served s n g = settle 6 (group_step g (Submit (ask s n)))

abbrev pub log_ids : Group → ℕ → Option (List ℕ)
log_ids g d = option_map (λ (c : Copy). ids c.log) (slice_get g.copies d)

abbrev pub IsSent : Group → ℕ → Sent → Type 0
IsSent g k m = slice_get g.wire k ≡ Some m

-- five requests, each decided; then the primary goes away

abbrev pub five_decided : GroupId → Sealed → Group
five_decided group s = served s 5 (served s 4 (served s 3 (served s 2 (served s 1 (opened group)))))

-- daemon 1 hears of the next interval and asks
abbrev pub five_asked : GroupId → Sealed → Group
five_asked group s = run (NewInterval (1 ∷ 2 ∷ []) (1 ∷ 2 ∷ []) ∷ Deliver 0 ∷ []) (five_decided group s)

-- daemon 2 answers
abbrev pub five_told : GroupId → Sealed → Group
five_told group s = run (Deliver 2 ∷ []) (five_asked group s)

-- daemon 1 chooses
abbrev pub five_chosen : GroupId → Sealed → Group
five_chosen group s = run (Deliver 2 ∷ []) (five_told group s)

-- copies that have it all send no request
abbrev pub IsAllThere : GroupId → Sealed → Type 0
IsAllThere group s =
    (log_ids (five_decided group s) 1 ≡ Some (1 ∷ 2 ∷ 3 ∷ 4 ∷ 5 ∷ [])) × (length (five_decided group s).wire ≡ 0) ×
    IsSent (five_asked group s) 2 (record { from = Osd 1; to = Osd 2; body = Query 2 5 (Some 5) }) ×
    IsSent (five_told group s) 2 (record { from = Osd 2; to = Osd 1; body = Info 2 1 5 [] }) ×
    IsSent (five_chosen group s) 2 (record { from = Osd 1; to = Osd 2; body = Install 2 5 [] })

-- peerings that were left half done: request 1 is in the log of daemon 0 alone, and request 2 was decided after it by daemons 1 and 2

abbrev pub half_done : GroupId → Sealed → Group
half_done group s = run (
    Submit (ask s 1) ∷ Deliver 0 ∷ Lose 0 ∷ Lose 0 ∷
    NewInterval (1 ∷ 2 ∷ []) (1 ∷ 2 ∷ []) ∷ Deliver 0 ∷ Deliver 3 ∷ Deliver 3 ∷ Lose 0 ∷ Lose 0 ∷ Lose 0 ∷ Lose 0 ∷
    NewInterval (0 ∷ 2 ∷ []) (0 ∷ 2 ∷ []) ∷ Deliver 0 ∷ Deliver 3 ∷ Deliver 3 ∷ Lose 0 ∷ Lose 0 ∷ Lose 0 ∷ Lose 0 ∷
    NewInterval (1 ∷ 2 ∷ []) (1 ∷ 2 ∷ []) ∷ Lose 2 ∷ Submit (ask s 2) ∷ []) (opened group)

-- all three are up again, and daemon 0 hears of it and asks
abbrev pub half_asked : GroupId → Sealed → Group
half_asked group s = run (NewInterval (0 ∷ 1 ∷ 2 ∷ []) (0 ∷ 1 ∷ 2 ∷ []) ∷ Deliver 0 ∷ []) (settle 40 (half_done group s))

-- both answer
abbrev pub half_told : GroupId → Sealed → Group
half_told group s = run (Deliver 3 ∷ Deliver 3 ∷ []) (half_asked group s)

-- daemon 0 hears both and chooses
abbrev pub half_chosen : GroupId → Sealed → Group
half_chosen group s = run (Deliver 3 ∷ Deliver 3 ∷ []) (half_told group s)

-- its own entry is dropped, and the other's is sent to it alone
abbrev pub IsHalfDone : GroupId → Sealed → Type 0
IsHalfDone group s =
    (log_ids (half_asked group s) 0 ≡ Some (1 ∷ [])) ×
    IsSent (half_asked group s) 3 (record { from = Osd 0; to = Osd 1; body = Query 5 1 (Some 1) }) ×
    IsSent (half_asked group s) 4 (record { from = Osd 0; to = Osd 2; body = Query 5 1 (Some 1) }) ×
    IsSent (half_told group s) 3 (record { from = Osd 1; to = Osd 0; body = Info 5 4 0 (ask s 2 ∷ []) }) ×
    IsSent (half_told group s) 4 (record { from = Osd 2; to = Osd 0; body = Info 5 4 0 (ask s 2 ∷ []) }) ×
    (log_ids (half_chosen group s) 0 ≡ Some (2 ∷ [])) ×
    IsSent (half_chosen group s) 3 (record { from = Osd 0; to = Osd 1; body = Install 5 1 [] }) ×
    IsSent (half_chosen group s) 4 (record { from = Osd 0; to = Osd 2; body = Install 5 1 [] })

-- kicked while it peers, and while it installs

abbrev pub IsSentAgain : GroupId → Sealed → Type 0
IsSentAgain group s =
    IsSent (run (Kick ∷ []) (five_asked group s)) 6 (record { from = Osd 1; to = Osd 2; body = Query 2 5 (Some 5) }) ×
    IsSent (run (Kick ∷ []) (five_chosen group s)) 5 (record { from = Osd 1; to = Osd 2; body = Install 2 5 [] }) ×
    IsSent (run (Kick ∷ []) (half_chosen group s)) 8 (record { from = Osd 0; to = Osd 1; body = Install 5 1 [] }) ×
    IsSent (run (Kick ∷ []) (half_chosen group s)) 9 (record { from = Osd 0; to = Osd 2; body = Install 5 1 [] })

abbrev pub fit_at_message : Option Sent → Copy → Option Fit
fit_at_message None c = None
fit_at_message (Some m) c = fit_at m.body c m.from

-- what daemon d would fit at message k
abbrev pub fit_by : Group → ℕ → ℕ → Option (Option Fit)
fit_by g d k = option_map (fit_at_message (slice_get g.wire k)) (slice_get g.copies d)

-- the second Info fits the other's request in place of the own one, and the Install nothing; other messages fit nothing
abbrev pub IsFitted : GroupId → Sealed → Type 0
IsFitted group s =
    (fit_by (half_told group s) 0 3 ≡ Some None) ×
    (fit_by (run (Deliver 3 ∷ []) (half_told group s)) 0 3 ≡ Some (Some (record { start = 0; part = ask s 2 ∷ [] }))) ×
    (fit_by (half_chosen group s) 1 3 ≡ Some (Some (record { start = 1; part = [] }))) ×
    (fit_by (half_asked group s) 1 3 ≡ Some None)
