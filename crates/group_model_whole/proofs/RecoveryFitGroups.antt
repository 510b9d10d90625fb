-- Each event keeps what fits.
use Rattle.std.proofs.Common.{ℕ, ◌≡◌, not, List, [], ◌∷◌, ◌++◌, map, length, refl}
use Rattle.std.specs.Prelude.{Option, Some, None, slice_get}
use Rattle.std.specs.List.{filter}
use Rattle.entry_core.specs.Log.{is_in}
use Rattle.store_core.specs.Request.{Sealed}
use Rattle.store_core.specs.declared.entry.Entry.{Entry}
use Rattle.group_model_whole.specs.ActingSets.{others}
use Rattle.group_model_whole.specs.Choice.{is_informed}
use Rattle.group_model_whole.specs.Decided.{last}
use Rattle.group_model_whole.specs.Steps.{send}
use Rattle.group_model_whole.specs.Copy.{retransmit_as, append_again}
use Rattle.group_model_whole.specs.Types.{Role, Idle, Peering, Installing, Active, Daemon, Interval, Append, Request, Osd}
use Rattle.group_model_whole.specs.Each.{Each}
use Rattle.group_model_whole.specs.History.{History}
use Rattle.group_model_whole.specs.Group.{Group, last_set, open_requests, to_daemon, to_primary, kick, retransmit_of, retransmit_from, announced_by, resent_by}
use Rattle.group_model_whole.proofs.Eaches.{Each-append, Each-map_all}
use Rattle.group_model_whole.proofs.Invariant.{RoleOk, StateOk}
use Rattle.group_model_whole.proofs.Groups.{Good}
use Rattle.group_model_whole.proofs.RecoveryFits.{IsBased, SentFits, opening, goes_again, asks_again}
use Rattle.group_model_whole.proofs.RecoveryReady.{AllFit}

append_again_fits : (sets : List (List ℕ)) (c : Daemon) (e : Option Entry) (ms : List ℕ) → Each (SentFits sets) (append_again c e ms)
append_again_fits sets c None ms = tt
append_again_fits sets c (Some e) ms = Each-map_all (SentFits sets) (λ m. send c (Osd m) (Append c.promise (length c.log) e.sealed)) (λ m. tt) ms

kicked_fits : (z : ℕ) (sets : List (List ℕ)) (promise : ℕ → ℕ) (h : History) (d : ℕ) (c : Daemon) (r : Role) → StateOk z sets promise h d c → IsBased sets d c → RoleOk z sets promise h d c r → Each (SentFits sets) (retransmit_as r c)
kicked_fits z sets promise h d c Idle state was ok = tt
kicked_fits z sets promise h d c (Peering informed) state was ok = asks_again sets d c (opening z sets promise h d c state ok.leads) (λ i. not (is_informed c informed i))
kicked_fits z sets promise h d c (Installing done) state was ok = goes_again sets d c (opening z sets promise h d c state ok.owns.leads) c.log (λ m. not (is_in done m))
kicked_fits z sets promise h d c (Active None) state was ok = tt
kicked_fits z sets promise h d c (Active (Some holders)) state was ok = append_again_fits sets c (last c.log) (filter (λ m. not (is_in holders m)) (others c))

kick_first_fits : (g : Group) (good : Good g) → AllFit g → (ds : List ℕ) → Each (SentFits g.sets) (retransmit_of g ds)
kick_first_fits g good fits [] = tt
kick_first_fits g good fits (d ∷ ds) = found (slice_get g.copies d) refl
  where
    found : (c : Option Daemon) → slice_get g.copies d ≡ c → Each (SentFits g.sets) (retransmit_from c)
    found None is = tt
    found (Some c) is = kicked_fits g.min_size g.sets good.promise good.h d c c.role (good.copies d c is).state (fits.copies d c is) (good.copies d c is).role

pub tell_first_fits : (sets : List (List ℕ)) (ds : List ℕ) (requests : List Sealed) → Each (SentFits sets) (to_primary ds (map Request requests))
tell_first_fits sets [] requests = tt
tell_first_fits sets (d ∷ ds) requests = told requests
  where
    told : (rs : List Sealed) → Each (SentFits sets) (map (to_daemon d) (map Request rs))
    told [] = tt
    told (r ∷ rs) = (tt, told rs)

pub kick_fits : (g : Group) → Good g → AllFit g → AllFit (kick g)
kick_fits g good fits = record {
  copies = fits.copies;
  wire = Each-append (SentFits g.sets) (g.wire ++ announced_by g ++ retransmit_of g (last_set g.sets)) (resent_by g)
      (Each-append (SentFits g.sets) (g.wire ++ announced_by g) (retransmit_of g (last_set g.sets))
      (Each-append (SentFits g.sets) g.wire (announced_by g) fits.wire (Each-map_all (SentFits g.sets) (λ d. to_daemon d (Interval g.sets)) (λ d. tt) (last_set g.sets))) (kick_first_fits g good fits (last_set g.sets)))
      (tell_first_fits g.sets (last_set g.sets) (open_requests g));
}
