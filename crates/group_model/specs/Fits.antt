-- Statement: contracts of public calls use it.
-- Which log a step fits to a part: at a choice and at an Install.
use Rattle.std.specs.Prelude.{ℕ, ◌≡◌, true, ◌==◌, ◌&&◌, not, nat_lt, List, [], ◌∷◌, ◌++◌, length, slice_get, Option, Some, None, if◌then◌else◌}
use Rattle.store_core.specs.Request.{Sealed}
use Rattle.entry_core.specs.Fitting.{can_fit}
use Rattle.group_model.specs.Types.{Party, Client, Osd, Body, Interval, Query, Info, Install, Installed, Append, Appended, Request, Reply, NotHere, Sent, Offer, Role, Idle, Peering, Installing, Active, Copy}
use Rattle.peer_core.specs.Choice.{best, own_offer, is_informed, can_choose}
use Rattle.peer_core.specs.Copy.{learn_sets, leads}
use Rattle.group_model.specs.Group.{Group}

-- the copy's log is fitted to that part, from that place on
pub record Fit : Type 0 where
  pub start : ℕ
  pub part : List Sealed

abbrev pub choice_fit : Copy → List Offer → Option Fit
choice_fit c informed = if can_choose c informed then Some (record { start = (best (own_offer c) informed).start; part = (best (own_offer c) informed).part }) else None

abbrev pub interval_fit : Copy → List (List ℕ) → Option Fit
interval_fit c sets =
    if nat_lt (length c.known) (length sets)
    then (if leads c sets then choice_fit (record (learn_sets c sets) { promise = length sets }) [] else None)
    else None

abbrev pub info_fit_as : Role → Copy → ℕ → Offer → Option Fit
info_fit_as (Peering informed) c interval offer =
    if (c.promise == interval) && not (is_informed c informed offer.number) then choice_fit c (informed ++ offer ∷ []) else None
info_fit_as Idle c interval offer = None
info_fit_as (Installing done common) c interval offer = None
info_fit_as (Active flight) c interval offer = None

abbrev pub info_fit : Party → Copy → ℕ → ℕ → ℕ → List Sealed → Option Fit
info_fit Client c interval base start part = None
info_fit (Osd member) c interval base start part =
    if nat_lt (length c.log) start then None else info_fit_as c.role c interval (record { number = member; base = base; start = start; part = part })

abbrev pub install_fit : Copy → ℕ → ℕ → List Sealed → Option Fit
install_fit c interval start part =
    if nat_lt interval c.promise then None else (if nat_lt c.base interval then Some (record { start = start; part = part }) else None)

-- what a copy fits when it hears that, if it fits anything
abbrev pub fit_at : Body → Copy → Party → Option Fit
fit_at (Interval sets) c from = interval_fit c sets
fit_at (Query interval len end) c from = None
fit_at (Info interval base start part) c from = info_fit from c interval base start part
fit_at (Install interval start part) c from = install_fit c interval start part
fit_at (Installed interval) c from = None
fit_at (Append interval index s) c from = None
fit_at (Appended interval index) c from = None
fit_at (Request s) c from = None
fit_at (Reply id reply) c from = None
fit_at (NotHere id) c from = None

-- whichever message is delivered, to whichever copy: what is fitted fits
abbrev pub FitsAnswerTrue : Group → Type 0
FitsAnswerTrue g = (k d : ℕ) (m : Sent) (c : Copy) (f : Fit) → slice_get g.wire k ≡ Some m → m.to ≡ Osd d → slice_get g.copies d ≡ Some c →
    fit_at m.body c m.from ≡ Some f → can_fit c.log f.start f.part ≡ true
