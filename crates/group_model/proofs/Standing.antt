-- A group in step with one that sends whole logs stands for it.
use Rattle.std.proofs.Common.{ℕ, ◌≡◌, List, [], ◌∷◌, map, refl, sym, ap, subst}
use Rattle.store_core.specs.declared.entry.Entry.{Entry}
use Rattle.group_model_whole.specs.Types.{PeerInfo, Role as WholeRole, Body as WholeBody, Daemon, Party, Sent as WholeSent}
use Rattle.group_model_whole.specs.Group.{Group as WholeGroup, run as whole_run, start as whole_start}
use Rattle.group_model_whole.specs.History.{History}
use Rattle.group_model.specs.Types.{Body, Interval, Query, Info, Install, Installed, Append, Appended, Request, Reply, NotHere, Sent, Offer, Role, Idle, Peering, Installing, Active, Copy}
use Rattle.peer_core.specs.ActingSets.{others}
use Rattle.group_model.specs.Group.{Group, run, start}
use Rattle.group_model.specs.Standing.{Both, SameBody, SameSent, SameRole, SameCopy, StandsFor}
use Rattle.group_model.specs.Refinement.{SuffixesRefineWholeLogs}
use Rattle.group_model.proofs.Agreeing.{OfferAgrees, BodyAgrees, SentAgrees, RoleAgrees, CopyAgrees}
use Rattle.group_model.proofs.Lists.{Both-weaker}
use Rattle.group_model.proofs.Locked.{Agree}
use Rattle.group_model.proofs.Events.{reached_locked}

module _ (p : ℕ → ℕ) (h : History) where
  numbers_same : (n : ℕ) (mine : List Entry) (is : List Offer) (os : List PeerInfo) → Both (OfferAgrees p h n mine) is os → map (λ (i : Offer). i.number) is ≡ map (λ (o : PeerInfo). o.number) os
  numbers_same n mine [] [] both = refl
  numbers_same n mine [] (o ∷ os) both = absurd both
  numbers_same n mine (i ∷ is) [] both = absurd both
  numbers_same n mine (i ∷ is) (o ∷ os) both = (let one = both.0.number in let more = numbers_same n mine is os both.1 in (λ k. one k ∷ more k))

  role_same : (n : ℕ) (log : List Entry) (members : List ℕ) (q : Role) (r : WholeRole) → RoleAgrees p h n log members q r → SameRole q r
  role_same n log members Idle r a = a
  role_same n log members (Peering informed) r a = record { infos = a.infos; is = a.is; numbers = numbers_same n log informed a.infos a.agree }
  role_same n log members (Installing done common) r a = a.0
  role_same n log members (Active flight) r a = a

  body_same : (from to : Party) (b : Body) (w : WholeBody) → BodyAgrees p h from to b w → SameBody b w
  body_same from to (Interval sets) w a = a
  body_same from to (Query n len end) w a = a.0
  body_same from to (Info n base start part) w a = record { log = a.log; is = a.is }
  body_same from to (Install n start part) w a = record { log = a.log; is = a.is }
  body_same from to (Installed n) w a = a
  body_same from to (Append n place s) w a = a
  body_same from to (Appended n place) w a = a
  body_same from to (Request s) w a = a
  body_same from to (Reply id reply) w a = a
  body_same from to (NotHere id) w a = a

  sent_same : (m : Sent) (w : WholeSent) → SentAgrees p h m w → SameSent m w
  sent_same m w a = record { from = a.from; to = a.to; body = body_same m.from m.to m.body w.body a.body }

  copy_same : (c : Copy) (w : Daemon) → CopyAgrees p h c w → SameCopy c w
  copy_same c w a = record {
    number = ap (λ (v : Daemon). v.number) a.is;
    min_size = ap (λ (v : Daemon). v.min_size) a.is;
    promise = ap (λ (v : Daemon). v.promise) a.is;
    base = ap (λ (v : Daemon). v.base) a.is;
    log = ap (λ (v : Daemon). v.log) a.is;
    known = ap (λ (v : Daemon). v.known) a.is;
    waiting = ap (λ (v : Daemon). v.waiting) a.is;
    role = subst (λ r. SameRole c.role r) (sym (ap (λ (v : Daemon). v.role) a.is)) (role_same c.promise c.log (others c) c.role a.role a.agrees);
  }

pub stands_for : (g : Group) (w : WholeGroup) → Agree g w → StandsFor g w
stands_for g w a = record {
  group = ap (λ (v : WholeGroup). v.group) a.is;
  min_size = ap (λ (v : WholeGroup). v.min_size) a.is;
  copies = Both-weaker (CopyAgrees a.facts.promise a.facts.h) SameCopy (copy_same a.facts.promise a.facts.h) g.copies w.copies a.facts.copies;
  wire = Both-weaker (SentAgrees a.facts.promise a.facts.h) SameSent (sent_same a.facts.promise a.facts.h) g.wire w.wire a.facts.wire;
  sets = ap (λ (v : WholeGroup). v.sets) a.is;
  up = ap (λ (v : WholeGroup). v.up) a.is;
  requests = ap (λ (v : WholeGroup). v.requests) a.is;
  answers = ap (λ (v : WholeGroup). v.answers) a.is;
  audit = ap (λ (v : WholeGroup). v.audit) a.is;
}

pub suffixes_refine : SuffixesRefineWholeLogs
suffixes_refine group z count acting up es = stands_for (run es (start group z count acting up)) (whole_run es (whole_start group z count acting up)) (reached_locked group z count acting up es).agree
