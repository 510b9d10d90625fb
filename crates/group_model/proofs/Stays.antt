-- What agrees goes on to agree while the history goes on.
use Rattle.std.proofs.Common.{ℕ, ◌≡◌, List}
use Rattle.std.specs.Prelude.{None}
use Rattle.store_core.specs.Request.{Sealed}
use Rattle.entry_core.specs.Fitting.{part_of}
use Rattle.store_core.specs.declared.entry.Entry.{Entry}
use Rattle.group_model_whole.specs.Types.{PeerInfo, Role as WholeRole, Daemon, Body as WholeBody, Party, Osd, Client, Sent as WholeSent}
use Rattle.group_model_whole.specs.History.{History}
use Rattle.group_model_whole.proofs.Invariant.{OfOsd}
use Rattle.group_model.specs.Types.{Body, Interval, Query, Info, Install, Installed, Append, Appended, Request, Reply, NotHere, Sent, Offer, Role, Idle, Peering, Installing, Active, Copy}
use Rattle.peer_core.specs.ActingSets.{others}
use Rattle.group_messages.specs.Beginnings.{count_at}
use Rattle.group_model.specs.Standing.{Both}
use Rattle.group_model.proofs.Agreeing.{Past, QueryAgrees, InfoAgrees, ToldAgrees, OfferAgrees, InstallAgrees, OfBoth, BodyAgrees, SentAgrees, RoleAgrees, CopyAgrees}
use Rattle.group_model.proofs.Lists.{Both-weaker}

OfBoth-weaker : (from to : Party) (P Q : ℕ → ℕ → Type 0) → ((m d : ℕ) → P m d → Q m d) → OfBoth from to P → OfBoth from to Q
OfBoth-weaker Client to P Q weaker ok = tt
OfBoth-weaker (Osd m) Client P Q weaker ok = tt
OfBoth-weaker (Osd m) (Osd d) P Q weaker ok = weaker m d ok

OfOsd-weaker : (to : Party) (P Q : ℕ → Type 0) → ((d : ℕ) → P d → Q d) → OfOsd to P → OfOsd to Q
OfOsd-weaker Client P Q weaker ok = tt
OfOsd-weaker (Osd d) P Q weaker ok = weaker d ok

module _ (p : ℕ → ℕ) (h : History) (p' : ℕ → ℕ) (h' : History)
    (stays : (m n : ℕ) (log : List Entry) → Past p h m n log → Past p' h' m n log) (unchosen : (n : ℕ) → h'.chosen n ≡ None → h.chosen n ≡ None) where
  InfoAgrees-stays : (n m : ℕ) (mine log : List Entry) (start : ℕ) (part : List Sealed) → InfoAgrees p h n m mine log start part → InfoAgrees p' h' n m mine log start part
  InfoAgrees-stays n m mine log start part a = record { is_part = a.is_part; past = stays m n log a.past }

  OfferAgrees-stays : (n : ℕ) (mine : List Entry) (i : Offer) (o : PeerInfo) → OfferAgrees p h n mine i o → OfferAgrees p' h' n mine i o
  OfferAgrees-stays n mine i o a = record { number = a.number; base = a.base; told = InfoAgrees-stays n o.number mine o.log i.start i.part a.told }

  pub Offers-stay : (n : ℕ) (mine : List Entry) (is : List Offer) (os : List PeerInfo) → Both (OfferAgrees p h n mine) is os → Both (OfferAgrees p' h' n mine) is os
  Offers-stay n mine is os both = Both-weaker (OfferAgrees p h n mine) (OfferAgrees p' h' n mine) (OfferAgrees-stays n mine) is os both

  InstallAgrees-stays : (n m : ℕ) (log : List Entry) (start : ℕ) (part : List Sealed) → InstallAgrees p h n m log start part → InstallAgrees p' h' n m log start part
  InstallAgrees-stays n m log start part a = record { theirs = a.theirs; past = stays m n a.theirs a.past; is_part = a.is_part }

  pub BodyAgrees-stays : (from to : Party) (b : Body) (w : WholeBody) → BodyAgrees p h from to b w → BodyAgrees p' h' from to b w
  BodyAgrees-stays from to (Interval sets) w a = a
  BodyAgrees-stays from to (Query n len end) w a = (
    a.0,
    λ none. OfBoth-weaker from to (λ m d. QueryAgrees p h m n len end) (λ m d. QueryAgrees p' h' m n len end)
        (λ m d q. record { log = q.log; past = stays m n q.log q.past; len_is = q.len_is; end_is = q.end_is }) (a.1 (unchosen n none)),
  )
  BodyAgrees-stays from to (Info n base start part) w a = record {
    log = a.log;
    is = a.is;
    agrees = λ none. OfBoth-weaker from to (λ m d. ToldAgrees p h n m d a.log start part) (λ m d. ToldAgrees p' h' n m d a.log start part)
        (λ m d t. record { mine = t.mine; asked = stays d n t.mine t.asked; told = InfoAgrees-stays n m t.mine a.log start part t.told }) (a.agrees (unchosen n none));
  }
  BodyAgrees-stays from to (Install n start part) w a = record {
    log = a.log;
    is = a.is;
    agrees = OfOsd-weaker to (λ d. InstallAgrees p h n d a.log start part) (λ d. InstallAgrees p' h' n d a.log start part) (λ d. InstallAgrees-stays n d a.log start part) a.agrees;
  }
  BodyAgrees-stays from to (Installed n) w a = a
  BodyAgrees-stays from to (Append n place s) w a = a
  BodyAgrees-stays from to (Appended n place) w a = a
  BodyAgrees-stays from to (Request s) w a = a
  BodyAgrees-stays from to (Reply id reply) w a = a
  BodyAgrees-stays from to (NotHere id) w a = a

  pub SentAgrees-stays : (m : Sent) (w : WholeSent) → SentAgrees p h m w → SentAgrees p' h' m w
  SentAgrees-stays m w a = record { from = a.from; to = a.to; body = BodyAgrees-stays m.from m.to m.body w.body a.body }

  pub RoleAgrees-stays : (n : ℕ) (log : List Entry) (members : List ℕ) (r : Role) (w : WholeRole) → RoleAgrees p h n log members r w → RoleAgrees p' h' n log members r w
  RoleAgrees-stays n log members Idle w a = a
  RoleAgrees-stays n log members (Peering informed) w a = record { infos = a.infos; is = a.is; agree = Offers-stay n log informed a.infos a.agree }
  RoleAgrees-stays n log members (Installing done common) w a = (a.0, λ m is. InstallAgrees-stays n m log (count_at common m) (part_of log (count_at common m)) (a.1 m is))
  RoleAgrees-stays n log members (Active flight) w a = a

  pub CopyAgrees-stays : (c : Copy) (w : Daemon) → CopyAgrees p h c w → CopyAgrees p' h' c w
  CopyAgrees-stays c w a = record { role = a.role; is = a.is; agrees = RoleAgrees-stays c.promise c.log (others c) c.role a.role a.agrees }
