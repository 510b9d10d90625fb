-- Statement: contracts of public calls use it.
-- Which copy's log begins an interval, and when it may be chosen.
use Rattle.std.specs.Prelude.{ℕ, ◌+◌, ◌-◌, Bool, true, ◌==◌, ◌||◌, ◌&&◌, nat_lt, List, [], ◌∷◌, length, take, if◌then◌else◌}
use Rattle.std.specs.List.{list_any, list_all}
use Rattle.group_model_whole.specs.Types.{PeerInfo, Daemon}
pub use Rattle.group_messages.specs.ActingSets.{covers}
use Rattle.group_model_whole.specs.ActingSets.{set_of}

-- the first is the better offer: the greater base, then the longer log, then the smaller number
abbrev pub is_better : PeerInfo → PeerInfo → Bool
is_better a b =
    nat_lt b.base a.base
    || (a.base == b.base) && (nat_lt (length b.log) (length a.log)
    || (length a.log == length b.log) && nat_lt a.number b.number)

abbrev pub best : PeerInfo → List PeerInfo → PeerInfo
best a [] = a
best a (b ∷ bs) = best (if is_better b a then b else a) bs

abbrev pub own_offer : Daemon → PeerInfo
own_offer c = record { number = c.number; base = c.base; log = c.log }

abbrev pub is_informed : Daemon → List PeerInfo → ℕ → Bool
is_informed c informed member = (member == c.number) || list_any (λ i. i.number == member) informed

-- every member was heard, and no interval since the greatest base is without a copy that was
abbrev pub can_choose : Daemon → List PeerInfo → Bool
can_choose c informed =
    list_all (is_informed c informed) (set_of c.known c.promise)
    && covers c.min_size (best (own_offer c) informed).base (is_informed c informed) 1 (take (c.promise - 1) c.known)
