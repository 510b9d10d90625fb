-- Statement: contracts of public calls use it.
-- Which copy's log begins an interval, and when it may be chosen.
use Rattle.std.specs.Prelude.{ℕ, ◌+◌, ◌-◌, Bool, ◌==◌, ◌||◌, ◌&&◌, nat_lt, List, [], ◌∷◌, length, take, if◌then◌else◌}
use Rattle.std.specs.List.{list_any, list_all}
use Rattle.group_messages.specs.ActingSets.{set_of}
use Rattle.group_messages.specs.ActingSets.{covers}
use Rattle.peer_core.specs.Types.{Offer, Copy}

-- the length of the log that was told
abbrev pub size_of : Offer → ℕ
size_of i = i.start + length i.part

-- the first is the better offer: the greater base, then the longer log, then the smaller number
abbrev pub is_better : Offer → Offer → Bool
is_better a b =
    nat_lt b.base a.base
    || (a.base == b.base) && (nat_lt (size_of b) (size_of a)
    || (size_of a == size_of b) && nat_lt a.number b.number)

abbrev pub best : Offer → List Offer → Offer
best a [] = a
best a (b ∷ bs) = best (if is_better b a then b else a) bs

-- the copy's own log is all there
abbrev pub own_offer : Copy → Offer
own_offer c = record { number = c.number; base = c.base; start = length c.log; part = [] }

abbrev pub is_informed : Copy → List Offer → ℕ → Bool
is_informed c informed member = (member == c.number) || list_any (λ i. i.number == member) informed

-- every member was heard, and no interval since the greatest base is without a copy that was
abbrev pub can_choose : Copy → List Offer → Bool
can_choose c informed =
    list_all (is_informed c informed) (set_of c.known c.promise)
    && covers c.min_size (best (own_offer c) informed).base (is_informed c informed) 1 (take (c.promise - 1) c.known)
