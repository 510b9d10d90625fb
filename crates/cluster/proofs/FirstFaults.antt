-- What workers' turns told, and the first fault that ended one.
use Rattle.std.proofs.Common.{◌≡◌, ℕ, suc, ◌+◌, ◌<◌, List, [], ◌∷◌, ◌++◌, map, get_or, length, refl, subst, arith}
use Rattle.std.specs.Prelude.{Option, Some, None, Result}
use Rattle.std.specs.Option.{option_or}
use Rattle.cluster.specs.declared.cluster.Cluster.{Cluster}
use Rattle.cluster.specs.declared.fault.ClusterFault.{ClusterFault}
use Rattle.cluster_locks.specs.declared.groups.Worked.{Worked}
use Rattle.cluster.specs.declared.pass.Pass.{Pass}
use Rattle.cluster.specs.declared.workers.Worker.{Worker}
use Rattle.cluster.specs.Passes.{group_count}
use Rattle.cluster.specs.Deliveries.{WorksAt}
use Rattle.cluster.specs.Workers.{GoesOnAfter, HasDelivered, HasDone, HaveEnded, HasWorkedOf, first_fault, pass_of, fault_of}

-- ---- turns

pub delivered_none : (c : Cluster) (p : Pass) → HasDelivered c 0 p p
delivered_none c p = refl

pub delivered_more : (c : Cluster) (place : ℕ) (x y z : Pass) (told : Result Worked ClusterFault) → HasDelivered c place x y → WorksAt c place y z told → GoesOnAfter told → HasDelivered c (place + 1) x z
delivered_more c place x y z told h works on =
    let next : suc place ≡ place + 1 = omega arith in
    let all : HasDelivered c (suc place) x z = (y, told, h, works, on) in
    subst (λ n. HasDelivered c n x z) next all

pub done_none : (c : Cluster) (p : Pass) → HasDone c 0 p p
done_none c p = refl

pub done_more : (c : Cluster) (round : ℕ) (x y z : Pass) → HasDone c round x y → HasDelivered c (group_count c) y z → HasDone c (round + 1) x z
done_more c round x y z h d =
    let next : suc round ≡ round + 1 = omega arith in
    let all : HasDone c (suc round) x z = (y, h, d) in
    subst (λ n. HasDone c n x z) next all

-- ---- the first fault

pub first_more : (faults : List (Option ClusterFault)) (fault : Option ClusterFault) → first_fault (faults ++ fault ∷ []) ≡ option_or (first_fault faults) fault
first_more [] None = refl
first_more [] (Some f) = refl
first_more (None ∷ faults) fault = first_more faults fault
first_more (Some f ∷ faults) fault = refl

abbrev AllWorked : Cluster → (ℕ → ℕ → Type 0) → ℕ → List Worker → List Worker → Type 0
AllWorked c refuses rounds old new = (i : ℕ) (d : Worker) → i < length old → HasWorkedOf c (refuses i) rounds (get_or old i d) (get_or new i d)

pub all_end : (c : Cluster) (refuses : ℕ → ℕ → Type 0) (rounds : ℕ) (old new : List Worker) → length new ≡ length old → AllWorked c refuses rounds old new
    → HaveEnded c refuses rounds (map pass_of old) (map pass_of new) (map fault_of new)
all_end c refuses rounds [] [] long h = tt
all_end c refuses rounds [] (v ∷ vs) long h = absurd (omega arith)
all_end c refuses rounds (w ∷ ws) [] long h = absurd (omega arith)
all_end c refuses rounds (w ∷ ws) (v ∷ vs) long h = ((h 0 w (omega arith)).2, all_end c (λ number. refuses (suc number)) rounds ws vs (omega arith) (λ i d less. h (suc i) d (omega arith)))
