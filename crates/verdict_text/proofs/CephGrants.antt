-- Grants of an expansion by Ceph's profiles, with their networks beside them.
use Rattle.std.proofs.Common.{◌≡◌, ℕ, List, [], ◌∷◌, ◌++◌, Option, length, refl, arith}
use Rattle.cap_grants.specs.declared.grant.AllowGrant.{AllowGrant}
use Rattle.ceph_text.specs.declared.entry.CephEntry.{CephEntry}
use Rattle.network_core.specs.declared.network.Network.{Network}
use Rattle.rights_core.specs.Rights.{with_networks}
use Rattle.verdict_text.specs.Reading.{AreGrantsOf, IsNetworkOf}

-- one more entry
pub one_more : (es : List CephEntry) (e : CephEntry) (gs : List (List ℕ × AllowGrant)) (ns : List (Option Network)) (g : List ℕ × AllowGrant) (n : Option Network)
    → length ns ≡ length gs → g.0 ≡ e.path → IsNetworkOf e.network n → g.1 ≡ e.grant → AreGrantsOf es (with_networks gs ns)
    → AreGrantsOf (es ++ e ∷ []) (with_networks (gs ++ g ∷ []) (ns ++ n ∷ []))
one_more [] e [] [] g n same path network grant so_far = (path, network, grant, refl)
one_more [] e [] (m ∷ ns) g n same path network grant so_far = absurd (omega arith)
one_more [] e (h ∷ gs) [] g n same path network grant so_far = absurd (omega arith)
one_more [] e (h ∷ gs) (m ∷ ns) g n same path network grant so_far = absurd (cc)
one_more (d ∷ es) e [] ns g n same path network grant so_far = absurd so_far
one_more (d ∷ es) e (h ∷ gs) [] g n same path network grant so_far = absurd (omega arith)
one_more (d ∷ es) e (h ∷ gs) (m ∷ ns) g n same path network grant (p, q, r, rest) = (p, q, r, one_more es e gs ns g n (omega arith) path network grant rest)
