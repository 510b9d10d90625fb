-- What is kept of a text that was read is what the text spells.
use Rattle.std.proofs.Common.{◌≡◌, ℕ, List, [], ◌∷◌, Option, Ok, Err, sym, subst}
use Rattle.cap_grants.specs.declared.grant.Grant.{Grant}
use Rattle.lint_core.specs.RightsLint.{AreLintsIn}
use Rattle.lint_core.specs.declared.rights_lint.GrantLint.{GrantLint}
use Rattle.rights_core.specs.Rights.{Rights}
use Rattle.share_core.specs.declared.pools.Pool.{Pool}
use Rattle.verdict_text.specs.Reading.{Reading}
use Rattle.verdict_text.specs.Spelled.{IsKept}
use Rattle.verdict_text.specs.declared.reading.Rules.TheVariants.{Project, Ceph}
use Rattle.verdict_text.specs.declared.reading.Spelled.TheVariants.{Listed, Counted}
use Rattle.lint_text.specs.CephLinted.{AreFound}
use Rattle.lint_text.specs.Linted.{SpellsList}

pub listed : (caps : List ℕ) (until : Option ℕ) (read : Reading) (list : List Grant) → IsKept Project caps until read (Listed list) → SpellsList caps list
listed caps until (Ok rights) list kept = subst (λ grants. SpellsList caps grants) (sym kept.2.0) (kept.1, kept.2.1)
listed caps until (Err fault) list kept = absurd kept

-- what is found of the grants of a text of which their number is kept
pub found_counted : (pools : Option (List Pool)) (caps : List ℕ) (until : Option ℕ) (rights : Rights) (count : ℕ) (all : List GrantLint)
    → IsKept Ceph caps until (Ok rights) (Counted count) → AreLintsIn pools rights count all → AreFound pools caps all
found_counted pools [] until rights count all kept found = absurd kept
found_counted pools (byte ∷ bytes) until rights count all kept found =
    record {
      list = kept.0;
      reads = kept.1;
      rights = rights;
      come_to = kept.2.2;
      are = subst (λ n. AreLintsIn pools rights n all) kept.2.0 found;
    }
