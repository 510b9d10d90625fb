-- What is found of a text's grants, by how many it has.
use Rattle.std.proofs.Common.{ℕ, List, Option, Ok, subst}
use Rattle.ceph_text.specs.declared.grant.CephGrant.{CephGrant}
use Rattle.lint_core.specs.RightsLint.{AreLintsIn}
use Rattle.lint_core.specs.declared.rights_lint.GrantLint.{GrantLint}
use Rattle.share_core.specs.declared.pools.Pool.{Pool}
use Rattle.verdict_text.specs.Reading.{IsCephRights}
use Rattle.verdict_text.specs.declared.reading.CephRights.{CephRights}
use Rattle.lint_text.specs.CephLinted.{AreFound}

pub found_all : (pools : Option (List Pool)) (caps : List ℕ) (read : CephRights) (all : List GrantLint) → IsCephRights caps (Ok read) → AreLintsIn pools read.rights read.count all → AreFound pools caps all
found_all pools caps read all counted found =
    record {
      list = counted.0;
      reads = counted.1;
      rights = read.rights;
      come_to = counted.2.2;
      are = subst (λ count. AreLintsIn pools read.rights count all) counted.2.0 found;
    }
