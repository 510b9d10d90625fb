-- Refinement: only contracts inside the crate use it.
-- What rows of the program's table stand for.
use Rattle.std.specs.Prelude.{option_map}
use Rattle.ceph_text.specs.declared.row.Row as declared
use Rattle.ceph_text.specs.Pieces.{access_of}
use Rattle.ceph_text.specs.Profiles.{Row}

abbrev pub row_of : declared.Row → Row
row_of r = record { access = access_of r.access; scope = r.scope; prefix = option_map (λ p. p.now) r.prefix }
