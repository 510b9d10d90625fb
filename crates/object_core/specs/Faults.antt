-- Statement: contracts of public calls use it.
-- How a vector is refused, in print and by number: this project's profile.
use Rattle.std.specs.Prelude.{ℕ, List, Option, None, Some, codes}
use Rattle.object_core.specs.declared.needs.NeedsFault.{NeedsFault}
use Rattle.object_core.specs.declared.needs.NeedsFault.TheVariants.{EmptyVector, TooManyOps, NoMethod, OutOfMemory}

-- a fault's printed text
abbrev pub text_of : NeedsFault → List ℕ
text_of EmptyVector = codes "N1 EmptyVector"
text_of TooManyOps = codes "N2 TooManyOps"
text_of NoMethod = codes "N3 NoMethod"
text_of OutOfMemory = codes "N4 OutOfMemory"

-- a fault's error number: 22 EINVAL, 95 EOPNOTSUPP
abbrev pub number_of_fault : NeedsFault → Option ℕ
number_of_fault EmptyVector = Some 22
number_of_fault TooManyOps = Some 22
number_of_fault NoMethod = Some 95
number_of_fault OutOfMemory = None
