-- Statement: contracts of public calls use it.
-- The printed form of a fault: this project's profile.
use Rattle.std.specs.Prelude.{ℕ, List, ◌++◌, codes, decimal}
use Rattle.ceph_text.specs.declared.fault.CephFault.{CephFault}
use Rattle.ceph_text.specs.declared.fault.CephFault.TheVariants.{Refused, TooLong, TooManyGrants, TooLarge, OutOfMemory}

-- the fault's number and name, and the byte where reading stopped
abbrev pub fault_text : CephFault → List ℕ
fault_text (Refused at) = codes "E1 CephRefuses at " ++ decimal at
fault_text TooLong = codes "E2 TextTooLong"
fault_text TooManyGrants = codes "E3 TooManyGrants"
fault_text TooLarge = codes "E4 TooLarge"
fault_text OutOfMemory = codes "E5 OutOfMemory"
