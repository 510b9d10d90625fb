-- Statement: contracts of public calls use it.
-- When a list is not expanded: this project's limit.
use Rattle.std.specs.Prelude.{◌<◌, List, length}
use Rattle.ceph_text.specs.declared.fault.CephFault.{CephFault}
use Rattle.ceph_text.specs.declared.fault.CephFault.TheVariants.{Refused, TooLong, TooManyGrants, TooLarge, OutOfMemory}
use Rattle.ceph_text.specs.declared.grant.CephGrant.{CephGrant}
use Rattle.ceph_text.specs.Profiles.{ceph_flat}

-- more than 16,384 grants
abbrev pub IsExpandFault : List CephGrant → CephFault → Type 0
IsExpandFault list TooLarge = 16384 < length (ceph_flat list)
IsExpandFault list OutOfMemory = Unit {0}
IsExpandFault list (Refused at) = ⊥
IsExpandFault list TooLong = ⊥
IsExpandFault list TooManyGrants = ⊥
