-- Statement: contracts of public calls use it.
-- Services of Ceph other than object stores. Source: Ceph, User Management, "Authorization (Capabilities)".
use Rattle.std.specs.Prelude.{ℕ, List, codes}
use Rattle.gate_files.specs.declared.services.Service.{Service}
use Rattle.gate_files.specs.declared.services.Service.TheVariants.{Mon, Mgr, Mds}

abbrev pub service_name : Service → List ℕ
service_name Mon = codes "mon"
service_name Mgr = codes "mgr"
service_name Mds = codes "mds"
