-- Statement: contracts of public calls use it.
-- What a step of the code answers.
use Rattle.std.specs.Prelude.{◌≡◌, Result, Ok, Err}
use Rattle.cap_grants.specs.declared.fault_kind.FaultKind.{FaultKind}
use Rattle.cap_grants.specs.declared.fault_kind.FaultKind.TheVariants.{OutOfMemory}

-- what the code gives is this, unless memory ran out
abbrev pub Gives : {A : Type 0} → Result A FaultKind → Result A FaultKind → Type 0
Gives (Ok x) r = r ≡ Ok x
Gives (Err OutOfMemory) r = Unit {0}
Gives (Err k) r = r ≡ Err k

abbrev pub GivesTo : {A : Type 0} → Result A FaultKind → A → Type 0
GivesTo r x = Gives r (Ok x)

abbrev pub leaving : {A B : Type 0} → Result A FaultKind → B → Result B FaultKind
leaving (Ok u) x = Ok x
leaving (Err k) x = Err k

-- what the code leaves in a stage is this, unless memory ran out
abbrev pub GivesIn : {A B : Type 0} → Result A FaultKind → B → Result B FaultKind → Type 0
GivesIn r x e = Gives (leaving r x) e
