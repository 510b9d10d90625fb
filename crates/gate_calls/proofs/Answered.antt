-- From an answer of rights to that of a ticket.
use Rattle.std.proofs.Common.{◌≡◌, List, subst}
use Rattle.request_types.specs.Target.{Target}
use Rattle.request_types.specs.declared.request.Needs.{Needs}
use Rattle.rights_core.specs.Rights.{Rights}
use Rattle.verdict_core.specs.Ticket.{Ticket}
use Rattle.gate_calls.proofs.Plain.{plain, origin_plain}
use Rattle.gate_calls.specs.Answers.{IsAnswer, IsAnswerAt, IsOriginFor, IsReported, IsReportedAt}
use Rattle.gate_calls.specs.Border.{needs_of, target_of}
use Rattle.gate_calls.specs.Caps.{Caps}
use Rattle.gate_calls.specs.Grants.{rights_in}
use Rattle.gate_calls.specs.declared.answering.Answer.{Answer}
use Rattle.gate_calls.specs.declared.answering.Origin.{Origin}
use Rattle.gate_calls.specs.declared.answering.Origin.TheVariants.{Anywhere}
use Rattle.gate_calls.specs.declared.caps.Grants.{Grants}
use Rattle.gate_calls.specs.declared.caps.Grants.TheVariants.{Plain, Limited}
use Rattle.gate_calls.specs.declared.reporting.Reported.{Reported}
use Rattle.gate_calls.specs.declared.request.SigApplication.{SigApplication}
use Rattle.gate_calls.specs.declared.request.SigCall.{SigCall}
use Rattle.gate_calls.specs.declared.request.SigRequest.{SigRequest}

pub answer_plain : (caps : Caps) (held : Grants) (ticket : Ticket) (r : SigRequest) (applications : List SigApplication) (calls : List SigCall) (target : Target) (needs : Needs) (a : Answer)
    → rights_in held ≡ caps.rights → held ≡ Plain ticket → target ≡ target_of r applications → needs ≡ needs_of r calls → IsAnswerAt (plain ticket) target needs r.tick Anywhere a → IsAnswer caps r applications calls a
answer_plain caps held ticket r applications calls target needs a e h t n is =
    let same : plain ticket ≡ caps.rights = rw h at e in
    (Anywhere, origin_plain caps.rights ticket r.from.now same, rw (← same, ← t, ← n) is)

pub answer_limited : (caps : Caps) (held : Grants) (rights : Rights) (r : SigRequest) (applications : List SigApplication) (calls : List SigCall) (target : Target) (needs : Needs) (origin : Origin) (a : Answer)
    → rights_in held ≡ caps.rights → held ≡ Limited rights → IsOriginFor rights r.from.now origin → target ≡ target_of r applications → needs ≡ needs_of r calls
    → IsAnswerAt rights target needs r.tick origin a → IsAnswer caps r applications calls a
answer_limited caps held rights r applications calls target needs origin a e h from t n is =
    let same : rights ≡ caps.rights = rw h at e in
    (origin, subst (λ held. IsOriginFor held r.from.now origin) same from, rw (← same, ← t, ← n) is)

pub report_plain : (caps : Caps) (held : Grants) (ticket : Ticket) (r : SigRequest) (applications : List SigApplication) (calls : List SigCall) (target : Target) (needs : Needs) (found : Reported)
    → rights_in held ≡ caps.rights → held ≡ Plain ticket → target ≡ target_of r applications → needs ≡ needs_of r calls → IsReportedAt (plain ticket) target needs r.tick Anywhere found → IsReported caps r applications calls found
report_plain caps held ticket r applications calls target needs found e h t n is =
    let same : plain ticket ≡ caps.rights = rw h at e in
    (Anywhere, origin_plain caps.rights ticket r.from.now same, rw (← same, ← t, ← n) is)

pub report_limited : (caps : Caps) (held : Grants) (rights : Rights) (r : SigRequest) (applications : List SigApplication) (calls : List SigCall) (target : Target) (needs : Needs) (origin : Origin) (found : Reported)
    → rights_in held ≡ caps.rights → held ≡ Limited rights → IsOriginFor rights r.from.now origin → target ≡ target_of r applications → needs ≡ needs_of r calls
    → IsReportedAt rights target needs r.tick origin found → IsReported caps r applications calls found
report_limited caps held rights r applications calls target needs origin found e h from t n is =
    let same : rights ≡ caps.rights = rw h at e in
    (origin, subst (λ held. IsOriginFor held r.from.now origin) same from, rw (← same, ← t, ← n) is)
