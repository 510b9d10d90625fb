-- What a reading by Ceph's rules has.
use Rattle.std.proofs.Common.{◌≡◌, ℕ, Option, List, [], ◌∷◌, Ok, Err}
use Rattle.cap_text.specs.declared.fault.CapFault.{CapFault}
use Rattle.grant_core.specs.declared.fault.ExpandFault.{ExpandFault}
use Rattle.rights_core.specs.Rights.{Rights}
use Rattle.verdict_text.specs.Reading.{IsCephReading}
use Rattle.verdict_text.specs.declared.reading.TextFault.TheVariants.{Spelling, Expansion}

pub ends : (text : List ℕ) (until : Option ℕ) (rights : Rights) → IsCephReading text until (Ok rights) → rights.until ≡ until
ends [] until rights h = cc
ends (b ∷ bs) until rights (list, text, reading) = reading.1

pub no_spelling : (text : List ℕ) (until : Option ℕ) (fault : CapFault) → IsCephReading text until (Err (Spelling fault)) → ⊥
no_spelling [] until fault h = cc
no_spelling (b ∷ bs) until fault h = h

pub no_expansion : (text : List ℕ) (until : Option ℕ) (fault : ExpandFault) → IsCephReading text until (Err (Expansion fault)) → ⊥
no_expansion [] until fault h = cc
no_expansion (b ∷ bs) until fault h = h
