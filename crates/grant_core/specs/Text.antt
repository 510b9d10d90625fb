-- Statement: contracts of public calls use it.
-- The printed texts: this project's profile.
use Rattle.std.specs.Prelude.{ℕ, List, [], ◌∷◌, ◌++◌, codes, decimal, flat_map}
use Rattle.grant_core.specs.declared.fault.ExpandFault.{ExpandFault}
use Rattle.grant_core.specs.declared.fault.ExpandFault.TheVariants.{UnknownProfile, DuplicateProfile, TagInProfile, TooManyProfiles, TooLarge, OutOfMemory}

-- the numbers in decimals, a dot between them
abbrev pub printed_path : List ℕ → List ℕ
printed_path [] = []
printed_path (number ∷ numbers) = decimal number ++ flat_map (λ next. codes "." ++ decimal next) numbers

-- the fault's number and name, and the number of the grant
abbrev pub fault_text : ExpandFault → List ℕ
fault_text (UnknownProfile number) = codes "G1 UnknownProfile " ++ decimal number
fault_text DuplicateProfile = codes "G2 DuplicateProfile"
fault_text (TagInProfile number) = codes "G3 TagInProfile " ++ decimal number
fault_text TooManyProfiles = codes "G4 TooManyProfiles"
fault_text TooLarge = codes "G5 TooLarge"
fault_text OutOfMemory = codes "G6 OutOfMemory"
